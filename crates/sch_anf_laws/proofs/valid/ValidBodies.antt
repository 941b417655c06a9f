-- The bodies that normalizing makes are valid.
use Rattle.std.proofs.Common.{◌≡◌, ℕ, zero, suc, ◌+◌, ◌≤◌, Bool, true, false, List, [], Some, refl, sym, subst, arith}
use Rattle.std.specs.Prelude.{slice_get, nat_le, nat_lt, not, ◌&&◌, ◌||◌}
use Rattle.std.specs.List.{list_all}
use Rattle.std.proofs.lemmas.Bool.{le-leb, leb-true, lt-ltb, ltb-true}
use Rattle.sch_word.specs.trees.Bindings.{numbers, scope_with, with_variables}
use Rattle.sch_word.specs.trees.Shape.{max_operands, max_variables, max_free_variables}
use Rattle.sch_word.proofs.facts.Booleans.{and_left, and_right, and_of}
use Rattle.sch_word.proofs.facts.NumberSets.{numbers_length, distinct_numbers}
use Rattle.sch_flat.specs.Tree.{Tree, Body}
use Rattle.sch_flat.specs.Measures.{variables, body_variables}
use Rattle.sch_flat.specs.Valid.{scoped, body_scoped, body_fits}
use Rattle.sch_control.specs.Tree.{Code, Expression}
use Rattle.sch_word.specs.trees.NumberSets.{without_repeats}
use Rattle.sch_control.specs.Valid.{Tests, each_part, in_scope_whole, numbered, ended, shaped_whole, fields_known, first_scope, first_bound, bound_in, max_body_variables, procedure_end, value, operation_shaped, application_shaped, group_shaped, operation_field, group_fields, Names, operation_known, application_known, group_known, code_known, entry_shaped, positioned, is_bare}
use Rattle.sch_anf_laws.specs.Normal.{new_label, binds, normal, procedure_code, form_code}
use Rattle.sch_anf_laws.proofs.valid.Numbered.{bound, few, within_numbers}
use Rattle.sch_anf_laws.proofs.valid.Ends.{placed}
use Rattle.sch_anf_laws.proofs.valid.Scoped.{inside_with, in_scope_all, HeldIn}
use Rattle.sch_anf_laws.proofs.valid.Parts.{all_tests, each_part_also, all_pass, good, entry_for}

first_held : (formals x m : ℕ) → 1 ≤ x → x + m ≤ 2 + formals → HeldIn (λ y. nat_lt 0 y && nat_lt y (2 + formals)) (numbers x m)
first_held formals x zero l h = tt
first_held formals x (suc m) l h = (rw (lt-ltb 0 x (omega (arith, l)), lt-ltb x (2 + formals) (omega (arith, h))) refl, first_held formals (suc x) m (omega (arith, l)) (omega (arith, h)))

-- the variables of a body whose expression binds n numbers in a row
numbered_by : (c : Code) (n : ℕ) → bound_in c.expression ≡ numbers (first_bound c.entry) n → c.variables ≡ first_bound c.entry + n → c.variables ≤ max_body_variables → numbered c ≡ true
numbered_by c n e v l =
    and_of (nat_le c.variables max_body_variables) (nat_le (first_bound c.entry) c.variables
    && (list_all (λ x. nat_le (first_bound c.entry) x && nat_lt x c.variables) (bound_in c.expression) && without_repeats (bound_in c.expression)))
    (le-leb c.variables max_body_variables l)
    (and_of (nat_le (first_bound c.entry) c.variables) (list_all (λ x. nat_le (first_bound c.entry) x && nat_lt x c.variables) (bound_in c.expression) && without_repeats (bound_in c.expression))
    (le-leb (first_bound c.entry) c.variables (omega (arith, v)))
    (subst (λ l. (list_all (λ x. nat_le (first_bound c.entry) x && nat_lt x c.variables) l && without_repeats l) ≡ true) (sym e)
    (and_of (list_all (λ x. nat_le (first_bound c.entry) x && nat_lt x c.variables) (numbers (first_bound c.entry) n)) (without_repeats (numbers (first_bound c.entry) n))
    (within_numbers (first_bound c.entry) n (first_bound c.entry) c.variables (omega arith) (omega (arith, v))) (distinct_numbers (first_bound c.entry) n))))

module _ (starts : List ℕ) (bodies : List Body) (names : Names)
    (few_fields : (label : ℕ) (b : Body) → slice_get bodies label ≡ Some b → nat_le b.fields max_free_variables ≡ true)
    (entry_there : (label : ℕ) (b : Body) → slice_get bodies label ≡ Some b → slice_get names.entries (new_label starts label) ≡ Some (Some (entry_for b))) where
  abbrev is_good : Tree → Bool
  is_good = good starts bodies names few_fields entry_there 0

  abbrev shape_tests : Tests
  shape_tests = record { operation = operation_shaped; application = application_shaped; group = group_shaped }

  abbrev field_tests : ℕ → Tests
  field_tests fields = record { operation = operation_field fields; application = λ a. true; group = group_fields fields }

  abbrev name_tests : Tests
  name_tests = record { operation = operation_known names; application = application_known names; group = group_known names }

  -- what passes all tests is shaped well, reads fields that are there and names what there is
  apart : (fields : ℕ) (x : Expression) → each_part (all_tests fields names) x ≡ true → (each_part shape_tests x ≡ true) × (each_part (field_tests fields) x ≡ true) × (each_part name_tests x ≡ true)
  apart fields x h = (
    each_part_also (all_tests fields names) shape_tests (λ o h. and_left (operation_shaped o) _ h) (λ a h. and_left (application_shaped a) _ h) (λ ms h. and_left (group_shaped ms) _ h) x h,
    each_part_also (all_tests fields names) (field_tests fields) (λ o h. and_left (operation_field fields o) (operation_known names o) (and_right (operation_shaped o) _ h)) (λ a h. refl)
        (λ ms h. and_left (group_fields fields ms) (group_known names ms) (and_right (group_shaped ms) _ h)) x h,
    each_part_also (all_tests fields names) name_tests (λ o h. and_right (operation_field fields o) (operation_known names o) (and_right (operation_shaped o) _ h))
        (λ a h. and_right (application_shaped a) (application_known names a) h)
        (λ ms h. and_right (group_fields fields ms) (group_known names ms) (and_right (group_shaped ms) _ h)) x h,
  )

  -- the five promises of a body's type, and that it names what there is
  pub record Sound (c : Code) : Type 0 where
    pub scoped : in_scope_whole c ≡ true
    pub numbered : numbered c ≡ true
    pub ended : ended c ≡ true
    pub shaped : shaped_whole c ≡ true
    pub fields : fields_known c ≡ true
    pub known : code_known names c ≡ true

  pub procedure_sound : (b : Body) → body_scoped bodies b ≡ true → is_good b.code ≡ true → body_fits b ≡ true → Sound (procedure_code starts b)
  procedure_sound b s g f =
      let c = procedure_code starts b in
      let f' = and_right (not b.rest || nat_le 1 b.formals) (nat_le b.formals max_operands && (nat_le b.fields max_free_variables && nat_le (body_variables b) max_variables)) f in
      let f'' = and_right (nat_le b.formals max_operands) (nat_le b.fields max_free_variables && nat_le (body_variables b) max_variables) f' in
      let enough = leb-true (body_variables b) max_variables (and_right (nat_le b.fields max_free_variables) (nat_le (body_variables b) max_variables) f'') in
      let parts = apart b.fields c.expression (all_pass starts bodies names few_fields entry_there b.fields b.code true (scope_with b.first b.formals [])
      (with_variables b.first (numbers 2 b.formals) []) (2 + b.formals) s g) in
      let stands = placed starts true b.code (with_variables b.first (numbers 2 b.formals) []) (2 + b.formals) procedure_end tt in
      let few' = few b.code in
      record {
        scoped = in_scope_all starts bodies b.fields b.code true (scope_with b.first b.formals []) (with_variables b.first (numbers 2 b.formals) []) (2 + b.formals) (first_scope c.entry) s
            (inside_with starts bodies b.fields [] [] (first_scope c.entry) b.first b.formals (numbers 2 b.formals) (numbers_length 2 b.formals)
            (first_held b.formals 2 b.formals (omega arith) (omega arith))
            (record { at = λ x h. absurd (cc); closure = λ k h. rw (lt-ltb 1 (2 + b.formals) (omega arith)) refl }));
        numbered = numbered_by c (binds b.code) (bound starts true b.code (with_variables b.first (numbers 2 b.formals) []) (2 + b.formals)) (omega arith) (omega (arith, enough, few'));
        ended = and_of (is_bare c.expression) (positioned c.expression procedure_end) stands.1 stands.0;
        shaped = and_of (entry_shaped c.entry) (each_part shape_tests c.expression)
            (and_of (nat_le b.formals max_operands) ((not b.rest || nat_le 1 b.formals) && nat_le b.fields max_free_variables)
            (and_left (nat_le b.formals max_operands) (nat_le b.fields max_free_variables && nat_le (body_variables b) max_variables) f')
            (and_of (not b.rest || nat_le 1 b.formals) (nat_le b.fields max_free_variables)
            (and_left (not b.rest || nat_le 1 b.formals) (nat_le b.formals max_operands && (nat_le b.fields max_free_variables && nat_le (body_variables b) max_variables)) f)
            (and_left (nat_le b.fields max_free_variables) (nat_le (body_variables b) max_variables) f''))) parts.0;
        fields = parts.1;
        known = parts.2;
      }

  pub form_sound : (e : Tree) → scoped bodies e [] 0 ≡ true → is_good e ≡ true → nat_le (variables e) max_variables ≡ true → Sound (form_code starts e)
  form_sound e s g f =
      let c = form_code starts e in
      let enough = leb-true (variables e) max_variables f in
      let parts = apart 0 c.expression (all_pass starts bodies names few_fields entry_there 0 e false [] [] 2 s g) in
      let stands = placed starts false e [] 2 value tt in
      let few' = few e in
      record {
        scoped = in_scope_all starts bodies 0 e false [] [] 2 (first_scope c.entry) s (record { at = λ x h. absurd (cc); closure = λ k h. let m = ltb-true k 0 h in absurd (omega (arith, m)) });
        numbered = numbered_by c (binds e) (bound starts false e [] 2) refl (omega (arith, enough, few'));
        ended = and_of (is_bare c.expression) (positioned (normal starts false e [] 2) value) stands.1 stands.0;
        shaped = parts.0;
        fields = parts.1;
        known = parts.2;
      }
