-- The turns of the loops that test parts.
use Rattle.std.proofs.Common.{◌≡◌, ℕ, zero, suc, ◌+◌, ◌<◌, ◌≤◌, Bool, true, false, List, [], ◌∷◌, length, drop, get_or, sym, ap, ◌∙◌, arith, add-one}
use Rattle.std.proofs.lemmas.List.{drop_all}
use Rattle.sch_word.proofs.Walking.{next_left}
use Rattle.sch_flat.specs.declared.tree.Exp.{Exp}
use Rattle.sch_flat.specs.View.{tree, trees_of}
use Rattle.sch_flat.proofs.Rows.{trees_of_list}
use Rattle.sch_anf_laws.specs.Normal.{is_atom, are_atoms, ends_in_call, last_in_call}
use Rattle.sch_anf_laws.proofs.Items.{left}

-- ## Atoms

module _ (items : List Exp) (i : ℕ) (e : Exp) (l : i < length items) (is : e ≡ get_or items i e) where
  pub atoms_stop : (whole : Bool) → is_atom (tree e) ≡ false → are_atoms (left (drop i items)) ≡ whole → false ≡ whole
  atoms_stop whole a h = let t = rw a at (next_left items i (λ r. are_atoms (left r) ≡ whole) e l is h) in t

  pub atoms_turn : (whole : Bool) → is_atom (tree e) ≡ true → are_atoms (left (drop i items)) ≡ whole → are_atoms (left (drop (i + 1) items)) ≡ whole
  atoms_turn whole a h = let t = rw a at (next_left items i (λ r. are_atoms (left r) ≡ whole) e l is h) in rw add-one t

pub atoms_end : (items : List Exp) (i : ℕ) (whole : Bool) → length items ≤ i → are_atoms (left (drop i items)) ≡ whole → true ≡ whole
atoms_end items i whole l h = let t = rw (drop_all i items l) at h in t

-- ## The last part

last_left : (items : List Exp) (k : ℕ) (e : Exp) → suc k ≡ length items → e ≡ get_or items k e → last_in_call (left items) ≡ ends_in_call (tree e)
last_left [] k e l is = absurd (omega (arith, l))
last_left (x ∷ []) zero e l is = ap (λ y. ends_in_call (tree y)) (sym is)
last_left (x ∷ []) (suc k) e l is = absurd (omega (arith, l))
last_left (x ∷ (y ∷ items)) zero e l is = absurd (omega (arith, l))
last_left (x ∷ (y ∷ items)) (suc k) e l is = last_left (y ∷ items) k e (omega (arith, l)) is

pub last_is : (items es : List Exp) (k : ℕ) (e : Exp) → items ≡ es → suc k ≡ length items → e ≡ get_or items k e → last_in_call (trees_of es) ≡ ends_in_call (tree e)
last_is items es k e same l is = ap (λ l. last_in_call (trees_of l)) (sym same) ∙ ap last_in_call (trees_of_list items) ∙ last_left items k e l is
