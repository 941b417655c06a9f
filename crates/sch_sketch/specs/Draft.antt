-- Expressions of the core language before their symbols, literals, globals and sites have numbers, as
-- plain data.
use Rattle.std.specs.Prelude.{ℕ, zero, suc, Bool, List, [], ◌∷◌}
use Rattle.sch_word.specs.declared.constant.Const.{Const}
use Rattle.sch_word.specs.declared.primitive.Primitive.{Primitive}
use Rattle.sch_names.specs.Scope.{VariableNames}
use Rattle.sch_read.specs.Grammar.{Datum}

-- A symbol is named, and a literal is the datum that is quoted: each is an object of its own. A `letrec`
-- knows whether each of its inits is a procedure by its form. A procedure has this many formals, the last
-- of which takes a list where there is a rest. The operands of a call that begins a loop (R5RS 4.2.4) are the
-- inits of variables of these names; any other call has no names. Of the names the last is the nearest.
mutual
  pub data Draft : Type 0 where
    constant : Const → Draft
    symbol : (name : List ℕ) → Draft
    literal : Datum → Draft
    local : ℕ → Draft
    global : (name : List ℕ) → Draft
    set_local : ℕ → Draft → Draft
    set_global : (name : List ℕ) → Draft → Draft
    define : (name : List ℕ) → Draft → Draft
    branch : Draft → Draft → Draft → Draft
    sequence : Drafts → Draft
    bind : VariableNames → Drafts → Draft → Draft
    letrec : VariableNames → (procedures : Bool) → Drafts → Draft → Draft
    lambda : (formals : ℕ) → (rest : Bool) → Draft → Draft
    call : VariableNames → Draft → Drafts → Draft
    operation : Primitive → Drafts → Draft

  pub data Drafts : Type 0 where
    no_drafts : Drafts
    and_draft : Draft → Drafts → Drafts

abbrev pub drafts : List Draft → Drafts
drafts [] = no_drafts
drafts (e ∷ es) = and_draft e (drafts es)

abbrev pub count : Drafts → ℕ
count no_drafts = zero
count (and_draft e es) = suc (count es)
