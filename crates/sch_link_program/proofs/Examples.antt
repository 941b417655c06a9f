-- The size of small drafts, and definitions of few formals.
use Rattle.std.proofs.Common.{◌≡◌, ℕ, true, false, [], ◌∷◌, None, refl, codes}
use Rattle.sch_word.specs.declared.constant.Const.TheVariants.{Nil}
use Rattle.sch_sketch.specs.Draft.{Draft, constant, local, global, set_local, branch, sequence, bind, letrec, lambda, call, no_drafts, and_draft}
use Rattle.sch_sketch.specs.DraftMeasures.{size}
use Rattle.sch_link_tables.specs.Programs.{Definition}
use Rattle.sch_link_program.specs.Size.{size_of_definitions, have_few_formals}

-- a call of two parts in a procedure of two formals
abbrev twice : Draft
twice = lambda 2 true (call [] (local 1) (and_draft (local 0) no_drafts))

twice_size : size twice ≡ 6
twice_size = refl

-- a `let` and a `letrec` count each variable that they bind
binding : size (bind (None ∷ None ∷ []) (and_draft (constant Nil) (and_draft twice no_drafts)) (set_local 0 (global (codes "f")))) ≡ 12
binding = refl

recursive : size (letrec (None ∷ []) true (and_draft twice no_drafts) (branch (local 0) (local 0) (sequence (and_draft (local 0) no_drafts)))) ≡ 13
recursive = refl

definition : size_of_definitions (record { name = codes "f"; formals = 2; rest = false; body = local 0 } ∷ []) ≡ 4
definition = refl

with_formals : ℕ → Definition
with_formals n = record { name = codes "f"; formals = n; rest = false; body = local 0 }

most_formals : have_few_formals (with_formals 2 ∷ with_formals 200 ∷ []) ≡ true
unfolding with_formals
most_formals = refl

one_more_formal : have_few_formals (with_formals 2 ∷ with_formals 201 ∷ []) ≡ false
unfolding with_formals
one_more_formal = refl
