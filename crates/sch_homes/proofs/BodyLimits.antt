-- What the type of a body with places limits: the operands of its calls, its variables, and the slots of its frame.
use Rattle.std.proofs.Common.{ℕ, ◌+◌, ◌≤◌, List, length, arith}
use Rattle.sch_word.specs.trees.Shape.{max_operands}
use Rattle.sch_control.specs.declared.placed_body.PlacedBody.{PlacedBody}
use Rattle.sch_control.specs.declared.tree.Exp.{Exp, Do, Bind', Seq', If', Fix', Call, TailCall, Return', End', Save'}
use Rattle.sch_control.specs.Valid.{max_body_variables}
use Rattle.sch_control.specs.View.{expression_with}
use Rattle.sch_frames.specs.Valid.{max_words}
use Rattle.sch_control.specs.EachCall.{EachCall}
use Rattle.sch_layout.proofs.layouts.VariablesUsed.{numbered_is}
use Rattle.sch_writer.specs.FewOperands.{FewOperands}
use Rattle.sch_homes.specs.Homes.{first_home, homes_end}
use Rattle.sch_homes.specs.View.{bare_code, entry_of, tree_of}
use Rattle.sch_homes.proofs.FrameRoom.{calls_few, homes_before, words_fit}
use Rattle.sch_homes.proofs.KeptByType.{body_numbers, body_placed}

few_operands : {C : Type 0} (restores : C → List ℕ) (e : Exp C) → EachCall (λ tail a. length a.operands ≤ max_operands) (expression_with restores e) → FewOperands e
few_operands restores (Do operation) h = tt
few_operands restores (Bind' x p a q b) h = (few_operands restores a h.0, few_operands restores b h.1)
few_operands restores (Seq' p a q b) h = (few_operands restores a h.0, few_operands restores b h.1)
few_operands restores (If' p a q b r c) h = (few_operands restores a h.0, (few_operands restores b h.1.0, few_operands restores c h.1.1))
few_operands restores (Fix' members p e) h = few_operands restores e h
few_operands restores (Call a annotation) h = h
few_operands restores (TailCall a) h = h
few_operands restores (Return' p e) h = few_operands restores e h
few_operands restores (End' p e) h = few_operands restores e h
few_operands restores (Save' saves p e) h = few_operands restores e h

module _ {N : ℕ} (b : PlacedBody N) where
  pub body_few : FewOperands b.restored.now.exp
  body_few = few_operands (λ r. r.restores) b.restored.now.exp (calls_few (bare_code b) (tree_of b) b.places (body_placed b))

  pub places_few : length b.places ≤ max_body_variables
  places_few = let most = (numbered_is (bare_code b) (body_numbers b)).most in let whole = b.whole in omega (arith, most, whole)

  pub homes_low : homes_end (entry_of b) (tree_of b) b.places ≤ max_words
  homes_low =
      let before = homes_before (bare_code b) (tree_of b) b.places (body_placed b) in
      let fit = words_fit (bare_code b) (tree_of b) b.places (body_placed b) in
      omega (arith, before, fit)

  pub slots_low : first_home (entry_of b) (tree_of b) b.places ≤ max_words
  slots_low = let low = homes_low in omega (arith, low)
