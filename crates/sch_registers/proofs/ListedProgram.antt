-- What is listed of the calls of a program: the order table by it fits the program, and the places that go round are targets.
use Rattle.std.proofs.Common.{◌≡◌, ℕ, zero, suc, ◌+◌, Bool, true, false, List, [], ◌∷◌, length, map, Option, Some, None, refl, sym, ap, ◌∙◌, subst}
use Rattle.std.specs.Prelude.{slice_get, cond, ◌&&◌, ◌++◌}
use Rattle.std.specs.List.{list_all}
use Rattle.std.proofs.lemmas.List.Folds.{list_all-append}
use Rattle.sch_word.specs.declared.place.Place.{Place}
use Rattle.sch_word.specs.declared.place.Place.TheVariants.{Reg, Slot}
use Rattle.sch_word.specs.trees.Bindings.{numbers}
use Rattle.sch_word.specs.values.Registers.{argument_registers}
use Rattle.sch_word.proofs.facts.Booleans.{and_of, and_parts}
use Rattle.sch_control.specs.declared.operation.Application.{Application}
use Rattle.sch_control.specs.Fits.{table_fits}
use Rattle.sch_control.specs.Meaning.{no_region}
use Rattle.sch_control.specs.Tree.{Code, Expression, perform, bind, sequence, branch, fix, call, tail_call, return, save, Source}
use Rattle.sch_control.specs.Tree as tree
use Rattle.sch_control.specs.Valid.{bound_known, sites_of, sites_once}
use Rattle.sch_control.specs.flow.Bare.{erased, unlisted}
use Rattle.sch_control.specs.flow.LiveTests.{is_live, Behind}
use Rattle.sch_control.specs.flow.Places.{argument_register, argument_slot, register_or_slot}
use Rattle.sch_layout.specs.BodyLayout.{target}
use Rattle.sch_control.proofs.RegisterOrSlot.{arrival_by}
use Rattle.sch_shuffle.specs.Assignment.{place_at}
use Rattle.sch_shuffle.specs.CycleSearch.{all_rings, cycles, places_at}
use Rattle.sch_orders.specs.declared.listed_call.ListedCall.{ListedCall}
use Rattle.sch_orders.specs.ListedCalls.{listed_calls}
use Rattle.sch_orders.specs.ListedTable.{call_fits, calls_fit}
use Rattle.sch_orders.proofs.CallsFit.{at_width, program_calls_fit, sites_erased, tree_fits}
use Rattle.sch_orders.proofs.TableFits.{listed_fits}
use Rattle.sch_live.specs.LiveListed.{listing_live, live_listed}
use Rattle.sch_live.specs.Reached.{gives}
use Rattle.sch_saves.specs.LazyRegions.{lazily_saved}
use Rattle.sch_saves.proofs.LazyTrees.{erased_is, unsaved_lazily}
use Rattle.sch_restores.proofs.EagerTrees.{erased_eager}
use Rattle.sch_regs.specs.PlaceChoice.{places}
use Rattle.sch_homes.specs.CallMoves.{call_arguments, call_targets, next_frame}
use Rattle.sch_homes.specs.Homes.{homes_end}
use Rattle.sch_homes.specs.HomeTable.{place_in}
use Rattle.sch_homes.specs.ListedMoves.{listed_call}
use Rattle.sch_homes.proofs.ListedOrders.{moved_once}
use Rattle.sch_registers.specs.Registers.{all_calls, registers_calls, registers_orders, registers_tree}

-- ## The passes change neither what a body does nor its calls

listing_erased : (n : ℕ) (reached : Bool) (e : Expression) (l : Behind) → erased (listing_live n reached e l) ≡ erased e
listing_erased n m (perform o) l = refl
listing_erased n m (bind y a b) l = rw (listing_erased n m a _, listing_erased n m b l) refl
listing_erased n m (sequence a b) l = rw (listing_erased n m a _, listing_erased n m b l) refl
listing_erased n m (branch a b c) l =
    ap (λ z. branch z (erased (listing_live n (m && gives a true) b l)) (erased (listing_live n (m && gives a false) c l)))
    (listing_erased n m a (λ x r. cond r (is_live x b (l x)) (is_live x c (l x))))
    ∙ (ap (λ z. branch (erased a) z (erased (listing_live n (m && gives a false) c l))) (listing_erased n (m && gives a true) b l)
    ∙ ap (branch (erased a) (erased b)) (listing_erased n (m && gives a false) c l))
listing_erased n m (fix members e) l = rw (listing_erased n m e l) refl
listing_erased n m (call a listed) l = refl
listing_erased n m (tail_call a) l = refl
listing_erased n m (return e) l = rw (listing_erased n m e _) refl
listing_erased n m (tree.end e) l = rw (listing_erased n m e _) refl
listing_erased n m (save saves e) l = listing_erased n m e l

pub tree_erased : (n : ℕ) (e : Expression) → erased (registers_tree n e) ≡ erased e
unfolding registers_tree
tree_erased n e =
    let live : Expression = live_listed n e in
    let saved : Expression = lazily_saved n live in
    erased_eager n no_region saved (λ x t. false)
    ∙ (erased_is saved ∙ (ap unlisted (unsaved_lazily n no_region live) ∙ (sym (erased_is live) ∙ listing_erased n true e (λ x r. false))))

tree_sites : (n : ℕ) (e : Expression) → sites_of (registers_tree n e) ≡ sites_of e
tree_sites n e = sym (sites_erased (registers_tree n e)) ∙ (ap sites_of (tree_erased n e) ∙ sites_erased e)

-- ## The order table

one_fits : (sites : List ℕ) (c : Code) → list_all (at_width sites) (sites_of c.expression) ≡ true → list_all (call_fits sites) (registers_calls c) ≡ true
unfolding registers_calls
one_fits sites c h =
    let e : Expression = registers_tree c.variables c.expression in
    let given : List Place = places c.entry c.variables e in
    tree_fits sites (listed_call (homes_end c.entry e given) (place_in given)) (λ tail a. refl)
    (λ tail a. moved_once (homes_end c.entry e given) (place_in given) tail a) e
    (subst (λ s. list_all (at_width sites) s ≡ true) (sym (tree_sites c.variables c.expression)) h)

-- a list that began empty and got the calls of these bodies
pub calls_from_none : {old new : List ListedCall} {made codes : List Code} → new ≡ old ++ all_calls made → old ≡ [] → made ≡ codes → new ≡ all_calls codes
calls_from_none {made = made} added none same = added ∙ (ap (λ l. l ++ all_calls made) none ∙ ap all_calls same)

pub listed_calls_fit : (p : Source) → sites_once p ≡ true → calls_fit p (all_calls p.bodies) ≡ true
listed_calls_fit p once = program_calls_fit p registers_calls one_fits once

pub registers_orders_fit : (p : Source) → bound_known p ≡ true → sites_once p ≡ true → table_fits p (registers_orders p) ≡ true
registers_orders_fit p known once = listed_fits p (all_calls p.bodies) known (listed_calls_fit p once)

-- ## Places that go round

-- a test that the registers of calls pass, and all slots
module _ (test : Place → Bool) (slots : (j : ℕ) → test (Slot j) ≡ true) (first : test (Reg 0) ≡ true) (closure : test (Reg 14) ≡ true)
    (registers : list_all (λ r. test (Reg r)) argument_registers ≡ true) where
  one_passes : (rs : List ℕ) (k r : ℕ) → list_all (λ r. test (Reg r)) rs ≡ true → slice_get rs k ≡ Some r → test (Reg r) ≡ true
  one_passes [] k r h e = absurd cc
  one_passes (x ∷ rs) zero r h e = let is : x ≡ r = cc in ap (λ r. test (Reg r)) (sym is) ∙ (and_parts (test (Reg x)) _ h).0
  one_passes (x ∷ rs) (suc k) r h e = one_passes rs k r (and_parts (test (Reg x)) _ h).1 e

  either_passes : (o : Option ℕ) (k j : ℕ) → argument_register k ≡ o → test (register_or_slot o j) ≡ true
  either_passes (Some r) k j e = one_passes argument_registers k r registers e
  either_passes None k j e = slots j

  target_passes : (tail : Bool) (limit k : ℕ) → test (target tail limit k) ≡ true
  target_passes tail limit zero = closure
  target_passes true limit (suc k) = ap test (arrival_by k) ∙ either_passes (argument_register k) k (argument_slot k) refl
  target_passes false limit (suc k) = either_passes (argument_register k) k (limit + argument_slot k) refl

  targets_pass : (tail : Bool) (count from : ℕ) → list_all test (map (target tail next_frame) (numbers from count)) ≡ true
  targets_pass tail zero from = refl
  targets_pass tail (suc count) from = and_of (test (target tail next_frame from)) _ (target_passes tail next_frame from) (targets_pass tail count (suc from))

  at_passes : (to : List Place) (k : ℕ) → list_all test to ≡ true → test (place_at to k) ≡ true
  at_passes [] k h = first
  at_passes (p ∷ to) zero h = (and_parts (test p) (list_all test to) h).0
  at_passes (p ∷ to) (suc k) h = at_passes to k (and_parts (test p) (list_all test to) h).1

  ring_passes : (to : List Place) (ks : List ℕ) → list_all test to ≡ true → list_all test (places_at to ks) ≡ true
  ring_passes to [] h = refl
  ring_passes to (k ∷ ks) h = and_of (test (place_at to k)) _ (at_passes to k h) (ring_passes to ks h)

  rings_pass : (to : List Place) (rings : List (List ℕ)) → list_all test to ≡ true → list_all (list_all test) (map (places_at to) rings) ≡ true
  rings_pass to [] h = refl
  rings_pass to (ks ∷ rings) h = and_of (list_all test (places_at to ks)) _ (ring_passes to ks h) (rings_pass to rings h)

  abbrev passes : ListedCall → Bool
  passes c = list_all (list_all test) c.cycles

  call_passes : (end : ℕ) (lives : ℕ → Place) (tail : Bool) (a : Application ℕ) → list_all passes (listed_call end lives tail a ∷ []) ≡ true
  call_passes end lives tail a =
      and_of (passes (listed_call end lives tail a)) true
      (rings_pass (call_targets tail a) (all_rings (call_arguments lives a) (call_targets tail a)) (targets_pass tail (suc (length a.operands)) 0)) refl

  tree_passes : (end : ℕ) (lives : ℕ → Place) (e : Expression) → list_all passes (listed_calls (listed_call end lives) e) ≡ true
  tree_passes end lives (perform o) = refl
  tree_passes end lives (bind x a b) = list_all-append passes (listed_calls (listed_call end lives) a) _ ∙ and_of _ _ (tree_passes end lives a) (tree_passes end lives b)
  tree_passes end lives (sequence a b) = list_all-append passes (listed_calls (listed_call end lives) a) _ ∙ and_of _ _ (tree_passes end lives a) (tree_passes end lives b)
  tree_passes end lives (branch a b c) =
      list_all-append passes (listed_calls (listed_call end lives) a) _ ∙ and_of _ _ (tree_passes end lives a)
      (list_all-append passes (listed_calls (listed_call end lives) b) _ ∙ and_of _ _ (tree_passes end lives b) (tree_passes end lives c))
  tree_passes end lives (fix members e) = tree_passes end lives e
  tree_passes end lives (call a restores) = call_passes end lives false a
  tree_passes end lives (tail_call a) = call_passes end lives true a
  tree_passes end lives (return e) = tree_passes end lives e
  tree_passes end lives (tree.end e) = tree_passes end lives e
  tree_passes end lives (save saves e) = tree_passes end lives e

  code_passes : (c : Code) → list_all passes (registers_calls c) ≡ true
  unfolding registers_calls
  code_passes c =
      let e : Expression = registers_tree c.variables c.expression in
      let given : List Place = places c.entry c.variables e in tree_passes (homes_end c.entry e given) (place_in given) e

  pub all_pass : (cs : List Code) → list_all passes (all_calls cs) ≡ true
  all_pass [] = refl
  all_pass (c ∷ cs) = list_all-append passes (registers_calls c) (all_calls cs) ∙ and_of _ _ (code_passes c) (all_pass cs)
