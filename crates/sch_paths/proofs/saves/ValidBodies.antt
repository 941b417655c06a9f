-- What holds of the trees of valid bodies: calls follow saves, heads of regions are live, and so is where to return.
use Rattle.std.proofs.Common.{◌≡◌, Bool, true, List, Some, refl, ap, sym, ◌∙◌, inl}
use Rattle.sch_word.specs.trees.NumberSets.{has, without_repeats}
use Rattle.sch_word.proofs.facts.Booleans.{and_right, never_true}
use Rattle.sch_control.specs.declared.body.Entry.{Entry}
use Rattle.sch_control.specs.Meaning.{no_region}
use Rattle.sch_control.specs.Tree.{Expression, Code}
use Rattle.sch_control.specs.Valid.{first_scope, bound_in, in_scope, numbered, ended, positioned, last_position}
use Rattle.sch_control.specs.flow.Live.{nothing_later}
use Rattle.sch_control.specs.flow.Paths.{Event, IsPath, SavesFollowed}
use Rattle.sch_paths.specs.Exact.{LiveAfterCalls}
use Rattle.sch_paths.specs.Laws.{IsSaved}
use Rattle.sch_paths.specs.Regions.{HeadsLive}
use Rattle.sch_paths.proofs.paths.ReturnAddress.{return_address}
use Rattle.sch_paths.proofs.paths.UnlistedPaths.{positioned_erased}
use Rattle.sch_paths.proofs.runs.RestoresAreEnough.{valid_unbound, valid_once, scope_erased, bound_erased}
use Rattle.sch_paths.proofs.saves.InevitableCalls.{inevitable}
use Rattle.sch_paths.proofs.saves.LiveHeads.{heads_live}
use Rattle.sch_paths.proofs.saves.LiveInScope.{binds_is}

pub saves_followed_by : (c : Code) (listed : Expression) → IsSaved c listed → (es : List Event) (r : Bool) → IsPath no_region listed es r → SavesFollowed es
saves_followed_by c listed p es r path =
    let bound : bound_in listed ≡ bound_in c.expression = sym (bound_erased listed) ∙ ap bound_in p.body in
    inevitable listed p.stand (first_scope c.entry)
    (sym (scope_erased listed (first_scope c.entry)) ∙ (ap (λ z. in_scope z (first_scope c.entry)) p.body ∙ p.scopes))
    (ap without_repeats bound ∙ valid_once c p.numbers) (λ x m. valid_unbound c p.numbers x (ap (has x) (sym bound) ∙ m))
    p.sets p.saves es r path

pub heads_are_live : (c : Code) (listed : Expression) → IsSaved c listed → HeadsLive listed nothing_later
heads_are_live c listed p =
    heads_live no_region listed true p.stand (last_position c.entry)
    (sym (positioned_erased listed (last_position c.entry)) ∙ (ap (λ z. positioned z (last_position c.entry)) p.body ∙ and_right _ _ p.ending))
    (Unit {0}) nothing_later p.sets p.saves.1 (λ x h. ((p.saves.0 x).0 h).0)

pub procedure_returns : (c : Code) (e : Entry) → c.entry ≡ Some e → ended c ≡ true → numbered c ≡ true → (L : Bool → Type 0) → LiveAfterCalls 0 c.expression L
procedure_returns c e is ended numbered L =
    return_address c.expression (sym (ap (λ z. positioned c.expression (last_position z)) is) ∙ and_right _ _ ended)
    (binds_is 0 c.expression ∙ never_true (has 0 (bound_in c.expression)) (λ m. valid_unbound c numbered 0 m (inl refl))) L
