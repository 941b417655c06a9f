use Rattle.std.proofs.Common.{◌≡◌, ℕ, ◌+◌, ◌<◌, ◌^◌, rules, arith, ◌∙◌, ◌++◌, ap, sym, subst}
use Rattle.std.proofs.lemmas.Grind.{common_steps}
use Rattle.sch_control.specs.declared.body.Body.{Body}
use Rattle.sch_control.specs.declared.restored_body.RestoredBody.{RestoredBody}
use Rattle.sch_control.specs.flow.Middle.{listed}
use Rattle.sch_control.specs.flow.Places.{arrival, formals_of, place_of}
use Rattle.sch_control.specs.flow.RestoredView.{restored}
use Rattle.sch_layout.specs.BodyLayout.{labels}
use Rattle.sch_paths.specs.EachSoonRestored.{EachSoonRestored}
use Rattle.sch_regs.specs.PlaceChoice.{places}
use Rattle.sch_regs.specs.Spills.{SlotsWhenFull}
use Rattle.sch_restores.specs.Restores.{eagerly_restored}
use Rattle.sch_saves.specs.LazyRegions.{lazily_saved}
use Rattle.sch_registers.proofs.JoinedPasses.{IsJoined, joined_body, joined_calls, labels_kept}
use Rattle.sch_registers.proofs.one_body.framed.Goals as goal

pub assign_places-requires : goal.assign_places-requires
assign_places-requires g c = (
  first_of (search rules, grind (arith, common_steps), omega arith),
  (first_of (search rules, grind (arith, common_steps), omega arith), c.in_ok-restored.ensures.enough),
)

pub frame_listed-requires : goal.frame_listed-requires
frame_listed-requires g c =
    let l = c.in_ok-listed.ensures in
    let s = c.in_ok-saved.ensures in
    let r = c.in_ok-restored.ensures in
    let p = c.in_ok-placed.ensures in
    let kept = labels_kept _ _ _ _ _ l.same s.same r.made in
    let few = c.requires.tests in
    let low : labels (restored c.in_ok-restored.restored.exp) < 2 ^ 32 = omega (arith, kept, few) in (
      first_of (search rules, grind (arith, common_steps), omega arith),
      (
        subst (λ (b : RestoredBody g.row.N). EachSoonRestored (restored b.exp)) (sym p.restored) r.enough,
        subst (λ (b : RestoredBody g.row.N). labels (restored b.exp) < 2 ^ 32) (sym p.restored) low,
      ),
    )

pub returns : goal.returns
returns g c =
    let b = c.args.b.now in
    let live = listed c.in_ok-listed.listed.exp in
    let l = c.in_ok-listed.ensures in
    let s = c.in_ok-saved.ensures in
    let r = c.in_ok-restored.ensures in
    let p = c.in_ok-placed.ensures in
    let saved = c.in_ok-saved.saved in
    let placed = c.in_ok-placed.placed in
    let tree = restored c.in_ok-restored.restored.exp in
    let saved_body = s.body ∙ l.body in
    let body = r.body ∙ saved_body in
    let made : IsJoined b live saved c.in_ok-restored.restored placed.places = record {
      body = body;
      saved_body = saved_body;
      bare = l.same;
      made_live = l.made;
      without_regions = s.same;
      made_saved = s.made ∙ ap (λ (b : Body). lazily_saved b.variables live) l.body;
      lazy = s.lazy;
      stand = s.stand;
      followed = s.followed;
      made_restored = r.made ∙ ap (λ (b : Body). eagerly_restored b.variables (listed saved.exp)) saved_body;
      soon = r.enough;
      eager = r.eager;
      made_places = p.made ∙ ap (λ (b : Body). places b.entry b.variables tree) body;
      formals =
          subst (λ (b : Body). (k : ℕ) → k < formals_of b.entry → place_of placed.places (2 + k) ≡ arrival k) body
          (subst (λ (b : RestoredBody g.row.N). (k : ℕ) → k < formals_of b.body.now.entry → place_of placed.places (2 + k) ≡ arrival k) p.restored p.formals);
      spills = subst (λ (b : RestoredBody g.row.N). SlotsWhenFull (place_of placed.places) (restored b.exp)) p.restored p.slots;
    } in
    let joined : IsJoined b live saved placed.restored.now placed.places = subst (λ (r : RestoredBody g.row.N). IsJoined b live saved r placed.places) (sym p.restored) made in
    record {
      body = joined_body b live saved placed joined _ c.in_ok-f.ensures.made;
      calls = c.in_ok-f.ensures.calls ∙ ap (λ l. c.args.calls.now ++ l) (joined_calls b live saved placed joined);
    }
