-- What the type of a body with places keeps is what its layout needs.
use Rattle.std.proofs.Common.{◌≡◌, ℕ, refl, true}
use Rattle.sch_control.specs.Valid.{ended, numbered}
use Rattle.sch_control.specs.declared.placed_body.PlacedBody.{PlacedBody}
use Rattle.sch_control.specs.flow.Bare.{erased}
use Rattle.sch_control.specs.flow.Live.{nothing_later}
use Rattle.sch_control.specs.flow.Places.{place_of}
use Rattle.sch_control.specs.flow.RestoredView.{restored_listed}
use Rattle.sch_control.proofs.ExactPlaces.{bound_alone, points_apart}
use Rattle.sch_control.proofs.ExactSets.{exact}
use Rattle.sch_control.proofs.SameBodies as same
use Rattle.sch_homes.specs.Laws.{IsPlaced}
use Rattle.sch_homes.specs.View.{bare_code, tree_of}
use Rattle.sch_homes.proofs.LiveRestores.{restores_live}

module _ {N : ℕ} (b : PlacedBody N) where
  pub body_numbers : numbered (bare_code b) ≡ true
  body_numbers = same.numbers b.restored.now.body.now (erased (tree_of b)) b.restored.now.bare

  pub body_ends : ended (bare_code b) ≡ true
  body_ends = same.ending b.restored.now.body.now (erased (tree_of b)) b.restored.now.bare

  pub body_placed : IsPlaced (bare_code b) (tree_of b) b.places
  body_placed = record {
    body = refl;
    scoped = same.scoped b.restored.now.body.now (erased (tree_of b)) b.restored.now.bare;
    numbers = body_numbers;
    shaped = same.shapes b.restored.now.body.now (erased (tree_of b)) b.restored.now.bare;
    fields = same.fields_there b.restored.now.body.now (erased (tree_of b)) b.restored.now.bare;
    saved = b.restored.now.saved;
    restores =
        restores_live b.restored.now.exp (Unit {0}) (Unit {0}) nothing_later nothing_later (λ u. u) (λ x t l. l)
        (exact (restored_listed b.restored.now.exp) b.restored.now.live);
    whole = b.whole;
    link = b.link;
    closure = b.closure;
    usual = b.usual;
    formals = b.formals;
    entered = b.entered;
    alone = bound_alone (place_of b.places) (tree_of b) b.alone;
    points = points_apart (place_of b.places) (tree_of b) b.points;
  }
