-- A small sound draft has near variables, and so have the bodies of small definitions: each variable is bound, and what binds it
-- counts it.
use Rattle.std.proofs.Common.{◌≡◌, ◌+◌, ◌<◌, ◌^◌, ℕ, true, List, [], ◌∷◌, refl, arith}
use Rattle.std.specs.Prelude.{◌&&◌, nat_lt}
use Rattle.std.proofs.lemmas.Bool.{and_from, lt-ltb}
use Rattle.sch_sketch.specs.Draft.{Draft, Drafts, constant, symbol, literal, local, global, set_local, set_global, define, branch, sequence, bind, letrec, lambda, call, operation, no_drafts, and_draft, count}
use Rattle.sch_sketch.specs.DraftMeasures.{size, size_each}
use Rattle.sch_link_tables.specs.Programs.{Definition}
use Rattle.sch_link_tables.specs.Room.{has_near_variables, have_near_variables}
use Rattle.sch_link_program.specs.Size.{size_of_definitions, have_near_bodies}
use Rattle.sch_core.specs.LibraryDefinitions.{AreDefinitions}
use Rattle.sch_core.specs.SoundDrafts.{IsSound, AreSound}

mutual
  near : (e : Draft) (m : ℕ) → IsSound m e → m + size e < 2 ^ 32 → has_near_variables e ≡ true
  near (constant c) m h l = refl
  near (symbol x) m h l = refl
  near (literal d) m h l = refl
  near (local k) m h l = lt-ltb k (2 ^ 32) (omega (arith, h, l))
  near (global x) m h l = refl
  near (set_local k e) m h l =
      and_from (nat_lt k (2 ^ 32)) (has_near_variables e) (lt-ltb k (2 ^ 32) (omega (arith, h.0, l))) (near e m h.1 (omega (arith, l)))
  near (set_global x e) m h l = near e m h (omega (arith, l))
  near (define x e) m h l = near e m h (omega (arith, l))
  near (branch a b c) m h l =
      let both = and_from (has_near_variables b) (has_near_variables c) (near b m h.1 (omega (arith, l))) (near c m h.2 (omega (arith, l))) in
      and_from (has_near_variables a) (has_near_variables b && has_near_variables c) (near a m h.0 (omega (arith, l))) both
  near (sequence es) m h l = near_each es m h.1 (omega (arith, l))
  near (bind vs es e) m h l =
      and_from (have_near_variables es) (has_near_variables e) (near_each es m h.1 (omega (arith, l))) (near e (m + count es) h.2 (omega (arith, l)))
  near (letrec vs p es e) m h l =
      and_from (have_near_variables es) (has_near_variables e) (near_each es (m + count es) h.2 (omega (arith, l))) (near e (m + count es) h.3 (omega (arith, l)))
  near (lambda n r e) m h l = near e (m + n) h.2 (omega (arith, l))
  near (call vs f es) m h l =
      and_from (has_near_variables f) (have_near_variables es) (near f m h.1 (omega (arith, l))) (near_each es m h.2 (omega (arith, l)))
  near (operation p es) m h l = near_each es m h.1 (omega (arith, l))

  pub near_each : (es : Drafts) (m : ℕ) → AreSound m es → m + size_each es < 2 ^ 32 → have_near_variables es ≡ true
  near_each no_drafts m h l = refl
  near_each (and_draft e es) m h l =
      and_from (has_near_variables e) (have_near_variables es) (near e m h.0 (omega (arith, l))) (near_each es m h.1 (omega (arith, l)))

pub near_bodies : (ds : List Definition) → AreDefinitions ds → size_of_definitions ds < 2 ^ 32 → have_near_bodies ds ≡ true
near_bodies [] h l = refl
near_bodies (d ∷ ds) h l =
    and_from (has_near_variables d.body) (have_near_bodies ds) (near d.body (0 + d.formals) h.0.0.2 (omega (arith, l))) (near_bodies ds h.1 (omega (arith, l)))
