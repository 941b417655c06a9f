-- What a body's places owe to its layout follows from what its type keeps.
use Rattle.std.proofs.Common.{◌≡◌, ℕ, ◌<◌, ◌≤◌, List, [], ◌∷◌, length, Option, Bool, true, false, arith, inl, inr}
use Rattle.std.specs.Bool.{MatchBool}
use Rattle.std.specs.List.{list_all}
use Rattle.std.proofs.lemmas.Bool.{and_parts}
use Rattle.sch_word.specs.trees.Shape.{max_operands}
use Rattle.sch_word.specs.declared.place.Place.{Place}
use Rattle.sch_control.specs.declared.body.Entry.{Entry}
use Rattle.sch_control.specs.declared.operation.Member.{Member}
use Rattle.sch_control.specs.Meaning.{with_region}
use Rattle.sch_control.specs.Tree.{Expression, perform, bind, sequence, branch, fix, call, tail_call, return, end, save}
use Rattle.sch_control.specs.Valid.{member_variables}
use Rattle.sch_control.specs.flow.Apart as flow
use Rattle.sch_control.specs.flow.Apart.{Around, BoundAlone, EachHas, PointsApart}
use Rattle.sch_control.specs.flow.Live.{Across, Later, Live, MayGive, Perhaps}
use Rattle.sch_control.specs.flow.Places.{place_of}
use Rattle.sch_control.specs.flow.Regions.{restores_saved}
use Rattle.sch_control.specs.AtomsAndSites.{member_atoms}
use Rattle.sch_layout.specs.Laws.{MembersUse, Uses}
use Rattle.sch_layout.specs.SharedPlaces.{Alone, FreeInCall, FreeInTail, Placed}
use Rattle.sch_control.specs.EachCall.{EachCall}
use Rattle.sch_layout.proofs.LowVariables.{live_low, mentioned, perhaps_low}
use Rattle.sch_paths.specs.Conditions.{Fresh}
use Rattle.sch_homes.specs.Homes.{homes_plan}
use Rattle.sch_homes.proofs.BodyPlaces.{alone_in_frame}
use Rattle.sch_homes.proofs.CallsBring.{brings, free_in_call, free_in_tail, lives_own}
use Rattle.sch_homes.proofs.SlotsApart.{HasRoom}
use Rattle.sch_homes.specs.RestoresLive.{RestoresLive}

-- `whole` is the tree of the body, in which `e` is a part
module _ (entry : Option Entry) (whole : Expression) (places : List Place) (room : HasRoom entry whole places) (some : 0 < length places) where
  abbrev Low : ℕ → Type 0
  Low x = x < length places

  abbrev LowLater : Later → Type 0
  LowLater L = (x : ℕ) (t : Bool) → L x t → Low x

  abbrev lives : ℕ → Place
  lives = place_of places

  each_alone : (live : ℕ → Type 0) → ((x : ℕ) → live x → Low x) → (ys : List ℕ) → EachHas Low ys → EachHas (flow.Alone lives live) ys → EachHas (Alone (homes_plan entry whole places) live) ys
  each_alone live low [] l h = tt
  each_alone live low (y ∷ ys) l h = (alone_in_frame entry whole places live low y l.0 h.0, each_alone live low ys l.1 h.1)

  members_low : (members : List (Member ℕ)) → MembersUse Low members → EachHas Low (member_variables members)
  members_low [] u = tt
  members_low (m ∷ members) u = (u.0, members_low members u.1)

  live_is_low : (e : Expression) (L : Later) → Uses Low e → LowLater L → (x : ℕ) → Live x e (L x) → Low x
  live_is_low e L u low x l = live_low (length places) some x e (L x) u (low x) l

  perhaps_is_low : (L : Later) → LowLater L → (x : ℕ) → Perhaps (L x) → Low x
  perhaps_is_low L low x l = perhaps_low (length places) some x (L x) (low x) l

  -- what is restored is live then, and so it is alone in its place
  restored_alone : (inside : ℕ → Bool) (Met : Type 0) (L : Later) → LowLater L → (Met → flow.Apart lives (λ x. Perhaps (L x)))
      → (xs : List ℕ) → list_all inside xs ≡ true → EachHas (λ x. Met × Perhaps (L x)) xs
      → EachHas (λ x. (inside x ≡ true) × Alone (homes_plan entry whole places) (λ x. Perhaps (L x)) x) xs
  restored_alone inside Met L low apart [] i h = tt
  restored_alone inside Met L low apart (y ∷ ys) i h =
      let parts = and_parts (inside y) _ i in (
        (parts.0, alone_in_frame entry whole places (λ x. Perhaps (L x)) (perhaps_is_low L low) y (perhaps_is_low L low y h.0.1) (λ x l n. apart h.0.0 x y l h.0.1 n)),
        restored_alone inside Met L low apart ys parts.1 h.1,
      )

  pub placed_tree : (e : Expression) (Met : Type 0) (inside : ℕ → Bool) (L : Later) → Uses Low e → EachCall (λ tail a. length a.operands ≤ max_operands) e → LowLater L
      → BoundAlone lives e L → PointsApart lives e Met L → RestoresLive e Met L → restores_saved e inside ≡ true → Fresh e L → Placed (homes_plan entry whole places) e inside L
  placed_tree (perform o) Met inside L u f low alone apart restores saved fresh = tt
  placed_tree (bind y a b) Met inside L u f low alone apart restores saved fresh =
      let parts = and_parts (restores_saved a inside) _ saved in (
        alone_in_frame entry whole places (λ x. Live x b (L x)) (live_is_low b L u.1.1 low) y u.0 alone.0,
        (
          placed_tree a Met inside (λ x t. Across y x (Live x b (L x))) u.1.0 f.0 (λ x t l. live_is_low b L u.1.1 low x l.1) alone.1.0 apart.0 restores.0 parts.0 fresh.0,
          placed_tree b Met inside L u.1.1 f.1 low alone.1.1 apart.1 restores.1 parts.1 fresh.1,
        ),
      )
  placed_tree (sequence a b) Met inside L u f low alone apart restores saved fresh =
      let parts = and_parts (restores_saved a inside) _ saved in (
        placed_tree a Met inside (λ x t. Live x b (L x)) u.0 f.0 (λ x t l. live_is_low b L u.1 low x l) alone.0 apart.0 restores.0 parts.0 fresh.0,
        placed_tree b Met inside L u.1 f.1 low alone.1 apart.1 restores.1 parts.1 fresh.1,
      )
  placed_tree (branch a b c) Met inside L u f low alone apart restores saved fresh =
      let parts = and_parts (restores_saved a inside) _ saved in
      let arms = and_parts (restores_saved b inside) _ parts.1 in (
        placed_tree a Met inside (λ x t. MatchBool t (Live x b (L x)) (Live x c (L x))) u.0 f.0
            (λ x t l. by x t (live_is_low b L u.1.0 low x) (live_is_low c L u.1.1 low x) l) alone.0 apart.0 restores.0 parts.0 fresh.0,
        (
          placed_tree b (Met × MayGive a true) inside L u.1.0 f.1.0 low alone.1.0 apart.1.0 restores.1.0 arms.0 fresh.1.0,
          placed_tree c (Met × MayGive a false) inside L u.1.1 f.1.1 low alone.1.1 apart.1.1 restores.1.1 arms.1 fresh.1.1,
        ),
      ) where
        by : (x : ℕ) (t : Bool) → (Live x b (L x) → Low x) → (Live x c (L x) → Low x) → MatchBool t (Live x b (L x)) (Live x c (L x)) → Low x
        by x true g h l = g l
        by x false g h l = h l
  placed_tree (fix members e) Met inside L u f low alone apart restores saved fresh = (
    each_alone (Around members (λ x. Live x e (L x))) (λ x l. by x l (live_is_low e L u.1.1 low x)) (member_variables members) (members_low members u.0) alone.0,
    placed_tree e Met inside L u.1.1 f low alone.1 apart.1.1 restores saved fresh,
  ) where
    by : (x : ℕ) → Around members (λ x. Live x e (L x)) x → (Live x e (L x) → Low x) → Low x
    by x (inl m) g = mentioned Low (member_atoms members) u.1.0 x m
    by x (inr l) g = g l
  placed_tree (call a restores) Met inside L u f low alone apart restored saved fresh =
      let parts = and_parts _ (list_all inside restores) saved in (
        brings entry whole places room false a f u (FreeInCall (homes_plan entry whole places) (λ x. Perhaps (L x))) (free_in_call entry whole places room false a f u (λ x. Perhaps (L x))),
        (
          λ x l. lives_own entry whole places room x (perhaps_is_low L low x l),
          restored_alone inside Met L low (λ met. (apart met).1) restores parts.1 restored,
        ),
      )
  placed_tree (tail_call a) Met inside L u f low alone apart restores saved fresh = (
    brings entry whole places room true a f u (FreeInTail (homes_plan entry whole places)) (free_in_tail entry whole places room true a f u),
    omega (arith, f),
  )
  placed_tree (return e) Met inside L u f low alone apart restores saved fresh = placed_tree e Met inside (λ x t. x ≡ 0) u f (λ x t i. omega (arith, i, some)) alone apart restores saved fresh
  placed_tree (end e) Met inside L u f low alone apart restores saved fresh = placed_tree e Met inside (λ x t. ⊥) u f (λ x t i. absurd i) alone apart restores saved fresh
  placed_tree (save saves e) Met inside L u f low alone apart restores saved fresh =
      (fresh.0, placed_tree e Met (with_region saves inside) L u f low alone apart restores saved fresh.1)
