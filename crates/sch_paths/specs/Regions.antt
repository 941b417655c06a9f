-- Where regions stand, and what is live at their heads.
use Rattle.std.specs.Prelude.{◌≡◌, ℕ, Bool, true, false, ◌&&◌}
use Rattle.std.specs.Bool.{MatchBool}
use Rattle.sch_word.specs.trees.NumberSets.{has}
use Rattle.sch_control.specs.Meaning.{heads}
use Rattle.sch_control.specs.Tree.{Expression, perform, bind, sequence, branch, fix, call, tail_call, return, end, save}
use Rattle.sch_control.specs.flow.Live.{Across, Live, Later}

-- what is saved at the head of each region is live there
abbrev pub HeadsLive : Expression → Later → Type 0
HeadsLive (bind y a b) L = HeadsLive a (λ x t. Across y x (Live x b (L x))) × HeadsLive b L
HeadsLive (sequence a b) L = HeadsLive a (λ x t. Live x b (L x)) × HeadsLive b L
HeadsLive (branch a b c) L = HeadsLive a (λ x t. MatchBool t (Live x b (L x)) (Live x c (L x))) × (HeadsLive b L × HeadsLive c L)
HeadsLive (fix members e) L = HeadsLive e L
HeadsLive (return e) L = HeadsLive e (λ x t. x ≡ 0)
HeadsLive (end e) L = HeadsLive e (λ x t. ⊥)
HeadsLive (save saves e) L = ((x : ℕ) → has x (heads e saves) ≡ true → Live x e (L x)) × HeadsLive e L
HeadsLive (perform o) L = Unit {0}
HeadsLive (call a restores) L = Unit {0}
HeadsLive (tail_call a) L = Unit {0}

-- regions stand only round a body and round arms
abbrev pub regions_stand : (here : Bool) → Expression → Bool
regions_stand here (perform o) = true
regions_stand here (bind y a b) = regions_stand false a && regions_stand false b
regions_stand here (sequence a b) = regions_stand false a && regions_stand false b
regions_stand here (branch a b c) = regions_stand false a && (regions_stand true b && regions_stand true c)
regions_stand here (fix members e) = regions_stand false e
regions_stand here (call a restores) = true
regions_stand here (tail_call a) = true
regions_stand here (return e) = regions_stand false e
regions_stand here (end e) = regions_stand false e
regions_stand here (save saves e) = here && regions_stand false e
