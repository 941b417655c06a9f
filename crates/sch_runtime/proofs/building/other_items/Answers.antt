use Rattle.std.proofs.Common.{◌≡◌, ℕ, suc, ◌%◌, ◌+◌, ◌<◌, arith, List, [], ◌∷◌, ◌++◌, drop, sym, ap, ◌∙◌, append_assoc}
use Rattle.std.specs.Prelude.{slice_index}
use Rattle.std.proofs.Math.Seq.{drop-cons}
use Rattle.sch_asm.specs.declared.item.Item.{Item}
use Rattle.sch_asm.specs.declared.item.Item.TheVariants.{Label}
use Rattle.sch_runtime.specs.Code.{exit_code, exits, statuses}
use Rattle.sch_runtime.proofs.building.other_items.Goals as goal

-- one exit more
next : (items items' exit : List Item) (k s : ℕ) → items' ≡ items ++ exit → exit ≡ Label (s % 64) ∷ exit_code s → drop k statuses ≡ s ∷ drop (k + 1) statuses
    → items ++ exits (drop k statuses) [] ≡ exits statuses [] → items' ++ exits (drop (k + 1) statuses) [] ≡ exits statuses []
next items items' exit k s e f g h =
    ap (λ l. l ++ exits (drop (k + 1) statuses) []) (e ∙ ap (λ l. items ++ l) f)
    ∙ append_assoc items (Label (s % 64) ∷ exit_code s) (exits (drop (k + 1) statuses) [])
    ∙ ap (λ l. items ++ exits l []) (sym g)
    ∙ h

split : (k : ℕ) → k < 11 → drop k statuses ≡ slice_index statuses k ∷ drop (k + 1) statuses
split k lt = let e : suc k ≡ k + 1 = omega arith in drop-cons statuses k 0 lt ∙ ap (λ n. slice_index statuses k ∷ drop n statuses) e

pub loop-status-preserved : goal.loop-status-preserved
loop-status-preserved c =
    next c.loop-status.items c.extend_from_slice.new.self c.exit_items.result c.loop-status.status-index
    (slice_index statuses c.loop-status.status-index) c.in_ok-extend_from_slice.ensures.ok c.exit_items.ensures
    (split c.loop-status.status-index c.loop-status-test.true) c.loop-status.invariant
