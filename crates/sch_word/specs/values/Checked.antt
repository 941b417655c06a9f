-- Checks: what is looked at before anything is done, so they change no state.
use Rattle.sch_word.specs.declared.stop.Stop.{Stop}

-- A check lets something pass, or ends the run: with a stop, or since no procedure entry is left. The
-- last is what no valid program comes to, as `unreached` says of computations.
pub data Checked (V : Type 0) : Type 0 where
  passes : V → Checked V
  refused : Stop → Checked V
  exhausted : Checked V
  unreachable : Checked V

-- a check of what another one lets pass
abbrev pub on_passed : {V W : Type 0} → Checked V → (V → Checked W) → Checked W
on_passed (passes v) next = next v
on_passed (refused why) next = refused why
on_passed exhausted next = exhausted
on_passed unreachable next = unreachable
