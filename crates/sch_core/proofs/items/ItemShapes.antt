-- An item that stands for a draft is well shaped: it has a name, and its draft is that of a procedure.
use Rattle.std.proofs.Common.{◌≡◌, ℕ, Bool, true, false, cond, not, ◌&&◌, List, [], Some, None, refl}
use Rattle.sch_read.specs.Grammar.{Data, none}
use Rattle.sch_names.specs.Scope.{Scope, Globals, is_among}
use Rattle.sch_sketch.specs.declared.fault.Fault.{Fault}
use Rattle.sch_sketch.specs.declared.fault.Fault.TheVariants.{BadForm}
use Rattle.sch_sketch.specs.declared.sketch.Position.{Position}
use Rattle.sch_sketch.specs.declared.sketch.Position.TheVariants.{Value}
use Rattle.sch_sketch.specs.declared.sketch.Row.TheVariants.{Method}
use Rattle.sch_sketch.specs.Draft.{Draft, constant, symbol, literal, local, global, set_local, set_global, define, branch, sequence, bind, letrec, lambda, call, operation}
use Rattle.sch_sketch.specs.Sketch.{choosing, sequencing, binding, recurring, abstracting, calling, operating, setting, setting_global, defining, Sketch, text, rest, wrong, leaf, node, limited}
use Rattle.sch_expansion.specs.Expands.{Expands}
use Rattle.sch_link_tables.specs.Programs.{Definition, procedure_of}
use Rattle.sch_core.specs.SoundDrafts.{IsProcedure}
use Rattle.sch_toplevel.specs.Items.{is_method, item_name, item_sketch}

-- ## Procedures

-- a definition of this name whose procedure is this draft
pub record Defines (v : List ℕ) (e : Draft) : Type 0 where
  pub definition : Definition
  pub named : definition.name ≡ v
  pub made : e ≡ procedure_of definition

pub defines : (v : List ℕ) (e : Draft) → IsProcedure e → Defines v e
defines v (lambda n r e) h = record { definition = record { name = v; formals = n; rest = r; body = e }; named = refl; made = refl }
defines v (constant c) h = absurd h
defines v (symbol x) h = absurd h
defines v (literal d) h = absurd h
defines v (local k) h = absurd h
defines v (global x) h = absurd h
defines v (set_local k e) h = absurd h
defines v (set_global x e) h = absurd h
defines v (define x e) h = absurd h
defines v (branch a b c) h = absurd h
defines v (sequence es) h = absurd h
defines v (bind vs es e) h = absurd h
defines v (letrec vs p es e) h = absurd h
defines v (call vs f es) h = absurd h
defines v (operation p es) h = absurd h

-- ## Names

no_draft : {globals : Globals} {n : ℕ} {s : Scope} {t : Position} {f : Fault} {e : Draft} → Expands globals n s t (wrong f) e → ⊥
no_draft p = elim p [ ]

pub record IsShaped (globals : Globals) (at : ℕ) (xs : Data) (k : Sketch) (e : Draft) : Type 0 where
  pub name : List ℕ
  pub named : item_name xs k ≡ Some name
  pub expands : Expands globals 1 [] Value (rest Method at xs none) e

module _ (globals : Globals) (before : List (List ℕ)) (at : ℕ) (xs : Data) (e : Draft) where
  chosen : (v : List ℕ) (m a : Bool) → Expands globals 1 [] Value (cond (m && not a) (rest Method at xs none) (wrong (BadForm at))) e →
      (name : List ℕ) × (cond m (Some v) None ≡ Some name) × Expands globals 1 [] Value (rest Method at xs none) e
  chosen v true false p = (v, refl, p)
  chosen v true true p = absurd (no_draft p)
  chosen v false a p = absurd (no_draft p)

  pub shaped : (k : Sketch) → Expands globals 1 [] Value (item_sketch before at xs k) e → IsShaped globals at xs k e
  shaped (node (defining v) q ks) p = let c = chosen v (is_method xs) (is_among v before) p in record { name = c.0; named = c.1; expands = c.2 }
  shaped (node choosing q ks) p = absurd (no_draft p)
  shaped (node sequencing q ks) p = absurd (no_draft p)
  shaped (node (binding vs) q ks) p = absurd (no_draft p)
  shaped (node (recurring vs more) q ks) p = absurd (no_draft p)
  shaped (node (abstracting vs more) q ks) p = absurd (no_draft p)
  shaped (node (calling vs) q ks) p = absurd (no_draft p)
  shaped (node (operating o) q ks) p = absurd (no_draft p)
  shaped (node (setting n) q ks) p = absurd (no_draft p)
  shaped (node (setting_global x) q ks) p = absurd (no_draft p)
  shaped (text d) p = absurd (no_draft p)
  shaped (rest r q ys zs) p = absurd (no_draft p)
  shaped (wrong f) p = absurd (no_draft p)
  shaped (leaf q f) p = absurd (no_draft p)
  shaped (limited q n k) p = absurd (no_draft p)
