-- What a machine owes to a result: it comes back, exits, or goes on, and its steps are paid for.
use Rattle.std.proofs.Common.{◌≡◌, ℕ, ◌+◌, ◌-◌, ◌*◌, ◌≤◌, List, [], ◌++◌, length, true, Some, None, refl, sym, ap, ◌∙◌, arith, append_assoc}
use Rattle.sch_word.specs.declared.stop.Stop.{Stop}
use Rattle.sch_word.specs.runs.Stops.{status_of}
use Rattle.sch_word.specs.runs.Store.{Store}
use Rattle.sch_select_memory.specs.Parts.{Parts}
use Rattle.sch_select_memory.specs.Encoded.{IsWord, Words}
use Rattle.sch_word.specs.values.Values.{Value}
use Rattle.sch_word.specs.runs.Computation.{gives, stops, spent}
use Rattle.sch_control.specs.Meaning.{World, Result}
use Rattle.sch_insn.specs.Step.{Exited, step}
use Rattle.sch_insn.proofs.Paths.{leads_here, leads_then, leads_on}
use Rattle.sch_word.specs.declared.mark.MarkKind.{MarkKind}
use Rattle.sch_asm.specs.declared.routine.Routine.{Routine}
use Rattle.sch_asm.specs.declared.routine.Routine.TheVariants as routine
use Rattle.sch_asm.specs.Routines.{label_of}
use Rattle.sch_asm.specs.Stands.{Stands}
use Rattle.sch_asm.specs.Data.{word_in}
use Rattle.sch_asm.specs.Effects.{Effect}
use Rattle.sch_asm.specs.Views.{View, full, Leads}
use Rattle.sch_select_memory.specs.Addresses.{stop_label, put_label, vector_label, string_label}
use Rattle.sch_select_memory.specs.PutCode.{put_value_code}
use Rattle.sch_select_memory.specs.MakeCode.{make_vector_code, make_string_code}
use Rattle.sch_select_memory.specs.RestCode.{rest_routine}
use Rattle.sch_select_memory.specs.StaticBytes.{static_bytes}
use Rattle.sch_select_memory.proofs.Straight.{moved_to, Halts}
use Rattle.sch_select_memory.proofs.Places.{Plan, Activation, StoreAt}

-- A procedure entry pays for as many steps as a body has at most, an answer of the kernel for ten, and a byte that is
-- charged for eight.
module _ (plan : Plan) (body_steps : ℕ) where
  open plan use {setting, heap, stack}

  abbrev pub paid : Store → ℕ
  paid t = body_steps * t.entries + 10 * length t.answers + 8 * (stack - (heap + t.charged))

  -- Before the state of x these marks are passed, and the store is t; c pays for what is ahead.

  -- the machine exits
  pub record Ends (before : List MarkKind) (t : Store) (x : View) (c status : ℕ) (w : World) : Type 0 where
    pub last : View
    pub events : List MarkKind
    pub least : ℕ
    pub steps : ℕ
    pub leads : Leads setting least steps events x last
    pub cost : steps + 1 + paid w.state.store ≤ c + paid t
    pub exits : step (full setting last) ≡ Exited status (full setting last)
    pub output_is : last.output ≡ w.state.store.output
    pub marked : w.marks ≡ before ++ events
    pub silent : setting.marks last.place ≡ []

  -- the machine goes on, by a step at least for each entry
  pub record Goes_on (before : List MarkKind) (t : Store) (x : View) (w : World) : Type 0 where
    pub last : View
    pub events : List MarkKind
    pub least : ℕ
    pub steps : ℕ
    pub ahead : List MarkKind
    pub leads : Leads setting least steps events x last
    pub long : t.entries ≤ least
    pub output_is : last.output ≡ w.state.store.output
    pub marked : w.marks ≡ before ++ (events ++ ahead)

  -- The machine comes to an address, with its frame, its depth and what lies below its frame as they were.
  -- Words of values stay words.
  pub record Lands (act : Activation plan) (parts : Parts) (before : List MarkKind) (t : Store) (x : View) (c : ℕ)
      (v : Value) (w : World) : Type 0 where
    pub y : View
    pub events : List MarkKind
    pub least : ℕ
    pub steps : ℕ
    pub leads : Leads setting least steps events x y
    pub entries : t.entries ≤ least + w.state.store.entries
    pub fewer : w.state.store.entries ≤ t.entries
    pub cost : steps + paid w.state.store ≤ c + paid t
    pub at : y.place ≡ act.back
    pub frame : y.registers 5 ≡ act.frame
    pub depth : y.registers 13 ≡ act.left
    pub free : y.registers 12 ≡ heap + w.state.store.charged
    pub below : (a : ℕ) → stack ≤ a → a + 8 ≤ act.frame → word_in y.bytes a ≡ word_in x.bytes a
    pub parts_after : Parts
    pub words : Words parts parts_after
    pub value : act.entered ≡ true → IsWord parts_after v (y.registers 0)
    pub world : StoreAt plan parts_after w.state y.bytes y.output y.answers
    pub marked : w.marks ≡ before ++ events

  -- Nothing is owed where a body is wrong, nor where more entries are spent than may be nested.
  abbrev pub Sim : (act : Activation plan) → Parts → List MarkKind → Store → View → ℕ → Result → Type 0
  Sim act parts before t x c None = Unit {0}
  Sim act parts before t x c (Some (gives v w)) = Lands act parts before t x c v w
  Sim act parts before t x c (Some (stops why w)) = Ends before t x c (status_of why) w
  Sim act parts before t x c (Some (spent w)) = t.entries ≤ act.nested → Goes_on before t x w

  -- ---- what is ahead, after some steps

  pub ends_after : (before events : List MarkKind) (t t' : Store) (x y : View) (a b c most status : ℕ) (w : World)
      → Leads setting a b events x y → b + c + paid t' ≤ most + paid t → Ends (before ++ events) t' y c status w
      → Ends before t x most status w
  ends_after before events t t' x y a b c most status w p le e = record {
    last = e.last;
    events = events ++ e.events;
    least = a + e.least;
    steps = b + e.steps;
    leads = leads_then setting.marks p e.leads;
    cost = (let k = e.cost in omega (arith, k, le));
    exits = e.exits;
    output_is = e.output_is;
    marked = e.marked ∙ append_assoc before events e.events;
    silent = e.silent;
  }

  pub goes_on_after : (before events : List MarkKind) (t t' : Store) (x y : View) (a b : ℕ) (w : World)
      → Leads setting a b events x y → t.entries ≤ a + t'.entries → Goes_on (before ++ events) t' y w
      → Goes_on before t x w
  goes_on_after before events t t' x y a b w p l s = record {
    last = s.last;
    events = events ++ s.events;
    least = a + s.least;
    steps = b + s.steps;
    ahead = s.ahead;
    leads = leads_then setting.marks p s.leads;
    long = (let e = s.long in omega (arith, e, l));
    output_is = s.output_is;
    marked = s.marked ∙ append_assoc before events (s.events ++ s.ahead)
        ∙ ap (λ l. before ++ l) (sym (append_assoc events s.events s.ahead));
  }

  pub after : (act : Activation plan) (parts parts' : Parts) → Words parts parts'
      → (before events : List MarkKind) (t t' : Store) (x y : View) (a b c most : ℕ) (r : Result)
      → Leads setting a b events x y →
      ((p : ℕ) → stack ≤ p → p + 8 ≤ act.frame → word_in y.bytes p ≡ word_in x.bytes p) →
      t.entries ≤ a + t'.entries → t'.entries ≤ t.entries → b + c + paid t' ≤ most + paid t
      → Sim act parts' (before ++ events) t' y c r → Sim act parts before t x most r
  after act parts parts' words before events t t' x y a b c most None p low l1 l2 le s = tt
  after act parts parts' words before events t t' x y a b c most (Some (gives v w)) p low l1 l2 le s = record {
    y = s.y;
    events = events ++ s.events;
    least = a + s.least;
    steps = b + s.steps;
    leads = leads_then setting.marks p s.leads;
    entries = (let e = s.entries in omega (arith, e, l1));
    fewer = (let e = s.fewer in omega (arith, e, l2));
    cost = (let k = s.cost in omega (arith, k, le));
    at = s.at;
    frame = s.frame;
    depth = s.depth;
    free = s.free;
    below = λ p lo hi. s.below p lo hi ∙ low p lo hi;
    parts_after = s.parts_after;
    words = λ v n h. s.words v n (words v n h);
    value = s.value;
    world = s.world;
    marked = s.marked ∙ append_assoc before events s.events;
  }
  after act parts parts' words before events t t' x y a b c most (Some (stops why w)) p low l1 l2 le s = ends_after
      before events t t' x y a b c most (status_of why) w p le s
  after act parts parts' words before events t t' x y a b c most (Some (spent w)) p low l1 l2 le s = λ few.
      goes_on_after before events t t' x y a b w p l1 (s (omega (arith, few, l2)))

  -- ---- the routines

  pub record Laid : Type 0 where
    pub routine : (k : Routine) (x : View) → x.place ≡ setting.place_of (label_of k) → Effect setting k x
    pub put_stands : Stands setting [] (setting.place_of put_label) put_value_code
    pub make_vector_stands : Stands setting [] (setting.place_of vector_label) (make_vector_code stack [])
    pub make_string_stands : Stands setting [] (setting.place_of string_label) (make_string_code stack [])
    pub lists : (a : ℕ) × Stands setting [] a (rest_routine stack [])
    pub static_is : plan.static ≡ static_bytes

  -- where no entry is left, it need not go on
  pub no_entries : (before waiting : List MarkKind) (w : World) (x : View) → x.output ≡ w.state.store.output
      → w.marks ≡ before ++ waiting → w.state.store.entries ≡ 0 → Goes_on before w.state.store x w
  no_entries before waiting w x printed m none = record {
    last = x;
    events = [];
    least = 0;
    steps = 0;
    ahead = waiting;
    leads = leads_here setting.marks (full setting x);
    long = omega (arith, none);
    output_is = printed;
    marked = m;
  }

  -- the routine of a stop
  pub stops_here : Laid → (before waiting : List MarkKind) (x : View) (c most : ℕ) (why : Stop) (w : World)
      → Halts setting x waiting c why → x.output ≡ w.state.store.output → w.marks ≡ before ++ waiting
      → c + 3 ≤ most → Ends before w.state.store x most (status_of why) w
  stops_here laid before waiting x c most why w s printed marked le =
      let y = moved_to x s.registers s.flags (setting.place_of (stop_label why)) in
      let e = laid.routine (routine.Stop why) y refl in
      record {
        last = e.last;
        events = waiting;
        least = s.least + e.least;
        steps = s.steps + e.most;
        leads = leads_on setting.marks s.leads e.leads;
        cost = (let f = e.few in let g = s.few in omega (arith, f, g, le));
        exits = e.exits;
        output_is = e.output_is ∙ printed;
        marked = marked;
        silent = e.silent;
      }
