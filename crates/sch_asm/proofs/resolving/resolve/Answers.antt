-- The instructions, marks and words that are put out by the table are those of the items and words.
use Rattle.std.proofs.Common.{◌≡◌, ℕ, ◌+◌, ◌<◌, ◌≤◌, ◌++◌, List, [], length, Bool, refl, sym, ap, ◌∙◌, subst, arith}
use Rattle.std.specs.List.{flat_map}
use Rattle.std.specs.Prelude.{slice_index}
use Rattle.sch_word.specs.runs.ProgramLayout.{text_address}
use Rattle.sch_insn.specs.declared.insn.Insn.{Insn}
use Rattle.sch_insn.specs.Spelling.{AllValid, spelling}
use Rattle.sch_jumps.specs.Sizes.{jump_count}
use Rattle.sch_jumps.specs.Least.{IsExact, IsLeast}
use Rattle.sch_jumps.specs.Spans.{set_of}
use Rattle.sch_jumps.proofs.Exact.{exact}
use Rattle.sch_jumps.proofs.Text.{the_size}
use Rattle.sch_asm.specs.declared.assembly.Word.{Word}
use Rattle.sch_asm.specs.declared.item.Item.{Item}
use Rattle.sch_asm.specs.declared.item.Mark as mark
use Rattle.sch_asm.specs.Items.{AreItems}
use Rattle.sch_asm.specs.Codes.{AreResolved, Codes, bytes_of}
use Rattle.sch_asm.specs.Forms.{jump_forms}
use Rattle.sch_asm.specs.Layout.{IsLaidOut, ReachFrom, emitted_from, jumps_in, marked_from, size_from}
use Rattle.sch_asm.specs.Pieces.{shortest_size, skeleton}
use Rattle.sch_asm.proofs.Skeleton.{sound_pieces}
use Rattle.sch_asm.proofs.Tables.{Below, below_anywhere, sound_append, use_back, use_front}
use Rattle.sch_asm.proofs.Emitted.{codes, emitted_append, emitted_size, emitted_valid, end_items, few_jumps, jumps_items, marked_append, own_items, reach_back, reach_front, reach_items, size_append}
use Rattle.sch_asm.proofs.FormsOf.{forms_said, said, said_of}
use Rattle.sch_asm.proofs.AsMany.{as_many}
use Rattle.sch_asm.proofs.resolving.resolve.Goals as goal
use Rattle.sch_asm.proofs.Words.{data_length}

-- ---- the table

small_place : (places : List ℕ) → Below 1073741824 places → (l : ℕ) → slice_index places l < 2147483648
small_place places h l = omega (arith, below_anywhere places 1073741824 (omega arith) h l)

-- the size of a text with the least set of long jumps
whole_size : (is : List Item) (longs : List Bool) → IsLeast (skeleton is) (set_of longs) → size_from (set_of longs) 0 is ≡ shortest_size is
whole_size is longs h =
    let s = set_of longs in
    let e = end_items s is 0 0 in
    let f = the_size (skeleton is) s (sound_pieces is) h in
    omega (arith, e, f)

-- the jumps that are put out have the forms that were chosen
forms_are : (place : ℕ → ℕ) (is : List Item) (longs : List Bool) (code : List Insn) → AreItems is → length longs ≡ jump_count (skeleton is) → code ≡ emitted_from place (set_of longs) 0 text_address is → jump_forms code ≡ longs
forms_are place is longs code v each e =
    ap jump_forms e ∙ forms_said place (set_of longs) is 0 text_address v ∙ ap (said (set_of longs) 0) (sym (each ∙ jumps_items is)) ∙ said_of longs

-- ---- what is put out

record Written (is : List Item) (ws : List Word) (code : List Insn) (marks : List mark.Mark) (words places : List ℕ) (longs : List Bool) : Type 0 where
  laid : IsLaidOut is ws places longs
  small : Below 1073741824 places
  sound : AreItems is
  fits : shortest_size is ≤ 16777216
  code_is : code ≡ emitted_from (slice_index places) (set_of longs) 0 text_address is
  marks_is : marks ≡ marked_from (set_of longs) 0 text_address is
  words_are : words ≡ flat_map (bytes_of (slice_index places)) ws

module _ (longs : List Bool) where
  both_code : (place : ℕ → ℕ) (xs ys : List Item) (at jumps : ℕ) (start code code' : List Insn) → start ≡ [] → at ≡ text_address + size_from (set_of longs) 0 xs → jumps ≡ 0 + jumps_in xs → code ≡ start ++ emitted_from place (set_of longs) 0 text_address xs → code' ≡ code ++ emitted_from place (set_of longs) jumps at ys → code' ≡ emitted_from place (set_of longs) 0 text_address (xs ++ ys)
  both_code place xs ys at jumps start code code' e h n i j =
      let s = set_of longs in
      let front = emitted_from place s 0 text_address xs in
      j ∙ ap (λ l. l ++ emitted_from place s jumps at ys) (i ∙ ap (λ l. l ++ front) e)
      ∙ ap (λ a. front ++ emitted_from place s jumps a ys) h ∙ ap (λ k. front ++ emitted_from place s k (text_address + size_from s 0 xs) ys) n
      ∙ sym (emitted_append place s xs ys 0 text_address)

  both_marks : (xs ys : List Item) (at jumps : ℕ) (start marks marks' : List mark.Mark) → start ≡ [] → at ≡ text_address + size_from (set_of longs) 0 xs → jumps ≡ 0 + jumps_in xs → marks ≡ start ++ marked_from (set_of longs) 0 text_address xs → marks' ≡ marks ++ marked_from (set_of longs) jumps at ys → marks' ≡ marked_from (set_of longs) 0 text_address (xs ++ ys)
  both_marks xs ys at jumps start marks marks' e h n i j =
      let s = set_of longs in
      let front = marked_from s 0 text_address xs in
      j ∙ ap (λ l. l ++ marked_from s jumps at ys) (i ∙ ap (λ l. l ++ front) e)
      ∙ ap (λ a. front ++ marked_from s jumps a ys) h ∙ ap (λ k. front ++ marked_from s k (text_address + size_from s 0 xs) ys) n
      ∙ sym (marked_append s xs ys 0 text_address)

record Answer (is : List Item) (ws : List Word) (code : List Insn) (marks : List mark.Mark) (words : List ℕ) : Type 0 where
  stands : AreResolved is ws code marks words
  valid : AllValid code
  shortest : IsLeast (skeleton is) (set_of (jump_forms code))
  exact : IsExact (skeleton is) (set_of (jump_forms code))
  size : length (flat_map spelling code) ≡ shortest_size is

resolved : (is : List Item) (ws : List Word) (code : List Insn) (marks : List mark.Mark) (words places : List ℕ) (longs : List Bool) → Written is ws code marks words places longs → Answer is ws code marks words
resolved is ws code marks words places longs w =
    let place = slice_index places in
    let s = set_of longs in
    let small = small_place places w.small in
    let size = whole_size is longs w.laid.least in
    let low : text_address + size_from s 0 is < 2147483648 = omega (arith, w.fits, size) in
    let c = codes place small s is 0 text_address low w.sound (own_items place s is 0 text_address w.laid.standing) in
    let forms = forms_are place is longs code w.sound w.laid.each w.code_is in
    let least = subst (λ l. IsLeast (skeleton is) (set_of l)) (sym forms) w.laid.least in
    record {
      stands = record {
        place_of = place;
        small = small;
        codes = subst (λ l. Codes place text_address is l marks) (sym w.code_is) (subst (λ l. Codes place text_address is (emitted_from place s 0 text_address is) l) (sym w.marks_is) c);
        bytes = w.words_are;
      };
      valid = subst AllValid (sym w.code_is) (emitted_valid place small s is 0 text_address low w.sound (reach_items place s is 0 text_address w.laid.reach));
      shortest = least;
      exact = exact (skeleton is) (set_of (jump_forms code)) (sound_pieces is) least;
      size = ap (λ l. length (flat_map spelling l)) w.code_is ∙ emitted_size place s is 0 text_address ∙ size;
    }

-- ---- the goals

first_fits : (xs ys : List Item) (longs : List Bool) (bytes : ℕ) → IsLeast (skeleton (xs ++ ys)) (set_of longs) → bytes ≡ shortest_size (xs ++ ys) → bytes ≤ 16777216 → text_address + size_from (set_of longs) 0 xs < 1073741824
first_fits xs ys longs bytes h e le =
    let a = whole_size (xs ++ ys) longs h in
    let b = size_append (set_of longs) xs ys 0 in
    omega (arith, a, b, e, le)

second_fits : (xs ys : List Item) (longs : List Bool) (bytes at jumps : ℕ) → IsLeast (skeleton (xs ++ ys)) (set_of longs) → bytes ≡ shortest_size (xs ++ ys) → bytes ≤ 16777216 → at ≡ text_address + size_from (set_of longs) 0 xs → jumps ≡ 0 + jumps_in xs → at + size_from (set_of longs) jumps ys < 1073741824
second_fits xs ys longs bytes at jumps h e le i j =
    let a = whole_size (xs ++ ys) longs h in
    let b = size_append (set_of longs) xs ys 0 in
    let d = ap (λ k. size_from (set_of longs) k ys) j in
    omega (arith, a, b, d, e, le, i)

first_reaches : (xs ys ws : _) (places : List ℕ) (longs : List Bool) → IsLaidOut (xs ++ ys) ws places longs → ReachFrom (slice_index places) (set_of longs) 0 text_address xs
first_reaches xs ys ws places longs h =
    let place = slice_index places in
    let s = set_of longs in
    reach_front place s xs ys 0 text_address (reach_items place s (xs ++ ys) 0 text_address h.reach)

second_reaches : (xs ys ws : _) (places : List ℕ) (longs : List Bool) (at jumps : ℕ) → IsLaidOut (xs ++ ys) ws places longs → at ≡ text_address + size_from (set_of longs) 0 xs → jumps ≡ 0 + jumps_in xs → ReachFrom (slice_index places) (set_of longs) jumps at ys
second_reaches xs ys ws places longs at jumps h g i =
    let place = slice_index places in
    let s = set_of longs in
    subst (λ k. ReachFrom place s k at ys) (sym i) (subst (λ a. ReachFrom place s (0 + jumps_in xs) a ys) (sym g) (reach_back place s xs ys 0 text_address (reach_items place s (xs ++ ys) 0 text_address h.reach)))

pub emit_all-requires-clause-uses : goal.emit_all-requires-clause-uses
emit_all-requires-clause-uses c = use_front c.args.a.now.items c.args.routines.now.items (length c.in_ok-layout.layout.places.items) c.in_ok-layout.ensures.places.uses

pub emit_all-requires-clause-short : goal.emit_all-requires-clause-short
emit_all-requires-clause-short c =
    first_fits c.args.a.now.items c.args.routines.now.items c.in_ok-layout.layout.longs.items c.in_ok-layout.layout.bytes c.in_ok-layout.ensures.places.least c.in_ok-layout.ensures.bytes c.in_ok-layout.ensures.fits

pub emit_all-requires-clause-reach : goal.emit_all-requires-clause-reach
emit_all-requires-clause-reach c =
    first_reaches c.args.a.now.items c.args.routines.now.items c.args.a.now.words c.in_ok-layout.layout.places.items c.in_ok-layout.layout.longs.items c.in_ok-layout.ensures.places

pub emit_all-requires-2-clause-uses : goal.emit_all-requires-2-clause-uses
emit_all-requires-2-clause-uses c = use_back c.args.a.now.items c.args.routines.now.items (length c.in_ok-layout.layout.places.items) c.in_ok-layout.ensures.places.uses

pub emit_all-requires-2-clause-few : goal.emit_all-requires-2-clause-few
emit_all-requires-2-clause-few c =
    let some = few_jumps c.args.a.now.items in
    omega (arith, some, c.in_ok-layout.ensures.few, c.in_ok-behind.ensures.jumps)

pub emit_all-requires-2-clause-short : goal.emit_all-requires-2-clause-short
emit_all-requires-2-clause-short c =
    second_fits c.args.a.now.items c.args.routines.now.items c.in_ok-layout.layout.longs.items c.in_ok-layout.layout.bytes c.in_ok-behind.behind.at c.in_ok-behind.behind.jumps
    c.in_ok-layout.ensures.places.least c.in_ok-layout.ensures.bytes c.in_ok-layout.ensures.fits c.in_ok-behind.ensures.end c.in_ok-behind.ensures.jumps

pub emit_all-requires-2-clause-reach : goal.emit_all-requires-2-clause-reach
emit_all-requires-2-clause-reach c =
    second_reaches c.args.a.now.items c.args.routines.now.items c.args.a.now.words c.in_ok-layout.layout.places.items c.in_ok-layout.layout.longs.items c.in_ok-behind.behind.at c.in_ok-behind.behind.jumps
    c.in_ok-layout.ensures.places c.in_ok-behind.ensures.end c.in_ok-behind.ensures.jumps

pub returns : goal.returns
returns c =
    let xs = c.args.a.now.items in
    let ys = c.args.routines.now.items in
    let longs = c.in_ok-layout.layout.longs.items in
    let place = slice_index c.in_ok-layout.layout.places.items in
    let behind = c.in_ok-behind.behind in
    let first = c.in_ok-behind.ensures in
    let second = c.in_ok-emit_all.ensures in
    let code = c.emit_all-2.new.code in
    let marks = c.emit_all-2.new.marks in
    let w : Written (xs ++ ys) c.args.a.now.words code marks c.in_ok-words.words c.in_ok-layout.layout.places.items longs = record {
      laid = c.in_ok-layout.ensures.places;
      small = c.in_ok-layout.layout.low;
      sound = sound_append xs ys c.args.a.now.sound c.args.routines.now.sound;
      fits = omega (arith, c.in_ok-layout.ensures.bytes, c.in_ok-layout.ensures.fits);
      code_is = both_code longs place xs ys behind.at behind.jumps c.in_ok-code.code c.emit_all.new.code code c.in_ok-code.ensures first.end first.jumps first.code second.code;
      marks_is = both_marks longs xs ys behind.at behind.jumps c.new-marks.result c.emit_all.new.marks marks c.new-marks.ensures first.end first.jumps first.marks second.marks;
      words_are = c.in_ok-words.ensures ∙ ap (flat_map (bytes_of place)) c.as_slice.ensures;
    } in
    let r = resolved (xs ++ ys) c.args.a.now.words code marks c.in_ok-words.words c.in_ok-layout.layout.places.items longs w in
    let e = r.size in
    record { stands = r.stands; valid = r.valid; shortest = r.shortest; exact = r.exact; as_many = as_many r.stands.place_of text_address (xs ++ ys) code marks r.stands.codes; words = ap length w.words_are ∙ data_length place c.args.a.now.words; zeros = refl; size = r.size; fits = omega (arith, e, w.fits); too_large = tt }
