-- The causes of the statuses exclude one another.
use Rattle.std.proofs.Common.{◌≡◌, ◌≢◌, ◌≤◌, ◌<◌, ℕ, true, List, length, refl, sym, ap, ◌∙◌, subst, arith, Result, Ok, Err}
use Rattle.std.specs.Prelude.{⊤, nat_lt}
use Rattle.std.proofs.lemmas.Bool.{lt-ltb}
use Rattle.sch_word.specs.runs.ProgramLayout.{max_text_size}
use Rattle.sch_insn.proofs.Reading.{not_below}
use Rattle.sch_lang.specs.Tree.{Source}
use Rattle.sch_prelude.specs.LibraryText.{library_text}
use Rattle.sch_read.specs.Grammar.{Data}
use Rattle.sch_read.specs.Text.{Spells}
use Rattle.sch_read.specs.declared.error.ReadError.{ReadError}
use Rattle.sch_read.proofs.texts.TextAnswers.{spells_one, fault_one}
use Rattle.sch_core.specs.Answer as expanding
use Rattle.sch_core.specs.declared.error.CoreError.{CoreError}
use Rattle.sch_core.specs.declared.error.CoreError.TheVariants as core
use Rattle.sch_core.specs.Libraries.{IsLibraryError}
use Rattle.sch_core.specs.Programs.{IsProgramOf}
use Rattle.sch_core.proofs.DataLaws.{one_error, one_program}
use Rattle.sch_core.proofs.items.LibraryLaws as definitions
use Rattle.sch_link_tables.specs.Programs.{Definition}
use Rattle.sch_select.specs.Program.{frames_bytes, max_stack}
use Rattle.sch_driver.specs.Causes.{IsLibraryText, IsLibraryErrorOf, IsReadErrorOf, IsStackTooLarge, IsTextTooLarge, Means, frame_words_of, max_source_size, text_bytes_of}
use Rattle.sch_driver.specs.Compiled.{IsCompiled}
use Rattle.sch_driver.specs.declared.error.CompileError.TheVariants as compiling
use Rattle.sch_driver.specs.declared.error.Part.TheVariants.{Library, User}
use Rattle.sch_listing.specs.declared.listing.Listing.{Listing}
use Rattle.sch_driver.proofs.Meanings.{same_library}
use Rattle.sch_driver.proofs.SmallTexts.{error_of, expandable, definable, read_fault, readable}
use Rattle.sch_driver.proofs.Sizes.{bytes_of, frame_is, stack_fits, text_fits}
use Rattle.sch_cli.specs.declared.failure.Failure.{Failure}
use Rattle.sch_cli.specs.declared.failure.Failure.TheVariants as failure
use Rattle.sch_cli.specs.Laws.{IsVerdict, built, by_size, refused}

-- ---- errors

one_read : (text : List ℕ) (e e' : ReadError) → IsReadErrorOf text e → IsReadErrorOf text e' → e ≡ e'
one_read text e e' h k =
    let f = read_fault text e h in
    let g = read_fault text e' k in
    f.2 ∙ ap error_of (fault_one text f.0 g.0 f.1 g.1) ∙ sym g.2

-- ---- what is found in the text of a library

data InLibrary (library : List ℕ) : Result ⊤ Failure → Type 0 where
  unread : (e : ReadError) → IsReadErrorOf library e → InLibrary library (Err (failure.Compile (compiling.Read Library e)))
  undefined : (e : CoreError) → IsLibraryErrorOf library e → InLibrary library (Err (failure.Compile (compiling.Core Library e)))

one_in_library : (library : List ℕ) (one two : Result ⊤ Failure) → InLibrary library one → InLibrary library two → one ≡ two
one_in_library library _ _ (unread e h) (unread e' k) = ap (λ x. Err (failure.Compile (compiling.Read Library x))) (one_read library e e' h k)
one_in_library library _ _ (unread e h) (undefined e' k) = absurd (readable library k.items e k.spells h)
one_in_library library _ _ (undefined e h) (unread e' k) = absurd (readable library h.items e' h.spells k)
one_in_library library _ _ (undefined e h) (undefined e' k) =
    ap (λ x. Err (failure.Compile (compiling.Core Library x)))
    (definitions.one_error h.items e e' h.known k.known h.wrong
    (subst (λ items. IsLibraryError items e') (sym (spells_one library h.items k.items h.spells k.spells)) k.wrong))

no_library : (library : List ℕ) (ds : List Definition) (verdict : Result ⊤ Failure) → IsLibraryText library ds → InLibrary library verdict → ⊥
no_library library ds _ l (unread e h) = readable library l.items e l.spells h
no_library library ds _ l (undefined e h) = definable library ds e l h

-- ---- what is found in a text

-- with the definitions of a library, compiled for a depth
data InUser (ds : List Definition) (text : List ℕ) (depth : ℕ) : Result ⊤ Failure → Type 0 where
  faulty : (e : ReadError) → IsReadErrorOf text e → InUser ds text depth (Err (failure.Compile (compiling.Read User e)))
  wrong : (e : CoreError) → e ≢ core.Memory → (items : Data) → Spells text items → expanding.IsErrorIn ds items e → InUser ds text depth (Err (failure.Compile (compiling.Core User e)))
  right : (verdict : Result ⊤ Failure) (items : Data) → Spells text items → (p : Source) → IsProgramOf ds items p → verdict ≡ by_size p depth → InUser ds text depth verdict

one_in_user : (ds : List Definition) (text : List ℕ) (depth : ℕ) (one two : Result ⊤ Failure) → InUser ds text depth one → InUser ds text depth two → one ≡ two
one_in_user ds text depth _ _ (faulty e h) (faulty e' k) = ap (λ x. Err (failure.Compile (compiling.Read User x))) (one_read text e e' h k)
one_in_user ds text depth _ _ (faulty e h) (wrong e' n items a k) = absurd (readable text items e a h)
one_in_user ds text depth _ _ (faulty e h) (right v items a p is q) = absurd (readable text items e a h)
one_in_user ds text depth _ _ (wrong e n items a h) (faulty e' k) = absurd (readable text items e' a k)
one_in_user ds text depth _ _ (wrong e n items a h) (wrong e' n' xs b k) =
    ap (λ x. Err (failure.Compile (compiling.Core User x)))
    (one_error ds items e e' n n' h (subst (λ zs. expanding.IsErrorIn ds zs e') (sym (spells_one text items xs a b)) k))
one_in_user ds text depth _ _ (wrong e n items a h) (right v xs b p is q) = absurd (expandable ds items xs text e p n a h b is)
one_in_user ds text depth _ _ (right v xs b p is q) (faulty e h) = absurd (readable text xs e b h)
one_in_user ds text depth _ _ (right v xs b p is q) (wrong e n items a h) = absurd (expandable ds items xs text e p n a h b is)
one_in_user ds text depth _ _ (right v xs b p is q) (right w ys c r are s) =
    let same : p ≡ r = one_program ds xs p r is (subst (λ zs. IsProgramOf ds zs r) (sym (spells_one text xs ys b c)) are) in
    q ∙ (ap (λ t. by_size t depth) same ∙ sym s)

-- ---- what is found of both

data InTexts (library text : List ℕ) (depth : ℕ) : Result ⊤ Failure → Type 0 where
  long : max_source_size < length text → InTexts library text depth (Err failure.TooLong)
  first : (verdict : Result ⊤ Failure) → length text ≤ max_source_size → InLibrary library verdict → InTexts library text depth verdict
  second : (verdict : Result ⊤ Failure) → length text ≤ max_source_size → (ds : List Definition) → IsLibraryText library ds → InUser ds text depth verdict → InTexts library text depth verdict

pub both_lengths : (text : List ℕ) → max_source_size < length text → length text ≤ max_source_size → ⊥
both_lengths text g h = omega (arith, g, h)

one_in_texts : (library text : List ℕ) (depth : ℕ) (one two : Result ⊤ Failure) → InTexts library text depth one → InTexts library text depth two → one ≡ two
one_in_texts library text depth _ _ (long g) (long g') = refl
one_in_texts library text depth _ _ (long g) (first r h i) = absurd (both_lengths text g h)
one_in_texts library text depth _ _ (long g) (second r h ds l i) = absurd (both_lengths text g h)
one_in_texts library text depth _ _ (first r h i) (long g) = absurd (both_lengths text g h)
one_in_texts library text depth _ _ (first r h i) (first r' h' i') = one_in_library library r r' i i'
one_in_texts library text depth _ _ (first r h i) (second r' h' ds l i') = absurd (no_library library ds r l i)
one_in_texts library text depth _ _ (second r h ds l i) (long g) = absurd (both_lengths text g h)
one_in_texts library text depth _ _ (second r h ds l i) (first r' h' i') = absurd (no_library library ds r' l i')
one_in_texts library text depth _ _ (second r h ds l i) (second r' h' es m j) =
    one_in_user ds text depth r r' i (subst (λ fs. InUser fs text depth r') (sym (same_library library ds es l m)) j)

-- ---- sizes

above : (a b : ℕ) → a < b → nat_lt a b ≡ true
above a b l = lt-ltb a b l

by_stack : (p : Source) (depth : ℕ) → max_stack < frames_bytes (frame_words_of p) depth → by_size p depth ≡ Err (failure.Compile (compiling.StackTooLarge (frame_words_of p)))
unfolding by_size
by_stack p depth l = rw (above max_stack (frames_bytes (frame_words_of p) depth) l) refl

by_text : (p : Source) (depth : ℕ) → frames_bytes (frame_words_of p) depth ≤ max_stack → max_text_size < text_bytes_of p
    → by_size p depth ≡ Err (failure.Compile (compiling.TextTooLarge (text_bytes_of p)))
unfolding by_size
by_text p depth f l = rw (not_below max_stack (frames_bytes (frame_words_of p) depth) f, above max_text_size (text_bytes_of p) l) refl

by_none : (p : Source) (depth : ℕ) → frames_bytes (frame_words_of p) depth ≤ max_stack → text_bytes_of p ≤ max_text_size → by_size p depth ≡ Ok tt
unfolding by_size
by_none p depth f l = rw (not_below max_stack (frames_bytes (frame_words_of p) depth) f, not_below max_text_size (text_bytes_of p) l) refl

stack_is : (text : List ℕ) (depth words : ℕ) (is : IsStackTooLarge library_text text depth words) → Err (failure.Compile (compiling.StackTooLarge words)) ≡ by_size is.program depth
stack_is text depth words is =
    let w : words ≡ frame_words_of is.program = frame_is is.program words is.frame in
    ap (λ n. Err (failure.Compile (compiling.StackTooLarge n))) w
    ∙ sym (by_stack is.program depth (subst (λ n. max_stack < frames_bytes n depth) w is.large))

text_is : (text : List ℕ) (depth bytes : ℕ) (is : IsTextTooLarge library_text text depth bytes) → Err (failure.Compile (compiling.TextTooLarge bytes)) ≡ by_size is.program depth
text_is text depth bytes is =
    let w : is.words ≡ frame_words_of is.program = frame_is is.program is.words is.frame in
    let b : bytes ≡ text_bytes_of is.program = is.size ∙ bytes_of is.program is.frame.control is.frame.fits_program in
    ap (λ n. Err (failure.Compile (compiling.TextTooLarge n))) b
    ∙ sym (by_text is.program depth (subst (λ n. frames_bytes n depth ≤ max_stack) w is.fits) (subst (λ n. max_text_size < n) b is.large))

-- ---- verdicts

found_meaning : (text : List ℕ) (depth : ℕ) (p : Source) (verdict : Result ⊤ Failure) → length text ≤ max_source_size → Means library_text text p → verdict ≡ by_size p depth
    → InTexts library_text text depth verdict
found_meaning text depth p verdict short m e = second verdict short m.definitions m.defined (right verdict m.items m.spells p m.program e)

found : (text : List ℕ) (depth : ℕ) (verdict : Result ⊤ Failure) → IsVerdict text depth verdict → InTexts library_text text depth verdict
found text depth _ (built verdict p is e) = found_meaning text depth p verdict is.short is.means e
found text depth _ (refused failure.TooLong h v) = long h
found text depth _ (refused (failure.Compile (compiling.Read Library error)) h v) = first (Err (failure.Compile (compiling.Read Library error))) h.0 (unread error h.1)
found text depth _ (refused (failure.Compile (compiling.Core Library error)) h v) = first (Err (failure.Compile (compiling.Core Library error))) h.0 (undefined error h.1)
found text depth _ (refused (failure.Compile (compiling.Read User error)) h v) = second (Err (failure.Compile (compiling.Read User error))) h.0 h.1.0.0 h.1.0.1 (faulty error h.1.1)
found text depth _ (refused (failure.Compile (compiling.Core User error)) h v) =
    let is = h.1 in
    second (Err (failure.Compile (compiling.Core User error))) h.0 is.definitions is.defined (wrong error is.known is.items is.spells is.wrong)
found text depth _ (refused (failure.Compile (compiling.StackTooLarge words)) h v) =
    found_meaning text depth h.1.program (Err (failure.Compile (compiling.StackTooLarge words))) h.0 h.1.means (stack_is text depth words h.1)
found text depth _ (refused (failure.Compile (compiling.TextTooLarge bytes)) h v) =
    found_meaning text depth h.1.program (Err (failure.Compile (compiling.TextTooLarge bytes))) h.0 h.1.means (text_is text depth bytes h.1)
found text depth _ (refused (failure.Compile compiling.Memory) h v) = absurd (v refl)
found text depth _ (refused failure.Memory h v) = absurd (v refl)
found text depth _ (refused failure.ReadFailed h v) = absurd h
found text depth _ (refused failure.WriteFailed h v) = absurd h
found text depth _ (refused failure.ListingFailed h v) = absurd h
found text depth _ (refused (failure.Image error) h v) = absurd h
found text depth _ (refused failure.StepsSpent h v) = absurd h
found text depth _ (refused failure.OutputFailed h v) = absurd h

pub same : (text : List ℕ) (depth : ℕ) (one two : Result ⊤ Failure) → IsVerdict text depth one → IsVerdict text depth two → one ≡ two
same text depth one two h k = one_in_texts library_text text depth one two (found text depth one h) (found text depth two k)

-- a text that is compiled is accepted
pub compiled : (text : List ℕ) (depth heap : ℕ) (file : List ℕ) (listing : Listing) → length text ≤ max_source_size → IsCompiled library_text text heap depth file listing
    → IsVerdict text depth (Ok tt)
compiled text depth heap file listing short c =
    built (Ok tt) c.program (record { short = short; means = c.means })
    (sym (by_none c.program depth (stack_fits library_text text heap depth file listing c) (text_fits library_text text heap depth file listing c)))
