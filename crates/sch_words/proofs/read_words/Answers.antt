use Rattle.std.proofs.Common.{ap, length, map, None, refl, Some, subst, sym, [], arith, inl, inr, ◌∙◌, ◌∷◌, ◌≡◌}
use Rattle.std.specs.Prelude.{string_bytes, ◌⊎◌}
use Rattle.std.proofs.lemmas.Bool.{false≢true}
use Rattle.clap.specs.Words.{IsAmong, Kinds, app_of, fault_of, is_simple, is_simple_and_free, matches_of}
use Rattle.clap.specs.contracts.error.kind.ErrorKind.{the_type}
use Rattle.clap.specs.declared.error.kind.ErrorKind.{ErrorKind}
use Rattle.clap.specs.declared.error.kind.ErrorKind.TheVariants.{OutOfMemory}
use denote.Enum.Bare.{sameb}
use Rattle.sch_words.specs.GivenTexts.{Texts}
use Rattle.sch_words.specs.SimpleCommand.{schc, texts_of_rows, unless_faulty}
use Rattle.sch_words.proofs.PlainIsClap.{plain_is_clap}
use Rattle.sch_words.proofs.WordKinds.{strings_are_utf8}
use Rattle.sch_words.proofs.read_words.Goals as goal

-- ---- texts

without_fault : (read texts : Texts) → read ≡ texts → (faults : Kinds) → faults ≡ [] → Some read ≡ unless_faulty faults texts
without_fault read texts e [] none = ap (λ (x : Texts). Some x) e
without_fault read texts e (k ∷ ks) none = let bad : length (k ∷ ks) ≡ 0 = ap length none in absurd (omega arith)

pub returns-in-Ok : goal.returns-in-Ok
returns-in-Ok c =
    let app : app_of c.in_ok-command.command ≡ schc = c.in_ok-command.ensures in
    let words = map string_bytes c.args.words.now in
    let rows = (c.in-Ok.ensures.matches (ap is_simple app)).0 ∙ ap (λ a. matches_of a words) app in
    let none = sym (ap (λ a. fault_of a words) app) ∙ c.in-Ok.ensures.kinds (ap is_simple_and_free app) in
    let texts = c.words_in.ensures ∙ ap texts_of_rows rows in
    let clap = without_fault _ (texts_of_rows (matches_of schc words)) texts (fault_of schc words) none in
    record { clap = clap; plain = clap ∙ plain_is_clap words (strings_are_utf8 c.args.words.now) }

-- ---- a refusal

-- an error is out of memory, or has one of the faults
abbrev HasKindOf : Kinds → ErrorKind → Type 0
HasKindOf faults kind = (kind ≡ OutOfMemory) ⊎ IsAmong kind faults

refused : {X : Type 0} (kind : ErrorKind) (faults : Kinds) (answer : X) → (kind ≡ OutOfMemory → ⊥) → HasKindOf faults kind → None ≡ unless_faulty faults answer
refused kind [] answer not_memory (inl e) = absurd (not_memory e)
refused kind [] answer not_memory (inr none) = elim none [ ]
refused kind (k ∷ ks) answer not_memory has = refl

pub returns : goal.returns
returns c =
    let app : app_of c.in_ok-command.command ≡ schc = c.in_ok-command.ensures in
    let words = map string_bytes c.args.words.now in
    let kinds = c.in-Err.ensures.kinds (ap is_simple_and_free app) in
    let not_memory : c.in-Err.error.kind ≡ OutOfMemory → ⊥ = (λ e. false≢true (sym c.if-eq.false ∙ c.eq.ensures ∙ ap (λ k. sameb the_type k OutOfMemory) (c.kind.ensures ∙ e))) in
    let has = subst (λ (faults : Kinds). HasKindOf faults c.in-Err.error.kind) (ap (λ a. fault_of a words) app) kinds in
    let clap = refused c.in-Err.error.kind (fault_of schc words) (texts_of_rows (matches_of schc words)) not_memory has in
    record { clap = clap; plain = clap ∙ plain_is_clap words (strings_are_utf8 c.args.words.now) }
