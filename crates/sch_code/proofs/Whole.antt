-- What is read is the one instruction whose spelling the bytes begin with.
use Rattle.std.proofs.Common.{◌≡◌, ℕ, ◌≤◌, List, ◌++◌, length, take, Option, Some, None, sym, ap, ◌∙◌}
use Rattle.std.specs.Prelude.{IfSome}
use Rattle.sch_insn.specs.declared.insn.Insn.{Insn}
use Rattle.sch_insn.specs.Spelling.{spelling, IsValid}
use Rattle.sch_insn.specs.Decode.{decode}
use Rattle.sch_insn.proofs.ReadingsAreSpelled.{Bytes, Spelt, decode_back}
use Rattle.sch_insn.proofs.Reading.{decode_spelling}

spelt : (bs : List ℕ) (o : Option (Insn × ℕ)) → Bytes bs → o ≡ decode bs → IfSome o (Spelt bs)
spelt bs None h e = tt
spelt bs (Some p) h e = (decode_back bs h).by p (sym e)

pub valid : (bs : List ℕ) (o : Option (Insn × ℕ)) → Bytes bs → o ≡ decode bs → IfSome o (λ p. IsValid p.0)
valid bs None h e = tt
valid bs (Some p) h e = (spelt bs (Some p) h e).is

pub within : (bs : List ℕ) (o : Option (Insn × ℕ)) → Bytes bs → o ≡ decode bs → IfSome o (λ p. p.1 ≤ length bs)
within bs None h e = tt
within bs (Some p) h e = (spelt bs (Some p) h e).within

pub spelled : (bs : List ℕ) (o : Option (Insn × ℕ)) → Bytes bs → o ≡ decode bs → IfSome o (λ p. take p.1 bs ≡ spelling p.0)
spelled bs None h e = tt
spelled bs (Some p) h e = (spelt bs (Some p) h e).same

pub found : (bs : List ℕ) (o : Option (Insn × ℕ)) → o ≡ decode bs → (i : Insn) (rest : List ℕ) → IsValid i → bs ≡ spelling i ++ rest → o ≡ Some (i, length (spelling i))
found bs o e i rest v s = e ∙ ap decode s ∙ decode_spelling i rest v

pub none : (bs : List ℕ) (o : Option (Insn × ℕ)) → o ≡ decode bs → o ≡ None → (i : Insn) (rest : List ℕ) → IsValid i → bs ≡ spelling i ++ rest → ⊥
none bs o e n i rest v s =
    let p : Insn × ℕ = (i, length (spelling i)) in
    let clash : None ≡ Some p = sym n ∙ found bs o e i rest v s in
    absurd cc
