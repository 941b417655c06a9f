-- What is kept, and what is not: the call of the kernel in a segment with each of the rights.
use Rattle.std.proofs.Common.{◌≡◌, [], ◌∷◌, Bool, true, false, Some, None, refl}
use Rattle.sch_word.specs.values.Memory.{Segment}
use Rattle.sch_insn.specs.declared.insn.Insn.TheVariants.{Syscall}
use Rattle.sch_insn.specs.Decode.{escaped_of}
use Rattle.sch_step.specs.Fetched.{fetch_fixed}

abbrev call : (executable writable : Bool) → Segment
call executable writable = record { address = 64; readable = true; writable = writable; executable = executable; bytes = 15 ∷ 5 ∷ [] }

-- In text that cannot be written it is kept, with its length,
kept : fetch_fixed (call true false ∷ []) 64 ≡ Some (Syscall, 2)
unfolding escaped_of
kept = refl

-- though the text may not be read as data,
not_read : fetch_fixed (record { address = 64; readable = false; writable = false; executable = true; bytes = 15 ∷ 5 ∷ [] } ∷ []) 64 ≡ Some (Syscall, 2)
unfolding escaped_of
not_read = refl

-- and whatever another segment holds.
behind_another : fetch_fixed (record { address = 32; readable = true; writable = true; executable = true; bytes = 15 ∷ 5 ∷ [] } ∷ call true false ∷ []) 64 ≡ Some (Syscall, 2)
unfolding escaped_of
behind_another = refl

-- In text that can be written nothing is.
can_be_written : fetch_fixed (call true true ∷ []) 64 ≡ None
can_be_written = refl

no_text : fetch_fixed (call false false ∷ []) 64 ≡ None
no_text = refl

-- In its midst and behind it no instruction stands.
in_its_midst : fetch_fixed (call true false ∷ []) 65 ≡ None
in_its_midst = refl

behind_it : fetch_fixed (call true false ∷ []) 66 ≡ None
behind_it = refl
