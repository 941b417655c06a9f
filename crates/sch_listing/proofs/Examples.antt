-- Worked lines of a listing's text.
use Rattle.std.proofs.Common.{◌≡◌, [], ◌∷◌, refl}
use Rattle.std.specs.Prelude.{codes}
use Rattle.std.specs.Fmt.{digits}
use Rattle.hex.specs.Hex.{encode_with}
use Rattle.sch_word.specs.declared.mark.MarkKind.TheVariants.{Enter, Save, Restore, Spill, Temp, Argument, Call, Return, Tail}
use Rattle.sch_word.specs.declared.place.Place.TheVariants.{Reg, Slot}
use Rattle.sch_listing.specs.Lines.{address_text, bodies_text, cycle_line, head_text, marks_text, number_line, orders_text, places_text}
use Rattle.sch_listing.specs.ListingText.{listing_text}

heads : head_text 216 120345 ≡ codes "schc listing 1\nframe 216\ninstructions 120345\n"
unfolding digits head_text number_line
heads = refl

-- ---- bodies are counted from 0

bodies : bodies_text 0 (codes "car" ∷ codes "form" ∷ []) ≡ codes "body 0 car\nbody 1 form\n"
unfolding digits
bodies = refl

bodies_go_on : bodies_text 9 (codes "f" ∷ codes "lambda" ∷ []) ≡ codes "body 9 f\nbody 10 lambda\n"
unfolding digits
bodies_go_on = refl

-- ---- sites are counted from 0; one may have no parts

orders : orders_text 0 ((2 ∷ 0 ∷ 11 ∷ []) ∷ [] ∷ []) ≡ codes "order 0: 2 0 11\norder 1:\n"
unfolding digits
orders = refl

-- ---- places

cycle_of_registers : cycle_line (record { site = 4; places = Reg 3 ∷ Reg 8 ∷ [] }) ≡ codes "cycle 4: rbx r8\n"
unfolding digits
cycle_of_registers = refl

cycle_of_slots : cycle_line (record { site = 12; places = Slot 0 ∷ Reg 15 ∷ Slot 107 ∷ [] }) ≡ codes "cycle 12: slot0 r15 slot107\n"
unfolding digits
cycle_of_slots = refl

low_registers : places_text (Reg 0 ∷ Reg 1 ∷ Reg 2 ∷ Reg 3 ∷ Reg 4 ∷ Reg 5 ∷ Reg 6 ∷ Reg 7 ∷ []) ≡ codes " rax rcx rdx rbx rsp rbp rsi rdi"
low_registers = refl

high_registers : places_text (Reg 8 ∷ Reg 9 ∷ Reg 10 ∷ Reg 11 ∷ Reg 12 ∷ Reg 13 ∷ Reg 14 ∷ Reg 15 ∷ []) ≡ codes " r8 r9 r10 r11 r12 r13 r14 r15"
high_registers = refl

-- ---- marks, of each kind

addresses : (address_text 0x40013a ≡ codes "0040013a") × (address_text 0xfedcba98 ≡ codes "fedcba98")
unfolding encode_with
addresses = (refl, refl)

marks :
    marks_text (
    record { address = 0x400000; kind = Enter 0 } ∷ record { address = 0x400004; kind = Save 12 } ∷ record { address = 0x400008; kind = Restore 7 }
    ∷ record { address = 0x40000c; kind = Spill 3 } ∷ record { address = 0x400010; kind = Temp } ∷ record { address = 0x400014; kind = Argument } ∷ []
    )
    ≡ codes "mark 00400000 enter 0\nmark 00400004 save 12\nmark 00400008 restore 7\nmark 0040000c spill 3\nmark 00400010 temp\nmark 00400014 argument\n"
unfolding digits encode_with
marks = refl

marks_of_calls :
    marks_text (record { address = 0x400018; kind = Call 9 } ∷ record { address = 0x40001c; kind = Return } ∷ record { address = 0x400020; kind = Tail 10 } ∷ [])
    ≡ codes "mark 00400018 call 9\nmark 0040001c return\nmark 00400020 tail 10\n"
unfolding digits encode_with
marks_of_calls = refl

-- ---- a whole text

small :
    listing_text (record {
      bodies = codes "form" ∷ [];
      orders = (1 ∷ 0 ∷ []) ∷ [];
      cycles = record { site = 0; places = Reg 8 ∷ Reg 9 ∷ [] } ∷ [];
      frame_words = 2;
      instructions = 31;
      marks = record { address = 0x400000; kind = Enter 0 } ∷ [];
    })
    ≡ codes "schc listing 1\nframe 2\ninstructions 31\nbody 0 form\norder 0: 1 0\ncycle 0: r8 r9\nmark 00400000 enter 0\nend\n"
unfolding digits head_text number_line encode_with
small = refl
