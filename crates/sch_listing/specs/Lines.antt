-- The lines of a listing's text. Numbers are in decimal, addresses in 8 hexadecimal digits in lower case.
use Rattle.std.specs.Prelude.{◌<◌, ◌^◌, ℕ, suc, List, [], ◌∷◌, ◌++◌, codes, get_or, All}
use Rattle.std.specs.Fmt.{decimal}
use Rattle.std.specs.Int.{w32, to_be_bytes}
use Rattle.hex.specs.Hex.{encode_lower}
use Rattle.sch_word.specs.declared.mark.MarkKind.{MarkKind}
use Rattle.sch_word.specs.declared.mark.MarkKind.TheVariants.{Enter, Save, Restore, Spill, Temp, Argument, Call, Return, Tail}
use Rattle.sch_word.specs.declared.place.Place.{Place}
use Rattle.sch_word.specs.declared.place.Place.TheVariants.{Reg, Slot}
use Rattle.sch_asm.specs.declared.item.Mark.{Mark}
use Rattle.sch_listing.specs.declared.listing.Cycle.{Cycle}

-- ---- numbers

abbrev pub address_text : ℕ → List ℕ
address_text address = encode_lower (to_be_bytes w32 address)

-- numbers, each behind a space
abbrev pub numbers_text : List ℕ → List ℕ
numbers_text [] = []
numbers_text (number ∷ more) = codes " " ++ (decimal number ++ numbers_text more)

unfoldable pub number_line : (word : List ℕ) → (number : ℕ) → List ℕ
number_line word number = word ++ (codes " " ++ (decimal number ++ codes "\n"))

-- ---- the head: what the text is, and how many words the largest frame and how many instructions the program has

unfoldable pub head_text : (frame_words instructions : ℕ) → List ℕ
head_text frame_words instructions =
    codes "schc listing 1\n" ++ (number_line (codes "frame") frame_words ++ number_line (codes "instructions") instructions)

-- ---- a line for each body, with its number and its name, from the first of these numbers on

abbrev pub body_line : (number : ℕ) → (name : List ℕ) → List ℕ
body_line number name = codes "body " ++ (decimal number ++ (codes " " ++ (name ++ codes "\n")))

abbrev pub bodies_text : (first : ℕ) → List (List ℕ) → List ℕ
bodies_text first [] = []
bodies_text first (name ∷ more) = body_line first name ++ bodies_text (suc first) more

-- ---- a line for each site, with the order of its parts

abbrev pub order_line : (site : ℕ) → (order : List ℕ) → List ℕ
order_line site order = codes "order " ++ (decimal site ++ (codes ":" ++ (numbers_text order ++ codes "\n")))

abbrev pub orders_text : (first : ℕ) → List (List ℕ) → List ℕ
orders_text first [] = []
orders_text first (order ∷ more) = order_line first order ++ orders_text (suc first) more

-- ---- a line for each cycle, with its places

-- the names of the registers, by their numbers (SDM, volume 2, 3.1.1.1)
abbrev pub register_names : List (List ℕ)
register_names =
    codes "rax" ∷ codes "rcx" ∷ codes "rdx" ∷ codes "rbx" ∷ codes "rsp" ∷ codes "rbp" ∷ codes "rsi" ∷ codes "rdi"
    ∷ codes "r8" ∷ codes "r9" ∷ codes "r10" ∷ codes "r11" ∷ codes "r12" ∷ codes "r13" ∷ codes "r14" ∷ codes "r15" ∷ []

abbrev pub register_name : ℕ → List ℕ
register_name register = get_or register_names register []

abbrev pub place_text : Place → List ℕ
place_text (Reg register) = register_name register
place_text (Slot slot) = codes "slot" ++ decimal slot

-- places, each behind a space
abbrev pub places_text : List Place → List ℕ
places_text [] = []
places_text (place ∷ more) = codes " " ++ (place_text place ++ places_text more)

abbrev pub cycle_line : Cycle → List ℕ
cycle_line cycle = codes "cycle " ++ (decimal cycle.site ++ (codes ":" ++ (places_text cycle.places ++ codes "\n")))

abbrev pub cycles_text : List Cycle → List ℕ
cycles_text [] = []
cycles_text (cycle ∷ more) = cycle_line cycle ++ cycles_text more

-- a register that has a name, or a slot
abbrev pub IsListedPlace : Place → Type 0
IsListedPlace (Reg register) = register < 16
IsListedPlace (Slot slot) = Unit {0}

abbrev pub IsListedCycle : Cycle → Type 0
IsListedCycle cycle = All IsListedPlace cycle.places

-- ---- a line for each mark, with its address and its kind

abbrev pub kind_text : MarkKind → List ℕ
kind_text (Enter body) = codes "enter " ++ decimal body
kind_text (Save variable) = codes "save " ++ decimal variable
kind_text (Restore variable) = codes "restore " ++ decimal variable
kind_text (Spill variable) = codes "spill " ++ decimal variable
kind_text Temp = codes "temp"
kind_text Argument = codes "argument"
kind_text (Call site) = codes "call " ++ decimal site
kind_text Return = codes "return"
kind_text (Tail site) = codes "tail " ++ decimal site

abbrev pub mark_line : Mark → List ℕ
mark_line mark = codes "mark " ++ (address_text mark.address ++ (codes " " ++ (kind_text mark.kind ++ codes "\n")))

abbrev pub marks_text : List Mark → List ℕ
marks_text [] = []
marks_text (mark ∷ more) = mark_line mark ++ marks_text more

-- its address has at most 8 hexadecimal digits
abbrev pub IsListedMark : Mark → Type 0
IsListedMark mark = mark.address < 2 ^ 32
