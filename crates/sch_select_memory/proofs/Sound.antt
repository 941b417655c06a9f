-- A test of items that shows that they are valid.
use Rattle.std.proofs.Common.{◌≡◌, ◌≢◌, ℕ, ◌<◌, ◌≤◌, List, [], ◌∷◌, Bool, true, false, refl, arith, ◌==◌, ◌&&◌}
use Rattle.std.specs.Int.{w32, w64}
use Rattle.std.specs.Prelude.{ℤ, pos, negsuc, int_le, not, nat_lt, nat_le, FitsSigned}
use Rattle.std.proofs.lemmas.Bool.{and_parts, ltb-true, leb-true, eqb-false, le-leb}
use Rattle.sch_word.proofs.facts.Booleans.{not_true}
use Rattle.sch_word.specs.runs.ProgramLayout.{data_address}
use Rattle.sch_insn.specs.declared.insn.Arg.{Arg}
use Rattle.sch_insn.specs.declared.insn.Arg.TheVariants.{Reg, Base, Base8, Base32, Rip}
use Rattle.sch_insn.specs.declared.insn.Insn.{Insn}
use Rattle.sch_insn.specs.declared.insn.Insn.TheVariants as insn
use Rattle.sch_insn.specs.Spelling.{IsArg, IsValid, in_memory}
use Rattle.sch_asm.specs.declared.item.Item.{Item}
use Rattle.sch_asm.specs.declared.item.Item.TheVariants as item
use Rattle.sch_asm.specs.Items.{AreItems, IsItem, IsFree, IsPlain}

-- ---- booleans

-- a test that holds may stand in front
pub in_front : (a b : Bool) → a ≡ true → (a && b) ≡ b
in_front true b e = refl
in_front false b e = absurd (let bad : false ≡ true = e in cc)

-- ---- a test of items that do not depend on where they stand

abbrev pub fits_32 : ℤ → Bool
fits_32 n = int_le (negsuc 2147483647) n && int_le n (pos 2147483647)

pub fits_short : (n : ℕ) → n < 2147483648 → fits_32 (pos n) ≡ true
fits_short n lt = le-leb n 2147483647 (omega (arith, lt))

abbrev pub fits_64 : ℤ → Bool
fits_64 n = int_le (negsuc 9223372036854775807) n && int_le n (pos 9223372036854775807)

abbrev pub arg_valid : Arg → Bool
arg_valid (Reg r) = nat_lt r 16
arg_valid (Base32 b d) = nat_lt b 16 && fits_32 d
arg_valid _ = false

abbrev pub insn_valid : Insn → Bool
insn_valid (insn.MovTo m r) = arg_valid m && nat_lt r 16
insn_valid (insn.MovFrom r m) = arg_valid m && nat_lt r 16
insn_valid (insn.MovNumber m n) = arg_valid m && fits_32 n
insn_valid (insn.MovWord r n) = nat_lt r 16 && fits_64 n
insn_valid (insn.StoreByte m r) = (arg_valid m && nat_lt r 16) && in_memory m
insn_valid (insn.LoadByte r m) = (arg_valid m && nat_lt r 16) && in_memory m
insn_valid (insn.AddTo m r) = arg_valid m && nat_lt r 16
insn_valid (insn.SubTo m r) = arg_valid m && nat_lt r 16
insn_valid (insn.CmpTo m r) = arg_valid m && nat_lt r 16
insn_valid (insn.CmpFrom r m) = arg_valid m && nat_lt r 16
insn_valid (insn.AddNumber m n) = arg_valid m && fits_32 n
insn_valid (insn.AndNumber m n) = arg_valid m && fits_32 n
insn_valid (insn.SubNumber m n) = arg_valid m && fits_32 n
insn_valid (insn.CmpNumber m n) = arg_valid m && fits_32 n
insn_valid (insn.Imul r m) = arg_valid m && nat_lt r 16
insn_valid (insn.Idiv m) = arg_valid m
insn_valid insn.Cqo = true
insn_valid (insn.Shl m k) = arg_valid m && nat_lt k 64
insn_valid (insn.Shr m k) = arg_valid m && nat_lt k 64
insn_valid (insn.Sar m k) = arg_valid m && nat_lt k 64
insn_valid (insn.JumpTo m) = arg_valid m
insn_valid _ = false

abbrev pub item_valid : Item → Bool
item_valid (item.Label l) = true
item_valid (item.Plain i) = insn_valid i
item_valid (item.Jump l) = true
item_valid (item.JumpIf c l) = nat_lt c 16 && (not (c == 10) && not (c == 11))
item_valid (item.LoadLabel r l) = nat_lt r 16
item_valid (item.LoadWord r a) = nat_lt r 16 && (nat_le data_address a && nat_le a 0x7FFFFFF8)
item_valid (item.StoreWord a r) = nat_lt r 16 && (nat_le data_address a && nat_le a 0x7FFFFFF8)
item_valid (item.Mark m) = true

abbrev pub items_valid : List Item → Bool
items_valid [] = true
items_valid (i ∷ is) = item_valid i && items_valid is

fits_says : (n : ℤ) → fits_32 n ≡ true → FitsSigned w32 n
fits_says (pos k) e = let lt : k ≤ 2147483647 = leb-true k 2147483647 e in record { sfits = omega (arith, lt) }
fits_says (negsuc k) e = let lt : k ≤ 2147483647 = leb-true k 2147483647
    (and_parts (int_le (negsuc 2147483647) (negsuc k)) (int_le (negsuc k) (pos 2147483647)) e).0 in record
    { sfits = omega (arith, lt) }

fits_says_64 : (n : ℤ) → fits_64 n ≡ true → FitsSigned w64 n
fits_says_64 (pos k) e = let lt : k ≤ 9223372036854775807 = leb-true k 9223372036854775807 e in record
    { sfits = omega (arith, lt) }
fits_says_64 (negsuc k) e = let lt : k ≤ 9223372036854775807 = leb-true k 9223372036854775807
    (and_parts (int_le (negsuc 9223372036854775807) (negsuc k)) (int_le (negsuc k) (pos 9223372036854775807)) e).0 in
    record { sfits = omega (arith, lt) }

arg_says : (m : Arg) → arg_valid m ≡ true → IsArg m × IsFree m
arg_says (Reg r) e = (ltb-true r 16 e, tt)
arg_says (Base32 b d) e = let p = and_parts (nat_lt b 16) (fits_32 d) e in ((ltb-true b 16 p.0, fits_says d p.1), tt)
arg_says (Base8 b d) e = absurd (let bad : false ≡ true = e in cc)
arg_says (Base b) e = absurd (let bad : false ≡ true = e in cc)
arg_says (Rip d) e = absurd (let bad : false ≡ true = e in cc)

with_register : (m : Arg) (r : ℕ) → (arg_valid m && nat_lt r 16) ≡ true → (IsArg m × (r < 16)) × IsFree m
with_register m r e = let p = and_parts (arg_valid m) (nat_lt r 16) e in let a = arg_says m p.0 in
    ((a.0, ltb-true r 16 p.1), a.1)

with_byte : (m : Arg) (r : ℕ) → ((arg_valid m && nat_lt r 16) && in_memory m) ≡ true
    → (IsArg m × (r < 16) × (in_memory m ≡ true)) × IsFree m
with_byte m r e =
    let p = and_parts (arg_valid m && nat_lt r 16) (in_memory m) e in
    let w = with_register m r p.0 in
    ((w.0.0, w.0.1, p.1), w.1)

with_number : (m : Arg) (n : ℤ) → (arg_valid m && fits_32 n) ≡ true → (IsArg m × FitsSigned w32 n) × IsFree m
with_number m n e = let p = and_parts (arg_valid m) (fits_32 n) e in let a = arg_says m p.0 in
    ((a.0, fits_says n p.1), a.1)

with_count : (m : Arg) (k : ℕ) → (arg_valid m && nat_lt k 64) ≡ true → (IsArg m × (k < 64)) × IsFree m
with_count m k e = let p = and_parts (arg_valid m) (nat_lt k 64) e in let a = arg_says m p.0 in
    ((a.0, ltb-true k 64 p.1), a.1)

insn_says : (i : Insn) → insn_valid i ≡ true → IsValid i × IsPlain i
insn_says (insn.MovTo m r) e = with_register m r e
insn_says (insn.MovFrom r m) e = with_register m r e
insn_says (insn.MovNumber m n) e = with_number m n e
insn_says (insn.MovWord r n) e = let p = and_parts (nat_lt r 16) (fits_64 n) e in
    ((ltb-true r 16 p.0, fits_says_64 n p.1), tt)
insn_says (insn.StoreByte m r) e = with_byte m r e
insn_says (insn.LoadByte r m) e = with_byte m r e
insn_says (insn.AddTo m r) e = with_register m r e
insn_says (insn.SubTo m r) e = with_register m r e
insn_says (insn.CmpTo m r) e = with_register m r e
insn_says (insn.CmpFrom r m) e = with_register m r e
insn_says (insn.AddNumber m n) e = with_number m n e
insn_says (insn.AndNumber m n) e = with_number m n e
insn_says (insn.SubNumber m n) e = with_number m n e
insn_says (insn.CmpNumber m n) e = with_number m n e
insn_says (insn.Imul r m) e = with_register m r e
insn_says (insn.Idiv m) e = arg_says m e
insn_says insn.Cqo e = (tt, tt)
insn_says (insn.Shl m k) e = with_count m k e
insn_says (insn.Shr m k) e = with_count m k e
insn_says (insn.Sar m k) e = with_count m k e
insn_says (insn.JumpTo m) e = arg_says m e
insn_says _ e = absurd (let bad : false ≡ true = e in cc)

differs : (c k : ℕ) → not (c == k) ≡ true → c ≢ k
differs c k e = eqb-false c k (not_true (c == k) e)

item_says : (i : Item) → item_valid i ≡ true → IsItem i
item_says (item.Label l) e = tt
item_says (item.Plain i) e = insn_says i e
item_says (item.Jump l) e = tt
item_says (item.JumpIf c l) e =
    let p = and_parts (nat_lt c 16) (not (c == 10) && not (c == 11)) e in
    let q = and_parts (not (c == 10)) (not (c == 11)) p.1 in
    (ltb-true c 16 p.0, differs c 10 q.0, differs c 11 q.1)
item_says (item.LoadLabel r l) e = ltb-true r 16 e
item_says (item.LoadWord r a) e =
    let p = and_parts (nat_lt r 16) (nat_le data_address a && nat_le a 0x7FFFFFF8) e in
    let q = and_parts (nat_le data_address a) (nat_le a 0x7FFFFFF8) p.1 in
    (ltb-true r 16 p.0, (leb-true data_address a q.0, leb-true a 0x7FFFFFF8 q.1))
item_says (item.StoreWord a r) e =
    let p = and_parts (nat_lt r 16) (nat_le data_address a && nat_le a 0x7FFFFFF8) e in
    let q = and_parts (nat_le data_address a) (nat_le a 0x7FFFFFF8) p.1 in
    (ltb-true r 16 p.0, (leb-true data_address a q.0, leb-true a 0x7FFFFFF8 q.1))
item_says (item.Mark m) e = tt

pub items_say : (is : List Item) → items_valid is ≡ true → AreItems is
items_say [] e = tt
items_say (i ∷ is) e = let p = and_parts (item_valid i) (items_valid is) e in (item_says i p.0, items_say is p.1)
