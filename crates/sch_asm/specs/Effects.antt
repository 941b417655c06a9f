-- What each run-time routine does to a machine that enters it, and in how many steps.
use Rattle.std.specs.Prelude.{◌≡◌, ℕ, ◌+◌, ◌-◌, ◌*◌, ◌%◌, ◌^◌, ◌<◌, ◌≤◌, List, [], ◌++◌, length, take, drop, replicate, Bool, true, false, ℤ}
use Rattle.std.specs.Fmt.{signed_decimal}
use Rattle.sch_word.specs.declared.answer.Answer.{Answer}
use Rattle.sch_word.specs.runs.ProgramLayout.{data_address}
use Rattle.sch_word.specs.trees.NumberSets.{has}
use Rattle.sch_word.specs.values.Put.{put}
use Rattle.sch_word.specs.runs.Stops.{status_of}
use Rattle.sch_word.specs.declared.registers.TheConstants.{RAX, RCX, RDX, R11, SCRATCH_REGISTERS}
use Rattle.sch_word.specs.declared.stop.Stop.TheVariants.{OutputFailed}
use Rattle.sch_insn.specs.Step.{Exited, step}
use Rattle.sch_asm.specs.declared.item.Item.{Item}
use Rattle.sch_asm.specs.declared.routine.TheConstants.{OWN_WORDS}
use Rattle.sch_asm.specs.declared.routine.Routine.{Routine}
use Rattle.sch_asm.specs.declared.routine.Routine.TheVariants.{End, Stop, Put, PutFixnum, FillWords, FillBytes, PutValue, NewVector, NewString, NewList}
use Rattle.sch_asm.specs.Stands.{Setting, Stands}
use Rattle.sch_asm.specs.Data.{FixnumWord, PieceAt, word_in}
use Rattle.sch_asm.specs.Routines.{label_of}
use Rattle.sch_asm.specs.Views.{View, full, Leads}

-- What the routines whose effect is told here may overwrite.
abbrev pub is_scratch : ℕ → Bool
is_scratch r = has r SCRATCH_REGISTERS

-- the bytes of the routines' own words, with which the data begin
abbrev pub own_size : ℕ
own_size = 8 * OWN_WORDS

-- What a routine needs of a machine: the data have the routines' own words and end below 2^63, and r11 has
-- the address to which the routine returns.
pub record IsReady (x : View) : Type 0 where
  pub own_words : own_size ≤ length x.bytes
  pub within : data_address + length x.bytes < 2 ^ 63
  pub back : x.registers R11 < 2 ^ 64

-- What a fill needs besides: rax has the address a and rdx the count n, and what is filled, `size` bytes from
-- a on, lies in the data behind the routines' own words.
pub record HasRoom (x : View) (a n size : ℕ) : Type 0 where
  pub address_is : x.registers RAX ≡ a
  pub count_is : x.registers RDX ≡ n
  pub low : data_address + own_size ≤ a
  pub high : a + size ≤ data_address + length x.bytes

-- In these bytes of data n words from the address a on are w, and n bytes from a on are b.
abbrev pub AreWords : ℕ → ℕ → ℕ → List ℕ → Type 0
AreWords a n w bytes = (k : ℕ) → k < n → word_in bytes (a + 8 * k) ≡ w

abbrev pub AreBytes : ℕ → ℕ → ℕ → List ℕ → Type 0
AreBytes a n b bytes = take n (drop (a - data_address) bytes) ≡ replicate n b

module _ (setting : Setting) where
  -- The machine exits with a status after an output, past no mark, with these answers left. It takes fewer
  -- steps than the bound and ten for each answer used.
  pub record Stops (x : View) (bound status : ℕ) (output : List ℕ) (left : List Answer) : Type 0 where
    pub last : View
    pub least : ℕ
    pub most : ℕ
    pub leads : Leads setting least most [] x last
    pub few : most + 10 * length left < bound + 10 * length x.answers
    pub exits : step (full setting last) ≡ Exited status (full setting last)
    pub silent : setting.marks last.place ≡ []
    pub output_is : last.output ≡ output
    pub left_is : last.answers ≡ left

  -- The machine comes back to its caller, past no mark, with these answers left. Registers that are no scratch
  -- registers keep their words, and the data keep what is behind the routines' own words. It takes no more
  -- steps than the bound and ten for each answer used.
  pub record Returns (x : View) (bound : ℕ) (output : List ℕ) (left : List Answer) : Type 0 where
    pub y : View
    pub least : ℕ
    pub most : ℕ
    pub leads : Leads setting least most [] x y
    pub few : most + 10 * length left ≤ bound + 10 * length x.answers
    pub at : y.place ≡ x.registers R11
    pub registers : (r : ℕ) → is_scratch r ≡ false → x.registers r < 2 ^ 64 → y.registers r ≡ x.registers r
    pub size : length y.bytes ≡ length x.bytes
    pub others : drop own_size y.bytes ≡ drop own_size x.bytes
    pub output_is : y.output ≡ output
    pub left_is : y.answers ≡ left

  -- The machine comes back to its caller, past no mark, with `size` bytes from the address a on filled.
  -- Registers that are no scratch registers keep their words, and the data keep what lies before and behind.
  -- It takes at least one step and no more than the bound.
  pub record Fills (x : View) (a size bound : ℕ) (AreFilled : List ℕ → Type 0) : Type 0 where
    pub y : View
    pub least : ℕ
    pub most : ℕ
    pub leads : Leads setting least most [] x y
    pub some : 1 ≤ least
    pub few : most ≤ bound
    pub at : y.place ≡ x.registers R11
    pub registers : (r : ℕ) → is_scratch r ≡ false → x.registers r < 2 ^ 64 → y.registers r ≡ x.registers r
    pub size_is : length y.bytes ≡ length x.bytes
    pub before : take (a - data_address) y.bytes ≡ take (a - data_address) x.bytes
    pub filled : AreFilled y.bytes
    pub behind : drop (a + size - data_address) y.bytes ≡ drop (a + size - data_address) x.bytes
    pub output_is : y.output ≡ x.output
    pub left_is : y.answers ≡ x.answers

  -- A put that took the whole piece comes back, and any other is stop 74.
  abbrev pub PutEnds : Bool → View → ℕ → List ℕ → List Answer → Type 0
  PutEnds true x bound output left = Returns x bound output left
  PutEnds false x bound output left = Stops x bound (status_of OutputFailed) output left

  -- A piece is written against the kernel's answers.
  abbrev pub Puts : View → ℕ → List ℕ → Type 0
  Puts x bound piece = PutEnds (put piece x.answers).whole x bound (x.output ++ (put piece x.answers).taken) (put piece x.answers).left

  -- What a routine does from its label on. A piece that is put lies behind the routines' own words. What those do that know
  -- how values are in the machine is said by their items.
  abbrev pub Effect : Routine → View → Type 0
  Effect End x = Stops x 3 0 x.output x.answers
  Effect (Stop s) x = Stops x 3 (status_of s) x.output x.answers
  Effect Put x = (piece : List ℕ) → IsReady x → data_address + own_size ≤ x.registers RAX → x.registers RDX ≡ length piece → PieceAt x.bytes (x.registers RAX) piece → Puts x 20 piece
  Effect PutFixnum x = (n : ℤ) → IsReady x → FixnumWord n (x.registers RAX) → Puts x 167 (signed_decimal n)
  Effect FillWords x = (a n w : ℕ) → IsReady x → HasRoom x a n (8 * n) → x.registers RCX ≡ w → w < 2 ^ 64 → Fills x a (8 * n) (5 * n + 4) (AreWords a n w)
  Effect FillBytes x = (a n b : ℕ) → IsReady x → HasRoom x a n n → x.registers RCX % 256 ≡ b → Fills x a n (5 * n + 4) (AreBytes a n b)
  Effect PutValue x = Unit {0}
  Effect NewVector x = Unit {0}
  Effect NewString x = Unit {0}
  Effect (NewList which) x = Unit {0}

-- Items that do what the routines do, wherever they stand in a text.
pub record AreEffective (items : List Item) : Type 0 where
  pub does : (setting : Setting) (a : ℕ) → Stands setting [] a items → (k : Routine) (x : View) → x.place ≡ setting.place_of (label_of k) → Effect setting k x
