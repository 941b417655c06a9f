-- Where the name of a symbol is in the data.
use Rattle.std.proofs.Common.{◌≡◌, ℕ, ◌+◌, ◌-◌, ◌*◌, ◌≤◌, List, ◌++◌, length, take, drop}
use Rattle.std.proofs.Common.{Some, sym, ap, ◌∙◌, arith, true}
use Rattle.std.specs.Prelude.{slice_get}
use Rattle.std.proofs.lemmas.List.{drop-drop, take-append-drop}
use Rattle.sch_word.specs.declared.answer.Answer.{Answer}
use Rattle.sch_word.specs.values.Values.{symbol, are_bytes}
use Rattle.sch_word.specs.runs.Computation.{State}
use Rattle.sch_word.proofs.facts.Lists.{get_there, piece_within}
use Rattle.sch_word.specs.runs.Procedures.{Procedure}
use Rattle.sch_word.specs.runs.ProgramLayout.{data_address}
use Rattle.sch_asm.specs.Data.{Inside, PieceAt, word_in}
use Rattle.sch_asm.proofs.Words.{eight_count}
use Rattle.sch_select_memory.specs.Parts.{Parts}
use Rattle.sch_select_memory.specs.Encoded.{IsWord}
use Rattle.sch_select_memory.proofs.heap.Ranges.{piece_in}
use Rattle.sch_select_memory.specs.Addresses.{table_address, names_address}
use Rattle.sch_select_memory.specs.Names.{word_from, IsNamed}
use Rattle.sch_select_memory.proofs.Places.{Plan, heap_above, StoreAt}

-- the bytes of names, where these stand at an address of the data
names_piece : (bytes names : List ℕ) (first a n : ℕ) → take (length names) (drop (first - data_address) bytes) ≡ names
    → data_address ≤ first → first ≤ a → a + n ≤ first + length names
    → piece_in bytes a n ≡ take n (drop (a - first) names)
names_piece bytes names first a n e low le within =
    let k = a - first in
    let at : first - data_address + k ≡ a - data_address = omega (arith, low, le) in
    ap (λ m. take n (drop m bytes)) (sym at) ∙ ap (take n) (sym (drop-drop k (first - data_address) bytes))
    ∙ sym (piece_within (drop (first - data_address) bytes) k n (length names) (omega (arith, le, within)))
    ∙ ap (λ l. take n (drop k l)) e

names_word : (bytes names : List ℕ) (first a : ℕ) → take (length names) (drop (first - data_address) bytes) ≡ names
    → data_address ≤ first → first ≤ a → a + 8 ≤ first + length names → word_in bytes a ≡ word_from names first a
names_word bytes names first a e low le within = eight_count (drop (a - data_address) bytes) (drop (a - first) names)
    (names_piece bytes names first a 8 e low le within)

-- bytes that are known are a piece
pub piece_at : (bytes : List ℕ) (a : ℕ) (piece : List ℕ) → piece_in bytes a (length piece) ≡ piece → data_address ≤ a
    → a + length piece ≤ data_address + length bytes → PieceAt bytes a piece
piece_at bytes a piece e low high = record {
  rest = drop (length piece) (drop (a - data_address) bytes);
  is = sym (take-append-drop (length piece) (drop (a - data_address) bytes))
      ∙ ap (λ l. l ++ drop (length piece) (drop (a - data_address) bytes)) e;
  low = low;
  high = high;
}

module _ (plan : Plan) where
  open plan use {size, literals, globals, symbols, names, heap}

  abbrev pub first_name : ℕ
  first_name = names_address literals globals

  -- The word of a symbol names an entry of a table, which has the address of its name: the length, and the bytes.
  pub record SymbolAt (s : State Procedure) (bytes : List ℕ) (n : ℕ) : Type 0 where
    pub name : List ℕ
    pub is : slice_get s.store.constants.symbols n ≡ Some name
    pub table : word_in bytes table_address ≡ first_name
    pub table_inside : Inside (length bytes) table_address
    pub at : ℕ
    pub entry : word_in bytes (first_name + 8 * n) ≡ at
    pub entry_inside : Inside (length bytes) (first_name + 8 * n)
    pub size_is : word_in bytes at ≡ 8 * length name
    pub size_inside : Inside (length bytes) at
    pub low : first_name ≤ at
    pub high : at + 8 + length name ≤ heap
    pub text : PieceAt bytes (at + 8) name
    pub are_bytes : are_bytes name ≡ true

  pub symbol_at : (parts : Parts) (s : State Procedure) (bytes output : List ℕ) (answers : List Answer) (n x : ℕ)
      → heap ≤ data_address + size → StoreAt plan parts s bytes output answers → IsWord parts (symbol n) x
      → SymbolAt s bytes n
  symbol_at parts s bytes output answers n x top g h =
      let k = g.known in let l = h.2 in
      let f = get_there symbols n (omega (arith, k, l)) in
      let q : IsNamed names first_name n f.0 = plan.named.each n f.0 f.1 in
      let z = g.size_is in let above = heap_above plan in let hi = q.high in let lo = q.low in let p = q.entry_high in
      record {
        name = f.0;
        is = ap (λ l. slice_get l n) g.symbols_are ∙ f.1;
        table = g.table;
        table_inside = record { low = omega arith; high = omega (arith, z, above, top) };
        at = q.at;
        entry = names_word bytes names first_name (first_name + 8 * n) g.names_are (omega arith) (omega arith)
            (omega (arith, p)) ∙ q.pointer;
        entry_inside = record { low = omega arith; high = omega (arith, p, z, above, top) };
        size_is = names_word bytes names first_name q.at g.names_are (omega arith) lo (omega (arith, hi)) ∙ q.size;
        size_inside = record { low = omega (arith, lo); high = omega (arith, hi, z, above, top) };
        low = lo;
        high = omega (arith, hi, above);
        text = piece_at bytes (q.at + 8) f.0
            (names_piece bytes names first_name (q.at + 8) (length f.0) g.names_are (omega arith) (omega (arith, lo))
            (omega (arith, hi)) ∙ q.text) (omega (arith, lo)) (omega (arith, hi, z, above, top));
        are_bytes = q.are_bytes;
      }
