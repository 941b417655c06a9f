-- What it is for a memory, and for a file, to do what a core program means.
use Rattle.std.specs.Prelude.{◌≡◌, ◌≤◌, ℕ, List, length, IsTrue}
use Rattle.std.specs.List.{flat_map}
use Rattle.sch_word.specs.values.Memory.{Segment}
use Rattle.sch_word.specs.runs.Orders.{is_order_table}
use Rattle.sch_word.specs.runs.ProgramLayout.{max_text_size}
use Rattle.sch_word.specs.trees.Shape.{sites_once}
use Rattle.sch_insn.specs.Spelling.{AllValid, spelling}
use Rattle.sch_insn.specs.declared.insn.Insn.{Insn}
use Rattle.sch_insn.specs.Behaves.{FollowsRuns}
use Rattle.sch_elf.specs.declared.image.Image.{Image}
use Rattle.sch_elf.specs.Layout.{memory}
use Rattle.sch_elf.specs.Program.{IsProgramImage}
use Rattle.sch_elf.specs.Stands.{StandsFor}
use Rattle.sch_elf.specs.Writing.{image_bytes}
use Rattle.sch_lang.specs.Measures.{sites_of}
use Rattle.sch_lang.specs.Tree as tree
use Rattle.sch_lang.specs.Run.{run}

-- A memory that is entered at an address does what a core program means under an order table, with
-- limits of heap, in bytes, and of depth: its runs are those of the program, whatever words it is given
-- and whatever the kernel answers. The sites that the program lists are those of its nodes, each once and with as many parts
-- as its node has, and the table has one permutation for each.
pub record FollowsProgram (entry : ℕ) (segments : List Segment) (p : tree.Source) (table : List (List ℕ)) (heap depth : ℕ) : Type 0 where
  pub runs : FollowsRuns entry segments (run p table heap depth)
  pub sites : IsTrue (sites_once p.sites (sites_of p))
  pub orders : IsTrue (is_order_table p.sites table)

-- The image is laid out as that of a compiled program: its text is the spellings of instructions, one after
-- the other, within the limit on texts, and beside its text and its data there is nothing.
pub record HasProgramLayout (image : Image) : Type 0 where
  pub code : List Insn
  pub valid : AllValid code
  pub short : length (flat_map spelling code) ≤ max_text_size
  pub words : List ℕ
  pub zeros : ℕ
  pub lies : IsProgramImage (flat_map spelling code) words zeros image

-- An image that is laid out so does what a core program means.
pub record IsImageOf (image : Image) (p : tree.Source) (table : List (List ℕ)) (heap depth : ℕ) : Type 0 where
  pub laid_out : HasProgramLayout image
  pub follows : FollowsProgram image.entry (memory image.segments) p table heap depth

-- The file is a program for a core program: it is exactly the bytes of an image that does what the core
-- program means.
pub record IsProgram (file : List ℕ) (p : tree.Source) (table : List (List ℕ)) (heap depth : ℕ) : Type 0 where
  pub image : Image
  pub does : IsImageOf image p table heap depth
  pub bytes : file ≡ image_bytes image
  pub stands : StandsFor file image
