-- What is compiled of a text.
use Rattle.std.specs.Prelude.{◌≡◌, ◌<◌, ◌≤◌, ◌+◌, ◌^◌, IsTrue, ℕ, List, length, map}
use Rattle.std.specs.List.{flat_map}
use Rattle.sch_word.specs.runs.ProgramLayout.{data_address, text_address}
use Rattle.sch_insn.specs.Spelling.{spelling}
use Rattle.sch_asm.specs.Stands.{marks_at}
use Rattle.sch_elf.specs.Layout.{memory}
use Rattle.sch_lang.specs.Bodies.{bodies_of}
use Rattle.sch_lang.specs.Run.{run}
use Rattle.sch_lang.specs.Tree as tree
use Rattle.sch_control.specs.Tree as control
use Rattle.sch_frames.specs.Standing.{all_marks_stand}
use Rattle.sch_frames.specs.Valid.{max_words}
use Rattle.sch_registers.specs.MadeFrom.{AreMadeFrom}
use Rattle.sch_registers.specs.Registers.{all_calls, registers_code, registers_orders, registers_words}
use Rattle.sch_select_data.specs.Data.{heap_of}
use Rattle.sch_select.specs.Ends.{EndsWithin}
use Rattle.sch_select.specs.Program.{frames_bytes, max_stack, stack_bytes}
use Rattle.sch_select.specs.Sizes.{kinds_of}
use Rattle.sch_driver.specs.Assembled.{steps_of}
use Rattle.sch_driver.specs.Causes.{Means, frame_bound, text_bound}
use Rattle.sch_driver.specs.FitsProgram.{FitsProgram}
use Rattle.sch_driver.specs.Framed.{IsMarked, framed, framed_size}
use Rattle.sch_listing.specs.declared.listing.Listing.{Listing}
use Rattle.sch_driver.specs.Headline.{IsProgram}
use Rattle.sch_driver.specs.LazySaves.{SavesLazily}
use Rattle.sch_driver.specs.ListedCycles.{listed_cycles}
use Rattle.sch_driver.specs.StoreMarks.{StoresMarked}

-- What is listed is of one control program that fits the core program. At the site of each call the order has what is bound, and
-- then the other parts in the order in which they are moved, and at each other site the one given for it; the cycles are those
-- of the moves of its calls. Of its bodies, laid out by registers, are the words of the largest frame and the marks, in their
-- order, each of which stands at an instruction of its kind. Each body that is laid out is made from its own: this speaks of paths,
-- places and moves, and not of the passes. A number of 32 bits counts the bodies.
pub record AreListed (p : tree.Source) (listing : Listing) : Type 0 where
  pub program : control.Source
  pub fits_program : FitsProgram p program
  pub orders : listing.orders ≡ registers_orders program
  pub cycles : listing.cycles ≡ listed_cycles (all_calls program.bodies)
  pub words : listing.frame_words ≡ registers_words program.bodies
  pub few : length program.bodies < 2 ^ 32
  pub marks : map (λ m. m.kind) listing.marks ≡ kinds_of 0 (map registers_code program.bodies)
  pub stand : IsTrue (all_marks_stand (map registers_code program.bodies))
  pub made : AreMadeFrom program.bodies (map registers_code program.bodies)

-- The file is a program for the core program of a text with a library's, under these limits and the orders that are
-- listed, with bodies of the names that are listed and as many instructions. Its text is as long as that of the control
-- program, and no longer than the size of the core program allows. The words of its data end where the heap begins, and
-- behind them it has room for the heap and for the frames of calls, of the words that are listed. Where a run of the core
-- program has ended, its machine has exited within a bound of steps by the instructions that are listed. The marks that
-- are listed are those of its text and of its runs. Each instruction that writes memory through the frame's register has exactly one
-- mark of a store, and in each activation that has ended a call of its own follows each save, and a call comes before each restore.
pub record IsCompiled (library text : List ℕ) (heap depth : ℕ) (file : List ℕ) (listing : Listing) : Type 0 where
  pub program : tree.Source
  pub means : Means library text program
  pub is_program : IsProgram file program listing.orders heap depth
  pub listed : AreListed program listing
  pub names : listing.bodies ≡ map (λ b. b.name) (bodies_of program)
  pub counted : listing.instructions ≡ length is_program.does.laid_out.code
  pub size : length (flat_map spelling is_program.does.laid_out.code) ≡ framed_size listed.program
  pub bound : length (flat_map spelling is_program.does.laid_out.code) ≤ text_bound program
  pub words_end : data_address + length is_program.does.laid_out.words ≡ heap_of (framed listed.program)
  pub room : is_program.does.laid_out.zeros ≡ heap + stack_bytes listing.frame_words depth
  pub few_words : listing.frame_words ≤ max_words
  pub words_bound : listing.frame_words ≤ frame_bound program
  pub fits : frames_bytes listing.frame_words depth ≤ max_stack
  pub ends : EndsWithin is_program.image.entry (memory is_program.image.segments) (run program listing.orders heap depth)
      (steps_of listing.instructions)
  pub marked : IsMarked is_program.image is_program.does.laid_out.code listing.marks (framed listed.program) heap depth
      (run program listing.orders heap depth)
  pub stores : StoresMarked (marks_at listing.marks) text_address is_program.does.laid_out.code
  pub lazily : SavesLazily is_program.image.entry (memory is_program.image.segments) (marks_at listing.marks)
