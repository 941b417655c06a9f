-- What is written by the tables of a body is its layout.
use Rattle.std.proofs.Common.{◌≡◌, ℕ, List, [], Option, None, length, ap, ◌∙◌}
use Rattle.sch_word.specs.declared.place.Place.{Place}
use Rattle.sch_control.specs.declared.body.Entry.{Entry}
use Rattle.sch_control.specs.Meaning.{no_region}
use Rattle.sch_control.specs.Tree.{Expression}
use Rattle.sch_frames.specs.declared.instruction.Instruction.{Instruction}
use Rattle.sch_frames.specs.Tree.{Code}
use Rattle.sch_layout.specs.BodyLayout.{Plan, entering, labels, lay}
use Rattle.sch_homes.specs.Homes.{first_home, has_home, homes_code, homes_end, homes_plan, homes_words}
use Rattle.sch_homes.specs.HomeTable.{home_slots, table_plan}
use Rattle.sch_homes.proofs.TablePlan.{table_is}

abbrev code_from : Option Entry → (words labels : ℕ) → List Instruction → Code
code_from entry words labels instructions = record { entry = entry; words = words; labels = labels; instructions = instructions }

module _ (entry : Option Entry) (e : Expression) (places : List Place) where
  abbrev laid : Plan → List Instruction
  laid plan = entering plan entry (lay plan e no_region 0 None [])

  pub whole_frame : (end words count : ℕ) (read : List Place) (homes : List (Option ℕ)) (instructions : List Instruction)
      → read ≡ places → end ≡ homes_end entry e places → words ≡ homes_words entry e places
      → homes ≡ home_slots (first_home entry e places) (has_home entry e places) (length places)
      → instructions ≡ laid (table_plan end read homes) → count ≡ labels e → code_from entry words count instructions ≡ homes_code entry e places
  whole_frame end words count read homes instructions r n w h i l =
      let plan : table_plan end read homes ≡ homes_plan entry e places = ap (λ places. table_plan end places homes) r ∙ table_is entry e places end homes n h in
      ap (code_from entry words count) (i ∙ ap laid plan)
      ∙ (ap (λ n. code_from entry words n (laid (homes_plan entry e places))) l
      ∙ ap (λ words. code_from entry words (labels e) (laid (homes_plan entry e places))) w)
