-- What is made of bodies whose variables live in registers: what is live after each call, where it is saved, what each call
-- restores, where each variable lives, and how all that lies in a frame.
use Rattle.std.specs.Prelude.{ℕ, List, map}
use Rattle.std.specs.List.{flat_map}
use Rattle.sch_control.specs.Tree as control
use Rattle.sch_control.specs.Tree.{Expression}
use Rattle.sch_frames.specs.Sizes.{frame_words}
use Rattle.sch_frames.specs.Tree.{Code}
use Rattle.sch_homes.specs.Homes.{homes_code}
use Rattle.sch_homes.specs.ListedMoves.{homes_calls}
use Rattle.sch_live.specs.LiveListed.{live_listed}
use Rattle.sch_orders.specs.declared.listed_call.ListedCall.{ListedCall}
use Rattle.sch_orders.specs.ListedTable.{listed_table}
use Rattle.sch_regs.specs.PlaceChoice.{places}
use Rattle.sch_restores.specs.Restores.{eagerly_restored}
use Rattle.sch_saves.specs.LazyRegions.{lazily_saved}

-- the tree of a body with its regions, and with what each call restores
unfoldable pub registers_tree : (variables : ℕ) → Expression → Expression
registers_tree variables e = eagerly_restored variables (lazily_saved variables (live_listed variables e))

-- how a body is laid out
unfoldable pub registers_code : control.Code → Code
registers_code c =
    let e : Expression = registers_tree c.variables c.expression in
    homes_code c.entry e (places c.entry c.variables e)

-- the words that the largest frame of bodies counts with
abbrev pub registers_words : List control.Code → ℕ
registers_words codes = frame_words (map registers_code codes)

-- what is listed of the calls of a body, in the order of its tree
unfoldable pub registers_calls : control.Code → List ListedCall
registers_calls c =
    let e : Expression = registers_tree c.variables c.expression in
    homes_calls c.entry e (places c.entry c.variables e)

-- and of the calls of bodies, one body after the other
abbrev pub all_calls : List control.Code → List ListedCall
all_calls codes = flat_map registers_calls codes

-- the order table of a program: at the site of each call its parts are evaluated as they are moved
abbrev pub registers_orders : control.Source → List (List ℕ)
registers_orders p = listed_table p (all_calls p.bodies)
