-- When a frame body is made from a body. This is said without the functions of the passes that make the one of the other: the
-- frame body is the layout of a tree that is the body's but for its regions and restores, with a place for each variable and
-- with moves at its calls; and of each of these it is said what it is.
use Rattle.std.specs.Prelude.{◌≡◌, ℕ, ◌+◌, ◌<◌, true, List, [], ◌∷◌}
use Rattle.sch_word.specs.declared.place.Place.{Place}
use Rattle.sch_word.specs.declared.place.Place.TheVariants.{Reg}
use Rattle.sch_word.specs.trees.NumberSets.{has}
use Rattle.sch_word.specs.values.Registers.{argument_registers}
use Rattle.sch_control.specs.Tree as control
use Rattle.sch_control.specs.Tree.{Expression}
use Rattle.sch_control.specs.flow.Bare.{erased, unlisted}
use Rattle.sch_control.specs.flow.LiveSets.{HasLiveSets}
use Rattle.sch_word.specs.values.Places.{closure_place, link_place}
use Rattle.sch_control.specs.flow.Places.{arrival, formals_of}
use Rattle.sch_frames.specs.Tree as frames
use Rattle.sch_layout.specs.BodyLayout.{Plan}
use Rattle.sch_layout.specs.Laws.{Laid}
use Rattle.sch_layout.specs.SharedPlaces.{PlacedBody}
use Rattle.sch_paths.specs.Calls.{ListsLive}
use Rattle.sch_paths.specs.Exact.{EagerRestores, LazySaves}
use Rattle.sch_paths.specs.Regions.{regions_stand}
use Rattle.sch_paths.specs.RestoredByPaths.{RestoredByPaths}
use Rattle.sch_regs.specs.Spills.{SlotsWhenFull}
use Rattle.sch_saves.specs.Promises.{EachSaveFollowed}
use Rattle.sch_registers.specs.GreedyCalls.{IsGreedyCall}
use Rattle.sch_control.specs.EachCall.{EachCall}

-- A tree with lazy saves. Each call lists what is live after it, and nothing where no path comes: what some path from there
-- references before it binds it. Regions stand only round the whole and round arms of tests. The region round each of these
-- saves exactly the variables that have, on every path through it, a call after which they are live, but for those that a region
-- round it saves. On each path such a call follows each save.
pub record HasLazySaves (listed : Expression) : Type 0 where
  pub sets : HasLiveSets listed
  pub live : ListsLive listed
  pub stand : regions_stand true listed ≡ true
  pub exact : LazySaves listed
  pub followed : EachSaveFollowed listed

-- Each call restores exactly the variables that a region round it saves, that are live after it, and that some path from there
-- references or saves before the next call: by the cases of expressions, and by paths.
pub record HasEagerRestores (tree : Expression) : Type 0 where
  pub exact : EagerRestores tree
  pub by_paths : RestoredByPaths tree

-- The return address lives in LINK_REGISTER, the closure in CLOSURE_REGISTER, formals where they arrive, and any other variable in
-- one of six registers or in a slot. In a slot it is only where each of the six registers holds another variable that is live
-- directly after its binding.
pub record HasFewSlots (c : control.Code) (tree : Expression) (place : ℕ → Place) : Type 0 where
  pub link : place 0 ≡ link_place
  pub closure : place 1 ≡ closure_place
  pub formals : (k : ℕ) → k < formals_of c.entry → place (2 + k) ≡ arrival k
  pub others : (x r : ℕ) → 1 < x → x < c.variables → place x ≡ Reg r → has r argument_registers ≡ true
  pub spills : SlotsWhenFull place tree

-- a frame body is made from a body
pub record IsMadeFrom (c : control.Code) (f : frames.Code) : Type 0 where
  -- the tree with regions and with what is live after each call, and the same with what each call restores
  pub listed : Expression
  pub tree : Expression
  -- where each variable lives, where it is saved, and the moves of each call
  pub plan : Plan
  pub body : erased tree ≡ c.expression
  pub alike : unlisted listed ≡ unlisted tree
  pub saves : HasLazySaves listed
  pub restores : HasEagerRestores tree
  pub places : HasFewSlots c tree plan.place
  -- Variables that are live at once live apart, what is saved is apart from them, and the moves of each call bring each argument to
  -- its target and hurt nothing that is live or saved.
  pub placed : PlacedBody plan c.entry tree
  -- they are those of a greedy shuffle
  pub moves : EachCall (IsGreedyCall plan) tree
  pub laid : Laid c plan tree f

-- the frame bodies of a program are made from its bodies, in their order
abbrev pub AreMadeFrom : List control.Code → List frames.Code → Type 0
AreMadeFrom [] [] = Unit {0}
AreMadeFrom (c ∷ cs) (f ∷ fs) = IsMadeFrom c f × AreMadeFrom cs fs
AreMadeFrom _ _ = ⊥
