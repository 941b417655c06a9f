-- How many steps a program takes, by its size.
use Rattle.std.proofs.Common.{◌≡◌, ℕ, zero, suc, ◌+◌, ◌-◌, ◌*◌, ◌≤◌, List, [], ◌∷◌, length, length-append, ap, arith}
use Rattle.std.proofs.Math.Nat.{mul-suc, suc-sub-suc}
use Rattle.sch_word.specs.declared.place.Place.{Place}
use Rattle.sch_control.specs.declared.operation.Member.{Member}
use Rattle.sch_control.specs.declared.operation.Operation.{Operation}
use Rattle.sch_control.specs.declared.operation.Operation.TheVariants as operation
use Rattle.sch_control.specs.AtomsAndSites.{member_atoms, source_atoms}
use Rattle.sch_control.specs.Sizes.{operation_size}
use Rattle.sch_frames.specs.declared.instruction.Instruction.{Instruction}
use Rattle.sch_frames.specs.declared.instruction.Instruction.TheVariants as instruction
use Rattle.sch_frames.specs.Sizes.{closures_in, codes_copies, codes_size, copies_of, grouped, instruction_copies, instruction_size, instructions_size}
use Rattle.sch_frames.specs.Tree.{Code, Source}
use Rattle.sch_select.specs.Sizes.{steps_bound, steps_size}
use Rattle.sch_select.proofs.programs.Bodies.{body_cost, instruction_cost}
use Rattle.sch_select_operations.proofs.simulation.EachOperation.{operation_cost}
use Rattle.sch_select.proofs.programs.Procedures.{bodies_cost}
use Rattle.sch_select_operations.proofs.simulation.Records.{records_cost}
use Rattle.sch_select.proofs.programs.Forms.{forms_cost}
use Rattle.sch_select.proofs.items.TextSize.{grouped_first, sources_counts}

-- ---- instructions and bodies

operation_within : (o : Operation Place) → operation_cost o ≤ 256 * suc (operation_size o)
operation_within (operation.MakeClosure c) = let n = sources_counts c.fields in omega (arith, n)
operation_within (operation.Operand o) = omega arith
operation_within (operation.Prim site which operands) = omega arith
operation_within (operation.Global g) = omega arith
operation_within (operation.SetGlobal g o) = omega arith
operation_within (operation.Field p k) = omega arith
operation_within (operation.NewCell x) = omega arith
operation_within operation.UnsetCell = omega arith
operation_within (operation.CellGet x) = omega arith
operation_within (operation.CellSet x o) = omega arith

records_within : (members : List (Member Place)) → records_cost members ≤ 2 * length members + 3 * length
    (member_atoms members)
records_within [] = omega arith
records_within (m ∷ members) =
    let h = records_within members in let n = sources_counts m.closure.fields in let a = length-append
    (source_atoms m.closure.fields) (member_atoms members) in
    omega (arith, h, n, a)

instruction_within : (i : Instruction) → instruction_cost i ≤ 256 * (instruction_size i + grouped (i ∷ []) + instruction_copies i)
instruction_within (instruction.Do o) = let h = operation_within o in omega (arith, h)
instruction_within (instruction.Fix members spills) = let h = records_within members in omega (arith, h)
instruction_within (instruction.Store p) = omega arith
instruction_within (instruction.Copy to from) = omega arith
instruction_within (instruction.Pass k) = omega arith
instruction_within (instruction.Label l) = omega arith
instruction_within (instruction.Mark m) = omega arith
instruction_within (instruction.Call spread count) = omega arith
instruction_within _ = omega arith

body_within : (is : List Instruction) → body_cost is ≤ 256 * (instructions_size is + grouped is + copies_of is)
body_within [] = omega arith
body_within (i ∷ is) = let h = instruction_within i in let k = body_within is in let g = grouped_first i is in omega
    (arith, h, k, g)

pub bodies_within : (codes : List Code) → bodies_cost codes ≤ 256 * (codes_size codes + closures_in codes + codes_copies codes)
bodies_within [] = omega arith
bodies_within (c ∷ codes) = let h = body_within c.instructions in let k = bodies_within codes in omega (arith, h, k)

pub forms_within : (codes : List Code) → forms_cost codes ≤ 4 + length codes + bodies_cost codes
forms_within [] = omega arith
forms_within (c ∷ codes) = let h = forms_within codes in omega (arith, h)

-- ---- programs

products : (b n w : ℕ) → b * n ≤ b * w + b * (n - w)
products b zero w = let z : zero - w ≡ zero = omega arith in let e = ap (λ k. b * k) z in omega (arith, e)
products b (suc n) zero = let z : suc n - zero ≡ suc n = omega arith in let e = ap (λ k. b * k) z in omega (arith, e)
products b (suc n) (suc w) =
    let h = products b n w in let e = ap (λ k. b * k) (suc-sub-suc n w) in let p = mul-suc b n in let q = mul-suc b w in
    omega (arith, h, e, p, q)

grows : (a b n : ℕ) → a ≤ b → a * n ≤ b * n
grows a b zero le = omega arith
grows a b (suc n) le = let h = grows a b n le in let p = mul-suc a n in let q = mul-suc b n in omega
    (arith, h, p, q, le)

-- what a run pays for is within the bound
pub steps_within : (p : Source) (steps n w answers left charged : ℕ)
    → steps + 1 + (bodies_cost p.bodies * w + 10 * left) ≤ forms_cost p.bodies +
    (bodies_cost p.bodies * n + 10 * answers + 8 * charged)
    → 3 + steps + 1 ≤ steps_bound p (n - w) (answers - left) charged
steps_within p steps n w answers left charged paid =
    let b = bodies_cost p.bodies in
    let m : ℕ = 256 * steps_size p in
    let c = bodies_within p.bodies in let f = forms_within p.bodies in
    let le : b ≤ m = omega (arith, c) in
    let x = products b n w in let y = grows b m (n - w) le in let z = mul-suc m (n - w) in
    omega (arith, paid, c, f, x, y, z)
