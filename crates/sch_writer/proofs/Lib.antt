mod LoopTurns
mod WholeLayout
mod FewOperandRows
