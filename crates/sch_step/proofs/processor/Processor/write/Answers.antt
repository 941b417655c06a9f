use Rattle.std.proofs.Common.{refl, arith}
use Rattle.sch_word.specs.declared.registers.TheConstants.{RDX}
use Rattle.sch_step.proofs.ProcessorSteps.{none_found, one_found, shut_does, write_does}
use Rattle.sch_step.specs.View.{core_of}
use Rattle.sch_step.proofs.processor.Processor.write.Goals as goal

pub returns-in-None-clause-did : goal.returns-in-None-clause-did
returns-in-None-clause-did g c = shut_does (core_of c.args.self.now) c.args.next c.args.self.now.at c.reg.result ((core_of c.args.self.now).registers RDX) c.stuck.result
    (g.O.Outlet.bytes c.args.out.now) (g.O.Outlet.left c.args.out.now) (g.O.Outlet.faults c.args.out.now) c.stuck.ensures c.reg.ensures c.requires.call refl c.requires.some
    (none_found (λ p. p.now) c.piece.result ((core_of c.args.self.now).registers RDX) _ c.in-None.is c.piece.ensures.found)

pub returns-clause-did : goal.returns-clause-did
returns-clause-did g c =
    let found = one_found (λ p. p.now) c.piece.result c.in-Some.piece ((core_of c.args.self.now).registers RDX) _ c.in-Some.is c.piece.ensures.found in
    let size = c.in-Some.ensures.size in
    write_does (core_of c.args.self.now) (core_of c.after_write.new.self) c.args.next ((core_of c.args.self.now).registers RDX) c.rax_of.result c.in-Some.piece.now found.0 c.write-answer.result
    (g.O.Outlet.bytes c.args.out.now) (g.O.Outlet.bytes c.write-answer.new.self) (g.O.Outlet.left c.args.out.now) (g.O.Outlet.left c.write-answer.new.self) (g.O.Outlet.faults c.args.out.now)
    (g.O.Outlet.faults c.write-answer.new.self) c.after_write.ensures c.rax_of.ensures c.requires.call refl c.requires.some found.1 found.2
    (omega (arith, size, c.requires.some)) c.write-answer.ensures.within c.write-answer.ensures.bytes c.write-answer.ensures.left c.write-answer.ensures.faults
    c.write-answer.ensures.refused_only_where_faults_rose
