use Rattle.std.proofs.Common.{◌≡◌, ◌++◌, ℕ, List, [], get_or, take, arith, sym, subst}
use Rattle.std.specs.Borrow.{Bor}
use Rattle.std.proofs.lemmas.List.{take_all}
use Rattle.sch_io.specs.Told.{Tells}
use Rattle.sch_io.proofs.PutSteps.{bytes_then}
use Rattle.sch_cli.specs.Messages.{joined}
use Rattle.sch_cli.proofs.LineParts.{joined_more, joined_split, says_part, says_whole}
use Rattle.sch_cli.proofs.message.say_pieces.Goals as goal

-- what is read past the last piece
abbrev no_piece : Bor (List ℕ)
no_piece = record { ref_ptr = (0, 0); now = [] }

pub loop-piece-preserved : goal.loop-piece-preserved
loop-piece-preserved g c =
    let b0 = g.E.Outlet.bytes c.args.err.now in
    let b1 = g.E.Outlet.bytes c.loop-piece.err in
    let b2 = g.E.Outlet.bytes c.put_all.new.out in
    let all = c.args.pieces.now in
    let i = c.loop-piece.piece-index in (
      subst (λ l. Tells b0 b2 (λ before after. after ≡ before ++ l)) (sym (joined_more all i no_piece c.loop-piece-test.true))
          (bytes_then b0 b1 b2 (joined (take i all)) (get_or all i no_piece).now c.loop-piece.invariant.0 (c.put_all.ensures.whole c.if-not-put_all.false)),
      omega (arith, c.put_all.ensures.faults),
    )

pub returns-then-not-put_all-clause-line : goal.returns-then-not-put_all-clause-line
returns-then-not-put_all-clause-line g c =
    let all = c.args.pieces.now in
    let i = c.loop-piece.piece-index in
    let split = joined_split all i no_piece c.loop-piece-test.true in
    says_part (joined all) (joined (take i all)) (get_or all i no_piece).now split.0
    (g.E.Outlet.bytes c.args.err.now) (g.E.Outlet.bytes c.loop-piece.err) (g.E.Outlet.bytes c.put_all.new.out)
    (g.E.Outlet.faults c.args.err.now) (g.E.Outlet.faults c.loop-piece.err) (g.E.Outlet.faults c.put_all.new.out)
    split.1 c.loop-piece.invariant.0 c.put_all.ensures.front (c.put_all.ensures.failed_only_where_faults_rose c.if-not-put_all.true) c.loop-piece.invariant.1

pub returns-clause-line : goal.returns-clause-line
returns-clause-line g c =
    let all = c.args.pieces.now in
    let whole : take c.loop-piece.piece-index all ≡ all = take_all c.loop-piece.piece-index all c.loop-piece-test.false in
    says_whole (joined all) (g.E.Outlet.bytes c.args.err.now) (g.E.Outlet.bytes c.loop-piece.err) (g.E.Outlet.faults c.args.err.now) (g.E.Outlet.faults c.loop-piece.err)
    (subst (λ l. Tells (g.E.Outlet.bytes c.args.err.now) (g.E.Outlet.bytes c.loop-piece.err) (λ before after. after ≡ before ++ joined l)) whole c.loop-piece.invariant.0)
