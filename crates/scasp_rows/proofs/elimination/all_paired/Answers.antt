use Rattle.std.proofs.Common.{drop, sym, ◌∙◌, arith}
use Rattle.scasp_rows.proofs.Pairing.{over-limited}
use Rattle.scasp_rows.proofs.elimination.all_paired.Goals as goal

pub returns-then-count-gt-LIMIT : goal.returns-then-count-gt-LIMIT
returns-then-count-gt-LIMIT c =
    sym c.loop-l.invariant.0 ∙ over-limited c.args.x (drop c.loop-l.l-index c.args.lowers.now) c.args.uppers.now c.loop-l.state (omega arith) c.loop-l.invariant.1
