use Rattle.scasp_rows.proofs.Pairing.{false-ends}
use Rattle.scasp_rows.proofs.elimination.falsified.Goals as goal

pub unreachable-requires : goal.unreachable-requires
unreachable-requires c =
    false-ends c.args.x c.args.lowers.now c.args.uppers.now (record { standing = c.new.result; steps = c.args.steps; last = c.args.last }) c.in-Ok.field-0 c.requires c.in-Ok.ensures
