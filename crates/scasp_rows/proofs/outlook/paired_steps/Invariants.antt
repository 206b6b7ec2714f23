use Rattle.std.proofs.Common.{◌≡◌, drop}
use Rattle.scasp_rows.specs.Inside.Outlooks.{paired_steps}
use Rattle.scasp_rows.proofs.outlook.paired_steps.Given as goal

abbrev pub invariant-loop-u : goal.invariant-loop-u
invariant-loop-u l = paired_steps l.x l.l (drop l.u-index l.uppers) l.state ≡ paired_steps l.x l.l l.uppers l.initial.state
