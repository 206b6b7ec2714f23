use Rattle.std.proofs.Common.{◌≡◌, drop}
use Rattle.scasp_rows.specs.Elimination.{paired}
use Rattle.scasp_rows.proofs.elimination.paired.Given as goal

abbrev pub invariant-loop-u : goal.invariant-loop-u
invariant-loop-u l = paired l.x l.l (drop l.u-index l.uppers) l.state ≡ paired l.x l.l l.uppers l.initial.state
