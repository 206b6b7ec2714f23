use Rattle.std.proofs.Common.{◌≡◌, drop}
use Rattle.scasp_model.specs.Least.{with_heads, round}
use Rattle.scasp_model.proofs.least_model.round.Given as goal

abbrev pub invariant-loop-rule : goal.invariant-loop-rule
invariant-loop-rule l = with_heads l.present l.atoms (drop l.rule-index l.rule-items) ≡ round l.rules l.present
