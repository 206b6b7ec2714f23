use Rattle.std.proofs.Common.{◌≡◌, ◌<◌, ◌-◌, ◌^◌, ◌++◌, length}
use Rattle.scasp_syntax.specs.Tm.{items}
use Rattle.scasp_ground.specs.Inside.Chosen.{chosen}
use Rattle.scasp_ground.proofs.ways.chosen.Given as goal

abbrev pub invariant-loop-variable : goal.invariant-loop-variable
invariant-loop-variable l = record {
  values : items l.values ++ chosen (items l.domain) (l.variables - l._variable) l.rest ≡ chosen (items l.domain) l.variables l.number;
  block : l.block ≡ length (items l.domain) ^ (l.variables - l._variable);
  below : l.rest < l.block;
}
