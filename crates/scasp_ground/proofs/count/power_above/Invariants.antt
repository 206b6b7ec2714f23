use Rattle.std.proofs.Common.{◌≡◌, ◌≤◌, ◌^◌}
use Rattle.scasp_ground.proofs.count.power_above.Given as goal

abbrev pub invariant-loop-variable : goal.invariant-loop-variable
invariant-loop-variable l = record {
  power : l.count ≡ l.members ^ l._variable;
  limit : l.count ≤ 1000000;
}
