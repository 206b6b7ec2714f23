use Rattle.std.proofs.Common.{◌≡◌, ◌≤◌, ◌+◌, drop}
use Rattle.scasp_ground.specs.Bounded.{count_over}
use Rattle.scasp_ground.proofs.count.count_instances.Given as goal

abbrev pub invariant-loop-clause : goal.invariant-loop-clause
invariant-loop-clause l = record {
  sum : l.count + count_over l.members (drop l.clause-index l.clauses) ≡ count_over l.members l.clauses;
  limit : l.count ≤ 1000000;
}
