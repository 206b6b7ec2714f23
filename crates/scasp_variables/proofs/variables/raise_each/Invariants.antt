use Rattle.std.proofs.Common.{◌≡◌, drop}
use Rattle.scasp_search_rules.specs.Successors.Cases.{universals_at}
use Rattle.scasp_variables.proofs.variables.raise_each.Given as goal

abbrev pub invariant-loop-x : goal.invariant-loop-x
invariant-loop-x l = record {
  now : universals_at l.depth (drop l.x-index l.xs) l.made.now ≡ universals_at l.depth l.xs l.fn.made.now;
  before : l.made.before ≡ l.fn.made.before;
}
