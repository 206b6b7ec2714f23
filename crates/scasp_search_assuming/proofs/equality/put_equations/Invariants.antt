use Rattle.std.proofs.Common.{◌≡◌, vec_len}
use Rattle.scasp_search_rules.specs.Successors.Equations.{equations_of}
use Rattle.scasp_search_rules.specs.Successors.Regions.{before}
use Rattle.scasp_search_assuming.proofs.equality.put_equations.Given as goal

abbrev pub invariant-loop-left : goal.invariant-loop-left
invariant-loop-left g l = record {
  now : before (equations_of l.pairs.items) (g.M.Situation.now l.at) ≡ before (equations_of l.fn.pairs.items) (g.M.Situation.now l.fn.at);
  points : g.M.Situation.points l.at ≡ g.M.Situation.points l.fn.at;
}

abbrev pub decreases-loop-left : goal.decreases-loop-left
decreases-loop-left g l = vec_len l.pairs
