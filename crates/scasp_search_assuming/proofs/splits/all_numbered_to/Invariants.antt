use Rattle.std.proofs.Common.{◌≡◌, drop, map}
use Rattle.std.specs.List.{fold}
use Rattle.scasp_num.specs.declared.linear.Coeff.{Coeff}
use Rattle.scasp_search_rules.specs.Successors.Splits.{numbered_to}
use Rattle.scasp_search_assuming.proofs.splits.all_numbered_to.Given as goal

abbrev pub invariant-loop-coeff : goal.invariant-loop-coeff
invariant-loop-coeff g l = record {
  now : fold (numbered_to l.depth) (g.M.Situation.now l.at) (map (λ (k : Coeff). k.x) (drop l.coeff-index l.coeffs))
      ≡ fold (numbered_to l.depth) (g.M.Situation.now l.fn.at) (map (λ (k : Coeff). k.x) l.coeffs);
  points : g.M.Situation.points l.at ≡ g.M.Situation.points l.fn.at;
}
