use Rattle.std.proofs.Common.{length}
use Rattle.scasp_lines_places.specs.Places.Chains.{chained}
use Rattle.scasp_lines_places.proofs.places.chain.Chain.drop.Given as goal

abbrev pub decreases-loop-link : goal.decreases-loop-link
decreases-loop-link g l = length (chained l.self)
