use Rattle.scasp_simplex.proofs.whole.divisor_of_short.Given as goal

abbrev pub decreases-loop-y : goal.decreases-loop-y
decreases-loop-y l = l.y
