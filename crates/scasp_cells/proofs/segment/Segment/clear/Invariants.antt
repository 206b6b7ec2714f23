use Rattle.scasp_cells.proofs.segment.Segment.clear.Given as goal

abbrev pub decreases-loop-self : goal.decreases-loop-self
decreases-loop-self g l = l.self.len
