use Rattle.scasp_law_parts.proofs.TriangularLemmas.{solved-self, more-triangular, fewer-triangular, fewer-met, more-met}
use Rattle.scasp_law_parts.proofs.laws.triangular_bindings_are_solved.Goals as goal

pub returns-clause-solved : goal.returns-clause-solved
returns-clause-solved c = solved-self

pub returns-clause-more : goal.returns-clause-more
returns-clause-more c = more-triangular

pub returns-clause-fewer : goal.returns-clause-fewer
returns-clause-fewer c = fewer-triangular

pub returns-clause-met_with_fewer : goal.returns-clause-met_with_fewer
returns-clause-met_with_fewer c = fewer-met

pub returns-clause-met_with_more : goal.returns-clause-met_with_more
returns-clause-met_with_more c = more-met
