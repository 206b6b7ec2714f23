use Rattle.scasp_touched.proofs.AnswerLemmas.{Answered}
use Rattle.scasp_touched.proofs.comparison.compared.Given as goal

abbrev pub invariant-loop-place : goal.invariant-loop-place
invariant-loop-place g l = Answered g.T.Alike.same l.first l.second l.answers l.place
