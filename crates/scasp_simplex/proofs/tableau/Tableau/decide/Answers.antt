use Rattle.scasp_simplex.proofs.VerdictLemmas.{answers-adds, answers-overflow, answers-ranges, answers-reaches, answers-sat}
use Rattle.scasp_simplex.proofs.tableau.Tableau.decide.Goals as goal

pub returns-clause-sat : goal.returns-clause-sat
returns-clause-sat c = answers-sat _ _ c.answer.ensures.answer

pub returns-clause-unsat : goal.returns-clause-unsat
returns-clause-unsat c = answers-adds _ _ c.answer.ensures.answer

pub returns-clause-reaches : goal.returns-clause-reaches
returns-clause-reaches c = answers-reaches _ _ c.answer.ensures.answer

pub returns-clause-multipliers : goal.returns-clause-multipliers
returns-clause-multipliers c = answers-ranges _ _ c.answer.ensures.answer

pub returns-clause-overflow : goal.returns-clause-overflow
returns-clause-overflow c = answers-overflow _ _ c.answer.ensures.answer
