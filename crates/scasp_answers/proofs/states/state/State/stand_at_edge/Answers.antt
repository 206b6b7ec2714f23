use Rattle.std.proofs.Common.{◌<◌, ◌^◌, arith}
use Rattle.scasp_answers.proofs.PartsLemmas.NumberLemmas.{ending-fits, rejected-fits, answer-fits}
use Rattle.scasp_answers.proofs.states.state.State.stand_at_edge.Goals as goal

pub overflow_cast-query : goal.overflow_cast-query
overflow_cast-query c = let h = rw c.in-Ending.is at c.requires.fits in let k : c.in-Ending.query < 2 ^ 64 = ending-fits _ _ h in omega (arith, k)

pub overflow_cast-query-in-Rejected : goal.overflow_cast-query-in-Rejected
overflow_cast-query-in-Rejected c = let h = rw c.in-Rejected.is at c.requires.fits in let k : c.in-Rejected.query < 2 ^ 64 = (rejected-fits _ _ _ _ h).0 in omega (arith, k)

pub overflow_cast-answer : goal.overflow_cast-answer
overflow_cast-answer c = let h = rw c.in-Rejected.is at c.requires.fits in let k : c.in-Rejected.answer < 2 ^ 64 = (rejected-fits _ _ _ _ h).1 in omega (arith, k)

pub overflow_cast-at : goal.overflow_cast-at
overflow_cast-at c = let h = rw c.in-Rejected.is at c.requires.fits in let k : c.in-Rejected.at < 2 ^ 64 = (rejected-fits _ _ _ _ h).2 in omega (arith, k)

pub overflow_cast-query-in-Answer : goal.overflow_cast-query-in-Answer
overflow_cast-query-in-Answer c = let h = rw c.in-Answer.is at c.requires.fits in let k : c.in-Answer.query < 2 ^ 64 = (answer-fits _ _ _ h).0 in omega (arith, k)

pub overflow_cast-answer-in-Answer : goal.overflow_cast-answer-in-Answer
overflow_cast-answer-in-Answer c = let h = rw c.in-Answer.is at c.requires.fits in let k : c.in-Answer.answer < 2 ^ 64 = (answer-fits _ _ _ h).1 in omega (arith, k)
