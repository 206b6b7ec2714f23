use Rattle.std.proofs.Common.{◌<◌, ◌^◌, arith}
use Rattle.scasp_answers.proofs.PartsLemmas.NumberLemmas.{pos-fits, loop-fits, seen-fits, rule-fits, leaf-fits}
use Rattle.scasp_answers.proofs.parts.open_line.Open.into_part.Goals as goal

pub overflow_cast-rule : goal.overflow_cast-rule
overflow_cast-rule c = let h = rw c.in-Pos.is at c.args.self.fits in let k : c.in-Pos.rule < 2 ^ 64 = pos-fits _ _ _ h in omega (arith, k)

pub overflow_cast-at : goal.overflow_cast-at
overflow_cast-at c = let h = rw c.in-Loop.is at c.args.self.fits in let k : c.in-Loop.at < 2 ^ 64 = loop-fits _ _ h in omega (arith, k)

pub overflow_cast-at-in-Seen : goal.overflow_cast-at-in-Seen
overflow_cast-at-in-Seen c = let h = rw c.in-Seen.is at c.args.self.fits in let k : c.in-Seen.at < 2 ^ 64 = seen-fits _ _ h in omega (arith, k)

pub overflow_cast-rule-in-Rule : goal.overflow_cast-rule-in-Rule
overflow_cast-rule-in-Rule c = let h = rw c.in-Rule.is at c.args.self.fits in let k : c.in-Rule.rule < 2 ^ 64 = rule-fits _ h in omega (arith, k)

pub overflow_cast-item : goal.overflow_cast-item
overflow_cast-item c = let h = rw c.in-Leaf.is at c.args.self.fits in let k : c.in-Leaf.item < 2 ^ 64 = leaf-fits _ h in omega (arith, k)
