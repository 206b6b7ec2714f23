use Rattle.scasp_hint.proofs.FoundAnswers.{answer-hint, answer-range, answer-none, answer-sorted, answer-large}
use Rattle.scasp_hint.proofs.finding.find.Goals as goal

pub returns-in-Ok-clause-hint : goal.returns-in-Ok-clause-hint
returns-in-Ok-clause-hint c = answer-hint c.args.constraints.now c.found_by.result c.read_rows.ensures c.found_by.ensures

pub returns-in-Ok-clause-multipliers : goal.returns-in-Ok-clause-multipliers
returns-in-Ok-clause-multipliers c = answer-range c.args.constraints.now c.found_by.result c.read_rows.ensures c.found_by.ensures

pub returns-in-Ok-clause-none : goal.returns-in-Ok-clause-none
returns-in-Ok-clause-none c = answer-none c.args.constraints.now c.found_by.result c.read_rows.ensures c.found_by.ensures

pub returns-in-Ok-clause-sorted : goal.returns-in-Ok-clause-sorted
returns-in-Ok-clause-sorted c = answer-sorted c.args.constraints.now c.found_by.result c.read_rows.ensures c.found_by.ensures

pub returns-in-Ok-clause-overflow : goal.returns-in-Ok-clause-overflow
returns-in-Ok-clause-overflow c = answer-large c.args.constraints.now c.found_by.result c.read_rows.ensures c.found_by.ensures
