use Rattle.std.proofs.Common.{sym, ◌∙◌}
use Rattle.scasp_unify.specs.Solving.{sub_of}
use Rattle.scasp_store.proofs.AskLemmas.{none_counted}
use Rattle.scasp_store.proofs.answering.is_counted.Goals as goal

pub returns-then-not-has_row : goal.returns-then-not-has_row
returns-then-not-has_row c = λ _. none_counted (sub_of c.args.bound.now.now) c.args.list.now (sym c.has_row.ensures ∙ c.if-not-has_row.true)
