use Rattle.std.proofs.Common.{ap, sym, ◌∙◌}
use Rattle.scasp_search_rules.specs.Successors.Reading.{holds_always}
use Rattle.scasp_syntax.specs.declared.con.Con.TheVariants as con
use Rattle.scasp_store.proofs.BehindLemmas.{always_apart, always_same}
use Rattle.scasp_store.proofs.behind.compared.Goals as goal

pub returns-then-branch : goal.returns-then-branch
returns-then-branch c = always_apart c.args.left c.args.right (ap holds_always (λ i. con.Neq (sym c.in_ok-copy.ensures i) (sym c.in_ok-copy-2.ensures i)) ∙ sym c.in_ok-holds_always.ensures ∙ c.if-branch.true)

pub returns-then-branch-2 : goal.returns-then-branch-2
returns-then-branch-2 c = (sym c.is_number.ensures ∙ c.if-not-is_number.false, always_same c.args.left c.args.right (sym c.in_ok-holds_always-2.ensures ∙ c.if-branch-2.true))
