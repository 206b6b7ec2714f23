use Rattle.std.proofs.Common.{◌∷◌, ap, ◌∙◌}
use Rattle.scasp_cert.specs.View.{branch_of}
use Rattle.scasp_search_trees.proofs.StackLemmas.{split_put}
use Rattle.scasp_search_trees.specs.Stacked.{built_of, cases_in}
use Rattle.scasp_search_trees.proofs.stacks.put_split.Goals as goal

pub returns : goal.returns
returns c =
    ap (λ cs. record (built_of c.args.stacks.now) { cases = cs })
    (split_put (cases_in c.args.stacks.now.cases.items) c.args.con (branch_of c.in_ok-first.first.value) (branch_of c.in_ok-second.second.value)
    (cases_in c.push_case.new.stack.items) (cases_in c.boxed_case.new.stack.items) (cases_in c.boxed_case-2.new.stack.items)
    c.in_ok-first.ensures.case c.in_ok-first.ensures.rest c.in_ok-second.ensures.case c.in_ok-second.ensures.rest (c.in_ok-push_case.ensures ∙ ap (λ b. b ∷ cases_in c.boxed_case-2.new.stack.items) c.split_case.ensures))
