use Rattle.std.proofs.Common.{set, sym, ap, ◌∙◌}
use Rattle.scasp_bind.specs.Kept.{with_depth}
use Rattle.scasp_bind.proofs.StepLemmas.{set-set, updated-at}
use Rattle.scasp_bind.proofs.trailed.put_depth.Goals as goal

pub returns-clause-variables : goal.returns-clause-variables
returns-clause-variables c =
    let old = c.args.variables.now.items in
    c.set-placeholder.ensures.items
    ∙ ap (λ vs. set vs c.args.x (with_depth c.args.depth c.set-sort.result)) c.set-sort.ensures.items
    ∙ set-set old c.args.x _ _
    ∙ sym (updated-at old c.args.x (with_depth c.args.depth) c.set-sort.result c.set-sort.ensures.old)
