use Rattle.std.proofs.Common.{List, ◌++◌, ap, ◌∙◌}
use Rattle.scasp_num.specs.Linear.{Linear}
use Rattle.scasp_rows.specs.Steps.{row_made}
use Rattle.scasp_simplex.proofs.ChainLemmas.{add-more}
use Rattle.scasp_simplex.proofs.chain.add_step.Goals as goal

pub returns : goal.returns
returns c =
    rw (c.in_ok-push.ensures.ok, c.in_ok-push-2.ensures.ok)
    (add-more c.args.rows.now c.args.chain.now.steps c.args.chain.now.added c.args.next.now c.in_ok-row.row c.requires (c.is_in_range.ensures c.if-not-is_in_range.false)
    (c.in_ok-row.ensures ∙ ap (λ (rs : List Linear). row_made (c.args.rows.now ++ rs) c.args.next.now) c.as_slice.ensures))
