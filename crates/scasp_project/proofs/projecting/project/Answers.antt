use Rattle.std.proofs.Common.{List, subst, ◌∙◌}
use Rattle.scasp_hint.specs.AskedRows.{RowsNormal}
use Rattle.scasp_syntax.specs.declared.con.Con.{Con}
use Rattle.scasp_project.specs.Projection.{projection}
use Rattle.scasp_project.proofs.BackLaw.{answer-means}
use Rattle.scasp_project.proofs.PossibleLaw.{answer-possible}
use Rattle.scasp_project.proofs.projecting.project.Goals as goal

pub returns-in-Ok-projection-clause-extends : goal.returns-in-Ok-projection-clause-extends
returns-in-Ok-projection-clause-extends c =
    let list = c.as_slice-list.ensures in
    let keep = c.as_slice.ensures in
    answer-means c.args.constraints.now c.args.keep.now c.in-Ok-projection.answer (subst (λ (cs : List Con). RowsNormal cs) list c.read_rows.ensures) (c.in-Ok-projection.ensures ∙ (λ i. projection (list i) (keep i)))

pub returns-in-Ok-projection-clause-possible : goal.returns-in-Ok-projection-clause-possible
returns-in-Ok-projection-clause-possible c =
    let list = c.as_slice-list.ensures in
    let keep = c.as_slice.ensures in
    answer-possible c.args.constraints.now c.args.keep.now c.in-Ok-projection.answer (subst (λ (cs : List Con). RowsNormal cs) list c.read_rows.ensures) (c.in-Ok-projection.ensures ∙ (λ i. projection (list i) (keep i)))
