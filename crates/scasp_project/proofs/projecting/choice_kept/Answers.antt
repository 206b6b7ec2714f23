use Rattle.std.proofs.Common.{List, Option, Result, Ok, sym, subst, ap, ◌∙◌}
use Rattle.scasp_num.specs.Linear.{Gives, Linear}
use Rattle.scasp_syntax.specs.declared.con.Con.{Con}
use Rattle.scasp_rows.specs.declared.verdict.LinErr.{LinErr}
use Rattle.scasp_rows.specs.LeftRows.{rows_left}
use Rattle.scasp_project.specs.Inside.CodeReading.{reading}
use Rattle.scasp_project.specs.LeftRows.{elimination_dropping}
use Rattle.scasp_project.specs.Projection.{asked_kept, left_kept, remaining}
use Rattle.scasp_project.proofs.projecting.choice_kept.Goals as goal

pub returns-in-Ok-Some : goal.returns-in-Ok-Some
returns-in-Ok-Some c =
    let keep = c.args.keep.now in
    let choice = c.args.choice.now in
    let left = ap (λ (rs : List Linear). rows_left (elimination_dropping keep rs)) (sym c.in_ok-rows.ensures) ∙ c.in-Ok-Some.ensures ∙ ap Ok c.in-Ok-Some.field-0-is in
    let asked = c.as_slice-in-Ok-Some.ensures ∙ c.in_ok-asked-in-Ok-Some.ensures ∙ ap (remaining keep choice) c.as_slice.ensures in
    subst (λ (o : Result (Option (List Linear)) LinErr). Gives c.asked_kept.result (left_kept (reading c.args.resolver.now keep) choice o)) (sym left)
    (subst (λ (ds : List Con). Gives c.asked_kept.result (asked_kept (reading c.args.resolver.now keep) ds)) asked c.asked_kept.ensures)
