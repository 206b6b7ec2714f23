use Rattle.std.proofs.Common.{◌+◌, Result, List, get_or, take, drop, sym, subst, ap, ◌∙◌}
use Rattle.std.proofs.lemmas.Result.{err_from_is_err_and}
use Rattle.scasp_rows.specs.declared.replacing.Progress.{Progress}
use Rattle.scasp_rows.specs.declared.state.Halt.{Halt}
use Rattle.scasp_rows.specs.declared.state.Standing.{Standing}
use Rattle.scasp_rows.specs.declared.state.State.{State}
use Rattle.scasp_rows.specs.Elimination.{replaced}
use Rattle.scasp_rows.specs.Inside.Replacing.{Puts}
use Rattle.scasp_rows.proofs.Placing.{replaced-fails, replaced-made, replaced-next}
use Rattle.scasp_rows.proofs.replacing.replaced_next.Goals as goal

pub returns-in_err-step : goal.returns-in_err-step
returns-in_err-step c =
    let x = c.args.x in
    let p = c.args.p.now in
    let q = c.index-as_slice-done.result in
    let s = c.args.progress.state in
    let n = c.args.progress.done in
    let later = drop (n + 1) s.standing in
    let start : State = record { standing = take n s.standing; steps = s.steps; last = s.last } in
    let here = c.index-as_slice-done.is ∙ ap (λ (rows : List Standing). get_or rows n q) c.as_slice.ensures in
    let k = err_from_is_err_and c.from_residual.result c.from_residual.ensures.1 in
    subst (λ (r : Result State Halt). Puts c.from_residual.result later r) (sym (replaced-next x p q n s c.requires here))
    (subst (λ (o : Result Progress Halt). Puts o later (replaced x p q later start)) (sym k.1) (replaced-fails x p q later start c.in_err-step.field-0.0 k.0 c.in_err-step.ensures k.2))

pub returns : goal.returns
returns c =
    let x = c.args.x in
    let p = c.args.p.now in
    let q = c.index-as_slice-done.result in
    let s = c.args.progress.state in
    let n = c.args.progress.done in
    let later = drop (n + 1) s.standing in
    let start : State = record { standing = take n s.standing; steps = s.steps; last = s.last } in
    let here = c.index-as_slice-done.is ∙ ap (λ (rows : List Standing). get_or rows n q) c.as_slice.ensures in
    let m = c.in_ok-step.field-0 in
    let t = c.in_ok-state.state in
    subst (λ (r : Result State Halt). Puts c.put_next.result later r) (sym (replaced-next x p q n s c.requires here))
    (replaced-made x p q n s t m c.put_next.result c.in_ok-step.ensures c.in_ok-state.ensures c.put_next.ensures)
