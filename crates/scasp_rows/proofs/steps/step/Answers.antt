use Rattle.std.proofs.Common.{◌≡◌, true, sym, ◌∙◌}
use Rattle.std.proofs.lemmas.Int.{to_z-of_z}
use Rattle.scasp_rows.specs.Steps.{may_scale}
use Rattle.std.proofs.lemmas.Bool.{and_from}
use Rattle.scasp_rows.proofs.Sums.{step-holds}
use Rattle.scasp_rows.proofs.steps.step.Goals as goal

pub returns-in-Ok-clause-holds : goal.returns-in-Ok-clause-holds
returns-in-Ok-clause-holds c =
    let a = c.ranges.a in
    let b = c.ranges.b in
    let p = c.args.p.now in
    let q = c.args.q.now in
    let first : true ≡ may_scale c.args.a p.op = sym c.if-not-may_scale.false ∙ simp to_z-of_z at c.may_scale.ensures ∙ (λ i. may_scale c.args.a (c.op.ensures.value i)) in
    let second : true ≡ may_scale c.args.b q.op = sym c.if-not-may_scale-2.false ∙ simp to_z-of_z at c.may_scale-else-not-may_scale.ensures ∙ (λ i. may_scale c.args.b (c.op-else-not-may_scale.ensures.value i)) in
    step-holds c.args.a p c.args.b q c.in-Ok.row (and_from _ _ (sym first) (sym second)) (simp to_z-of_z at c.in-Ok.ensures.exact)
