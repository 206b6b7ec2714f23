use Rattle.std.proofs.Common.{◌≡◌, ◌≢◌, Result, Ok, Err, List, refl, sym, subst, ◌∙◌, ap}
use Rattle.scasp_num.specs.declared.hints.Step.{Step}
use Rattle.scasp_list.specs.Each.{Each}
use Rattle.scasp_num.specs.Linear.{Linear, IsNormal}
use Rattle.scasp_rows.specs.declared.state.Halt.{Halt}
use Rattle.scasp_rows.specs.declared.state.Halt.TheVariants as halt
use Rattle.scasp_rows.specs.declared.state.State.{State}
use Rattle.scasp_rows.specs.Points.{IsMet}
use Rattle.scasp_rows.specs.Elimination.{Ends, elimination}
use Rattle.scasp_rows.proofs.Reaching.{false_reached}
use Rattle.scasp_rows.proofs.Soundness.{unsat_reached}
use Rattle.scasp_rows.proofs.Completeness.{sat_met}
use Rattle.scasp_rows.proofs.StepRanges.{steps-ranged}
use Rattle.scasp_rows.proofs.verdict.eliminate.Goals as goal

pub returns-in-Ok-clause-sat : goal.returns-in-Ok-clause-sat
returns-in-Ok-clause-sat c =
    let rows = c.args.rows.now in
    let exact : elimination rows ≡ Ok c.in-Ok.field-0 = ap elimination (sym c.as_slice.ensures) ∙ c.in-Ok.ensures.exact in
    let normal : Each IsNormal rows = subst (λ (rs : List Linear). Each IsNormal rs) c.as_slice.ensures (c.in-Ok.ensures.normal (λ e. cc)) in
    ((λ _. sat_met rows c.in-Ok.field-0 normal c.requires exact), (λ _. refl))

unsat-exact : (rows now : List Linear) (h : Halt) (steps : List Step) → now ≡ rows → h ≡ halt.Unsat steps → Ends {A = State} (Err h) (elimination now) → elimination rows ≡ Err (halt.Unsat steps)
unsat-exact rows now h steps e f g = ap elimination (sym e) ∙ subst (λ (k : Halt). Ends {A = State} (Err k) (elimination now)) f g

pub returns-in-Err-Unsat-clause-unsat : goal.returns-in-Err-Unsat-clause-unsat
returns-in-Err-Unsat-clause-unsat c =
    unsat_reached c.args.rows.now c.in-Err-Unsat.steps c.requires (unsat-exact c.args.rows.now c.as_slice.result.now c.in-Err-Unsat.field-0 c.in-Err-Unsat.steps c.as_slice.ensures c.in-Err-Unsat.field-0-is c.in-Err-Unsat.ensures.exact)

pub returns-in-Err-Unsat-clause-sat : goal.returns-in-Err-Unsat-clause-sat
returns-in-Err-Unsat-clause-sat c =
    ((λ e. cc), (λ (m : IsMet c.args.rows.now). absurd (false_reached c.args.rows.now c.in-Err-Unsat.steps m.0 (returns-in-Err-Unsat-clause-unsat c) m.1)))

-- only want of memory leaves it open whether the rows are in normal form
normal-from : (rows now : List Linear) (h : Halt) (steps : List Step) → now ≡ rows → h ≡ halt.Unsat steps → ((let r : Result State Halt = Err h in r) ≢ Err halt.Memory → Each IsNormal now) → Each IsNormal rows
normal-from rows now h steps e f g = subst (λ (rs : List Linear). Each IsNormal rs) e (g (λ k. cc))

pub returns-in-Err-Unsat-clause-multipliers : goal.returns-in-Err-Unsat-clause-multipliers
returns-in-Err-Unsat-clause-multipliers c =
    let rows = c.args.rows.now in
    let now = c.as_slice.result.now in
    steps-ranged rows c.in-Err-Unsat.steps (normal-from rows now c.in-Err-Unsat.field-0 c.in-Err-Unsat.steps c.as_slice.ensures c.in-Err-Unsat.field-0-is c.in-Err-Unsat.ensures.normal)
    (unsat-exact rows now c.in-Err-Unsat.field-0 c.in-Err-Unsat.steps c.as_slice.ensures c.in-Err-Unsat.field-0-is c.in-Err-Unsat.ensures.exact)
