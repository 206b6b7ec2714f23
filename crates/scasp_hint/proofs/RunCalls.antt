-- A step that makes no row, as a fault of the hint, and what an accepted hint says of the list.
use Rattle.std.proofs.Common.{◌≡◌, ℤ, Bool, true, false, List, Option, Some, None, Result, Ok, Err, refl, subst}
use Rattle.std.specs.Prelude.{if◌then◌else◌, OnOk}
use Rattle.scasp_num.specs.Linear.{Linear}
use Rattle.scasp_num.specs.declared.hints.Step.{Step}
use Rattle.scasp_rows.specs.Steps.{Answers, may_step, row_numbered, row_sum, step_of, sum_or_overflow}
use Rattle.scasp_rows.specs.declared.steps.StepErr.{StepErr}
use Rattle.scasp_rows.specs.declared.steps.StepErr.TheVariants as step_err
use Rattle.scasp_syntax.specs.Constraints.{Sat}
use Rattle.scasp_syntax.specs.declared.con.Con.{Con}
use Rattle.scasp_syntax.specs.declared.hint.Hint.{Hint}
use Rattle.scasp_hint.specs.AskedRows.{RowsNormal}
use Rattle.scasp_hint.specs.Showing.{fault_of, row_added, row_from, row_or_large}
use Rattle.scasp_hint.specs.Verdicts.{IsStepFault, Judges, Makes}
use Rattle.scasp_hint.specs.declared.fault.HintErr.{HintErr}
use Rattle.scasp_hint.specs.declared.fault.HintFault.TheVariants as fault
use Rattle.scasp_hint.proofs.ShownLemmas.{shown-unsat}

-- the fault of a step is that of the hint
pub step-judged : (s : Step) (p q : Linear) (e : StepErr) (f : HintErr) → Answers (Err e) (step_of s.a p s.b q) → IsStepFault e f → Makes (Err f) (row_from s (Some p) (Some q))
step-judged s p q e f h k = by (may_step s.a p s.b q) e h k
  where
    sum : (o : Option Linear) (e : StepErr) → Answers (Err e) (sum_or_overflow o) → IsStepFault e f → Makes (Err f) (row_or_large o)
    sum (Some row) step_err.Overflow h k = cc
    sum (Some row) step_err.Sign h k = cc
    sum (Some row) step_err.Memory h k = rw k tt
    sum None step_err.Overflow h k = rw k refl
    sum None step_err.Sign h k = cc
    sum None step_err.Memory h k = rw k tt

    by : (b : Bool) (e : StepErr) → Answers (Err e) (if b then sum_or_overflow (row_sum s.a p s.b q) else Err step_err.Sign) → IsStepFault e f → Makes (Err f) (if b then row_or_large (row_sum s.a p s.b q) else Err fault.Step)
    by true e h k = sum (row_sum s.a p s.b q) e h k
    by false step_err.Overflow h k = cc
    by false step_err.Sign h k = rw k refl
    by false step_err.Memory h k = rw k tt

pub row-refused : (all : List Linear) (s : Step) (p q : Linear) (a b : ℤ) (e : StepErr) (f : HintErr) → Some p ≡ row_numbered all s.p → Some q ≡ row_numbered all s.q → a ≡ s.a → b ≡ s.b → Answers (Err e) (step_of a p b q) → IsStepFault e f → Makes (Err f) (row_added all s)
row-refused all s p q a b e f g h i j k m =
    let same : step_of a p b q ≡ step_of s.a p s.b q = λ n. step_of (i n) p (j n) q in
    subst (λ (o : Option Linear). Makes (Err f) (row_from s o (row_numbered all s.q))) g
    (subst (λ (o : Option Linear). Makes (Err f) (row_from s (Some p) o)) h (step-judged s p q e f (subst (λ (r : Result Linear StepErr). Answers (Err e) r) same k) m))

-- a list whose hint is accepted has no valuation
pub accepted-shown : (cs : List Con) (h : Hint) (r : Result Unit HintErr) → RowsNormal cs → Judges r (fault_of cs h) → OnOk r (¬ Sat cs)
accepted-shown cs h (Ok done) n f = shown-unsat cs h n f
accepted-shown cs h (Err e) n f = tt
