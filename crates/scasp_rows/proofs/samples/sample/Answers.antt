use Rattle.std.proofs.Common.{◌≡◌, Ok, Err, Some, None, Option, List, sym, subst, ◌∙◌}
use Rattle.std.specs.Prelude.{IfSome, IfNone}
use Rattle.scasp_num.specs.declared.linear.RatPair.{RatPair}
use Rattle.scasp_list.specs.Each.{Each}
use Rattle.scasp_num.specs.Linear.{Linear, IsNormal}
use Rattle.scasp_rows.specs.declared.state.Halt.{Halt}
use Rattle.scasp_rows.specs.declared.state.Halt.TheVariants as halt
use Rattle.scasp_num.specs.declared.hints.Step.{Step}
use Rattle.scasp_rows.specs.Points.{RationalPoint, NoDisequation}
use Rattle.scasp_rows.specs.Elimination.{Ends}
use Rattle.scasp_rows.specs.Samples.{sample_of, MeetsBoth, OnlyDisequations, value_in}
use Rattle.scasp_rows.proofs.Sampling.{sample-met, sample-none, sample-unsat}
use Rattle.scasp_rows.proofs.samples.sample.Goals as goal

met : (rows : List Linear) (differ : List (List Linear)) (o : Option (List RatPair)) → Each IsNormal rows → NoDisequation rows → Each OnlyDisequations differ → sample_of rows differ ≡ Ok o → IfSome o (λ point. MeetsBoth (value_in point) rows differ)
met rows differ None h n d e = tt
met rows differ (Some point) h n d e = sample-met rows differ point h n d e

unmet : (rows : List Linear) (differ : List (List Linear)) (o : Option (List RatPair)) → Each IsNormal rows → NoDisequation rows → Each OnlyDisequations differ → sample_of rows differ ≡ Ok o → IfNone o ((v : RationalPoint) → ¬ MeetsBoth v rows differ)
unmet rows differ None h n d e = sample-none rows differ h n d e
unmet rows differ (Some point) h n d e = tt

pub returns-in-Ok-clause-met : goal.returns-in-Ok-clause-met
returns-in-Ok-clause-met c =
    let rows = c.args.rows.now in
    let differ = c.args.differ.now in
    let exact : sample_of rows differ ≡ Ok c.in-Ok.point = (λ i. sample_of (sym c.as_slice.ensures i) (sym c.as_slice-2.ensures i)) ∙ c.in-Ok.ensures.exact in
    let normal : Each IsNormal rows = subst (λ (rs : List Linear). Each IsNormal rs) c.as_slice.ensures c.in-Ok.ensures.normal in
    met rows differ c.in-Ok.point normal c.requires.rows c.requires.differ exact

pub returns-in-Ok-clause-none : goal.returns-in-Ok-clause-none
returns-in-Ok-clause-none c =
    let rows = c.args.rows.now in
    let differ = c.args.differ.now in
    let exact : sample_of rows differ ≡ Ok c.in-Ok.point = (λ i. sample_of (sym c.as_slice.ensures i) (sym c.as_slice-2.ensures i)) ∙ c.in-Ok.ensures.exact in
    let normal : Each IsNormal rows = subst (λ (rs : List Linear). Each IsNormal rs) c.as_slice.ensures c.in-Ok.ensures.normal in
    unmet rows differ c.in-Ok.point normal c.requires.rows c.requires.differ exact

unsat-exact : (rows : List Linear) (differ : List (List Linear)) (h : Halt) (steps : List Step) → h ≡ halt.Unsat steps → Ends {A = Option (List RatPair)} (Err h) (sample_of rows differ) → ⊥
unsat-exact rows differ h steps f g = sample-unsat rows differ steps (subst (λ (k : Halt). Ends {A = Option (List RatPair)} (Err k) (sample_of rows differ)) f g)

pub returns-in-Err-Unsat-clause-none : goal.returns-in-Err-Unsat-clause-none
returns-in-Err-Unsat-clause-none c = absurd (unsat-exact c.as_slice.result.now c.as_slice-2.result.now c.in-Err-Unsat.field-0 c.in-Err-Unsat.field-0-0 c.in-Err-Unsat.field-0-is c.in-Err-Unsat.ensures.exact)
