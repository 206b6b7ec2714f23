-- What follows from a verdict that is right.
use Rattle.std.proofs.Common.{◌≡◌, ◌↔◌, false, Result, Ok, Err, List, refl}
use Rattle.std.specs.Prelude.{IfOk}
use Rattle.std.specs.List.{list_any}
use Rattle.scasp_list.specs.Each.{Each}
use Rattle.scasp_num.specs.Linear.{Linear}
use Rattle.scasp_rows.specs.declared.verdict.LinErr.{LinErr}
use Rattle.scasp_rows.specs.declared.verdict.LinErr.TheVariants as err
use Rattle.scasp_rows.specs.declared.verdict.Verdict.{Verdict}
use Rattle.scasp_rows.specs.declared.verdict.Verdict.TheVariants as verdict
use Rattle.scasp_rows.specs.Points.{IsMet, is_false}
use Rattle.scasp_rows.specs.Steps.{ReachesFalse, StepInRange}
use Rattle.scasp_rows.specs.Verdicts.{IfUnsat, Says, verdict_of}
use Rattle.scasp_rows.proofs.Reaching.{false_reached}
use Rattle.scasp_simplex.specs.Inside.Certified.{Answers, IsRight}
use Rattle.scasp_simplex.specs.Reached.{AddsFalse}
use Rattle.scasp_simplex.proofs.ChainLemmas.{adds-reaches, reaches-adds}

pub right-sat : (rows : List Linear) (v : Verdict) → IsRight rows v → (v ≡ verdict.Sat) ↔ IsMet rows
right-sat rows verdict.Sat h = ((λ _. h), (λ _. refl))
right-sat rows (verdict.Unsat steps) h =
    ((λ e. cc), (λ m. absurd (false_reached rows steps m.0 (adds-reaches rows steps h.0) m.1)))

pub right-adds : (rows : List Linear) (v : Verdict) → IsRight rows v → IfUnsat v (AddsFalse rows)
right-adds rows verdict.Sat h = tt
right-adds rows (verdict.Unsat steps) h = h.0

pub right-reaches : (rows : List Linear) (v : Verdict) → IsRight rows v → IfUnsat v (ReachesFalse rows)
right-reaches rows verdict.Sat h = tt
right-reaches rows (verdict.Unsat steps) h = adds-reaches rows steps h.0

pub right-ranges : (rows : List Linear) (v : Verdict) → IsRight rows v → IfUnsat v (Each StepInRange)
right-ranges rows verdict.Sat h = tt
right-ranges rows (verdict.Unsat steps) h = h.1

-- what the elimination answers is right of rows of which none is false by itself
pub eliminated-answers : (rows : List Linear) (r : Result Verdict LinErr) → list_any is_false rows ≡ false → Says r (verdict_of rows) → IfOk r (λ v. (v ≡ verdict.Sat) ↔ IsMet rows) → IfOk r (λ v. IfUnsat v (ReachesFalse rows)) → IfOk r (λ v. IfUnsat v (Each StepInRange)) → Answers rows r
eliminated-answers rows (Ok verdict.Sat) none says sat unsat ranges = sat.0 refl
eliminated-answers rows (Ok (verdict.Unsat steps)) none says sat unsat ranges = (reaches-adds rows steps none unsat, ranges)
eliminated-answers rows (Err err.Overflow) none says sat unsat ranges = says
eliminated-answers rows (Err err.Memory) none says sat unsat ranges = tt

-- the clauses of an answer
pub answers-sat : (rows : List Linear) (r : Result Verdict LinErr) → Answers rows r → IfOk r (λ v. (v ≡ verdict.Sat) ↔ IsMet rows)
answers-sat rows (Ok v) h = right-sat rows v h
answers-sat rows (Err e) h = tt

pub answers-adds : (rows : List Linear) (r : Result Verdict LinErr) → Answers rows r → IfOk r (λ v. IfUnsat v (AddsFalse rows))
answers-adds rows (Ok v) h = right-adds rows v h
answers-adds rows (Err e) h = tt

pub answers-reaches : (rows : List Linear) (r : Result Verdict LinErr) → Answers rows r → IfOk r (λ v. IfUnsat v (ReachesFalse rows))
answers-reaches rows (Ok v) h = right-reaches rows v h
answers-reaches rows (Err e) h = tt

pub answers-ranges : (rows : List Linear) (r : Result Verdict LinErr) → Answers rows r → IfOk r (λ v. IfUnsat v (Each StepInRange))
answers-ranges rows (Ok v) h = right-ranges rows v h
answers-ranges rows (Err e) h = tt

pub answers-overflow : (rows : List Linear) (r : Result Verdict LinErr) → Answers rows r → r ≡ Err err.Overflow → verdict_of rows ≡ Err err.Overflow
answers-overflow rows (Ok v) h e = cc
answers-overflow rows (Err err.Overflow) h e = h
answers-overflow rows (Err err.Memory) h e = cc
