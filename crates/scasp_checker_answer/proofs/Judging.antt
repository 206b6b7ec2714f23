-- Faults of parts, one behind the other.
use Rattle.std.proofs.Common.{◌≡◌, List, [], ◌∷◌, ◌++◌}
use Rattle.scasp_checker_rules.specs.declared.refusal.Refusal.{Refusal}
use Rattle.scasp_checker_answer.specs.Judged.{IsFirst}
use Rattle.scasp_checker_answer.specs.declared.judged.CheckErr.{CheckErr}
use Rattle.scasp_checker_answer.specs.declared.judged.CheckErr.TheVariants.{Refused, Memory}

-- the first fault of a part is the first of the whole
pub first_here : (e : CheckErr) (xs ys : List Refusal) → IsFirst e xs → IsFirst e (xs ++ ys)
first_here (Refused r) [] ys h = cc
first_here (Refused r) (x ∷ xs) ys h = h
first_here Memory xs ys h = h

-- behind a part without fault
pub first_behind : (e : CheckErr) (xs ys : List Refusal) → xs ≡ [] → IsFirst e ys → IsFirst e (xs ++ ys)
first_behind e xs ys none h = rw none h

pub none_and_none : (xs ys : List Refusal) → xs ≡ [] → ys ≡ [] → xs ++ ys ≡ []
none_and_none xs ys none none' = rw none none'
