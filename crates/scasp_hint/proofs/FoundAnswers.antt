-- What an answer by the definitions says of the list.
use Rattle.std.proofs.Common.{◌≡◌, ◌≢◌, Bool, true, false, not, List, Option, Some, None, Result, Ok, Err, sym}
use Rattle.std.specs.Prelude.{IfOk, IfSome, IfNone, is_some}
use Rattle.scasp_rows.specs.declared.verdict.LinErr.{LinErr}
use Rattle.scasp_rows.specs.declared.verdict.LinErr.TheVariants as lin_err
use Rattle.scasp_syntax.specs.Constraints.{Sat}
use Rattle.scasp_syntax.specs.declared.con.Con.{Con}
use Rattle.scasp_syntax.specs.declared.hint.Hint.{Hint}
use Rattle.scasp_unify.specs.Sorted.{Sorted}
use Rattle.scasp_hint.specs.AskedRows.{RowsNormal}
use Rattle.scasp_hint.specs.Finding.{found, overflows_in}
use Rattle.scasp_hint.specs.Satisfying.{sat}
use Rattle.scasp_hint.specs.Showing.{HintInRange, fault_of}
use Rattle.scasp_hint.specs.Verdicts.{Finds}
use Rattle.scasp_hint.proofs.FoundLemmas.{found-hint, found-nothing, found-large, found-unshown, found-sorted}
use Rattle.scasp_hint.proofs.HintRanges.{hint-range}
use Rattle.scasp_hint.proofs.ShownLemmas.{shown-fails}

pub answer-hint : (cs : List Con) (r : Result (Option Hint) LinErr) → RowsNormal cs → Finds r (found cs) → IfOk r (λ answer. IfSome answer (λ h. fault_of cs h ≡ None))
answer-hint cs (Ok None) n f = tt
answer-hint cs (Ok (Some h)) n f = found-hint cs h n f
answer-hint cs (Err e) n f = tt

pub answer-range : (cs : List Con) (r : Result (Option Hint) LinErr) → RowsNormal cs → Finds r (found cs) → IfOk r (λ answer. IfSome answer HintInRange)
answer-range cs (Ok None) n f = tt
answer-range cs (Ok (Some h)) n f = hint-range cs h n f
answer-range cs (Err e) n f = tt

pub answer-none : (cs : List Con) (r : Result (Option Hint) LinErr) → RowsNormal cs → Finds r (found cs) → IfOk r (λ answer. IfNone answer ((h : Hint) → fault_of cs h ≢ None))
answer-none cs (Ok None) n f = λ h. found-unshown cs h n f
answer-none cs (Ok (Some h)) n f = tt
answer-none cs (Err e) n f = tt

pub answer-sorted : (cs : List Con) (r : Result (Option Hint) LinErr) → RowsNormal cs → Finds r (found cs) → IfOk r (λ answer. IfNone answer (Sorted cs → Sat cs))
answer-sorted cs (Ok None) n f = found-sorted cs n f
answer-sorted cs (Ok (Some h)) n f = tt
answer-sorted cs (Err e) n f = tt

pub answer-large : (cs : List Con) (r : Result (Option Hint) LinErr) → RowsNormal cs → Finds r (found cs) → r ≡ Err lin_err.Overflow → overflows_in cs ≡ true
answer-large cs (Ok o) n f e = cc
answer-large cs (Err lin_err.Overflow) n f e = found-large cs n f
answer-large cs (Err lin_err.Memory) n f e = cc

-- a hint shows that the list does not pass the test, and without one it passes it
pub answer-passes : (cs : List Con) (o : Option Hint) (b : Bool) → RowsNormal cs → Finds (Ok o) (found cs) → is_some o ≡ not b → b ≡ sat cs
answer-passes cs None true n f e = sym (found-nothing cs n f)
answer-passes cs None false n f e = cc
answer-passes cs (Some h) true n f e = cc
answer-passes cs (Some h) false n f e = sym (shown-fails cs h n (found-hint cs h n f))
