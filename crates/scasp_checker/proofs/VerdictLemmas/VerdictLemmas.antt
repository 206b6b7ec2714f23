-- What follows from the answers of the checker.
use Rattle.std.proofs.Common.{◌≡◌, ◌∙◌, true, [], None, Some, ap, sym}
use Rattle.scasp_syntax.specs.declared.program.Program.{Program}
use Rattle.scasp_cert.specs.Certificate.{Certificate}
use Rattle.scasp_checker_rules.specs.Accepted.{Accepts}
use Rattle.scasp_checker_rules.specs.Faults.{faults}
use Rattle.scasp_checker_rules.specs.Refusals.{first}
use Rattle.scasp_checker_rules.proofs.AcceptedLemmas.{accepted-no_fault}
use Rattle.scasp_checker_answer.specs.Judged.{IsFirst}
use Rattle.scasp_checker_answer.specs.declared.judged.CheckErr.{CheckErr}
use Rattle.scasp_checker_answer.specs.declared.judged.CheckErr.TheVariants.{Refused, Memory}
use Rattle.scasp_law_promise.specs.Kept.{KeepsPromise}
use Rattle.scasp_law_promise.specs.OwnRows.{has_normal_rows}
use Rattle.scasp_law_promise.proofs.PromiseLemmas.{keeps-promise}
use Rattle.scasp_checker.specs.Verdict.Verdicts.{Refutes}

pub refuted : (p : Program) (c : Certificate) (e : CheckErr) → IsFirst e (faults p c) → Refutes e (Accepts p c)
refuted p c (Refused r) h = λ a. let k : None ≡ Some r = sym (ap first ((accepted-no_fault true p c).0 a)) ∙ h in cc
refuted p c Memory h = h

pub no_fault-accepted : (p : Program) (c : Certificate) → faults p c ≡ [] → Accepts p c
no_fault-accepted p c e = (accepted-no_fault true p c).1 e

pub no_fault-kept : (p : Program) (c : Certificate) → has_normal_rows c ≡ true → faults p c ≡ [] → KeepsPromise p c
no_fault-kept p c n e = keeps-promise true p c n (no_fault-accepted p c e)
