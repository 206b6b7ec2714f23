-- What a check of a certificate comes to.
use Rattle.std.specs.Prelude.{ℕ, Option, None, Some, Result, Ok, Err}
use Rattle.scasp_syntax.specs.declared.program.Program.{Program}
use Rattle.scasp_cert.specs.Certificate.{Certificate}
use Rattle.scasp_graph.specs.Judged.{judged}
use Rattle.scasp_graph.specs.Map.{map_faults}
use Rattle.scasp_graph.specs.declared.map.MapFault.{MapFault}
use Rattle.scasp_sound.specs.MapLevels.{covered}
use Rattle.scasp_checker_rules.specs.Faults.{faults}
use Rattle.scasp_checker_rules.specs.Refusals.{first}
use Rattle.scasp_checker_rules.specs.declared.refusal.Refusal.{Refusal}
use Rattle.scasp_checker.specs.declared.verdict.verdict.Verdict.{Verdict}
use Rattle.scasp_checker.specs.declared.verdict.verdict.Verdict.TheVariants.{Right, Joins}
use Rattle.scasp_recheck.specs.declared.checked.Checked.{Checked}
use Rattle.scasp_recheck.specs.declared.checked.Checked.TheVariants.{Accepted, Refused}

-- of what is accepted: right where the program keeps the map, and else it joins
abbrev pub verdict_of : Result Unit MapFault → Verdict
verdict_of (Ok kept) = Right
verdict_of (Err fault) = Joins fault

-- refused by the first fault, and accepted where there is none
abbrev pub checked_by : Option Refusal → Verdict → Checked
checked_by (Some r) v = Refused r
checked_by None v = Accepted v

-- how the program keeps the certificate's map, but for the clauses of its checks
abbrev pub verdict_on : Program → Certificate → Verdict
verdict_on p c = verdict_of (judged (map_faults p (covered c) c.map))

abbrev pub checked_of : Program → Certificate → Checked
checked_of p c = checked_by (first (faults p c)) (verdict_on p c)
