-- What the checker answers.
use Rattle.std.specs.Prelude.{◌≡◌, ℕ, ⊤, List, [], Result, Ok, Err}
use Rattle.scasp_graph.specs.Judged.{judged}
use Rattle.scasp_checker_rules.specs.declared.refusal.Refusal.{Refusal}
use Rattle.scasp_checker_answer.specs.Judged.{IsFirst}
use Rattle.scasp_checker_answer.specs.declared.judged.CheckErr.{CheckErr}
use Rattle.scasp_checker_answer.specs.declared.judged.CheckErr.TheVariants.{Refused, Memory}
use Rattle.scasp_checker.specs.declared.verdict.verdict.Verdict.{Verdict}
use Rattle.scasp_checker.specs.declared.verdict.verdict.Verdict.TheVariants.{Right, Joins}

-- right where there is neither a fault nor a clause that breaks the map; it joins where such a clause is the first; else the first fault
abbrev pub Decides : Result Verdict CheckErr → List Refusal → List ℕ → Type 0
Decides (Ok Right) faults map_faults = (faults ≡ []) × (map_faults ≡ [])
Decides (Ok (Joins fault)) faults map_faults = (faults ≡ []) × (judged map_faults ≡ Err fault)
Decides (Err e) faults map_faults = IsFirst e faults

-- a refusal says that this is not so; want of memory says nothing
abbrev pub Refutes : CheckErr → Type 0 → Type 0
Refutes (Refused r) P = ¬ P
Refutes Memory P = ⊤
