-- What a certificate is worth by its faults and its map, and what that says of it.
use Rattle.std.specs.Prelude.{ℕ, IsTrue, List, [], ◌∷◌}
use Rattle.scasp_syntax.specs.declared.program.Program.{Program}
use Rattle.scasp_graph.specs.Map.{map_faults, MapHolds}
use Rattle.scasp_cert.specs.Certificate.{Certificate}
use Rattle.scasp_cert.specs.Flat.{is_flat}
use Rattle.scasp_sound.specs.MapLevels.{covered}
use Rattle.scasp_checker_rules.specs.Accepted.{Accepts}
use Rattle.scasp_checker_rules.specs.Faults.{faults}
use Rattle.scasp_checker_rules.specs.declared.refusal.Refusal.{Refusal}
use Rattle.scasp_law_promise.specs.Good.{Good, HasClosedDomains}
use Rattle.scasp_command_check.specs.declared.worth.Worth.{Worth}
use Rattle.scasp_command_check.specs.declared.worth.Worth.TheVariants.{Right, Joins, Refused}
use Rattle.scasp_checker.specs.Verdict.Right.{IsRight}

-- the first fault, else the first clause that breaks the map
abbrev pub worth_by : List Refusal → List ℕ → Worth
worth_by (fault ∷ faults) rules = Refused fault
worth_by [] (rule ∷ rules) = Joins (record { rule = rule })
worth_by [] [] = Right

abbrev pub worth_of : Program → Certificate → Worth
worth_of p c = worth_by (faults p c) (map_faults p (covered c) c.map)

-- what it says to be accepted, where the program breaks the map
pub record IsJoining (p : Program) (c : Certificate) : Type 0 where
  pub accepted : Accepts p c
  pub broken : ¬ MapHolds p (covered c) c.map
  pub good : Good p c
  pub domains : IsTrue (is_flat c) → HasClosedDomains p c

-- what it says to be worth so much; a right one is all that an answer that is printed is
abbrev pub Says : Worth → Program → Certificate → Type 0
Says Right p c = IsRight p c
Says (Joins fault) p c = IsJoining p c
Says (Refused fault) p c = ¬ Accepts p c
