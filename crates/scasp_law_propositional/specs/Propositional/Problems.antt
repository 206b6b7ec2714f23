-- Problems with the tests of the whole language.
use Rattle.std.specs.Prelude.{◌≡◌, ℕ, true, Some, List, length}
use Rattle.scasp_hint.specs.Satisfying.{sat}
use Rattle.scasp_search_rules.specs.Successors.Problems.{Problem}
use Rattle.scasp_syntax.specs.Tm.{Tms, items}
use Rattle.scasp_syntax.specs.Values.{are_ground}
use Rattle.scasp_syntax.specs.declared.con.Con.{Con}

-- Lists of constraints are judged by `sat`, and each sample has one ground value for each free variable.
pub record HasTests (p : Problem) : Type 0 where
  pub sat_is : p.sat ≡ sat
  pub samples : (cs : List Con) (free : ℕ) (ts : Tms) → p.sample cs free ≡ Some ts → (length (items ts) ≡ free) × (are_ground ts ≡ true)
