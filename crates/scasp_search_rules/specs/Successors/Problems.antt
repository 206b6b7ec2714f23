-- What a search is about.
use Rattle.std.specs.Prelude.{ℕ, Bool, List, Option}
use Rattle.scasp_nmr.specs.declared.items.CheckItem.{CheckItem}
use Rattle.scasp_syntax.specs.Tm.{Tms}
use Rattle.scasp_syntax.specs.declared.con.Con.{Con}
use Rattle.scasp_syntax.specs.declared.predicate_map.PredMap.{PredMap}
use Rattle.scasp_syntax.specs.declared.program.Program.{Program}

-- The program, the number of its query, the clauses that are checked and the map of its predicates. And three tests of lists of
-- constraints: whether a list has a valuation, values for so many free variables that meet the list, where their arithmetic does not
-- overflow, and whether the list's arithmetic overflows.
pub record Problem : Type 0 where
  pub program : Program
  pub query : ℕ
  pub checks : List CheckItem
  pub map : List PredMap
  pub sat : List Con → Bool
  pub sample : List Con → ℕ → Option Tms
  pub overflows : List Con → Bool
