-- What the analysis of a program is, and the clauses that are checked for it.
use Rattle.std.specs.Prelude.{ℕ, ◌+◌, Bool, ◌||◌, nat_eq, is_none, List, [], ◌∷◌, if◌then◌else◌}
use Rattle.std.specs.List.{list_any}
use Rattle.scasp_syntax.specs.declared.clause.Clause.{Clause}
use Rattle.scasp_syntax.specs.declared.program.Program.{Program}
use Rattle.scasp_graph.specs.OddRules.{AreOddRules}
use Rattle.scasp_graph.specs.RightMap.{IsRightMap}
use Rattle.scasp_graph.specs.declared.analysis.Analysis.{Analysis}

-- the odd rules of the program and its map
pub record IsAnalysis (program : Program) (a : Analysis) : Type 0 where
  pub odd : AreOddRules program a.odd_rules
  pub right : IsRightMap program a.map

-- the clause is a denial, or its number is among those of the odd rules
abbrev pub is_checked : List ℕ → ℕ → Clause → Bool
is_checked odd number c = is_none c.head || list_any (nat_eq number) odd

-- the numbers of such clauses, where the clauses are numbered from n
abbrev pub checked_from : List ℕ → ℕ → List Clause → List ℕ
checked_from odd n [] = []
checked_from odd n (c ∷ cs) = if is_checked odd n c then n ∷ checked_from odd (n + 1) cs else checked_from odd (n + 1) cs

-- the numbers of the denials and of the odd rules, in order
abbrev pub checked : Program → List ℕ → List ℕ
checked program odd = checked_from odd 1 program.clauses
