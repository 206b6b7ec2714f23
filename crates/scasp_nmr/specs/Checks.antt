-- The list of checks: denials and odd rules by clause number.
use Rattle.std.specs.Prelude.{◌≡◌, ℕ, ◌+◌, Bool, is_some, List, [], ◌∷◌, None, Some, if◌then◌else◌}
use Rattle.std.specs.List.{Contains}
use Rattle.scasp_syntax.specs.Programs.{numbered}
use Rattle.scasp_syntax.specs.declared.clause.Clause.{Clause}
use Rattle.scasp_syntax.specs.declared.program.Program.{Program}
use Rattle.scasp_graph.specs.Analyses.{is_checked}
use Rattle.scasp_nmr.specs.declared.items.CheckItem.{CheckItem}

-- the checks, where the clauses are numbered from n
abbrev pub checks_from : List ℕ → ℕ → List Clause → List CheckItem
checks_from odd n [] = []
checks_from odd n (c ∷ cs) =
    if is_checked odd n c then record { clause = n; head = is_some c.head } ∷ checks_from odd (n + 1) cs else checks_from odd (n + 1) cs

-- the checks of the program's denials, and of its rules that have these numbers
abbrev pub checks_of : Program → List ℕ → List CheckItem
checks_of program odd = checks_from odd 1 program.clauses

abbrev pub clause_in : CheckItem → ℕ
clause_in i = i.clause

-- the clause of this number is a denial
pub record IsDenial (program : Program) (number : ℕ) : Type 0 where
  pub denial : Clause
  pub stands : numbered program.clauses number ≡ Some denial
  pub headless : denial.head ≡ None

-- the list has a check of this clause
abbrev pub HasCheck : List CheckItem → ℕ → Bool → Type 0
HasCheck items number head = Contains items (record { clause = number; head = head })
