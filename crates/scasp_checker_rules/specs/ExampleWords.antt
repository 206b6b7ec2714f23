-- Words for worked cases: programs, tests and refusals.
use Rattle.std.specs.Prelude.{◌≡◌, ℕ, true, ℤ, List, [], ◌∷◌, map, Some, Option}
use Rattle.std.proofs.Common.{refl}
use Rattle.scasp_num.specs.Linear.{Linear}
use Rattle.scasp_num.specs.declared.hints.Step.{Step}
use Rattle.scasp_num.specs.declared.linear.Op.{Op}
use Rattle.scasp_syntax.specs.WellFormed.{are_well_formed}
use Rattle.scasp_syntax.specs.declared.atom.Lit.{Lit}
use Rattle.scasp_syntax.specs.declared.clause.Clause.{Clause}
use Rattle.scasp_syntax.specs.declared.clause.Item.TheVariants.{Call}
use Rattle.scasp_syntax.specs.declared.clause.Query.{Query}
use Rattle.scasp_syntax.specs.declared.con.Con.{Con}
use Rattle.scasp_syntax.specs.declared.hint.Hint.TheVariants as hint
use Rattle.scasp_syntax.specs.declared.program.Program.{Program}
use Rattle.scasp_cert.specs.Trees.{Tree, test_tree}
use Rattle.scasp_checker_rules.specs.declared.refusal.Refusal.{Refusal}
use Rattle.scasp_checker_rules.specs.declared.refusal.Reason.{Reason}

abbrev pub program : (cs : List Clause) (qs : List Query) → are_well_formed cs qs ≡ true → Program
program cs qs e = record { clauses = cs; queries = qs; abducibles = []; well_formed = e; choices = refl }

-- a query of literals without variables
abbrev pub ask_all : List Lit → Query
ask_all ls = record { body = map Call ls; names = [] }

-- the test, shown by terms
abbrev pub test : Con → Tree
test c = test_tree c hint.Terms

-- one variable times c, and a constant
abbrev pub row : ℕ → ℤ → ℤ → Op → Linear
row x c constant o = record { coeffs = record { x = x; c = c } ∷ []; constant = constant; op = o }

-- a*p + b*q
abbrev pub step : ℤ → ℕ → ℤ → ℕ → Step
step a p b q = record { a = a; p = p; b = b; q = q }

abbrev pub refused_at : ℕ → Reason → Option Refusal
refused_at at why = Some (record { at = at; reason = why })
