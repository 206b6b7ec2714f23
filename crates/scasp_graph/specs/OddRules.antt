-- Odd rules: those in a loop through their heads with an odd number of negations.
use Rattle.std.specs.Prelude.{◌≡◌, ◌↔◌, ℕ, true, IsTrue, nat_eq, List, Some}
use Rattle.std.specs.List.{list_any}
use Rattle.scasp_syntax.specs.Programs.{pred_of, body_preds, numbered}
use Rattle.scasp_syntax.specs.Same.{same_pred}
use Rattle.scasp_syntax.specs.WellFormed.{ascends}
use Rattle.scasp_syntax.specs.declared.atom.Atom.{Atom}
use Rattle.scasp_syntax.specs.declared.atom.Pred.{Pred}
use Rattle.scasp_syntax.specs.declared.clause.Clause.{Clause}
use Rattle.scasp_syntax.specs.declared.program.Program.{Program}
use Rattle.scasp_graph.specs.Walks.{Walk, Reaches, Depends}

-- Some walk leads from a predicate of the body back to the head's (no edge where the two are the same), and some
-- closed walk through the head's predicate has an odd number of negated edges.
pub record IsOddRule (program : Program) (number : ℕ) : Type 0 where
  pub rule : Clause
  pub stands : numbered program.clauses number ≡ Some rule
  pub head : Atom
  pub head_is : rule.head ≡ Some head
  pub below : Pred
  pub in_body : IsTrue (list_any (same_pred below) (body_preds rule.body))
  pub back : Reaches (Depends program) below (pred_of head)
  pub odd : Walk (Depends program) (pred_of head) (pred_of head) true

-- the numbers of the odd rules, in order
pub record AreOddRules (program : Program) (numbers : List ℕ) : Type 0 where
  pub ascending : IsTrue (ascends numbers)
  pub exactly : (k : ℕ) → IsTrue (list_any (nat_eq k) numbers) ↔ IsOddRule program k
