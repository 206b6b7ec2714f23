-- The rules of a program by their predicates, and the rules that covers name.
use Rattle.std.specs.HashMap.{HashMap, get}
use Rattle.std.specs.Prelude.{◌≡◌, ℕ, List, [], map, Option, None, Some}
use Rattle.scasp_cert.specs.Trees.{Branch}
use Rattle.scasp_lines_places.specs.Places.Chains.{chained}
use Rattle.scasp_lines_places.specs.declared.places.chain.Chain.{Chain}
use Rattle.scasp_syntax.specs.Programs.{rules_from}
use Rattle.scasp_syntax.specs.contracts.atom.PredPartialEq.TheImpl.{eq-value}
use Rattle.scasp_syntax.specs.declared.atom.Pred.{Pred}
use Rattle.scasp_syntax.specs.declared.clause.Clause.{Clause}

abbrev pub named : List (ℕ × Branch) → List ℕ
named cs = map (λ c. c.0) cs

abbrev pub numbers_in : Option (Chain ℕ) → List ℕ
numbers_in None = []
numbers_in (Some c) = chained c

module _ {S : Type 0} where
  -- the numbers of the rules of the predicate
  abbrev pub rules_at : HashMap Pred (Chain ℕ) S → Pred → List ℕ
  rules_at m p = numbers_in (get eq-value.it m p)

  -- each predicate has those of its rules, in order
  abbrev pub HasRules : HashMap Pred (Chain ℕ) S → List Clause → Type 0
  HasRules m cs = (p : Pred) → rules_at m p ≡ rules_from 1 cs p
