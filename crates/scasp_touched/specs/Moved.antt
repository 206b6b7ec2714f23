-- Clauses of one number in two lists, by the predicates that they are rules of.
use Rattle.std.specs.Prelude.{Bool, true, false, ◌&&◌, not, List, [], ◌∷◌, Option, None, Some}
use Rattle.scasp_syntax.specs.Programs.{is_rule_of}
use Rattle.scasp_syntax.specs.Same.{same_bool}
use Rattle.scasp_syntax.specs.declared.atom.Pred.{Pred}
use Rattle.scasp_syntax.specs.declared.clause.Clause.{Clause}

-- the clause is there and is a rule of the predicate
abbrev pub is_rule_at : Pred → Option Clause → Bool
is_rule_at p None = false
is_rule_at p (Some c) = is_rule_of p c

-- clauses of one number are rules of the predicate in both lists or in none
abbrev pub agree : Pred → List Clause → List Clause → Bool
agree p [] [] = true
agree p [] (d ∷ ds) = not (is_rule_of p d) && agree p [] ds
agree p (c ∷ cs) [] = not (is_rule_of p c) && agree p cs []
agree p (c ∷ cs) (d ∷ ds) = same_bool (is_rule_of p c) (is_rule_of p d) && agree p cs ds
