-- The rules of choices are well formed.
use Rattle.std.proofs.Common.{◌≡◌, ℕ, zero, suc, ◌+◌, ◌≤◌, true, ◌&&◌, List, [], ◌∷◌, ◌++◌, refl, ap, ◌∙◌, arith}
use Rattle.std.specs.List.{flat_map, list_all}
use Rattle.std.proofs.lemmas.Bool.{and_parts, and_from, lt-ltb}
use Rattle.std.proofs.lemmas.List.Folds.{list_all-append}
use Rattle.scasp_syntax.specs.Denials.{variables_from}
use Rattle.scasp_syntax.specs.Tm.{var, nil, cons, pushed}
use Rattle.scasp_syntax.specs.WellFormed.{are_below, is_below, is_clause_well_formed, is_query_well_formed, are_well_formed}
use Rattle.scasp_syntax.specs.declared.atom.Pred.{Pred}
use Rattle.scasp_syntax.specs.declared.clause.Clause.{Clause}
use Rattle.scasp_syntax.specs.declared.clause.Query.{Query}
use Rattle.scasp_abduce.specs.Translation.{Choice, unless, choice_rules}

-- one variable more
variables_from-push : (x n k : ℕ) → k ≡ x + n → variables_from x (suc n) ≡ pushed (variables_from x n) (var k)
variables_from-push x zero k e = let f : x ≡ k = omega arith in ap (λ y. cons (var y) nil) f
variables_from-push x (suc n) k e = ap (cons (var x)) (variables_from-push (x + 1) n k (omega arith))

pub variables-push : (n : ℕ) → variables_from 0 (n + 1) ≡ pushed (variables_from 0 n) (var n)
variables-push n = let e : n + 1 ≡ suc n = omega arith in ap (variables_from 0) e ∙ variables_from-push 0 n n (omega arith)

variables-below : (x n m : ℕ) → x + n ≤ m → are_below m (variables_from x n) ≡ true
variables-below x zero m h = refl
variables-below x (suc n) m h =
    and_from (is_below m (var x)) (are_below m (variables_from (x + 1) n)) (lt-ltb x m (omega arith)) (variables-below (x + 1) n m (omega arith))

unless-well_formed : (p q : Pred) → is_clause_well_formed (unless p q) ≡ true
unless-well_formed p q =
    let low : are_below p.arity (variables_from 0 p.arity) ≡ true = variables-below 0 p.arity p.arity (omega arith) in
    and_from (are_below p.arity (variables_from 0 p.arity)) (are_below p.arity (variables_from 0 p.arity) && true) low
    (and_from (are_below p.arity (variables_from 0 p.arity)) true low refl)

rules-well_formed : (cs : List Choice) → list_all is_clause_well_formed (flat_map choice_rules cs) ≡ true
rules-well_formed [] = refl
rules-well_formed (c ∷ cs) =
    and_from (is_clause_well_formed (unless c.pred c.opposite)) (list_all is_clause_well_formed (unless c.opposite c.pred ∷ flat_map choice_rules cs))
    (unless-well_formed c.pred c.opposite)
    (and_from (is_clause_well_formed (unless c.opposite c.pred)) (list_all is_clause_well_formed (flat_map choice_rules cs))
    (unless-well_formed c.opposite c.pred) (rules-well_formed cs))

pub with_rules-well_formed : (clauses : List Clause) (queries : List Query) (cs : List Choice) → are_well_formed clauses queries ≡ true → are_well_formed (clauses ++ flat_map choice_rules cs) queries ≡ true
with_rules-well_formed clauses queries cs h =
    let p = and_parts (list_all is_clause_well_formed clauses) (list_all is_query_well_formed queries) h in
    and_from (list_all is_clause_well_formed (clauses ++ flat_map choice_rules cs)) (list_all is_query_well_formed queries)
    (list_all-append is_clause_well_formed clauses (flat_map choice_rules cs)
    ∙ and_from (list_all is_clause_well_formed clauses) (list_all is_clause_well_formed (flat_map choice_rules cs)) p.0 (rules-well_formed cs)) p.1
