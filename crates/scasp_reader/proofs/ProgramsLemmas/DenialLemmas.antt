-- The generated denials are well formed.
use Rattle.std.proofs.Common.{◌≡◌, ℕ, zero, suc, ◌+◌, ◌≤◌, Bool, true, ◌&&◌, List, [], ◌∷◌, ◌++◌, map, filter, refl, ap, ◌∙◌, arith}
use Rattle.std.specs.List.{list_all}
use Rattle.std.proofs.lemmas.Bool.{and_parts, and_from, lt-ltb}
use Rattle.scasp_syntax.specs.Denials.{variables_from, denial_of, generated_denials, with_denials}
use Rattle.scasp_syntax.specs.Programs.{predicates_in}
use Rattle.scasp_syntax.specs.Tm.{var, nil, cons, pushed}
use Rattle.scasp_syntax.specs.WellFormed.{are_below, is_below, is_clause_well_formed, is_query_well_formed, are_well_formed}
use Rattle.scasp_syntax.specs.declared.atom.Pred.{Pred}
use Rattle.scasp_syntax.specs.declared.clause.Clause.{Clause}
use Rattle.scasp_syntax.specs.declared.clause.Query.{Query}

-- one variable more
variables_from-push : (x n k : ℕ) → k ≡ x + n → variables_from x (suc n) ≡ pushed (variables_from x n) (var k)
variables_from-push x zero k e = let f : x ≡ k = omega arith in ap (λ y. cons (var y) nil) f
variables_from-push x (suc n) k e = ap (cons (var x)) (variables_from-push (x + 1) n k (omega arith))

pub variables-push : (n : ℕ) → variables_from 0 (n + 1) ≡ pushed (variables_from 0 n) (var n)
variables-push n = let e : n + 1 ≡ suc n = omega arith in ap (variables_from 0) e ∙ variables_from-push 0 n n (omega arith)

variables-below : (x n m : ℕ) → x + n ≤ m → are_below m (variables_from x n) ≡ true
variables-below x zero m h = refl
variables-below x (suc n) m h =
    and_from (is_below m (var x)) (are_below m (variables_from (x + 1) n)) (lt-ltb x m (omega arith)) (variables-below (x + 1) n m (omega arith))

denial-well_formed : (p : Pred) → is_clause_well_formed (denial_of p) ≡ true
denial-well_formed p =
    let vars = variables_from 0 p.arity in
    let low : are_below p.arity vars ≡ true = variables-below 0 p.arity p.arity (omega arith) in
    and_from (are_below p.arity vars) (are_below p.arity vars && true) low (and_from (are_below p.arity vars) true low refl)

denials-well_formed : (ps : List Pred) → list_all is_clause_well_formed (map denial_of ps) ≡ true
denials-well_formed [] = refl
denials-well_formed (p ∷ ps) = and_from (is_clause_well_formed (denial_of p)) (list_all is_clause_well_formed (map denial_of ps)) (denial-well_formed p) (denials-well_formed ps)

list_all-join : (f : Clause → Bool) (xs ys : List Clause) → list_all f xs ≡ true → list_all f ys ≡ true → list_all f (xs ++ ys) ≡ true
list_all-join f [] ys h k = k
list_all-join f (x ∷ xs) ys h k = let p = and_parts (f x) (list_all f xs) h in and_from (f x) (list_all f (xs ++ ys)) p.0 (list_all-join f xs ys p.1 k)

pub with_denials-well_formed : (clauses : List Clause) (queries : List Query) → are_well_formed clauses queries ≡ true → are_well_formed (with_denials clauses queries) queries ≡ true
with_denials-well_formed clauses queries h =
    let p = and_parts (list_all is_clause_well_formed clauses) (list_all is_query_well_formed queries) h in
    let denials = generated_denials clauses queries in
    and_from (list_all is_clause_well_formed (clauses ++ denials)) (list_all is_query_well_formed queries)
    (list_all-join is_clause_well_formed clauses denials p.0 (denials-well_formed (filter (λ p. p.minus) (predicates_in clauses queries)))) p.1
