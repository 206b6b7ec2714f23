-- What the tables make has no variable, so it is well formed.
use Rattle.std.proofs.Common.{◌≡◌, Bool, true, false, List, [], ◌∷◌, Option, None, Some, map, refl}
use Rattle.std.specs.List.{list_all}
use Rattle.std.proofs.lemmas.Bool.{and_from}
use Rattle.scasp_syntax.specs.WellFormed.{are_below, is_head_below, is_item_below, is_clause_well_formed, is_query_well_formed, are_well_formed}
use Rattle.scasp_syntax.specs.declared.clause.Clause.{Clause}
use Rattle.scasp_syntax.specs.declared.clause.Query.{Query}
use Rattle.scasp_test_samples.specs.Samples.{args_of, head_of, body_of, clause_of, query_of}
use Rattle.scasp_test_samples.specs.declared.names.Name.{Name}

args-below : (b : Bool) → are_below 0 (args_of b) ≡ true
args-below false = refl
args-below true = refl

head-below : (h : Option Name) → is_head_below 0 (head_of h) ≡ true
head-below None = refl
head-below (Some n) = args-below n.has_argument

body-below : (ls : List (Bool × Name)) → list_all (is_item_below 0) (body_of ls) ≡ true
body-below [] = refl
body-below (l ∷ ls) = and_from _ _ (args-below l.1.has_argument) (body-below ls)

clauses-below : {A : Type 0} (head : A → Option Name) (body : A → List (Bool × Name)) (xs : List A) → list_all is_clause_well_formed (map (λ x. clause_of (head x) (body x)) xs) ≡ true
clauses-below head body [] = refl
clauses-below head body (x ∷ xs) = and_from _ _ (and_from _ _ (head-below (head x)) (body-below (body x))) (clauses-below head body xs)

queries-below : {A : Type 0} (body : A → List (Bool × Name)) (xs : List A) → list_all is_query_well_formed (map (λ x. query_of (body x)) xs) ≡ true
queries-below body [] = refl
queries-below body (x ∷ xs) = and_from _ _ (body-below (body x)) (queries-below body xs)

pub made-below : {A B : Type 0} (head : A → Option Name) (body : A → List (Bool × Name)) (asked : B → List (Bool × Name)) (xs : List A) (ys : List B) (cs : List Clause) (qs : List Query) → cs ≡ map (λ x. clause_of (head x) (body x)) xs → qs ≡ map (λ y. query_of (asked y)) ys → are_well_formed cs qs ≡ true
made-below head body asked xs ys cs qs c q = rw (c, q) (and_from _ _ (clauses-below head body xs) (queries-below asked ys))
