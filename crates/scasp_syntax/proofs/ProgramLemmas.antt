-- What programs keep: rows in normal form, and generated denials beside well-formed clauses.
use Rattle.std.proofs.Common.{◌≡◌, ℕ, zero, suc, ◌+◌, ◌≤◌, nat_lt, true, ◌&&◌, IsTrue, List, [], ◌∷◌, map, filter, length, refl, ◌∙◌, arith}
use Rattle.std.specs.List.{list_all}
use Rattle.std.proofs.lemmas.Bool.{and_from, and_parts}
use Rattle.std.proofs.lemmas.Bool.Decides.{nat_tests}
use Rattle.std.proofs.lemmas.List.Folds.{list_all-append}
use Rattle.scasp_list.specs.Each.{Each}
use Rattle.scasp_list.proofs.EachLemmas.{Each-from_test}
use Rattle.scasp_num.specs.Linear.{is_normal}
use Rattle.scasp_num.proofs.NormalTests.{normal-decided}
use Rattle.scasp_syntax.specs.Denials.{variables_from, denial_of, with_denials, generated_denials}
use Rattle.scasp_syntax.specs.Programs.{predicates_in}
use Rattle.scasp_syntax.specs.WellFormed.{HasNormalRow, are_below, is_item_below, is_head_below, is_clause_well_formed, is_query_well_formed, are_well_formed, lists_variables}
use Rattle.scasp_syntax.specs.declared.atom.Pred.{Pred}
use Rattle.scasp_syntax.specs.declared.clause.Clause.{Clause}
use Rattle.scasp_syntax.specs.declared.clause.Item.{Item}
use Rattle.scasp_syntax.specs.declared.clause.Item.TheVariants.{Call, Equal, Differ, Linear}
use Rattle.scasp_syntax.specs.declared.clause.Query.{Query}
use Rattle.scasp_syntax.specs.declared.program.Program.{Program}

-- ---- rows

item-row : (n : ℕ) (i : Item) → is_item_below n i ≡ true → HasNormalRow i
item-row n (Call l) e = tt
item-row n (Equal t s) e = tt
item-row n (Differ t s) e = tt
item-row n (Linear l) e =
    (normal-decided l.row).0 (and_parts (lists_variables l && list_all (λ x. nat_lt x n) l.vars) (is_normal l.row) e).1

pub clause-rows : (p : Program) → Each (λ c. Each HasNormalRow c.body) p.clauses
clause-rows p =
    let e = and_parts (list_all is_clause_well_formed p.clauses) (list_all is_query_well_formed p.queries) p.well_formed in
    Each-from_test is_clause_well_formed (λ c. Each HasNormalRow c.body) (λ c h. Each-from_test (is_item_below c.vars) HasNormalRow (item-row c.vars) c.body (and_parts (is_head_below c.vars c.head) (list_all (is_item_below c.vars) c.body) h).1) p.clauses e.0

pub query-rows : (p : Program) → Each (λ q. Each HasNormalRow q.body) p.queries
query-rows p =
    let e = and_parts (list_all is_clause_well_formed p.clauses) (list_all is_query_well_formed p.queries) p.well_formed in
    Each-from_test is_query_well_formed (λ q. Each HasNormalRow q.body) (λ q h. Each-from_test (is_item_below (length q.names)) HasNormalRow (item-row (length q.names)) q.body h) p.queries e.1

-- ---- generated denials

variables-below : (n x k : ℕ) → x + k ≤ n → are_below n (variables_from x k) ≡ true
variables-below n x zero h = refl
variables-below n x (suc k) h =
    let first : nat_lt x n ≡ true = grind (arith, nat_tests) in
    and_from (nat_lt x n) (are_below n (variables_from (x + 1) k)) first (variables-below n (x + 1) k (omega arith))

denial-well_formed : (p : Pred) → is_clause_well_formed (denial_of p) ≡ true
denial-well_formed p =
    let e = variables-below p.arity 0 p.arity (omega arith) in
    and_from true _ refl (and_from _ _ e (and_from _ _ e refl))

denials-well_formed : (ps : List Pred) → list_all is_clause_well_formed (map denial_of ps) ≡ true
denials-well_formed [] = refl
denials-well_formed (p ∷ ps) = and_from (is_clause_well_formed (denial_of p)) (list_all is_clause_well_formed (map denial_of ps)) (denial-well_formed p) (denials-well_formed ps)

pub with_denials-well_formed : (clauses : List Clause) (queries : List Query) → IsTrue (are_well_formed clauses queries) → IsTrue (are_well_formed (with_denials clauses queries) queries)
with_denials-well_formed clauses queries h =
    let p = and_parts (list_all is_clause_well_formed clauses) (list_all is_query_well_formed queries) h in
    and_from (list_all is_clause_well_formed (with_denials clauses queries)) (list_all is_query_well_formed queries)
    (list_all-append is_clause_well_formed clauses (generated_denials clauses queries) ∙ and_from _ _ p.0 (denials-well_formed (filter (λ p. p.minus) (predicates_in clauses queries)))) p.1
