-- The tests in bodies of a program's clauses, with their variables raised, and in queries: what holds of each variable, and their rows.
use Rattle.std.specs.List.{list_all, list_any}
use Rattle.std.specs.Prelude.{Bool, List, None, Option, Some, [], false, if◌then◌else◌, length, map, nat_eq, nat_lt, not, true, zero, ℕ, ⊤, ◌&&◌, ◌++◌, ◌+◌, ◌<◌, ◌∷◌, ◌≡◌, ◌≤◌}
use Rattle.std.proofs.Common.{ap, arith, refl, subst, suc, sym, ◌∙◌}
use Rattle.std.proofs.lemmas.Bool.{and_parts, eqb-true, ltb-true}
use Rattle.scasp_checker_rules.proofs.NormalityLemmas.{negated-normal}
use Rattle.scasp_checker_rules.proofs.RenamedRows.{renamed-normal}
use Rattle.scasp_checker_rules.specs.PairLists.{raised_from, raising, row_raised, term_raised}
use Rattle.scasp_hint.specs.AskedRows.{RowsNormal}
use Rattle.scasp_law_first_event.proofs.Raising.{Each-mapped}
use Rattle.scasp_law_first_event.proofs.Terms.{EachVar, below-each, each-under}
use Rattle.scasp_list.proofs.EachLemmas.{Each-append, Each-at, Each-filter, Each-from_test}
use Rattle.scasp_list.proofs.MemberLemmas.{list_all-member, list_any-member}
use Rattle.scasp_list.specs.Each.{Each}
use Rattle.scasp_num.proofs.NormalTests.{normal-decided}
use Rattle.scasp_num.specs.Linear.{IsNormal, Linear, is_normal, is_symmetric, negated as negated_coeffs}
use Rattle.scasp_num.specs.declared.linear.Coeff.{Coeff}
use Rattle.scasp_search_rules.specs.Successors.Calls.{vars_in, vars_of_clause}
use Rattle.scasp_search_rules.specs.Successors.Items.{body_of, item_raised, items_of, opposite_item}
use Rattle.scasp_syntax.specs.Flat.{flat_after, flat_body, number_test, unseen}
use Rattle.scasp_syntax.specs.Programs.{numbered}
use Rattle.scasp_syntax.specs.Values.{under}
use Rattle.scasp_syntax.specs.View.{tm_of}
use Rattle.scasp_syntax.specs.WellFormed.{ascends, is_below, is_clause_well_formed, is_head_below, is_item_below, is_query_well_formed, lists_variables}
use Rattle.scasp_syntax.specs.declared.clause.Clause.{Clause}
use Rattle.scasp_syntax.specs.declared.clause.FlatItem.{FlatItem}
use Rattle.scasp_syntax.specs.declared.clause.FlatItem.TheVariants as flat
use Rattle.scasp_syntax.specs.declared.clause.Item.{Item}
use Rattle.scasp_syntax.specs.declared.clause.Item.TheVariants as item
use Rattle.scasp_syntax.specs.declared.clause.Lin.{Lin}
use Rattle.scasp_syntax.specs.declared.clause.Query.{Query}
use Rattle.scasp_syntax.specs.declared.con.Con.{Con}
use Rattle.scasp_syntax.specs.declared.con.Con.TheVariants as con
use Rattle.scasp_syntax.specs.declared.program.Program.{Program}
use Rattle.scasp_syntax.specs.declared.term.Term.{Term}
use Rattle.scasp_unify.proofs.SimpleLemmas.{viewed}
use Rattle.scasp_law_headed_steps.proofs.Forms.{ConAll, all-con-weaker}

-- each variable of the constraint is so, and its row is in normal form
abbrev pub TestOf : (ℕ → Type 0) → Con → Type 0
TestOf G c = ConAll G c × RowsNormal (c ∷ [])

abbrev pub ItemOf : (ℕ → Type 0) → FlatItem → Type 0
ItemOf G (flat.Call l) = ⊤
ItemOf G (flat.Test c) = TestOf G c

pub item-of-weaker : (G H : ℕ → Type 0) → ((x : ℕ) → G x → H x) → (i : FlatItem) → ItemOf G i → ItemOf H i
item-of-weaker G H f (flat.Call l) h = tt
item-of-weaker G H f (flat.Test c) h = (all-con-weaker G H f c h.0, h.1)

-- the item, and the one that is true where it is false
abbrev pub SidesOf : (ℕ → Type 0) → FlatItem → Type 0
SidesOf G i = ItemOf G i × ItemOf G (opposite_item i)

-- ---- rows

number-below : (l : Lin) (n : ℕ) → lists_variables l ≡ true → list_all (λ x. nat_lt x n) l.vars ≡ true → Each (λ k. k.x < n) l.row.coeffs
number-below l n e f =
    Each-from_test (λ (k : Coeff). list_any (nat_eq k.x) l.vars) (λ k. k.x < n)
    (λ k g. let o = list_any-member (nat_eq k.x) l.vars g in ltb-true k.x n (ap (λ (x : ℕ). nat_lt x n) (eqb-true k.x o.0 o.2) ∙ list_all-member (λ x. nat_lt x n) l.vars o.0 f o.1))
    l.row.coeffs (and_parts (ascends l.vars) (list_all (λ (k : Coeff). list_any (nat_eq k.x) l.vars) l.row.coeffs) e).1

negated-each : (G : ℕ → Type 0) (b : Bool) (ks : List Coeff) → Each (λ k. G k.x) ks → Each (λ k. G k.x) (negated_coeffs b ks)
negated-each G b [] h = tt
negated-each G b (k ∷ ks) h = (h.0, negated-each G b ks h.1)

raised-lt : (by x y : ℕ) → x < y → raised_from 0 by x < raised_from 0 by y
raised-lt by x y l = one (nat_lt x 0) (nat_lt y 0) refl refl
  where
    one : (a b : Bool) → nat_lt x 0 ≡ a → nat_lt y 0 ≡ b → (if a then x else x + by) < (if b then y else y + by)
    one true b e f = let m : x < 0 = ltb-true x 0 e in absurd (omega (arith, m))
    one false true e f = let m : y < 0 = ltb-true y 0 f in absurd (omega (arith, m))
    one false false e f = omega (arith, l)

-- ---- clauses

module _ (G : ℕ → Type 0) (n first : ℕ) (g : (z : ℕ) → first ≤ z → z < first + n → G z) where
  raised-one : (x : ℕ) → x < n → G (raised_from 0 first x)
  raised-one x l = by (nat_lt x 0) refl
    where
      by : (b : Bool) → nat_lt x 0 ≡ b → G (if b then x else x + first)
      by true e = let k : x < 0 = ltb-true x 0 e in absurd (omega (arith, k))
      by false e = g (x + first) (omega arith) (omega (arith, l))

  raised-side : (t : Term) → is_below n (tm_of t) ≡ true → EachVar G (tm_of (term_raised 0 first t))
  raised-side t e = subst (EachVar G) (sym (viewed (under (raising 0 first) (tm_of t)))) (each-under (λ y. y < n) G (raising 0 first) raised-one (tm_of t) (below-each n (tm_of t) e))

  raised-coeffs : (ks : List Coeff) → Each (λ k. k.x < n) ks → Each (λ (k : Coeff). G k.x) (map (λ (k : Coeff). record { x = raised_from 0 first k.x; c = k.c }) ks)
  raised-coeffs [] h = tt
  raised-coeffs (k ∷ ks) h = (raised-one k.x h.0, raised-coeffs ks h.1)

  tests-of : (xs : List ℕ) → Each (λ x. x < n) xs → Each (λ i. SidesOf G (item_raised first i)) (map number_test xs)
  tests-of [] h = tt
  tests-of (x ∷ xs) h = (((raised-one x h.0, tt), (raised-one x h.0, tt)), tests-of xs h.1)

  row-of : (l : Lin) → (lists_variables l && list_all (λ x. nat_lt x n) l.vars && is_normal l.row) ≡ true → SidesOf G (item_raised first (flat.Test (con.Row l.row))) × Each (λ x. x < n) l.vars
  row-of l e =
      let q = and_parts (lists_variables l && list_all (λ x. nat_lt x n) l.vars) (is_normal l.row) e in
      let p = and_parts (lists_variables l) (list_all (λ x. nat_lt x n) l.vars) q.0 in
      let r : Linear = row_raised 0 first l.row in
      let normal : IsNormal (row_raised 0 first l.row) = renamed-normal (raised_from 0 first) (raised-lt first) l.row ((normal-decided l.row).0 q.1) in
      let all : Each (λ k. G k.x) (row_raised 0 first l.row).coeffs = raised-coeffs l.row.coeffs (number-below l n p.0 p.1) in (
        ((all, (normal, tt)), (negated-each G (not (is_symmetric r.op)) r.coeffs all, negated-normal 0 (con.Row r) (normal, tt))),
        Each-from_test (λ x. nat_lt x n) (λ x. x < n) (λ x f. ltb-true x n f) l.vars p.1,
      )

  flat-of : (seen : List ℕ) (is : List Item) → list_all (is_item_below n) is ≡ true → Each (λ i. SidesOf G (item_raised first i)) (flat_after seen is)
  flat-of seen [] e = tt
  flat-of seen (item.Call l ∷ is) e = ((tt, tt), flat-of seen is (and_parts (is_item_below n (item.Call l)) (list_all (is_item_below n) is) e).1)
  flat-of seen (item.Equal t u ∷ is) e =
      let q = and_parts (is_item_below n (item.Equal t u)) (list_all (is_item_below n) is) e in
      let o = and_parts (is_below n (tm_of t)) (is_below n (tm_of u)) q.0 in
      let a = raised-side t o.0 in
      let b = raised-side u o.1 in
      ((((a, b), tt), ((a, b), tt)), flat-of seen is q.1)
  flat-of seen (item.Differ t u ∷ is) e =
      let q = and_parts (is_item_below n (item.Differ t u)) (list_all (is_item_below n) is) e in
      let o = and_parts (is_below n (tm_of t)) (is_below n (tm_of u)) q.0 in
      let a = raised-side t o.0 in
      let b = raised-side u o.1 in
      ((((a, b), tt), ((a, b), tt)), flat-of seen is q.1)
  flat-of seen (item.Linear l ∷ is) e =
      let q = and_parts (is_item_below n (item.Linear l)) (list_all (is_item_below n) is) e in
      let r = row-of l q.0 in
      Each-append (λ (i : FlatItem). SidesOf G (item_raised first i)) (map number_test (unseen seen l.vars)) (flat.Test (con.Row l.row) ∷ flat_after (seen ++ l.vars) is)
      (tests-of (unseen seen l.vars) (Each-filter (λ x. x < n) (λ x. not (list_any (nat_eq x) seen)) l.vars r.1)) (r.0, flat-of (seen ++ l.vars) is q.1)

body-clause : (G : ℕ → Type 0) (o : Option Clause) (first : ℕ) → ((z : ℕ) → first ≤ z → z < first + vars_in o → G z) → ((c : Clause) → o ≡ Some c → is_clause_well_formed c ≡ true) → Each (SidesOf G) (items_of o first)
body-clause G None first g w = tt
body-clause G (Some c) first g w =
    Each-mapped (SidesOf G) (item_raised first) (flat_body c.body)
    (flat-of G c.vars first g [] c.body (and_parts (is_head_below c.vars c.head) (list_all (is_item_below c.vars) c.body) (w c refl)).1)

numbered-sound : (cs : List Clause) → list_all is_clause_well_formed cs ≡ true → (k : ℕ) (c : Clause) → numbered cs k ≡ Some c → is_clause_well_formed c ≡ true
numbered-sound cs h zero c e = absurd (cc e)
numbered-sound cs h (suc n) c e = Each-at (λ (d : Clause). is_clause_well_formed d ≡ true) cs n c (Each-from_test is_clause_well_formed (λ d. is_clause_well_formed d ≡ true) (λ d f. f) cs h) (sym e)

-- the body of a clause whose variables, from the first on, are so
pub body-sides : (G : ℕ → Type 0) (p : Program) (k first : ℕ) → ((z : ℕ) → first ≤ z → z < first + vars_of_clause p k → G z) → Each (SidesOf G) (body_of p k first)
body-sides G p k first g =
    body-clause G (numbered p.clauses k) first g (numbered-sound p.clauses (and_parts (list_all is_clause_well_formed p.clauses) (list_all is_query_well_formed p.queries) p.well_formed).0 k)

-- ---- queries

flat-query : (n : ℕ) (seen : List ℕ) (is : List Item) → list_all (is_item_below n) is ≡ true → Each (ItemOf (λ y. y < n)) (flat_after seen is)
flat-query n seen [] e = tt
flat-query n seen (item.Call l ∷ is) e = (tt, flat-query n seen is (and_parts (is_item_below n (item.Call l)) (list_all (is_item_below n) is) e).1)
flat-query n seen (item.Equal t u ∷ is) e =
    let q = and_parts (is_item_below n (item.Equal t u)) (list_all (is_item_below n) is) e in
    let o = and_parts (is_below n (tm_of t)) (is_below n (tm_of u)) q.0 in
    (((below-each n (tm_of t) o.0, below-each n (tm_of u) o.1), tt), flat-query n seen is q.1)
flat-query n seen (item.Differ t u ∷ is) e =
    let q = and_parts (is_item_below n (item.Differ t u)) (list_all (is_item_below n) is) e in
    let o = and_parts (is_below n (tm_of t)) (is_below n (tm_of u)) q.0 in
    (((below-each n (tm_of t) o.0, below-each n (tm_of u) o.1), tt), flat-query n seen is q.1)
flat-query n seen (item.Linear l ∷ is) e =
    let q = and_parts (is_item_below n (item.Linear l)) (list_all (is_item_below n) is) e in
    let o = and_parts (lists_variables l && list_all (λ x. nat_lt x n) l.vars) (is_normal l.row) q.0 in
    let p = and_parts (lists_variables l) (list_all (λ x. nat_lt x n) l.vars) o.0 in
    let vars : Each (λ x. x < n) l.vars = Each-from_test (λ x. nat_lt x n) (λ x. x < n) (λ x f. ltb-true x n f) l.vars p.1 in
    Each-append (ItemOf (λ y. y < n)) (map number_test (unseen seen l.vars)) (flat.Test (con.Row l.row) ∷ flat_after (seen ++ l.vars) is)
    (tests (unseen seen l.vars) (Each-filter (λ x. x < n) (λ x. not (list_any (nat_eq x) seen)) l.vars vars))
    ((number-below l n p.0 p.1, ((normal-decided l.row).0 o.1, tt)), flat-query n (seen ++ l.vars) is q.1)
  where
    tests : (xs : List ℕ) → Each (λ x. x < n) xs → Each (ItemOf (λ y. y < n)) (map number_test xs)
    tests [] h = tt
    tests (x ∷ xs) h = ((h.0, tt), tests xs h.1)

pub query-tests : (q : Query) → is_query_well_formed q ≡ true → Each (ItemOf (λ y. y < length q.names)) (flat_body q.body)
query-tests q e = flat-query (length q.names) [] q.body e
