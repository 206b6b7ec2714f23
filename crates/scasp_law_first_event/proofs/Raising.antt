-- Items of a program's clauses, with their variables raised, and of a query: what holds of each variable.
use Rattle.std.specs.Prelude.{◌≡◌, ◌⊎◌, ℕ, zero, suc, ◌+◌, ◌<◌, ◌≤◌, nat_eq, nat_lt, Bool, true, false, ◌&&◌, not, if◌then◌else◌, Option, Some, None, List, [], ◌∷◌, ◌++◌, map}
use Rattle.std.specs.List.{list_all, list_any}
use Rattle.std.proofs.Common.{refl, arith, sym, subst, inl, inr}
use Rattle.std.proofs.lemmas.Bool.{and_parts, or_cases, eqb-true, ltb-true, true≢false}
use Rattle.scasp_checker_rules.specs.PairLists.{raised_from, raising, term_raised}
use Rattle.scasp_list.specs.Each.{Each}
use Rattle.scasp_list.proofs.EachLemmas.{Each-append, Each-filter, Each-from_test, Each-at}
use Rattle.scasp_num.specs.Linear.{is_normal, is_symmetric, negated}
use Rattle.scasp_num.specs.declared.linear.Coeff.{Coeff}
use Rattle.scasp_search_rules.specs.Successors.Calls.{vars_in, args_in, vars_of_clause}
use Rattle.scasp_search_rules.specs.Successors.Cases.{head_call}
use Rattle.scasp_search_rules.specs.Successors.Items.{item_raised, opposite_item, items_of}
use Rattle.scasp_syntax.specs.Flat.{flat_after, flat_body, number_test, unseen}
use Rattle.scasp_syntax.specs.Programs.{numbered}
use Rattle.scasp_syntax.specs.Tm.{Tms}
use Rattle.scasp_syntax.specs.Values.{raised, under, all_under}
use Rattle.scasp_syntax.specs.View.{tm_of}
use Rattle.scasp_syntax.specs.WellFormed.{ascends, is_below, lists_variables, is_item_below, is_head_below, is_clause_well_formed, is_query_well_formed}
use Rattle.scasp_syntax.specs.declared.atom.Atom.{Atom}
use Rattle.scasp_syntax.specs.declared.clause.Clause.{Clause}
use Rattle.scasp_syntax.specs.declared.clause.FlatItem.{FlatItem}
use Rattle.scasp_syntax.specs.declared.clause.FlatItem.TheVariants as flat
use Rattle.scasp_syntax.specs.declared.clause.Item.{Item}
use Rattle.scasp_syntax.specs.declared.clause.Item.TheVariants as item
use Rattle.scasp_syntax.specs.declared.clause.Lin.{Lin}
use Rattle.scasp_syntax.specs.declared.con.Con.{Con}
use Rattle.scasp_syntax.specs.declared.con.Con.TheVariants as con
use Rattle.scasp_syntax.specs.declared.program.Program.{Program}
use Rattle.scasp_syntax.specs.declared.term.Term.{Term}
use Rattle.scasp_unify.proofs.SimpleLemmas.{viewed}
use Rattle.scasp_law_first_event.proofs.Fitting.{ItemBelow, ConEach, ItemEach, test-weaker}
use Rattle.scasp_law_first_event.proofs.Terms.{EachVar, EachVars, each-weaker, all-weaker, each-under, all-under, below-each, below-all}

pub Each-mapped : {A B : Type 0} (P : B → Type 0) (f : A → B) (xs : List A) → Each (λ x. P (f x)) xs → Each P (map f xs)
Each-mapped P f [] h = tt
Each-mapped P f (x ∷ xs) h = (h.0, Each-mapped P f xs h.1)

con-weaker : (G H : ℕ → Type 0) → ((z : ℕ) → G z → H z) → (c : Con) → ConEach G c → ConEach H c
con-weaker G H f (con.Eq t u) h = (each-weaker G H f (tm_of t) h.0, each-weaker G H f (tm_of u) h.1)
con-weaker G H f (con.Neq t u) h = (each-weaker G H f (tm_of t) h.0, each-weaker G H f (tm_of u) h.1)
con-weaker G H f (con.NotShape x g k) h = f x h
con-weaker G H f (con.Num t) h = tt
con-weaker G H f (con.NotNum t) h = tt
con-weaker G H f (con.Row r) h = tt

pub item-weaker : (G H : ℕ → Type 0) → ((z : ℕ) → G z → H z) → (i : FlatItem) → ItemEach G i → ItemEach H i
item-weaker G H f (flat.Call l) h = all-weaker G H f l.atom.args h
item-weaker G H f (flat.Test c) h = (con-weaker G H f c h.0, test-weaker G H f c h.1)

-- the listed variables of a linear item, and so those of its row
listed-row : (n : ℕ) (vars : List ℕ) → Each (λ x. x < n) vars → (ks : List Coeff) → list_all (λ k. list_any (nat_eq k.x) vars) ks ≡ true → Each (λ k. k.x < n) ks
listed-row n vars h [] e = tt
listed-row n vars h (k ∷ ks) e =
    let q = and_parts (list_any (nat_eq k.x) vars) (list_all (λ k. list_any (nat_eq k.x) vars) ks) e in
    (one vars h q.0, listed-row n vars h ks q.1)
  where
    one : (xs : List ℕ) → Each (λ x. x < n) xs → list_any (nat_eq k.x) xs ≡ true → k.x < n
    one [] l f = absurd (true≢false (sym f))
    one (x ∷ xs) l f = by (or_cases (nat_eq k.x x) (list_any (nat_eq k.x) xs) f) (λ g. one xs l.1 g)
      where
        by : (nat_eq k.x x ≡ true) ⊎ (list_any (nat_eq k.x) xs ≡ true) → (list_any (nat_eq k.x) xs ≡ true → k.x < n) → k.x < n
        by (inl g) rest = let same : k.x ≡ x = eqb-true k.x x g in let m : x < n = l.0 in omega (arith, same, m)
        by (inr g) rest = rest g

linear-below : (n : ℕ) (l : Lin) → is_item_below n (item.Linear l) ≡ true → Each (λ x. x < n) l.vars × Each (λ k. k.x < n) l.row.coeffs
linear-below n l e =
    let w = and_parts (lists_variables l) (list_all (λ x. nat_lt x n) l.vars) (and_parts (lists_variables l && list_all (λ x. nat_lt x n) l.vars) (is_normal l.row) e).0 in
    let v = and_parts (ascends l.vars) (list_all (λ k. list_any (nat_eq k.x) l.vars) l.row.coeffs) w.0 in
    let below : Each (λ x. x < n) l.vars = Each-from_test (λ x. nat_lt x n) (λ x. x < n) (λ x f. ltb-true x n f) l.vars w.1 in
    (below, listed-row n l.vars below l.row.coeffs v.1)

-- the items of a query
flat-items : (n : ℕ) (seen : List ℕ) (is : List Item) → list_all (is_item_below n) is ≡ true → Each (ItemBelow n) (flat_after seen is)
flat-items n seen [] e = tt
flat-items n seen (item.Call l ∷ is) e =
    let q = and_parts (is_item_below n (item.Call l)) (list_all (is_item_below n) is) e in (below-all n l.atom.args q.0, flat-items n seen is q.1)
flat-items n seen (item.Equal t u ∷ is) e =
    let q = and_parts (is_item_below n (item.Equal t u)) (list_all (is_item_below n) is) e in
    let o = and_parts (is_below n (tm_of t)) (is_below n (tm_of u)) q.0 in
    (((below-each n (tm_of t) o.0, below-each n (tm_of u) o.1), tt), flat-items n seen is q.1)
flat-items n seen (item.Differ t u ∷ is) e =
    let q = and_parts (is_item_below n (item.Differ t u)) (list_all (is_item_below n) is) e in
    let o = and_parts (is_below n (tm_of t)) (is_below n (tm_of u)) q.0 in
    (((below-each n (tm_of t) o.0, below-each n (tm_of u) o.1), tt), flat-items n seen is q.1)
flat-items n seen (item.Linear l ∷ is) e =
    let q = and_parts (is_item_below n (item.Linear l)) (list_all (is_item_below n) is) e in
    let v = linear-below n l q.0 in
    Each-append (ItemBelow n) (map number_test (unseen seen l.vars)) _ (tests (unseen seen l.vars) (Each-filter (λ x. x < n) (λ x. not (list_any (nat_eq x) seen)) l.vars v.0)) ((tt, v.1), flat-items n (seen ++ l.vars) is q.1)
  where
    tests : (xs : List ℕ) → Each (λ x. x < n) xs → Each (ItemBelow n) (map number_test xs)
    tests [] h = tt
    tests (x ∷ xs) h = ((tt, h.0), tests xs h.1)

pub query-items : (n : ℕ) (is : List Item) → list_all (is_item_below n) is ≡ true → Each (ItemBelow n) (flat_body is)
query-items n is e = flat-items n [] is e

numbered-well : (cs : List Clause) → Each (λ c. is_clause_well_formed c ≡ true) cs → (k : ℕ) (c : Clause) → numbered cs k ≡ Some c → is_clause_well_formed c ≡ true
numbered-well cs h zero c e = absurd (cc e)
numbered-well cs h (suc n) c e = Each-at (λ (d : Clause). is_clause_well_formed d ≡ true) cs n c h (sym e)

-- the item, and the one that is true where it is false
abbrev pub BodyEach : (ℕ → Type 0) → FlatItem → Type 0
BodyEach G i = ItemEach G i × ItemEach G (opposite_item i)

-- what holds of the variables of a clause from the first on
pub record Raised (G : ℕ → Type 0) (o : Option Clause) (first : ℕ) : Type 0 where
  pub head : EachVars G (all_under (raised first) (args_in o))
  pub body : Each (BodyEach G) (items_of o first)
  pub call_of : Each (ItemEach G) (head_call o first)

module _ (G : ℕ → Type 0) (n first : ℕ) (g : (z : ℕ) → first ≤ z → z < first + n → G z) where
  raised-args : (ts : Tms) → EachVars (λ y. y < n) ts → EachVars G (all_under (raised first) ts)
  raised-args ts h = all-under (λ y. y < n) G (raised first) (λ x l. g (x + first) (omega arith) (omega (arith, l))) ts h

  raised-one : (x : ℕ) → x < n → (b : Bool) → nat_lt x 0 ≡ b → G (if b then x else x + first)
  raised-one x l true e = let k : x < 0 = ltb-true x 0 e in absurd (omega (arith, k))
  raised-one x l false e = g (x + first) (omega arith) (omega (arith, l))

  raised-term : (t : Term) → EachVar (λ y. y < n) (tm_of t) → EachVar G (tm_of (term_raised 0 first t))
  raised-term t h =
      subst (EachVar G) (sym (viewed (under (raising 0 first) (tm_of t))))
      (each-under (λ y. y < n) G (raising 0 first) (λ x l. raised-one x l (nat_lt x 0) refl) (tm_of t) h)

  tests-raised : (xs : List ℕ) → Each (λ x. x < n) xs → Each (λ i. BodyEach G (item_raised first i)) (map number_test xs)
  tests-raised [] h = tt
  tests-raised (x ∷ xs) h = let g = raised-one x h.0 (nat_lt x 0) refl in (((tt, g), (tt, g)), tests-raised xs h.1)

  row-raised : (ks : List Coeff) → Each (λ k. k.x < n) ks → Each (λ (k : Coeff). G k.x) (map (λ k. record { x = raised_from 0 first k.x; c = k.c }) ks)
  row-raised [] h = tt
  row-raised (k ∷ ks) h = (raised-one k.x h.0 (nat_lt k.x 0) refl, row-raised ks h.1)

  row-negated : (b : Bool) (ks : List Coeff) → Each (λ (k : Coeff). G k.x) ks → Each (λ (k : Coeff). G k.x) (negated b ks)
  row-negated b [] h = tt
  row-negated b (k ∷ ks) h = (h.0, row-negated b ks h.1)

  flat-raised : (seen : List ℕ) (is : List Item) → list_all (is_item_below n) is ≡ true → Each (λ i. BodyEach G (item_raised first i)) (flat_after seen is)
  flat-raised seen [] e = tt
  flat-raised seen (item.Call l ∷ is) e =
      let q = and_parts (is_item_below n (item.Call l)) (list_all (is_item_below n) is) e in
      let b = raised-args l.atom.args (below-all n l.atom.args q.0) in
      ((b, b), flat-raised seen is q.1)
  flat-raised seen (item.Equal t u ∷ is) e =
      let q = and_parts (is_item_below n (item.Equal t u)) (list_all (is_item_below n) is) e in
      let o = and_parts (is_below n (tm_of t)) (is_below n (tm_of u)) q.0 in
      let a = raised-term t (below-each n (tm_of t) o.0) in
      let b = raised-term u (below-each n (tm_of u) o.1) in
      ((((a, b), tt), ((a, b), tt)), flat-raised seen is q.1)
  flat-raised seen (item.Differ t u ∷ is) e =
      let q = and_parts (is_item_below n (item.Differ t u)) (list_all (is_item_below n) is) e in
      let o = and_parts (is_below n (tm_of t)) (is_below n (tm_of u)) q.0 in
      let a = raised-term t (below-each n (tm_of t) o.0) in
      let b = raised-term u (below-each n (tm_of u) o.1) in
      ((((a, b), tt), ((a, b), tt)), flat-raised seen is q.1)
  flat-raised seen (item.Linear l ∷ is) e =
      let q = and_parts (is_item_below n (item.Linear l)) (list_all (is_item_below n) is) e in
      let v = linear-below n l q.0 in
      let row = row-raised l.row.coeffs v.1 in
      Each-append (λ (i : FlatItem). BodyEach G (item_raised first i)) (map number_test (unseen seen l.vars)) _
      (tests-raised (unseen seen l.vars) (Each-filter (λ x. x < n) (λ x. not (list_any (nat_eq x) seen)) l.vars v.0))
      (((tt, row), (tt, row-negated (not (is_symmetric l.row.op)) (map (λ k. record { x = raised_from 0 first k.x; c = k.c }) l.row.coeffs) row)), flat-raised (seen ++ l.vars) is q.1)

  head-raised : (o : Option Atom) (c : Clause) → is_head_below n o ≡ true → EachVars G (all_under (raised first) (args_in (Some (record c { head = o }))))
  head-raised None c e = tt
  head-raised (Some a) c e = raised-args a.args (below-all n a.args e)

  head-called : (o : Option Atom) (c : Clause) → is_head_below n o ≡ true → Each (ItemEach G) (head_call (Some (record c { head = o })) first)
  head-called None c e = tt
  head-called (Some a) c e = (raised-args a.args (below-all n a.args e), tt)

raised-clause : (G : ℕ → Type 0) (o : Option Clause) (first : ℕ) → ((z : ℕ) → first ≤ z → z < first + vars_in o → G z)
    → ((c : Clause) → o ≡ Some c → is_clause_well_formed c ≡ true) → Raised G o first
raised-clause G None first g w = record { head = tt; body = tt; call_of = tt }
raised-clause G (Some c) first g w =
    let q = and_parts (is_head_below c.vars c.head) (list_all (is_item_below c.vars) c.body) (w c refl) in
    record {
      head = head-raised G c.vars first g c.head c q.0;
      body = Each-mapped (BodyEach G) (item_raised first) (flat_body c.body) (flat-raised G c.vars first g [] c.body q.1);
      call_of = head-called G c.vars first g c.head c q.0;
    }

pub raised-of : (G : ℕ → Type 0) (p : Program) (k first : ℕ) → ((z : ℕ) → first ≤ z → z < first + vars_of_clause p k → G z) → Raised G (numbered p.clauses k) first
raised-of G p k first g =
    raised-clause G (numbered p.clauses k) first g
    (numbered-well p.clauses
    (Each-from_test is_clause_well_formed (λ c. is_clause_well_formed c ≡ true) (λ c e. e) p.clauses
    (and_parts (list_all is_clause_well_formed p.clauses) (list_all is_query_well_formed p.queries) p.well_formed).0) k)
