-- In the flat body of a clause or query the tests of each row's variables stand before the row.
use Rattle.std.specs.Prelude.{◌≡◌, ◌⊎◌, ℕ, zero, suc, nat_eq, nat_lt, Bool, true, false, ◌&&◌, ◌||◌, not, Option, Some, None, List, [], ◌∷◌, ◌++◌, map, ⊤}
use Rattle.std.specs.List.{list_all, list_any}
use Rattle.std.proofs.Common.{refl, ap, sym, subst, ◌∙◌, inl, inr}
use Rattle.std.proofs.lemmas.Bool.{true≢false, and_parts, cases_Bool, eqb-true, eq-eqb, or_cases, or_left, or_right}
use Rattle.scasp_list.specs.Each.{Each}
use Rattle.scasp_list.proofs.EachLemmas.{Each-from_test, Each-at}
use Rattle.scasp_checker_rules.specs.PairLists.{raised_from}
use Rattle.scasp_num.specs.Linear.{Linear, is_symmetric, is_normal}
use Rattle.scasp_num.specs.Linear as linear
use Rattle.scasp_num.specs.declared.linear.Coeff.{Coeff}
use Rattle.scasp_search_rules.specs.Successors.Cases.{failing_at}
use Rattle.scasp_search_rules.specs.Successors.Items.{item_raised, items_of, body_of, opposite_item}
use Rattle.scasp_search_rules.specs.Successors.Reading.{among}
use Rattle.scasp_syntax.specs.Flat.{flat_after, flat_body, number_test, unseen}
use Rattle.scasp_syntax.specs.Programs.{numbered}
use Rattle.scasp_syntax.specs.WellFormed.{is_clause_well_formed, is_head_below, is_item_below, is_query_well_formed, lists_variables, ascends}
use Rattle.scasp_syntax.specs.declared.clause.Clause.{Clause}
use Rattle.scasp_syntax.specs.declared.clause.FlatItem.{FlatItem}
use Rattle.scasp_syntax.specs.declared.clause.FlatItem.TheVariants as flat
use Rattle.scasp_syntax.specs.declared.clause.Item.{Item}
use Rattle.scasp_syntax.specs.declared.clause.Item.TheVariants as item
use Rattle.scasp_syntax.specs.declared.con.Con.TheVariants as con
use Rattle.scasp_syntax.specs.declared.program.Program.{Program}
use Rattle.scasp_law_no_circle.proofs.Splitting.{filter-among, among-either}
use Rattle.scasp_law_sorted.proofs.Expecting.{tests_con, needs_con, of_item, Orderly}

-- neither a number test nor a row
abbrev Plainly : FlatItem → Type 0
Plainly (flat.Call l) = ⊤
Plainly (flat.Test (con.Eq t u)) = ⊤
Plainly (flat.Test (con.Neq t u)) = ⊤
Plainly (flat.Test (con.NotShape x f n)) = ⊥
Plainly (flat.Test (con.Num t)) = ⊥
Plainly (flat.Test (con.NotNum t)) = ⊥
Plainly (flat.Test (con.Row r)) = ⊥

-- the variable stands in the row, raised
abbrev Stands : (ℕ → ℕ) → Linear → ℕ → Type 0
Stands up r x = (y : ℕ) × (among y (map (λ k. k.x) r.coeffs) ≡ true) × (x ≡ up y)

module _ (f : FlatItem → FlatItem) (up : ℕ → ℕ) (quiet : (i : FlatItem) → Plainly i → (of_item needs_con (f i) ≡ []) × (of_item tests_con (f i) ≡ []))
    (test : (x : ℕ) → (of_item needs_con (f (number_test x)) ≡ []) × (of_item tests_con (f (number_test x)) ≡ up x ∷ []))
    (row : (r : Linear) → ((x : ℕ) → among x (of_item needs_con (f (flat.Test (con.Row r)))) ≡ true → Stands up r x) × (of_item tests_con (f (flat.Test (con.Row r))) ≡ [])) where
  none : (xs : List ℕ) (P : ℕ → Type 0) → xs ≡ [] → (x : ℕ) → among x xs ≡ true → P x
  none xs P e x i = absurd (true≢false (sym i ∙ ap (among x) e))

  tests-orderly : (more : List FlatItem) (xs ps : List ℕ) → ((qs : List ℕ) → ((y : ℕ) → among y ps ≡ true → among y qs ≡ true) → ((x : ℕ) → among x xs ≡ true → among (up x) qs ≡ true) → Orderly qs (map f more))
      → Orderly ps (map f (map number_test xs ++ more))
  tests-orderly more [] ps rest = rest ps (λ y i. i) (λ x i. absurd (true≢false (sym i)))
  tests-orderly more (x ∷ xs) ps rest = (
    none (of_item needs_con (f (number_test x))) (λ y. among y ps ≡ true) (test x).0,
    subst (λ (zs : List ℕ). Orderly (zs ++ ps) (map f (map number_test xs ++ more))) (sym (test x).1)
        (tests-orderly more xs (up x ∷ ps) (λ qs keep have. rest qs (λ y i. keep y (or_right (nat_eq y (up x)) (among y ps) i)) (λ y i. by qs keep have y (or_cases (nat_eq y x) (among y xs) i)))),
  )
    where
      by : (qs : List ℕ) → ((y : ℕ) → among y (up x ∷ ps) ≡ true → among y qs ≡ true) → ((y : ℕ) → among y xs ≡ true → among (up y) qs ≡ true) → (y : ℕ) → (nat_eq y x ≡ true) ⊎ (among y xs ≡ true) → among (up y) qs ≡ true
      by qs keep have y (inl e) =
          subst (λ (z : ℕ). among (up z) qs ≡ true) (sym (eqb-true y x e)) (keep (up x) (or_left (nat_eq (up x) (up x)) (among (up x) ps) (eq-eqb (up x) (up x) refl)))
      by qs keep have y (inr i) = have y i

  in-row : (vars : List ℕ) (ks : List Coeff) → list_all (λ k. list_any (nat_eq k.x) vars) ks ≡ true → (y : ℕ) → among y (map (λ k. k.x) ks) ≡ true → among y vars ≡ true
  in-row vars [] e y i = absurd (true≢false (sym i))
  in-row vars (k ∷ ks) e y i =
      let q = and_parts (list_any (nat_eq k.x) vars) (list_all (λ k. list_any (nat_eq k.x) vars) ks) e in
      by q.0 (or_cases (nat_eq y k.x) (among y (map (λ k. k.x) ks)) i) (λ j. in-row vars ks q.1 y j)
    where
      by : list_any (nat_eq k.x) vars ≡ true → (nat_eq y k.x ≡ true) ⊎ (among y (map (λ k. k.x) ks) ≡ true) → (among y (map (λ k. k.x) ks) ≡ true → among y vars ≡ true) → among y vars ≡ true
      by g (inl same) rest = subst (λ (z : ℕ). among z vars ≡ true) (sym (eqb-true y k.x same)) g
      by g (inr j) rest = rest j

  module _ (n : ℕ) where
    flat-orderly : (seen : List ℕ) (is : List Item) (ps : List ℕ) → list_all (is_item_below n) is ≡ true → ((x : ℕ) → among x seen ≡ true → among (up x) ps ≡ true) → Orderly ps (map f (flat_after seen is))
    flat-orderly seen [] ps e h = tt
    flat-orderly seen (item.Call l ∷ is) ps e h =
        let q = quiet (flat.Call l) tt in (
          none (of_item needs_con (f (flat.Call l))) (λ y. among y ps ≡ true) q.0,
          subst (λ (zs : List ℕ). Orderly (zs ++ ps) (map f (flat_after seen is))) (sym q.1)
              (flat-orderly seen is ps (and_parts (is_item_below n (item.Call l)) (list_all (is_item_below n) is) e).1 h),
        )
    flat-orderly seen (item.Equal t u ∷ is) ps e h =
        let q = quiet (flat.Test (con.Eq t u)) tt in (
          none (of_item needs_con (f (flat.Test (con.Eq t u)))) (λ y. among y ps ≡ true) q.0,
          subst (λ (zs : List ℕ). Orderly (zs ++ ps) (map f (flat_after seen is))) (sym q.1)
              (flat-orderly seen is ps (and_parts (is_item_below n (item.Equal t u)) (list_all (is_item_below n) is) e).1 h),
        )
    flat-orderly seen (item.Differ t u ∷ is) ps e h =
        let q = quiet (flat.Test (con.Neq t u)) tt in (
          none (of_item needs_con (f (flat.Test (con.Neq t u)))) (λ y. among y ps ≡ true) q.0,
          subst (λ (zs : List ℕ). Orderly (zs ++ ps) (map f (flat_after seen is))) (sym q.1)
              (flat-orderly seen is ps (and_parts (is_item_below n (item.Differ t u)) (list_all (is_item_below n) is) e).1 h),
        )
    flat-orderly seen (item.Linear l ∷ is) ps e h =
        let q = and_parts (is_item_below n (item.Linear l)) (list_all (is_item_below n) is) e in
        let w = and_parts (lists_variables l) (list_all (λ x. nat_lt x n) l.vars) (and_parts (lists_variables l && list_all (λ x. nat_lt x n) l.vars) (is_normal l.row) q.0).0 in
        let v = and_parts (ascends l.vars) (list_all (λ k. list_any (nat_eq k.x) l.vars) l.row.coeffs) w.0 in
        tests-orderly (flat.Test (con.Row l.row) ∷ flat_after (seen ++ l.vars) is) (unseen seen l.vars) ps
        (λ qs keep have. (
          (λ x i. let o = (row l.row).0 x i in subst (λ (z : ℕ). among z qs ≡ true) (sym o.2) (known qs keep have o.0 (in-row l.vars l.row.coeffs v.1 o.0 o.1) (cases_Bool (among o.0 seen)))),
          subst (λ (zs : List ℕ). Orderly (zs ++ qs) (map f (flat_after (seen ++ l.vars) is))) (sym (row l.row).1)
              (flat-orderly (seen ++ l.vars) is qs q.1 (λ x i. both qs keep have x (among-either x seen l.vars i))),
        ))
      where
        known : (qs : List ℕ) → ((y : ℕ) → among y ps ≡ true → among y qs ≡ true) → ((x : ℕ) → among x (unseen seen l.vars) ≡ true → among (up x) qs ≡ true) → (x : ℕ) → among x l.vars ≡ true
            → (among x seen ≡ true) ⊎ (among x seen ≡ false) → among (up x) qs ≡ true
        known qs keep have x i (inl j) = keep (up x) (h x j)
        known qs keep have x i (inr j) = have x (filter-among (λ x. not (list_any (nat_eq x) seen)) x l.vars i (ap not j))

        both : (qs : List ℕ) → ((y : ℕ) → among y ps ≡ true → among y qs ≡ true) → ((x : ℕ) → among x (unseen seen l.vars) ≡ true → among (up x) qs ≡ true) → (x : ℕ) → (among x seen ≡ true) ⊎ (among x l.vars ≡ true) → among (up x) qs ≡ true
        both qs keep have x (inl j) = keep (up x) (h x j)
        both qs keep have x (inr j) = known qs keep have x j (cases_Bool (among x seen))

-- ---- a query's body

map-self : {A : Type 0} (xs : List A) → map (λ x. x) xs ≡ xs
map-self [] = refl
map-self (x ∷ xs) = ap (λ ys. x ∷ ys) (map-self xs)

plain-quiet : (i : FlatItem) → Plainly i → (of_item needs_con i ≡ []) × (of_item tests_con i ≡ [])
plain-quiet (flat.Call l) h = (refl, refl)
plain-quiet (flat.Test (con.Eq t u)) h = (refl, refl)
plain-quiet (flat.Test (con.Neq t u)) h = (refl, refl)
plain-quiet (flat.Test (con.NotShape x f n)) h = absurd h
plain-quiet (flat.Test (con.Num t)) h = absurd h
plain-quiet (flat.Test (con.NotNum t)) h = absurd h
plain-quiet (flat.Test (con.Row r)) h = absurd h

pub query-orderly : (n : ℕ) (is : List Item) → list_all (is_item_below n) is ≡ true → Orderly [] (flat_body is)
query-orderly n is e =
    subst (Orderly []) (map-self (flat_body is))
    (flat-orderly (λ i. i) (λ x. x) plain-quiet (λ x. (refl, refl)) (λ r. ((λ x i. (x, i, refl)), refl)) n [] is [] e (λ x i. absurd (true≢false (sym i))))

-- ---- a clause's body, raised

raised-quiet : (first : ℕ) (i : FlatItem) → Plainly i → (of_item needs_con (item_raised first i) ≡ []) × (of_item tests_con (item_raised first i) ≡ [])
raised-quiet first (flat.Call l) h = (refl, refl)
raised-quiet first (flat.Test (con.Eq t u)) h = (refl, refl)
raised-quiet first (flat.Test (con.Neq t u)) h = (refl, refl)
raised-quiet first (flat.Test (con.NotShape x f n)) h = absurd h
raised-quiet first (flat.Test (con.Num t)) h = absurd h
raised-quiet first (flat.Test (con.NotNum t)) h = absurd h
raised-quiet first (flat.Test (con.Row r)) h = absurd h

raised-stands : (first : ℕ) (r : Linear) (x : ℕ) → among x (of_item needs_con (item_raised first (flat.Test (con.Row r)))) ≡ true → Stands (raised_from 0 first) r x
raised-stands first r x i = by r.coeffs i
  where
    by : (ks : List Coeff) → among x (map (λ (k : Coeff). k.x) (map (λ (k : Coeff). record { x = raised_from 0 first k.x; c = k.c }) ks)) ≡ true → (y : ℕ) × (among y (map (λ k. k.x) ks) ≡ true) × (x ≡ raised_from 0 first y)
    by [] j = absurd (true≢false (sym j))
    by (k ∷ ks) j = at (or_cases (nat_eq x (raised_from 0 first k.x)) (among x (map (λ (k : Coeff). k.x) (map (λ (k : Coeff). record { x = raised_from 0 first k.x; c = k.c }) ks))) j) (λ m. by ks m)
      where
        at : (nat_eq x (raised_from 0 first k.x) ≡ true) ⊎ (among x (map (λ (k : Coeff). k.x) (map (λ (k : Coeff). record { x = raised_from 0 first k.x; c = k.c }) ks)) ≡ true)
            → (among x (map (λ (k : Coeff). k.x) (map (λ (k : Coeff). record { x = raised_from 0 first k.x; c = k.c }) ks)) ≡ true → (y : ℕ) × (among y (map (λ k. k.x) ks) ≡ true) × (x ≡ raised_from 0 first y))
            → (y : ℕ) × (among y (map (λ k. k.x) (k ∷ ks)) ≡ true) × (x ≡ raised_from 0 first y)
        at (inl e) rest = (k.x, or_left (nat_eq k.x k.x) (among k.x (map (λ k. k.x) ks)) (eq-eqb k.x k.x refl), eqb-true x (raised_from 0 first k.x) e)
        at (inr m) rest = let q = rest m in (q.0, or_right (nat_eq q.0 k.x) (among q.0 (map (λ k. k.x) ks)) q.1, q.2)

clause-orderly : (o : Option Clause) (first : ℕ) → ((c : Clause) → o ≡ Some c → is_clause_well_formed c ≡ true) → Orderly [] (items_of o first)
clause-orderly None first w = tt
clause-orderly (Some c) first w =
    let q = and_parts (is_head_below c.vars c.head) (list_all (is_item_below c.vars) c.body) (w c refl) in
    flat-orderly (item_raised first) (raised_from 0 first) (raised-quiet first) (λ x. (refl, refl)) (λ r. (raised-stands first r, refl)) c.vars [] c.body [] q.1 (λ x i. absurd (true≢false (sym i)))

numbered-well : (cs : List Clause) → Each (λ c. is_clause_well_formed c ≡ true) cs → (k : ℕ) (c : Clause) → numbered cs k ≡ Some c → is_clause_well_formed c ≡ true
numbered-well cs h zero c e = absurd (cc e)
numbered-well cs h (suc n) c e = Each-at (λ (d : Clause). is_clause_well_formed d ≡ true) cs n c h (sym e)

pub body-orderly : (p : Program) (k first : ℕ) → Orderly [] (body_of p k first)
body-orderly p k first =
    clause-orderly (numbered p.clauses k) first
    (numbered-well p.clauses
    (Each-from_test is_clause_well_formed (λ c. is_clause_well_formed c ≡ true) (λ c e. e) p.clauses
    (and_parts (list_all is_clause_well_formed p.clauses) (list_all is_query_well_formed p.queries) p.well_formed).0) k)

-- ---- parts of a body

-- the item that is true where this one is false has no other row variables
opposite-needs : (i : FlatItem) (x : ℕ) → among x (of_item needs_con (opposite_item i)) ≡ true → among x (of_item needs_con i) ≡ true
opposite-needs (flat.Call l) x e = e
opposite-needs (flat.Test (con.Eq t u)) x e = e
opposite-needs (flat.Test (con.Neq t u)) x e = e
opposite-needs (flat.Test (con.NotShape y f n)) x e = e
opposite-needs (flat.Test (con.Num t)) x e = e
opposite-needs (flat.Test (con.NotNum t)) x e = e
opposite-needs (flat.Test (con.Row r)) x e = by (not (is_symmetric r.op)) r.coeffs e
  where
    by : (b : Bool) (ks : List Coeff) → among x (map (λ (k : Coeff). k.x) (linear.negated b ks)) ≡ true → among x (map (λ k. k.x) ks) ≡ true
    by b [] j = j
    by b (k ∷ ks) j = at (nat_eq x k.x) j (λ m. by b ks m)
      where
        at : (c : Bool) → (c || among x (map (λ (k : Coeff). k.x) (linear.negated b ks))) ≡ true → (among x (map (λ (k : Coeff). k.x) (linear.negated b ks)) ≡ true → among x (map (λ k. k.x) ks) ≡ true) → (c || among x (map (λ k. k.x) ks)) ≡ true
        at true m rest = refl
        at false m rest = rest m

pub failing-orderly : (k : ℕ) (is : List FlatItem) (ps : List ℕ) → Orderly ps is → Orderly ps (failing_at k is)
failing-orderly k [] ps o = tt
failing-orderly zero (i ∷ is) ps o = ((λ x e. o.0 x (opposite-needs i x e)), tt)
failing-orderly (suc k) (i ∷ is) ps o = (o.0, failing-orderly k is (of_item tests_con i ++ ps) o.1)

-- a call at the end
pub called-orderly : (is js : List FlatItem) (ps : List ℕ) → Orderly ps is → Each (λ j. of_item needs_con j ≡ []) js → Orderly ps (is ++ js)
called-orderly [] [] ps o h = tt
called-orderly [] (j ∷ js) ps o h = ((λ x e. absurd (true≢false (sym e ∙ ap (among x) h.0))), called-orderly [] js (of_item tests_con j ++ ps) tt h.1)
called-orderly (i ∷ is) js ps o h = (o.0, called-orderly is js (of_item tests_con i ++ ps) o.1 h)
