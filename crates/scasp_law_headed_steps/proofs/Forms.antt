-- What holds of each variable of a constraint, and what simple forms and readings keep of it.
use Rattle.std.specs.List.{flat_map, list_all}
use Rattle.std.specs.Prelude.{Bool, List, None, Option, Some, [], false, if◌then◌else◌, map, nat_lt, true, ℕ, ◌<◌, ◌∷◌, ◌≡◌}
use Rattle.std.proofs.Common.{refl, subst, sym}
use Rattle.std.proofs.lemmas.Bool.{and_from, lt-ltb}
use Rattle.scasp_law_first_event.proofs.Fitting.{EachPart, parts-keep}
use Rattle.scasp_law_first_event.proofs.Terms.{EachVar, EachVars, each-under, each-weaker}
use Rattle.scasp_law_parts.proofs.AgreeLemmas.{join-all}
use Rattle.scasp_law_sorted.proofs.Rows.{read-of}
use Rattle.scasp_list.proofs.EachLemmas.{Each-map, test_from-Each}
use Rattle.scasp_list.specs.Each.{Each}
use Rattle.scasp_num.specs.declared.linear.Coeff.{Coeff}
use Rattle.scasp_search_rules.specs.Successors.Reading.{con_under, con_vars, not_shaped, term_under}
use Rattle.scasp_syntax.specs.Constraints.{has_shape}
use Rattle.scasp_syntax.specs.Tm.{Tm, Tms, app, cons, nil, num, var}
use Rattle.scasp_syntax.specs.Values.{Sub, under}
use Rattle.scasp_syntax.specs.View.{tm_of}
use Rattle.scasp_syntax.specs.WellFormed.{are_below, is_below}
use Rattle.scasp_syntax.specs.declared.con.Con.{Con}
use Rattle.scasp_syntax.specs.declared.con.Con.TheVariants as con
use Rattle.scasp_syntax.specs.declared.term.Term.{Term}
use Rattle.scasp_unify.proofs.SimpleLemmas.{viewed}
use Rattle.scasp_unify.specs.Negations.{is_con_below}
use Rattle.scasp_unify.specs.Parts.{Part, left_side, parts, right_side}
use Rattle.scasp_unify.specs.SimpleForm.{by_parts, differ, list_term, one_part, simple, term_with}
use Rattle.scasp_unify.specs.Unification.{term_vars, terms_vars}

abbrev pub ConAll : (ℕ → Type 0) → Con → Type 0
ConAll G (con.Eq t u) = EachVar G (tm_of t) × EachVar G (tm_of u)
ConAll G (con.Neq t u) = EachVar G (tm_of t) × EachVar G (tm_of u)
ConAll G (con.NotShape x f n) = G x
ConAll G (con.Num t) = EachVar G (tm_of t)
ConAll G (con.NotNum t) = EachVar G (tm_of t)
ConAll G (con.Row r) = Each (λ k. G k.x) r.coeffs

pub all-con-weaker : (G H : ℕ → Type 0) → ((x : ℕ) → G x → H x) → (c : Con) → ConAll G c → ConAll H c
all-con-weaker G H f (con.Eq t u) h = (each-weaker G H f (tm_of t) h.0, each-weaker G H f (tm_of u) h.1)
all-con-weaker G H f (con.Neq t u) h = (each-weaker G H f (tm_of t) h.0, each-weaker G H f (tm_of u) h.1)
all-con-weaker G H f (con.NotShape x g n) h = f x h
all-con-weaker G H f (con.Num t) h = each-weaker G H f (tm_of t) h
all-con-weaker G H f (con.NotNum t) h = each-weaker G H f (tm_of t) h
all-con-weaker G H f (con.Row r) h = Each-map (λ (k : Coeff). G k.x) (λ k. H k.x) (λ k a. f k.x a) r.coeffs h

module _ (G : ℕ → Type 0) where
  -- ---- simple forms

  differ-all : (t u : Tm) → EachVar G t → EachVar G u → ConAll G (differ t u)
  differ-all t u h k = (subst (EachVar G) (sym (viewed t)) h, subst (EachVar G) (sym (viewed u)) k)

  sides-all : (o : Part) → G o.at × EachVar G o.term → EachVar G (left_side o) × EachVar G (right_side o)
  sides-all o h = by o.turned
    where
      by : (b : Bool) → EachVar G (if b then o.term else var o.at) × EachVar G (if b then var o.at else o.term)
      by true = (h.1, h.0)
      by false = h

  one-all : (o : Part) (t : Tm) → G o.at × EachVar G o.term → ConAll G (one_part o t)
  one-all o (app f nil) h = h.0
  one-all o (app f (cons t ts)) h = differ-all (left_side o) (right_side o) (sides-all o h).0 (sides-all o h).1
  one-all o (num q) h = differ-all (left_side o) (right_side o) (sides-all o h).0 (sides-all o h).1
  one-all o (var y) h = differ-all (left_side o) (right_side o) (sides-all o h).0 (sides-all o h).1

  lists-all : (f : Part → Tm) (ps : List Part) → Each (λ o. EachVar G (f o)) ps → EachVar G (list_term (map f ps))
  lists-all f [] h = tt
  lists-all f (o ∷ ps) h = (h.0, (lists-all f ps h.1, tt))

  parts-all : (c : Con) (o : Option (List Part)) → ConAll G c → EachPart G o → ConAll G (by_parts c o)
  parts-all c None h k = h
  parts-all c (Some []) h k = h
  parts-all c (Some (o ∷ [])) h k = one-all o o.term k.0
  parts-all c (Some (o ∷ q ∷ ps)) h k =
      differ-all (list_term (map left_side (o ∷ q ∷ ps))) (list_term (map right_side (o ∷ q ∷ ps)))
      (lists-all left_side (o ∷ q ∷ ps) (Each-map (λ (a : Part). G a.at × EachVar G a.term) (λ a. EachVar G (left_side a)) (λ a e. (sides-all a e).0) (o ∷ q ∷ ps) k))
      (lists-all right_side (o ∷ q ∷ ps) (Each-map (λ (a : Part). G a.at × EachVar G a.term) (λ a. EachVar G (right_side a)) (λ a e. (sides-all a e).1) (o ∷ q ∷ ps) k))

  pub simple-all : (c : Con) → ConAll G c → ConAll G (simple c)
  simple-all (con.Neq t u) h = parts-all (con.Neq t u) (parts (tm_of t) (tm_of u)) h (parts-keep G (tm_of t) (tm_of u) h.0 h.1)
  simple-all (con.Eq t u) h = h
  simple-all (con.NotShape x f n) h = h
  simple-all (con.Num t) h = h
  simple-all (con.NotNum t) h = h
  simple-all (con.Row r) h = h

  -- ---- readings

  shaped-all : (t : Tm) (f n : ℕ) → EachVar G t → ConAll G (not_shaped t f n)
  shaped-all (var x) f n h = h
  shaped-all (num q) f n h = (tt, tt)
  shaped-all (app g us) f n h = by (has_shape f n (app g us))
    where
      by : (b : Bool) → ConAll G (if b then con.Neq (term_with (app g us)) (term_with (app g us)) else con.Eq (term_with (app g us)) (term_with (app g us)))
      by true = (h, h)
      by false = (h, h)

  module _ (v : Sub) (reads : (x : ℕ) → G x → EachVar G (v x)) where
    term-all : (t : Term) → EachVar G (tm_of t) → EachVar G (tm_of (term_under v t))
    term-all t h = subst (EachVar G) (sym (viewed (under v (tm_of t)))) (each-under G G v reads (tm_of t) h)

    pub read-all : (c : Con) → ConAll G c → ConAll G (con_under v c)
    read-all (con.Eq t u) h = (term-all t h.0, term-all u h.1)
    read-all (con.Neq t u) h = (term-all t h.0, term-all u h.1)
    read-all (con.NotShape x f n) h = shaped-all (v x) f n (reads x h)
    read-all (con.Num t) h = term-all t h
    read-all (con.NotNum t) h = term-all t h
    read-all (con.Row r) h = read-of G v (λ x y g e. subst (EachVar G) e (reads x g)) r h

-- ---- tests of variables

module _ (G : ℕ → Type 0) (p : ℕ → Bool) (passes : (x : ℕ) → G x → p x ≡ true) where
  mutual
    pub vars-test : (t : Tm) → EachVar G t → list_all p (term_vars t) ≡ true
    vars-test (var x) h = and_from (p x) true (passes x h) refl
    vars-test (num q) h = refl
    vars-test (app f ts) h = all-vars-test ts h

    all-vars-test : (ts : Tms) → EachVars G ts → list_all p (terms_vars ts) ≡ true
    all-vars-test nil h = refl
    all-vars-test (cons t ts) h = join-all p (term_vars t) (terms_vars ts) (vars-test t h.0) (all-vars-test ts h.1)

  module _ (H : ℕ → Type 0) (v : Sub) (reads : (x : ℕ) → H x → EachVar G (v x)) where
    read-test : (t : Tm) → EachVar H t → list_all p (term_vars (under v t)) ≡ true
    read-test t h = vars-test (under v t) (each-under H G v reads t h)

    row-test : (ks : List Coeff) → Each (λ k. H k.x) ks → list_all p (flat_map (λ k. term_vars (v k.x)) ks) ≡ true
    row-test [] h = refl
    row-test (k ∷ ks) h = join-all p (term_vars (v k.x)) (flat_map (λ k. term_vars (v k.x)) ks) (vars-test (v k.x) (reads k.x h.0)) (row-test ks h.1)

    pub con-vars-test : (c : Con) → ConAll H c → list_all p (con_vars v c) ≡ true
    con-vars-test (con.Eq t u) h = join-all p (term_vars (under v (tm_of t))) (term_vars (under v (tm_of u))) (read-test (tm_of t) h.0) (read-test (tm_of u) h.1)
    con-vars-test (con.Neq t u) h = join-all p (term_vars (under v (tm_of t))) (term_vars (under v (tm_of u))) (read-test (tm_of t) h.0) (read-test (tm_of u) h.1)
    con-vars-test (con.NotShape x f n) h = vars-test (v x) (reads x h)
    con-vars-test (con.Num t) h = read-test (tm_of t) h
    con-vars-test (con.NotNum t) h = read-test (tm_of t) h
    con-vars-test (con.Row r) h = row-test r.coeffs h

mutual
  pub below-test : (n : ℕ) (t : Tm) → EachVar (λ y. y < n) t → is_below n t ≡ true
  below-test n (var x) h = lt-ltb x n h
  below-test n (num q) h = refl
  below-test n (app f ts) h = all-below-test n ts h

  all-below-test : (n : ℕ) (ts : Tms) → EachVars (λ y. y < n) ts → are_below n ts ≡ true
  all-below-test n nil h = refl
  all-below-test n (cons t ts) h = and_from (is_below n t) (are_below n ts) (below-test n t h.0) (all-below-test n ts h.1)

pub con-below-test : (n : ℕ) (c : Con) → ConAll (λ y. y < n) c → is_con_below n c ≡ true
con-below-test n (con.Eq t u) h = and_from (is_below n (tm_of t)) (is_below n (tm_of u)) (below-test n (tm_of t) h.0) (below-test n (tm_of u) h.1)
con-below-test n (con.Neq t u) h = and_from (is_below n (tm_of t)) (is_below n (tm_of u)) (below-test n (tm_of t) h.0) (below-test n (tm_of u) h.1)
con-below-test n (con.NotShape x f k) h = lt-ltb x n h
con-below-test n (con.Num t) h = below-test n (tm_of t) h
con-below-test n (con.NotNum t) h = below-test n (tm_of t) h
con-below-test n (con.Row r) h = test_from-Each (λ (k : Coeff). nat_lt k.x n) (λ k. k.x < n) (λ k l. lt-ltb k.x n l) r.coeffs h
