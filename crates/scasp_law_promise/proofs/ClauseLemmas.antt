-- The instances of a clause depend on the values of its own variables alone.
use Rattle.std.proofs.Common.{◌&&◌, ◌≡◌, ◌∙◌, ℕ, zero, suc, ◌<◌, true, nat_eq, nat_lt, List, [], ◌∷◌, ◌++◌, length, map, Option, Some, None, refl, ap, subst, arith}
use Rattle.std.specs.List.{Contains, list_all, list_any, flat_map, filter}
use Rattle.std.proofs.lemmas.Bool.{and_parts, and_from}
use Rattle.std.proofs.lemmas.Bool.Decides.{Decides-eqb}
use Rattle.scasp_num.specs.Linear.{is_normal}
use Rattle.scasp_list.proofs.MemberLemmas.{Contains-map, Contains-flat_map, Contains-filter, list_any-member, list_all-member}
use Rattle.scasp_num.specs.declared.linear.Coeff.{Coeff}
use Rattle.scasp_syntax.specs.Constraints.{is_number}
use Rattle.scasp_syntax.specs.Instances.{atom_under, head_under}
use Rattle.scasp_syntax.specs.RowTruth.{row_holds}
use Rattle.scasp_syntax.specs.Tm.{Tm, Tms, var, num, app, nil, cons}
use Rattle.scasp_syntax.specs.Values.{Sub, under, all_under, giving}
use Rattle.scasp_syntax.specs.View.{tm_of}
use Rattle.scasp_syntax.specs.WellFormed.{is_below, are_below, is_item_below, is_head_below, is_clause_well_formed, lists_variables, ascends}
use Rattle.scasp_syntax.specs.declared.atom.Atom.{Atom}
use Rattle.scasp_syntax.specs.declared.atom.Lit.{Lit}
use Rattle.scasp_syntax.specs.declared.clause.Clause.{Clause}
use Rattle.scasp_syntax.specs.declared.clause.Item.{Item}
use Rattle.scasp_syntax.specs.declared.clause.Item.TheVariants as item
use Rattle.scasp_syntax.specs.declared.con.Con.TheVariants as con
use Rattle.scasp_syntax.specs.declared.program.Program.{Program}
use Rattle.scasp_lines.proofs.KnownLemmas.{agree-con}
use Rattle.scasp_sound.proofs.DomainLemmas.{within, choices-has}
use Rattle.scasp_model.specs.Grounding.{choices, ground_program, instance_of, instances, is_test_true, literal_under}

pub giving-map : (v : Sub) (ts : List Tm) (x : ℕ) → x < length ts → giving (map (under v) ts) x ≡ under v (giving ts x)
giving-map v [] x l = absurd (omega (arith, l))
giving-map v (t ∷ ts) zero l = refl
giving-map v (t ∷ ts) (suc x) l = giving-map v ts x (omega (arith, l))

-- the coefficients of a row whose variables are listed and below n
pub coeffs-below : (n : ℕ) (vars : List ℕ) (ks : List Coeff) → list_all (λ x. nat_lt x n) vars ≡ true → list_all (λ (k : Coeff). list_any (nat_eq k.x) vars) ks ≡ true
    → list_all (λ (k : Coeff). nat_lt k.x n) ks ≡ true
coeffs-below n vars [] h i = refl
coeffs-below n vars (k ∷ ks) h i =
    let p = and_parts (list_any (nat_eq k.x) vars) (list_all (λ (j : Coeff). list_any (nat_eq j.x) vars) ks) i in
    let q = list_any-member (nat_eq k.x) vars p.0 in
    let e = (Decides-eqb k.x q.0).0 q.2 in
    and_from (nat_lt k.x n) _ (ap (λ x. nat_lt x n) e ∙ list_all-member (λ x. nat_lt x n) vars q.0 h q.1) (coeffs-below n vars ks h p.1)

module _ (n : ℕ) (r s : Sub) (same : (x : ℕ) → nat_lt x n ≡ true → r x ≡ s x) where
  mutual
    pub below-same : (t : Tm) → is_below n t ≡ true → under r t ≡ under s t
    below-same (var x) h = same x h
    below-same (num q) h = refl
    below-same (app f ts) h = ap (app f) (all-below-same ts h)

    all-below-same : (ts : Tms) → are_below n ts ≡ true → all_under r ts ≡ all_under s ts
    all-below-same nil h = refl
    all-below-same (cons t ts) h =
        let p = and_parts (is_below n t) (are_below n ts) h in
        let a = below-same t p.0 in let b = all-below-same ts p.1 in cc

  pub atom-same : (a : Atom) → are_below n a.args ≡ true → atom_under r a ≡ atom_under s a
  atom-same a h = ap (λ (ts : Tms). let b : Atom = record { minus = a.minus; name = a.name; args = ts } in b) (all-below-same a.args h)

  numbers-same : (xs : List ℕ) → list_all (λ x. nat_lt x n) xs ≡ true → list_all (λ x. is_number (r x)) xs ≡ list_all (λ x. is_number (s x)) xs
  numbers-same [] h = refl
  numbers-same (x ∷ xs) h =
      let p = and_parts (nat_lt x n) (list_all (λ x. nat_lt x n) xs) h in
      let a = same x p.0 in let b = numbers-same xs p.1 in cc

  test-same : (i : Item) → is_item_below n i ≡ true → is_test_true r i ≡ is_test_true s i
  test-same (item.Call l) h = refl
  test-same (item.Equal t u) h =
      let p = and_parts (is_below n (tm_of t)) (is_below n (tm_of u)) h in
      let a = below-same (tm_of t) p.0 in let b = below-same (tm_of u) p.1 in cc
  test-same (item.Differ t u) h =
      let p = and_parts (is_below n (tm_of t)) (is_below n (tm_of u)) h in
      let a = below-same (tm_of t) p.0 in let b = below-same (tm_of u) p.1 in cc
  test-same (item.Linear l) h =
      let p = and_parts (lists_variables l) (list_all (λ x. nat_lt x n) l.vars) (and_parts (lists_variables l && list_all (λ x. nat_lt x n) l.vars) (is_normal l.row) h).0 in
      let q = and_parts (ascends l.vars) (list_all (λ k. list_any (nat_eq k.x) l.vars) l.row.coeffs) p.0 in
      let a = numbers-same l.vars p.1 in
      let b : row_holds r l.row ≡ row_holds s l.row = agree-con (λ x. nat_lt x n) r s same (con.Row l.row) (coeffs-below n l.vars l.row.coeffs p.1 q.1) in cc

  pub tests-same : (body : List Item) → list_all (is_item_below n) body ≡ true → list_all (is_test_true r) body ≡ list_all (is_test_true s) body
  tests-same [] h = refl
  tests-same (i ∷ body) h =
      let p = and_parts (is_item_below n i) (list_all (is_item_below n) body) h in
      let a = test-same i p.0 in let b = tests-same body p.1 in cc

  literal-same : (i : Item) → is_item_below n i ≡ true → literal_under r i ≡ literal_under s i
  literal-same (item.Call l) h = ap (λ (a : Atom). record { positive = l.positive; atom = a } ∷ []) (atom-same l.atom h)
  literal-same (item.Equal t u) h = refl
  literal-same (item.Differ t u) h = refl
  literal-same (item.Linear l) h = refl

  literals-same : (body : List Item) → list_all (is_item_below n) body ≡ true → flat_map (literal_under r) body ≡ flat_map (literal_under s) body
  literals-same [] h = refl
  literals-same (i ∷ body) h =
      let p = and_parts (is_item_below n i) (list_all (is_item_below n) body) h in
      let a = literal-same i p.0 in let b = literals-same body p.1 in
      ap (λ (ls : List Lit). ls ++ flat_map (literal_under r) body) a ∙ ap (λ (ls : List Lit). literal_under s i ++ ls) b

  head-same : (o : Option Atom) → is_head_below n o ≡ true → head_under r o ≡ head_under s o
  head-same None h = refl
  head-same (Some a) h = ap (λ (x : Atom). Some x) (atom-same a h)

pub instance-same : (c : Clause) (r s : Sub) → is_clause_well_formed c ≡ true → ((x : ℕ) → nat_lt x c.vars ≡ true → r x ≡ s x) → instance_of c r ≡ instance_of c s
instance-same c r s h same =
    let p = and_parts (is_head_below c.vars c.head) (list_all (is_item_below c.vars) c.body) h in
    let a = head-same c.vars r s same c.head p.0 in
    let b = literals-same c.vars r s same c.body p.1 in
    λ i. record { head = a i; body = b i }

-- an instance whose terms are in the domain and whose tests are true is one of the ground program
pub instance-listed : (p : Program) (d : List Tm) (c : Clause) (ts : List Tm) → Contains p.clauses c → length ts ≡ c.vars → list_all (within d) ts ≡ true
    → list_all (is_test_true (giving ts)) c.body ≡ true → Contains (ground_program d p) (instance_of c (giving ts))
instance-listed p d c ts i n w tests =
    let way : Contains (choices d c.vars) ts = subst (λ (k : ℕ). Contains (choices d k) ts) n (choices-has d ts w) in
    Contains-flat_map (instances d) p.clauses c (instance_of c (giving ts)) i
    (Contains-map (λ us. instance_of c (giving us)) (filter (λ us. list_all (is_test_true (giving us)) c.body) (choices d c.vars)) ts
    (Contains-filter (λ us. list_all (is_test_true (giving us)) c.body) (choices d c.vars) ts way tests))
