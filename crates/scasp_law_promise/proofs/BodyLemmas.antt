-- Bodies and flat bodies: the tests of the one hold exactly where those of the other do, and their literals are the same.
use Rattle.std.proofs.Common.{◌≡◌, ◌∙◌, ℕ, Bool, true, not, nat_eq, List, [], ◌∷◌, ◌++◌, map, filter, refl, ap, sym, subst, inl, inr, ◌⊎◌}
use Rattle.std.specs.List.{Contains, list_all, list_any, flat_map}
use Rattle.std.proofs.lemmas.Bool.{and_parts, and_from, cases_Bool}
use Rattle.std.proofs.lemmas.Bool.Decides.{Decides-eqb}
use Rattle.std.proofs.lemmas.List.Elements.{Contains-append_left, Contains-append_right, Contains-append_cases}
use Rattle.scasp_syntax.specs.Constraints.{holds, is_number}
use Rattle.scasp_syntax.specs.Flat.{flat_after, number_test, unseen}
use Rattle.scasp_syntax.specs.Instances.{atom_under}
use Rattle.scasp_syntax.specs.Same.{same_atom}
use Rattle.scasp_syntax.specs.Values.{Sub}
use Rattle.scasp_syntax.specs.declared.atom.Atom.{Atom}
use Rattle.scasp_syntax.specs.declared.atom.Lit.{Lit}
use Rattle.scasp_syntax.specs.declared.clause.FlatItem.{FlatItem}
use Rattle.scasp_syntax.specs.declared.clause.FlatItem.TheVariants as flat
use Rattle.scasp_syntax.specs.declared.clause.Item.{Item}
use Rattle.scasp_syntax.specs.declared.clause.Item.TheVariants as item
use Rattle.scasp_syntax.specs.declared.con.Con.{Con}
use Rattle.scasp_syntax.specs.declared.con.Con.TheVariants as con
use Rattle.scasp_syntax.specs.declared.term.Term.TheVariants.{Var}
use Rattle.scasp_syntax.proofs.SameLemmas.{atom_decided}
use Rattle.scasp_model.specs.Atoms.{among}
use Rattle.scasp_model.specs.Grounding.{is_test_true, literal_under}
use Rattle.scasp_list.proofs.MemberLemmas.{Contains-none, Contains-here, Contains-there, Contains-cases, Contains-single, Contains-map, Contains-from_map, Contains-flat_map, Contains-from_flat_map, Contains-filter, Contains-from_filter, list_all-from, list_all-member, list_any-from, list_any-member}

-- the literal under values
abbrev pub lit_under : Sub → Lit → Lit
lit_under s l = record { positive = l.positive; atom = atom_under s l.atom }

-- ---- tests

-- a test of a flat body is one that an item makes
test-is : (c k : Con) → flat.Test c ≡ flat.Test k → c ≡ k
test-is c k e = cc

-- where all tests of the flat items hold, those of the items do; the variables that were tested before are numbers
pub tests-true : (s : Sub) (seen : List ℕ) (body : List Item) → ((x : ℕ) → list_any (nat_eq x) seen ≡ true → is_number (s x) ≡ true)
    → ((c : Con) → Contains (flat_after seen body) (flat.Test c) → holds s c ≡ true) → list_all (is_test_true s) body ≡ true
tests-true s seen [] n h = refl
tests-true s seen (item.Call l ∷ body) n h = tests-true s seen body n (λ c i. h c (Contains-there (flat.Call l) (flat_after seen body) (flat.Test c) i))
tests-true s seen (item.Equal t u ∷ body) n h =
    let own : FlatItem = flat.Test (con.Eq t u) in
    and_from (is_test_true s (item.Equal t u)) (list_all (is_test_true s) body) (h (con.Eq t u) (Contains-here own (flat_after seen body)))
    (tests-true s seen body n (λ c i. h c (Contains-there own (flat_after seen body) (flat.Test c) i)))
tests-true s seen (item.Differ t u ∷ body) n h =
    let own : FlatItem = flat.Test (con.Neq t u) in
    and_from (is_test_true s (item.Differ t u)) (list_all (is_test_true s) body) (h (con.Neq t u) (Contains-here own (flat_after seen body)))
    (tests-true s seen body n (λ c i. h c (Contains-there own (flat_after seen body) (flat.Test c) i)))
tests-true s seen (item.Linear l ∷ body) n h =
    let new = map number_test (unseen seen l.vars) in
    let own : FlatItem = flat.Test (con.Row l.row) in
    let rest = flat_after (seen ++ l.vars) body in
    let is_new : (x : ℕ) → Contains (unseen seen l.vars) x → is_number (s x) ≡ true =
    (λ x i. h (con.Num (Var x)) (Contains-append_left new (own ∷ rest) (number_test x) (Contains-map number_test (unseen seen l.vars) x i))) in
    let each : (x : ℕ) → Contains l.vars x → is_number (s x) ≡ true =
    (λ x i. elim (cases_Bool (list_any (nat_eq x) seen)) [
      | inl e ↦ n x e
      | inr e ↦ is_new x (Contains-filter (λ y. not (list_any (nat_eq y) seen)) l.vars x i (ap not e))
    ]) in
    and_from (is_test_true s (item.Linear l)) (list_all (is_test_true s) body)
    (and_from (list_all (λ x. is_number (s x)) l.vars) _ (list_all-from (λ x. is_number (s x)) l.vars each)
    (h (con.Row l.row) (Contains-append_right new (own ∷ rest) own (Contains-here own rest))))
    (tests-true s (seen ++ l.vars) body (λ x e. seen-or x (any-append x seen l.vars e) each)
    (λ c i. h c (Contains-append_right new (own ∷ rest) (flat.Test c) (Contains-there own rest (flat.Test c) i))))
  where
    any-append : (x : ℕ) (xs ys : List ℕ) → list_any (nat_eq x) (xs ++ ys) ≡ true → (list_any (nat_eq x) xs ≡ true) ⊎ (Contains ys x)
    any-append x xs ys e =
        let q = list_any-member (nat_eq x) (xs ++ ys) e in
        let same : x ≡ q.0 = (Decides-eqb x q.0).0 q.2 in
        elim (Contains-append_cases xs ys q.0 q.1) [
          | inl i ↦ inl (list_any-from (nat_eq x) xs q.0 i q.2)
          | inr i ↦ inr (subst (λ (z : ℕ). Contains ys z) (sym same) i)
        ]

    seen-or : (x : ℕ) → ((list_any (nat_eq x) seen ≡ true) ⊎ (Contains l.vars x)) → ((x : ℕ) → Contains l.vars x → is_number (s x) ≡ true) → is_number (s x) ≡ true
    seen-or x (inl e) f = n x e
    seen-or x (inr i) f = f x i

-- where the tests of the items hold, each test of the flat items does
pub flat-holds : (s : Sub) (seen : List ℕ) (body : List Item) → list_all (is_test_true s) body ≡ true → (c : Con) → Contains (flat_after seen body) (flat.Test c) → holds s c ≡ true
flat-holds s seen [] h c i = absurd (Contains-none (flat.Test c) i)
flat-holds s seen (item.Call l ∷ body) h c i =
    elim (Contains-cases (flat.Call l) (flat_after seen body) (flat.Test c) i) [ inl e ↦ cc | inr j ↦ flat-holds s seen body h c j ]
flat-holds s seen (item.Equal t u ∷ body) h c i =
    let p = and_parts (is_test_true s (item.Equal t u)) (list_all (is_test_true s) body) h in
    elim (Contains-cases (flat.Test (con.Eq t u)) (flat_after seen body) (flat.Test c) i) [
      | inl e ↦ subst (λ (k : Con). holds s k ≡ true) (test-is (con.Eq t u) c e) p.0
      | inr j ↦ flat-holds s seen body p.1 c j
    ]
flat-holds s seen (item.Differ t u ∷ body) h c i =
    let p = and_parts (is_test_true s (item.Differ t u)) (list_all (is_test_true s) body) h in
    elim (Contains-cases (flat.Test (con.Neq t u)) (flat_after seen body) (flat.Test c) i) [
      | inl e ↦ subst (λ (k : Con). holds s k ≡ true) (test-is (con.Neq t u) c e) p.0
      | inr j ↦ flat-holds s seen body p.1 c j
    ]
flat-holds s seen (item.Linear l ∷ body) h c i =
    let p = and_parts (is_test_true s (item.Linear l)) (list_all (is_test_true s) body) h in
    let q = and_parts (list_all (λ x. is_number (s x)) l.vars) (holds s (con.Row l.row)) p.0 in
    let own : FlatItem = flat.Test (con.Row l.row) in
    let rest = flat_after (seen ++ l.vars) body in
    elim (Contains-append_cases (map number_test (unseen seen l.vars)) (own ∷ rest) (flat.Test c) i) [
      | inl j ↦
          (let k = Contains-from_map number_test (unseen seen l.vars) (flat.Test c) j in
          let f = Contains-from_filter (λ y. not (list_any (nat_eq y) seen)) l.vars k.0 k.1 in
          subst (λ (z : Con). holds s z ≡ true) (test-is (con.Num (Var k.0)) c k.2) (list_all-member (λ x. is_number (s x)) l.vars k.0 q.0 f.0))
      | inr j ↦ elim (Contains-cases own rest (flat.Test c) j) [
        | inl e ↦ subst (λ (k : Con). holds s k ≡ true) (test-is (con.Row l.row) c e) q.1
        | inr k ↦ flat-holds s (seen ++ l.vars) body p.1 c k
      ]
    ]

-- ---- literals

no-test : (xs : List ℕ) (l : Lit) → Contains (map number_test xs) (flat.Call l) → ⊥
no-test xs l i = let k = Contains-from_map number_test xs (flat.Call l) i in let e = k.2 in cc

pub call-in_flat : (seen : List ℕ) (body : List Item) (l : Lit) → Contains body (item.Call l) → Contains (flat_after seen body) (flat.Call l)
call-in_flat seen [] l i = absurd (Contains-none (item.Call l) i)
call-in_flat seen (item.Call k ∷ body) l i = elim (Contains-cases (item.Call k) body (item.Call l) i) [
  | inl e ↦ (let same : k ≡ l = cc in subst (λ (z : Lit). Contains (flat.Call k ∷ flat_after seen body) (flat.Call z)) same (Contains-here (flat.Call k) (flat_after seen body)))
  | inr j ↦ Contains-there (flat.Call k) (flat_after seen body) (flat.Call l) (call-in_flat seen body l j)
]
call-in_flat seen (item.Equal t u ∷ body) l i = elim (Contains-cases (item.Equal t u) body (item.Call l) i) [
  | inl e ↦ cc
  | inr j ↦ Contains-there (flat.Test (con.Eq t u)) (flat_after seen body) (flat.Call l) (call-in_flat seen body l j)
]
call-in_flat seen (item.Differ t u ∷ body) l i = elim (Contains-cases (item.Differ t u) body (item.Call l) i) [
  | inl e ↦ cc
  | inr j ↦ Contains-there (flat.Test (con.Neq t u)) (flat_after seen body) (flat.Call l) (call-in_flat seen body l j)
]
call-in_flat seen (item.Linear r ∷ body) l i = elim (Contains-cases (item.Linear r) body (item.Call l) i) [
  | inl e ↦ cc
  | inr j ↦ Contains-append_right (map number_test (unseen seen r.vars)) _ (flat.Call l)
      (Contains-there (flat.Test (con.Row r.row)) (flat_after (seen ++ r.vars) body) (flat.Call l) (call-in_flat (seen ++ r.vars) body l j))
]

pub call-from_flat : (seen : List ℕ) (body : List Item) (l : Lit) → Contains (flat_after seen body) (flat.Call l) → Contains body (item.Call l)
call-from_flat seen [] l i = absurd (Contains-none (flat.Call l) i)
call-from_flat seen (item.Call k ∷ body) l i = elim (Contains-cases (flat.Call k) (flat_after seen body) (flat.Call l) i) [
  | inl e ↦ (let same : k ≡ l = cc in subst (λ (z : Lit). Contains (item.Call k ∷ body) (item.Call z)) same (Contains-here (item.Call k) body))
  | inr j ↦ Contains-there (item.Call k) body (item.Call l) (call-from_flat seen body l j)
]
call-from_flat seen (item.Equal t u ∷ body) l i = elim (Contains-cases (flat.Test (con.Eq t u)) (flat_after seen body) (flat.Call l) i) [
  | inl e ↦ cc
  | inr j ↦ Contains-there (item.Equal t u) body (item.Call l) (call-from_flat seen body l j)
]
call-from_flat seen (item.Differ t u ∷ body) l i = elim (Contains-cases (flat.Test (con.Neq t u)) (flat_after seen body) (flat.Call l) i) [
  | inl e ↦ cc
  | inr j ↦ Contains-there (item.Differ t u) body (item.Call l) (call-from_flat seen body l j)
]
call-from_flat seen (item.Linear r ∷ body) l i =
    elim (Contains-append_cases (map number_test (unseen seen r.vars)) (flat.Test (con.Row r.row) ∷ flat_after (seen ++ r.vars) body) (flat.Call l) i) [
      | inl j ↦ absurd (no-test (unseen seen r.vars) l j)
      | inr j ↦ elim (Contains-cases (flat.Test (con.Row r.row)) (flat_after (seen ++ r.vars) body) (flat.Call l) j) [
        | inl e ↦ cc
        | inr k ↦ Contains-there (item.Linear r) body (item.Call l) (call-from_flat (seen ++ r.vars) body l k)
      ]
    ]

-- ---- ground bodies

pub literal-from : (s : Sub) (body : List Item) (k : Lit) → Contains (flat_map (literal_under s) body) k → (l : Lit) × Contains body (item.Call l) × (lit_under s l ≡ k)
literal-from s body k i =
    let q = Contains-from_flat_map (literal_under s) body k i in by q.0 q.1 q.2
  where
    by : (x : Item) → Contains body x → Contains (literal_under s x) k → (l : Lit) × Contains body (item.Call l) × (lit_under s l ≡ k)
    by (item.Call l) j h = (l, j, Contains-single (lit_under s l) k h)
    by (item.Equal t u) j h = absurd (Contains-none k h)
    by (item.Differ t u) j h = absurd (Contains-none k h)
    by (item.Linear r) j h = absurd (Contains-none k h)

pub literal-in : (s : Sub) (body : List Item) (l : Lit) → Contains body (item.Call l) → Contains (flat_map (literal_under s) body) (lit_under s l)
literal-in s body l i = Contains-flat_map (literal_under s) body (item.Call l) (lit_under s l) i (Contains-here (lit_under s l) [])

-- an atom of the literals that pass a test is that of one of them
pub atom-of : (test : Lit → Bool) (ls : List Lit) (a : Atom) → among (map (λ (l : Lit). l.atom) (filter test ls)) a ≡ true → (l : Lit) × Contains ls l × (test l ≡ true) × (l.atom ≡ a)
atom-of test ls a h =
    let q = list_any-member (same_atom a) (map (λ (l : Lit). l.atom) (filter test ls)) h in
    let k = Contains-from_map (λ (l : Lit). l.atom) (filter test ls) q.0 q.1 in
    let f = Contains-from_filter test ls k.0 k.1 in
    (k.0, f.0, f.1, k.2 ∙ sym ((atom_decided a q.0).0 q.2))
