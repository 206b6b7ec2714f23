-- Tests decide what they stand for, and a test that fails is a refusal.
use Rattle.std.proofs.Common.{◌≡◌, ℕ, ◌<◌, ◌≤◌, arith, nat_lt, nat_le, Bool, true, false, ◌&&◌, nat_eq, List, [], ◌∷◌, ◌++◌, Option, Some, None, refl, ap, sym, subst}
use Rattle.std.specs.Bool.{Decides}
use Rattle.std.specs.List.{flat_map}
use Rattle.std.proofs.lemmas.Bool.{and_parts, and_from}
use Rattle.std.proofs.lemmas.Bool.Decides.{nat_tests, Decides-eqb}
use Rattle.scasp_list.specs.Each.{Each}
use Rattle.scasp_num.proofs.SameRows.{row-decided}
use Rattle.scasp_hint.specs.declared.fault.HintFault.{HintFault}
use Rattle.scasp_syntax.specs.Same.{same_atom, same_bool}
use Rattle.scasp_syntax.specs.View.{tm_of}
use Rattle.scasp_syntax.specs.declared.atom.Atom.{Atom}
use Rattle.scasp_syntax.specs.declared.con.Con.{Con}
use Rattle.scasp_syntax.specs.declared.con.Con.TheVariants as con
use Rattle.scasp_syntax.specs.declared.term.Term.{Term}
use Rattle.scasp_syntax.specs.declared.term.Term.TheVariants.{Var, Num, App}
use Rattle.scasp_syntax.proofs.SameLemmas.{atom_decided, tm_decided}
use Rattle.scasp_lines.specs.Dues.{Due, goal, fact, nothing}
use Rattle.scasp_checker_rules.specs.LineFaults.{is_due, is_fact_due, same_numbers}
use Rattle.scasp_checker_rules.specs.Refusals.{wants, of_some, fault_at}
use Rattle.scasp_checker_rules.specs.SameConstraint.{same_con, same_term}
use Rattle.scasp_checker_rules.specs.declared.refusal.Refusal.{Refusal}
use Rattle.scasp_checker_rules.specs.declared.refusal.Reason.{Reason}

-- ---- numbers

pub lt-from : (m n : ℕ) → nat_lt m n ≡ true → m < n
lt-from m n e = grind (arith, nat_tests)

pub lt-is : (m n : ℕ) → m < n → nat_lt m n ≡ true
lt-is m n e = grind (arith, nat_tests)

pub le-from : (m n : ℕ) → nat_le m n ≡ true → m ≤ n
le-from m n e = grind (arith, nat_tests)

pub le-is : (m n : ℕ) → m ≤ n → nat_le m n ≡ true
le-is m n e = grind (arith, nat_tests)

-- ---- refusals

pub wants-holds : (at : ℕ) (why : Reason) (ok : Bool) → wants at why ok ≡ [] → ok ≡ true
wants-holds at why true e = refl
wants-holds at why false e = cc

pub wants-none : (at : ℕ) (why : Reason) (ok : Bool) → ok ≡ true → wants at why ok ≡ []
wants-none at why true e = refl
wants-none at why false e = cc

pub both_none : (xs ys : List Refusal) → xs ++ ys ≡ [] → (xs ≡ []) × (ys ≡ [])
both_none [] ys e = (refl, e)
both_none (x ∷ xs) ys e = cc

pub none_both : (xs ys : List Refusal) → xs ≡ [] → ys ≡ [] → xs ++ ys ≡ []
none_both [] ys e f = f
none_both (x ∷ xs) ys e f = cc

pub fault-none : (at : ℕ) (o : Option HintFault) → fault_at at o ≡ [] → o ≡ None
fault-none at None e = refl
fault-none at (Some why) e = cc

pub none-fault : (at : ℕ) (o : Option HintFault) → o ≡ None → fault_at at o ≡ []
none-fault at None e = refl
none-fault at (Some why) e = cc

pub each-none : {A : Type 0} → (P : A → Type 0) (f : A → List Refusal) → ((x : A) → f x ≡ [] → P x) → (xs : List A) → flat_map f xs ≡ [] → Each P xs
each-none P f g [] e = tt
each-none P f g (x ∷ xs) e = let p = both_none (f x) (flat_map f xs) e in (g x p.0, each-none P f g xs p.1)

pub none-each : {A : Type 0} → (P : A → Type 0) (f : A → List Refusal) → ((x : A) → P x → f x ≡ []) → (xs : List A) → Each P xs → flat_map f xs ≡ []
none-each P f g [] e = refl
none-each P f g (x ∷ xs) e = none_both (f x) (flat_map f xs) (g x e.0) (none-each P f g xs e.1)

-- ---- values that are there

pub of_some-parts : {A : Type 0} → (o : Option A) (test : A → Bool) → of_some o test ≡ true → (x : A) × (o ≡ Some x) × (test x ≡ true)
of_some-parts None test e = cc
of_some-parts (Some x) test e = (x, refl, e)

pub of_some-from : {A : Type 0} → (o : Option A) (test : A → Bool) (x : A) → o ≡ Some x → test x ≡ true → of_some o test ≡ true
of_some-from o test x e f = subst (λ (o : Option _). of_some o test ≡ true) (sym e) f

-- ---- equality

pub bool_decided : (a b : Bool) → Decides (same_bool a b) (a ≡ b)
bool_decided true true = (λ e. refl, λ e. refl)
bool_decided true false = (λ e. cc, λ e. cc)
bool_decided false true = (λ e. cc, λ e. cc)
bool_decided false false = (λ e. refl, λ e. refl)

term-is : (t u : Term) → tm_of t ≡ tm_of u → t ≡ u
term-is (Var x) (Var y) e = cc
term-is (Var x) (Num q) e = cc
term-is (Var x) (App f ts) e = cc
term-is (Num q) (Var y) e = cc
term-is (Num q) (Num r) e = cc
term-is (Num q) (App f ts) e = cc
term-is (App f ts) (Var y) e = cc
term-is (App f ts) (Num r) e = cc
term-is (App f ts) (App g us) e = cc

term_decided : (t u : Term) → Decides (same_term t u) (t ≡ u)
term_decided t u = (λ e. term-is t u ((tm_decided (tm_of t) (tm_of u)).0 e), λ e. (tm_decided (tm_of t) (tm_of u)).1 (ap tm_of e))

con-is : (c d : Con) → same_con c d ≡ true → c ≡ d
con-is (con.Eq t u) (con.Eq a b) e =
    let p = and_parts (same_term t a) (same_term u b) e in
    let l = (term_decided t a).0 p.0 in let r = (term_decided u b).0 p.1 in cc
con-is (con.Eq t u) (con.Neq a b) e = cc
con-is (con.Eq t u) (con.NotShape y g m) e = cc
con-is (con.Eq t u) (con.Num a) e = cc
con-is (con.Eq t u) (con.NotNum a) e = cc
con-is (con.Eq t u) (con.Row q) e = cc
con-is (con.Neq t u) (con.Eq a b) e = cc
con-is (con.Neq t u) (con.Neq a b) e =
    let p = and_parts (same_term t a) (same_term u b) e in
    let l = (term_decided t a).0 p.0 in let r = (term_decided u b).0 p.1 in cc
con-is (con.Neq t u) (con.NotShape y g m) e = cc
con-is (con.Neq t u) (con.Num a) e = cc
con-is (con.Neq t u) (con.NotNum a) e = cc
con-is (con.Neq t u) (con.Row q) e = cc
con-is (con.NotShape x f n) (con.Eq a b) e = cc
con-is (con.NotShape x f n) (con.Neq a b) e = cc
con-is (con.NotShape x f n) (con.NotShape y g m) e =
    let p = and_parts (nat_eq x y && nat_eq f g) (nat_eq n m) e in
    let q = and_parts (nat_eq x y) (nat_eq f g) p.0 in
    let a = (Decides-eqb x y).0 q.0 in let b = (Decides-eqb f g).0 q.1 in let d = (Decides-eqb n m).0 p.1 in cc
con-is (con.NotShape x f n) (con.Num a) e = cc
con-is (con.NotShape x f n) (con.NotNum a) e = cc
con-is (con.NotShape x f n) (con.Row q) e = cc
con-is (con.Num t) (con.Eq a b) e = cc
con-is (con.Num t) (con.Neq a b) e = cc
con-is (con.Num t) (con.NotShape y g m) e = cc
con-is (con.Num t) (con.Num a) e = ap con.Num ((term_decided t a).0 e)
con-is (con.Num t) (con.NotNum a) e = cc
con-is (con.Num t) (con.Row q) e = cc
con-is (con.NotNum t) (con.Eq a b) e = cc
con-is (con.NotNum t) (con.Neq a b) e = cc
con-is (con.NotNum t) (con.NotShape y g m) e = cc
con-is (con.NotNum t) (con.Num a) e = cc
con-is (con.NotNum t) (con.NotNum a) e = ap con.NotNum ((term_decided t a).0 e)
con-is (con.NotNum t) (con.Row q) e = cc
con-is (con.Row r) (con.Eq a b) e = cc
con-is (con.Row r) (con.Neq a b) e = cc
con-is (con.Row r) (con.NotShape y g m) e = cc
con-is (con.Row r) (con.Num a) e = cc
con-is (con.Row r) (con.NotNum a) e = cc
con-is (con.Row r) (con.Row q) e = ap con.Row ((row-decided r q).0 e)

same-con : (c : Con) → same_con c c ≡ true
same-con (con.Eq t u) = and_from _ _ ((term_decided t t).1 refl) ((term_decided u u).1 refl)
same-con (con.Neq t u) = and_from _ _ ((term_decided t t).1 refl) ((term_decided u u).1 refl)
same-con (con.NotShape x f n) = and_from _ _ (and_from _ _ ((Decides-eqb x x).1 refl) ((Decides-eqb f f).1 refl)) ((Decides-eqb n n).1 refl)
same-con (con.Num t) = (term_decided t t).1 refl
same-con (con.NotNum t) = (term_decided t t).1 refl
same-con (con.Row r) = (row-decided r r).1 refl

numbers-are : (ks js : List ℕ) → same_numbers ks js ≡ true → ks ≡ js
numbers-are [] [] e = refl
numbers-are [] (j ∷ js) e = cc
numbers-are (k ∷ ks) [] e = cc
numbers-are (k ∷ ks) (j ∷ js) e =
    let p = and_parts (nat_eq k j) (same_numbers ks js) e in
    let h = (Decides-eqb k j).0 p.0 in let t = numbers-are ks js p.1 in cc

same-numbers : (ks : List ℕ) → same_numbers ks ks ≡ true
same-numbers [] = refl
same-numbers (k ∷ ks) = and_from _ _ ((Decides-eqb k k).1 refl) (same-numbers ks)

pub numbers_decided : (ks js : List ℕ) → Decides (same_numbers ks js) (ks ≡ js)
numbers_decided ks js = (numbers-are ks js, λ e. subst (λ (x : List ℕ). same_numbers ks x ≡ true) e (same-numbers ks))

-- ---- what is due

due-is : (d : Due) (positive : Bool) (a : Atom) → is_due d positive a ≡ true → d ≡ goal (record { positive = positive; atom = a })
due-is (goal l) positive a e =
    let p = and_parts (same_bool l.positive positive) (same_atom l.atom a) e in
    let s = (bool_decided l.positive positive).0 p.0 in
    let t = (atom_decided l.atom a).0 p.1 in ap goal (rw (sym s, sym t) refl)
due-is (fact o) positive a e = cc
due-is nothing positive a e = cc

same-due : (positive : Bool) (a : Atom) → is_due (goal (record { positive = positive; atom = a })) positive a ≡ true
same-due positive a = and_from _ _ ((bool_decided positive positive).1 refl) ((atom_decided a a).1 refl)

pub due_decided : (d : Due) (positive : Bool) (a : Atom) → Decides (is_due d positive a) (d ≡ goal (record { positive = positive; atom = a }))
due_decided d positive a = (due-is d positive a, λ e. subst (λ (x : Due). is_due x positive a ≡ true) (sym e) (same-due positive a))

fact-is : (d : Due) (c : Con) → is_fact_due d c ≡ true → d ≡ fact (Some c)
fact-is (goal l) c e = cc
fact-is (fact None) c e = cc
fact-is (fact (Some d)) c e = ap (λ x. fact (Some x)) (con-is d c e)
fact-is nothing c e = cc

pub fact_decided : (d : Due) (c : Con) → Decides (is_fact_due d c) (d ≡ fact (Some c))
fact_decided d c = (fact-is d c, λ e. subst (λ (x : Due). is_fact_due x c ≡ true) (sym e) (same-con c))
