-- Two literals that are shown apart have no atom in common.
use Rattle.std.proofs.Common.{◌≡◌, ◌∙◌, ℕ, ◌+◌, ◌-◌, ◌<◌, ◌≤◌, max, true, false, cond, ◌&&◌, not, nat_lt, ℤ, ◌+ℤ◌, ◌*ℤ◌, List, [], ◌∷◌, ◌++◌, map, None, refl, ap, sym, inl, inr, arith}
use Rattle.std.specs.List.{list_all}
use Rattle.std.proofs.lemmas.Bool.{and_parts, and_from, cases_Bool, cond-true, cond-false, cond_both, ltb-true, ltb-false}
use Rattle.scasp_num.specs.Linear.{compares}
use Rattle.scasp_num.specs.declared.linear.Coeff.{Coeff}
use Rattle.scasp_syntax.specs.Constraints.{holds, has_shape, is_number}
use Rattle.scasp_syntax.specs.RowTruth.{number_of, point}
use Rattle.scasp_num.specs.Values.{row_sum}
use Rattle.scasp_syntax.specs.Tm.{Tm, Tms, var, num, app, nil, cons}
use Rattle.scasp_syntax.specs.Values.{Sub, is_ground, under, all_under}
use Rattle.scasp_syntax.specs.View.{tm_of}
use Rattle.scasp_syntax.specs.declared.con.Con.{Con}
use Rattle.scasp_syntax.specs.declared.con.Con.TheVariants as con
use Rattle.scasp_syntax.specs.declared.hint.Hint.{Hint}
use Rattle.scasp_syntax.specs.declared.term.Term.{Term}
use Rattle.scasp_syntax.proofs.SameLemmas.{tm_decided}
use Rattle.scasp_syntax.proofs.ValueLemmas.{under-under, all_under-all_under}
use Rattle.scasp_hint.specs.AskedRows.{RowsNormal}
use Rattle.scasp_hint.specs.Showing.{fault_of}
use Rattle.scasp_lines.specs.Contexts.{context}
use Rattle.scasp_lines.specs.Known.{is_known, are_known, is_con_known}
use Rattle.scasp_lines.specs.Openings.{equal}
use Rattle.scasp_unify.specs.SimpleForm.{term_with}
use Rattle.scasp_lines.proofs.KnownLemmas.{agree-tms, agree-con}
use Rattle.scasp_unify.proofs.SimpleLemmas.{viewed}
use Rattle.scasp_checker_rules.specs.PairLists.{above, above_all, above_terms, above_con, above_cons, raised_from, raising, term_raised, con_raised, equal_args, pair_list}
use Rattle.scasp_checker_rules.specs.Told.{Told}
use Rattle.scasp_checker_rules.proofs.HintLemmas.{unmet, all-append}
use Rattle.scasp_checker_rules.proofs.NormalityLemmas.{normal-append}
use Rattle.scasp_checker_rules.proofs.RenamedRows.{renamed-normal}
use Rattle.scasp_checker_rules.proofs.TestLemmas.{lt-is}

-- ---- what is below a number that is above it

mutual
  above-known : (t : Tm) (m : ℕ) → above t ≤ m → is_known (λ x. nat_lt x m) t ≡ true
  above-known (var x) m l = lt-is x m (omega (arith, l))
  above-known (num q) m l = refl
  above-known (app f ts) m l = all-above-known ts m l

  all-above-known : (ts : Tms) (m : ℕ) → above_all ts ≤ m → are_known (λ x. nat_lt x m) ts ≡ true
  all-above-known nil m l = refl
  all-above-known (cons t ts) m l =
      let a : above t ≤ m = omega (arith, l) in
      let b : above_all ts ≤ m = omega (arith, l) in
      and_from _ _ (above-known t m a) (all-above-known ts m b)

terms-above : (ks : List Coeff) (m : ℕ) → above_terms ks ≤ m → list_all (λ (j : Coeff). nat_lt j.x m) ks ≡ true
terms-above [] m l = refl
terms-above (k ∷ ks) m l =
    let a : k.x < m = omega (arith, l) in
    let b : above_terms ks ≤ m = omega (arith, l) in
    and_from _ _ (lt-is k.x m a) (terms-above ks m b)

both-above : (t u : Tm) (m : ℕ) → max (above t) (above u) ≤ m → (is_known (λ x. nat_lt x m) t && is_known (λ x. nat_lt x m) u) ≡ true
both-above t u m l =
    let a : above t ≤ m = omega (arith, l) in
    let b : above u ≤ m = omega (arith, l) in
    and_from _ _ (above-known t m a) (above-known u m b)

con-above : (c : Con) (m : ℕ) → above_con c ≤ m → is_con_known (λ x. nat_lt x m) c ≡ true
con-above (con.Eq t u) m l = both-above (tm_of t) (tm_of u) m l
con-above (con.Neq t u) m l = both-above (tm_of t) (tm_of u) m l
con-above (con.NotShape x f n) m l = lt-is x m (omega (arith, l))
con-above (con.Num t) m l = above-known (tm_of t) m l
con-above (con.NotNum t) m l = above-known (tm_of t) m l
con-above (con.Row r) m l = terms-above r.coeffs m l

-- ---- the two valuations side by side

-- v below m, and w of what is raised from there on
abbrev beside : ℕ → ℕ → Sub → Sub → Sub
beside m by v w z = cond (nat_lt z m) (v z) (w (z - by))

beside-below : (m by : ℕ) (v w : Sub) (z : ℕ) → nat_lt z m ≡ true → beside m by v w z ≡ v z
beside-below m by v w z l = cond-true (nat_lt z m) (v z) (w (z - by)) l

beside-above : (m by : ℕ) (v w : Sub) (x : ℕ) → m ≤ x + by → beside m by v w (x + by) ≡ w x
beside-above m by v w x l =
    let no : nat_lt (x + by) m ≡ false = elim (cases_Bool (nat_lt (x + by) m)) [ inl e ↦ (let q = ltb-true (x + by) m e in absurd (omega (arith, q, l))) | inr e ↦ e ] in
    let same : (x + by) - by ≡ x = omega arith in
    cond-false (nat_lt (x + by) m) (v (x + by)) (w ((x + by) - by)) no ∙ ap w same

beside-ground : (m by : ℕ) (v w : Sub) → ((x : ℕ) → is_ground (v x) ≡ true) → ((x : ℕ) → is_ground (w x) ≡ true) → (x : ℕ) → is_ground (beside m by v w x) ≡ true
beside-ground m by v w g h x = cond_both (nat_lt x m) (v x) (w (x - by)) (λ t. is_ground t ≡ true) (λ _. g x) (λ _. h (x - by))

mutual
  pub under-alike : (v w : Sub) → ((x : ℕ) → v x ≡ w x) → (t : Tm) → under v t ≡ under w t
  under-alike v w a (var x) = a x
  under-alike v w a (num q) = refl
  under-alike v w a (app f ts) = ap (app f) (all-alike v w a ts)

  pub all-alike : (v w : Sub) → ((x : ℕ) → v x ≡ w x) → (ts : Tms) → all_under v ts ≡ all_under w ts
  all-alike v w a nil = refl
  all-alike v w a (cons t ts) = let p = under-alike v w a t in let q = all-alike v w a ts in cc

module _ (free by : ℕ) (u w : Sub) (a : (x : ℕ) → u (raised_from free by x) ≡ w x) where
  raised-term : (t : Term) → under u (tm_of (term_raised free by t)) ≡ under w (tm_of t)
  raised-term t =
      ap (under u) (viewed (under (raising free by) (tm_of t))) ∙ under-under u (raising free by) (tm_of t)
      ∙ under-alike (λ x. u (raised_from free by x)) w a (tm_of t)

  raised-args : (ts : Tms) → all_under u (all_under (raising free by) ts) ≡ all_under w ts
  raised-args ts = all_under-all_under u (raising free by) ts ∙ all-alike (λ x. u (raised_from free by x)) w a ts

  raised-sum : (ks : List Coeff) → row_sum (point u) (map (λ (k : Coeff). record { x = raised_from free by k.x; c = k.c }) ks) ≡ row_sum (point w) ks
  raised-sum [] = refl
  raised-sum (k ∷ ks) =
      let value = ap number_of (a k.x) in
      let rest = raised-sum ks in
      λ i. (k.c *ℤ (value i).num *ℤ (rest i).1 +ℤ (rest i).0 *ℤ (value i).den, (value i).den *ℤ (rest i).1)

  raised-holds : (c : Con) → holds u (con_raised free by c) ≡ holds w c
  raised-holds (con.Eq t s) = let p = raised-term t in let q = raised-term s in cc
  raised-holds (con.Neq t s) = let p = raised-term t in let q = raised-term s in cc
  raised-holds (con.NotShape x f m) = ap (λ z. not (has_shape f m z)) (a x)
  raised-holds (con.Num t) = ap is_number (raised-term t)
  raised-holds (con.NotNum t) = ap (λ z. not (is_number z)) (raised-term t)
  raised-holds (con.Row l) = ap (λ (z : ℤ × ℤ). compares l.op (z.0 +ℤ l.constant *ℤ z.1)) (raised-sum l.coeffs)

  raised-met : (cs : List Con) → list_all (holds w) cs ≡ true → list_all (holds u) (map (con_raised free by) cs) ≡ true
  raised-met [] h = refl
  raised-met (c ∷ cs) h =
      let p = and_parts (holds w c) (list_all (holds w) cs) h in
      and_from (holds u (con_raised free by c)) (list_all (holds u) (map (con_raised free by) cs)) (raised-holds c ∙ p.0) (raised-met cs p.1)

equal-holds : (u : Sub) (t l : Tm) → under u t ≡ under u l → holds u (equal t l) ≡ true
equal-holds u t l e =
    (tm_decided (under u (tm_of (term_with t))) (under u (tm_of (term_with l)))).1 (ap (under u) (viewed t) ∙ e ∙ ap (under u) (sym (viewed l)))

args-met : (u : Sub) (ts us : Tms) → all_under u ts ≡ all_under u us → list_all (holds u) (equal_args ts us) ≡ true
args-met u nil us e = refl
args-met u (cons t ts) nil e = refl
args-met u (cons t ts) (cons s us) e =
    let one : under u t ≡ under u s = cc in
    let rest : all_under u ts ≡ all_under u us = cc in
    and_from (holds u (equal t s)) (list_all (holds u) (equal_args ts us)) (equal-holds u t s one) (args-met u ts us rest)

first-met : (u v : Sub) (m : ℕ) → ((x : ℕ) → nat_lt x m ≡ true → u x ≡ v x) → (cs : List Con) → above_cons cs ≤ m → list_all (holds v) cs ≡ true → list_all (holds u) cs ≡ true
first-met u v m a [] l h = refl
first-met u v m a (c ∷ cs) l h =
    let p = and_parts (holds v c) (list_all (holds v) cs) h in
    let one : above_con c ≤ m = omega (arith, l) in
    let rest : above_cons cs ≤ m = omega (arith, l) in
    and_from (holds u c) (list_all (holds u) cs) (agree-con (λ x. nat_lt x m) u v a c (con-above c m one) ∙ p.0) (first-met u v m a cs rest p.1)

-- ---- rows stay in normal form

raised-lt : (free by x y : ℕ) → x < y → raised_from free by x < raised_from free by y
raised-lt free by x y l =
    cond_both (nat_lt x free) x (x + by) (λ a. a < raised_from free by y)
    (λ e. cond_both (nat_lt y free) y (y + by) (λ b. x < b) (λ _. l) (λ _. omega (arith, l)))
    (λ e. cond_both (nat_lt y free) y (y + by) (λ b. x + by < b)
    (λ f. (let q = ltb-true y free f in absurd (not-lt x free e (omega (arith, q, l))))) (λ _. omega (arith, l)))
  where
    not-lt : (x n : ℕ) → nat_lt x n ≡ false → x < n → ⊥
    not-lt x n e l = let t = lt-is x n l in cc

raised-normal : (free by : ℕ) (cs : List Con) → RowsNormal cs → RowsNormal (map (con_raised free by) cs)
raised-normal free by [] h = tt
raised-normal free by (con.Row r ∷ cs) h = (renamed-normal (raised_from free by) (raised-lt free by) r h.0, raised-normal free by cs h.1)
raised-normal free by (con.Eq t u ∷ cs) h = raised-normal free by cs h
raised-normal free by (con.Neq t u ∷ cs) h = raised-normal free by cs h
raised-normal free by (con.NotShape x f n ∷ cs) h = raised-normal free by cs h
raised-normal free by (con.Num t ∷ cs) h = raised-normal free by cs h
raised-normal free by (con.NotNum t ∷ cs) h = raised-normal free by cs h

args-normal : (ts us : Tms) → RowsNormal (equal_args ts us)
args-normal nil us = tt
args-normal (cons t ts) nil = tt
args-normal (cons t ts) (cons u us) = args-normal ts us

-- ---- pairs

pub shown-apart : (free : ℕ) (given : List Con) (a b : Told) (h : Hint) → RowsNormal (context given a.opened) → RowsNormal (context [] b.opened)
    → fault_of (pair_list free given a b) h ≡ None → (v w : Sub) → ((x : ℕ) → is_ground (v x) ≡ true) → ((x : ℕ) → is_ground (w x) ≡ true)
    → ((x : ℕ) → nat_lt x free ≡ true → v x ≡ w x) → list_all (holds v) (context given a.opened) ≡ true → list_all (holds w) (context [] b.opened) ≡ true
    → all_under v a.atom.args ≡ all_under w b.atom.args → ⊥
shown-apart free given a b h na nb shown v w g k same mv mw e =
    let first = context given a.opened in
    let second = context [] b.opened in
    let by = max (above_cons first) (above_all a.atom.args) in
    let m = max free by in
    let u = beside m by v w in
    let below : (x : ℕ) → nat_lt x m ≡ true → u x ≡ v x = λ x l. beside-below m by v w x l in
    let raised : (x : ℕ) → u (raised_from free by x) ≡ w x =
    (λ x. cond_both (nat_lt x free) x (x + by) (λ z. u z ≡ w x)
    (λ l. (let q = ltb-true x free l in below x (lt-is x m (omega (arith, q))) ∙ same x l))
    (λ l. beside-above m by v w x (high x l))) in
    let args : all_under u a.atom.args ≡ all_under u (all_under (raising free by) b.atom.args) =
    agree-tms (λ x. nat_lt x m) u v below a.atom.args (all-above-known a.atom.args m (omega arith)) ∙ e ∙ sym (raised-args free by u w raised b.atom.args) in
    unmet (pair_list free given a b) h
    (normal-append (first ++ map (con_raised free by) second) (equal_args a.atom.args (all_under (raising free by) b.atom.args))
    (normal-append first (map (con_raised free by) second) na (raised-normal free by second nb)) (args-normal a.atom.args (all_under (raising free by) b.atom.args)))
    shown u (beside-ground m by v w g k)
    (all-append (holds u) (first ++ map (con_raised free by) second) (equal_args a.atom.args (all_under (raising free by) b.atom.args))
    (all-append (holds u) first (map (con_raised free by) second) (first-met u v m below first (omega arith) mv) (raised-met free by u w raised second mw))
    (args-met u a.atom.args (all_under (raising free by) b.atom.args) args))
  where
    high : (x : ℕ) → nat_lt x free ≡ false → max free (max (above_cons (context given a.opened)) (above_all a.atom.args)) ≤ x + max (above_cons (context given a.opened)) (above_all a.atom.args)
    high x l = elim (cases_Bool (nat_lt x free)) [ inl e ↦ absurd (cc) | inr e ↦ (let q : free ≤ x = ltb-false x free e in omega (arith, q)) ]
