-- What follows from a list is told where the list is.
use Rattle.std.proofs.Common.{◌≡◌, ℕ, Bool, true, false, not, ◌&&◌, ◌||◌, List, [], ◌∷◌, ◌++◌, refl, sym, ap, ◌∙◌}
use Rattle.std.specs.Prelude.{⊤, nat_eq}
use Rattle.std.specs.List.{list_all, list_any}
use Rattle.std.proofs.lemmas.Bool.{and_from, and_parts, eqb-true, true≢false}
use Rattle.std.proofs.lemmas.List.Folds.{list_all-append}
use Rattle.scasp_num.specs.declared.linear.Coeff.{Coeff}
use Rattle.scasp_syntax.specs.Constraints.{Sat, has_shape, holds, is_number}
use Rattle.scasp_syntax.specs.RowTruth.{row_holds}
use Rattle.scasp_syntax.specs.Tm.{Tm, var, num, app}
use Rattle.scasp_syntax.specs.Values.{Sub, Valuation}
use Rattle.scasp_syntax.specs.declared.con.Con.{Con}
use Rattle.scasp_syntax.specs.declared.con.Con.TheVariants as con
use Rattle.scasp_syntax.specs.declared.term.Term.{Term}
use Rattle.scasp_syntax.specs.declared.term.Term.TheVariants as term
use Rattle.scasp_unify.specs.Negations.{negated}
use Rattle.scasp_unify.proofs.PointLemmas.{negation-is}
use Rattle.scasp_hint.specs.AskedRows.{RowsNormal}
use Rattle.scasp_hint.specs.Finding.{Found, found, hint, nothing, unknown_list}
use Rattle.scasp_hint.proofs.FoundLemmas.{found-hint}
use Rattle.scasp_hint.proofs.ShownLemmas.{shown-unsat}
use Rattle.scasp_shorten.specs.Following.{follows, is_asked, is_number_by, is_row_of, is_shown, is_test_of, is_variable, tells_number}
use Rattle.scasp_shorten.specs.Told.{tells, tells_all}
use Rattle.scasp_shorten.proofs.RowsLemmas.{normal-append, normal-negated}

-- it is told, and so it holds
pub tells-holds : (v : Sub) (c : Con) → tells v c ≡ true → holds v c ≡ true
tells-holds v (con.Row r) m = (and_parts (list_all (λ k. is_number (v k.x)) r.coeffs) (row_holds v r) m).1
tells-holds v (con.Eq t u) m = m
tells-holds v (con.Neq t u) m = m
tells-holds v (con.NotShape x f n) m = m
tells-holds v (con.Num t) m = m
tells-holds v (con.NotNum t) m = m

pub tells-meets : (v : Sub) (cs : List Con) → tells_all v cs ≡ true → list_all (holds v) cs ≡ true
tells-meets v [] m = refl
tells-meets v (c ∷ cs) m =
    let p = and_parts (tells v c) (tells_all v cs) m in
    and_from (holds v c) (list_all (holds v) cs) (tells-holds v c p.0) (tells-meets v cs p.1)

-- ---- numbers

term-told : (v : Sub) (t : Term) (x : ℕ) → holds v (con.Num t) ≡ true → is_variable x t ≡ true → is_number (v x) ≡ true
term-told v (term.Var y) x m e = ap (λ z. is_number (v z)) (eqb-true x y e) ∙ m
term-told v (term.Num q) x m e = cc
term-told v (term.App f ts) x m e = cc

pub test-holds : (v : Sub) (c : Con) (x : ℕ) → holds v c ≡ true → is_test_of x c ≡ true → is_number (v x) ≡ true
test-holds v (con.Num t) x m e = term-told v t x m e
test-holds v (con.Eq t u) x m e = cc
test-holds v (con.Neq t u) x m e = cc
test-holds v (con.NotShape y f n) x m e = cc
test-holds v (con.NotNum t) x m e = cc
test-holds v (con.Row r) x m e = cc

coefficient-told : (v : Sub) (ks : List Coeff) (x : ℕ) → list_all (λ k. is_number (v k.x)) ks ≡ true → list_any (λ k. nat_eq x k.x) ks ≡ true → is_number (v x) ≡ true
coefficient-told v [] x m e = cc
coefficient-told v (k ∷ ks) x m e = by (nat_eq x k.x) refl (coefficient-told v ks x)
  where
    all : (is_number (v k.x) ≡ true) × (list_all (λ j. is_number (v j.x)) ks ≡ true)
    all = and_parts (is_number (v k.x)) (list_all (λ j. is_number (v j.x)) ks) m

    by : (b : Bool) → nat_eq x k.x ≡ b → (list_all (λ j. is_number (v j.x)) ks ≡ true → list_any (λ j. nat_eq x j.x) ks ≡ true → is_number (v x) ≡ true) → is_number (v x) ≡ true
    by true p rest = ap (λ z. is_number (v z)) (eqb-true x k.x p) ∙ all.0
    by false p rest = rest all.1 (sym (ap (λ b. b || list_any (λ j. nat_eq x j.x) ks) p) ∙ e)

pub row-here : (v : Sub) (c : Con) (x : ℕ) → tells v c ≡ true → is_row_of x c ≡ true → is_number (v x) ≡ true
row-here v (con.Row r) x m e = coefficient-told v r.coeffs x (and_parts (list_all (λ k. is_number (v k.x)) r.coeffs) (row_holds v r) m).0 e
row-here v (con.Eq t u) x m e = cc
row-here v (con.Neq t u) x m e = cc
row-here v (con.NotShape y f n) x m e = cc
row-here v (con.Num t) x m e = cc
row-here v (con.NotNum t) x m e = cc

-- some constraint of the list passes a test, which tells P of what holds
pub some-passes : (p : Con → Bool) (P : Type 0) (test : Con → Bool) → ((c : Con) → p c ≡ true → test c ≡ true → P) → (cs : List Con) → list_all p cs ≡ true → list_any test cs ≡ true → P
some-passes p P test h [] m e = cc
some-passes p P test h (c ∷ cs) m e = by (test c) refl (some-passes p P test h cs)
  where
    all : (p c ≡ true) × (list_all p cs ≡ true)
    all = and_parts (p c) (list_all p cs) m

    by : (b : Bool) → test c ≡ b → (list_all p cs ≡ true → list_any test cs ≡ true → P) → P
    by true q rest = h c all.0 q
    by false q rest = rest all.1 (sym (ap (λ b. b || list_any test cs) q) ∙ e)

pub rows-told : (v : Sub) (cs : List Con) (x : ℕ) → tells_all v cs ≡ true → list_any (is_row_of x) cs ≡ true → is_number (v x) ≡ true
rows-told v cs x m e = some-passes (tells v) (is_number (v x) ≡ true) (is_row_of x) (λ c. row-here v c x) cs m e

pub number-told : (v : Sub) (cs : List Con) (x : ℕ) → tells_all v cs ≡ true → tells_number cs x ≡ true → is_number (v x) ≡ true
number-told v cs x m e = by (list_any (is_test_of x) cs) refl
  where
    by : (b : Bool) → list_any (is_test_of x) cs ≡ b → is_number (v x) ≡ true
    by true p = some-passes (tells v) (is_number (v x) ≡ true) (is_test_of x) (λ c m e. test-holds v c x (tells-holds v c m) e) cs m p
    by false p = rows-told v cs x m (sym (ap (λ b. b || list_any (is_row_of x) cs) p) ∙ e)

pub numbers-told : (v : Sub) (cs : List Con) (ks : List Coeff) → tells_all v cs ≡ true → list_all (λ k. tells_number cs k.x) ks ≡ true → list_all (λ k. is_number (v k.x)) ks ≡ true
numbers-told v cs [] m e = refl
numbers-told v cs (k ∷ ks) m e =
    let p = and_parts (tells_number cs k.x) (list_all (λ j. tells_number cs j.x) ks) e in
    and_from (is_number (v k.x)) (list_all (λ j. is_number (v j.x)) ks) (number-told v cs k.x m p.0) (numbers-told v cs ks m p.1)

pub no-shape : (f n : ℕ) (t : Tm) → is_number t ≡ true → not (has_shape f n t) ≡ true
no-shape f n (var x) e = cc
no-shape f n (num q) e = refl
no-shape f n (app g ts) e = cc

pub by-number : (v : Sub) (cs : List Con) (t : Term) → tells_all v cs ≡ true → is_number_by cs t ≡ true → holds v (con.Num t) ≡ true
by-number v cs (term.Var x) m e = number-told v cs x m e
by-number v cs (term.Num q) m e = refl
by-number v cs (term.App f ts) m e = cc

-- ---- what is asked

-- its negation has no new variables
abbrev pub IsPlain : Con → Type 0
IsPlain (con.Eq t u) = ⊤
IsPlain (con.Neq t u) = ⊤
IsPlain (con.NotShape x f n) = ⊥
IsPlain (con.Num t) = ⊤
IsPlain (con.NotNum t) = ⊤
IsPlain (con.Row r) = ⊤

flip : (b : Bool) → not b ≡ false → b ≡ true
flip true e = refl
flip false e = cc

negated-holds : (v : Sub) (c : Con) → IsPlain c → holds v c ≡ false → holds v (negated 0 c) ≡ true
negated-holds v (con.Eq t u) i e = ap not e
negated-holds v (con.Neq t u) i e = flip (holds v (con.Eq t u)) e
negated-holds v (con.NotShape x f n) i e = absurd i
negated-holds v (con.Num t) i e = ap not e
negated-holds v (con.NotNum t) i e = flip (holds v (con.Num t)) e
negated-holds v (con.Row r) i e = negation-is v r ∙ ap not e

shown-unmet : (cs : List Con) → RowsNormal cs → is_shown (found cs) ≡ true → Sat cs → ⊥
shown-unmet cs n e m = by (found cs) refl
  where
    by : (f : Found) → found cs ≡ f → ⊥
    by nothing p = true≢false (sym e ∙ ap is_shown p)
    by unknown_list p = true≢false (sym e ∙ ap is_shown p)
    by (hint h) p = shown-unsat cs h n (found-hint cs h n p) m

pub asked-meets : (cs : List Con) (c : Con) (v : Valuation) → RowsNormal cs → RowsNormal (c ∷ []) → IsPlain c → is_asked cs c ≡ true → list_all (holds v.of) cs ≡ true → holds v.of c ≡ true
asked-meets cs c v n k i e m = by (holds v.of c) refl
  where
    both : holds v.of c ≡ false → list_all (holds v.of) (cs ++ negated 0 c ∷ []) ≡ true
    both p =
        list_all-append (holds v.of) cs (negated 0 c ∷ [])
        ∙ and_from (list_all (holds v.of) cs) (holds v.of (negated 0 c) && true) m (and_from (holds v.of (negated 0 c)) true (negated-holds v.of c i p) refl)

    by : (b : Bool) → holds v.of c ≡ b → holds v.of c ≡ true
    by true p = p
    by false p = absurd (shown-unmet (cs ++ negated 0 c ∷ []) (normal-append cs (negated 0 c ∷ []) n (normal-negated c k)) e (record { by = v; meets = both p }))

asked-holds : (cs : List Con) (c : Con) (v : Valuation) → RowsNormal cs → RowsNormal (c ∷ []) → IsPlain c → is_asked cs c ≡ true → tells_all v.of cs ≡ true → holds v.of c ≡ true
asked-holds cs c v n k i e m = asked-meets cs c v n k i e (tells-meets v.of cs m)

-- ---- both

pub follows-told : (cs : List Con) (c : Con) (v : Valuation) → RowsNormal cs → RowsNormal (c ∷ []) → follows cs c ≡ true → tells_all v.of cs ≡ true → tells v.of c ≡ true
follows-told cs (con.Num t) v n k e m = by-number v.of cs t m e
follows-told cs (con.NotShape x f a) v n k e m = no-shape f a (v.of x) (number-told v.of cs x m e)
follows-told cs (con.Row r) v n k e m =
    let p = and_parts (list_all (λ j. tells_number cs j.x) r.coeffs) (is_asked cs (con.Row r)) e in
    and_from (list_all (λ j. is_number (v.of j.x)) r.coeffs) (row_holds v.of r) (numbers-told v.of cs r.coeffs m p.0) (asked-holds cs (con.Row r) v n k tt p.1 m)
follows-told cs (con.Eq t u) v n k e m = asked-holds cs (con.Eq t u) v n k tt e m
follows-told cs (con.Neq t u) v n k e m = asked-holds cs (con.Neq t u) v n k tt e m
follows-told cs (con.NotNum t) v n k e m = asked-holds cs (con.NotNum t) v n k tt e m
