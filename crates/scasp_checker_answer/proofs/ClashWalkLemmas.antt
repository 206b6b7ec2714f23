-- Terms compared by a walk.
use Rattle.std.proofs.Common.{◌≡◌, ◌≢◌, ℕ, ◌+◌, ◌<◌, ◌≤◌, Bool, true, false, ◌||◌, not, nat_eq, length, refl, ap, sym, ◌∙◌, arith}
use Rattle.std.proofs.lemmas.Bool.Decides.{Decides-eqb}
use Rattle.scasp_syntax.specs.Tm.{Tm, Tms, var, num, app, nil, cons, items, weight, weight_s}
use Rattle.scasp_syntax.specs.View.{tm_of}
use Rattle.scasp_syntax.specs.Walks.{onto}
use Rattle.scasp_syntax.specs.declared.term.Term.{Term}
use Rattle.scasp_syntax.specs.declared.term.Term.TheVariants.{Var, Num, App}
use Rattle.scasp_syntax.proofs.RebuildLemmas.{no_terms}
use Rattle.scasp_syntax.proofs.WalkLemmas.{onto-weight}
use Rattle.scasp_checker_answer.specs.NameClashes.{clash, clash_among}
use Rattle.scasp_checker_answer.proofs.NameClashLemmas.{clash_among-lengths}

or_or : (a b c : Bool) → (a || (b || c)) ≡ ((a || b) || c)
or_or true b c = refl
or_or false b c = refl

or-true : (b : Bool) → (b || true) ≡ true
or-true true = refl
or-true false = refl

-- lists of one length, before others
clash-onto : (ts us ls rs : Tms) → length (items ts) ≡ length (items us) → clash_among (onto ts ls) (onto us rs) ≡ (clash_among ts us || clash_among ls rs)
clash-onto nil nil ls rs e = refl
clash-onto nil (cons u us) ls rs e = absurd (omega (arith, e))
clash-onto (cons t ts) nil ls rs e = absurd (omega (arith, e))
clash-onto (cons t ts) (cons u us) ls rs e =
    ap (λ b. clash t u || b) (clash-onto ts us ls rs (omega (arith, e))) ∙ or_or (clash t u) (clash_among ts us) (clash_among ls rs)

unequal : (f g : ℕ) → f ≢ g → nat_eq f g ≡ false
unequal f g n = by (nat_eq f g) refl
  where
    by : (b : Bool) → nat_eq f g ≡ b → b ≡ false
    by true e = absurd (n ((Decides-eqb f g).0 e))
    by false e = refl

-- two terms with names
named : (f g : ℕ) (t u : Term) (ts us ls rs : Tms) → t ≡ App f ts → u ≡ App g us → (clash (tm_of t) (tm_of u) || clash_among ls rs) ≡ ((not (nat_eq f g) || clash_among ts us) || clash_among ls rs)
named f g t u ts us ls rs d e = λ j. clash (tm_of (d j)) (tm_of (e j)) || clash_among ls rs

pub names_differ : (f g : ℕ) (t u : Term) (ts us ls rs : Tms) → t ≡ App f ts → u ≡ App g us → f ≢ g → (clash (tm_of t) (tm_of u) || clash_among ls rs) ≡ true
names_differ f g t u ts us ls rs d e n = named f g t u ts us ls rs d e ∙ ap (λ b. (not b || clash_among ts us) || clash_among ls rs) (unequal f g n)

pub counts_differ : (f g : ℕ) (t u : Term) (ts us ls rs : Tms) → t ≡ App f ts → u ≡ App g us → length (items ts) ≢ length (items us) → (clash (tm_of t) (tm_of u) || clash_among ls rs) ≡ true
counts_differ f g t u ts us ls rs d e n =
    named f g t u ts us ls rs d e ∙ ap (λ b. (not (nat_eq f g) || b) || clash_among ls rs) (clash_among-lengths ts us n) ∙ ap (λ b. b || clash_among ls rs) (or-true (not (nat_eq f g)))

-- one name and as many arguments
pub args_next : (f g : ℕ) (t u : Term) (ts us ls rs lefts rights : Tms) → t ≡ App f ts → u ≡ App g us → f ≡ g → length (items ts) ≡ length (items us)
    → lefts ≡ onto ts ls → rights ≡ onto us rs → (clash (tm_of t) (tm_of u) || clash_among ls rs) ≡ clash_among lefts rights
args_next f g t u ts us ls rs lefts rights d e n m l r =
    named f g t u ts us ls rs d e ∙ ap (λ b. (not b || clash_among ts us) || clash_among ls rs) ((Decides-eqb f g).1 n)
    ∙ sym (clash-onto ts us ls rs m) ∙ (λ j. clash_among (sym l j) (sym r j))

-- a name alone, twice
pub no_args : (f g : ℕ) (t u : Term) (ts us ls rs : Tms) → t ≡ App f ts → u ≡ App g us → f ≡ g → length (items ts) ≡ length (items us) → length (items ts) ≡ 0
    → (clash (tm_of t) (tm_of u) || clash_among ls rs) ≡ clash_among ls rs
no_args f g t u ts us ls rs d e n m o =
    args_next f g t u ts us ls rs ls rs d e n m (ap (λ vs. onto vs ls) (sym (no_terms ts o))) (ap (λ vs. onto vs rs) (sym (no_terms us (sym m ∙ o))))

-- ---- what is left of two lists

-- the next terms clash
pub clash_here : (t u : Term) (lefts rights ls rs more others : Tms) (z : Bool) → lefts ≡ cons (tm_of t) ls → rights ≡ cons (tm_of u) rs
    → (clash (tm_of t) (tm_of u) || clash_among ls rs) ≡ true → clash_among lefts rights ≡ z → true ≡ z
clash_here t u lefts rights ls rs more others z l r a h = sym a ∙ (λ j. clash_among (sym l j) (sym r j)) ∙ h

-- they do not
pub no_clash_here : (t u : Term) (lefts rights ls rs more others : Tms) (z : Bool) → lefts ≡ cons (tm_of t) ls → rights ≡ cons (tm_of u) rs
    → (clash (tm_of t) (tm_of u) || clash_among ls rs) ≡ clash_among more others → clash_among lefts rights ≡ z → clash_among more others ≡ z
no_clash_here t u lefts rights ls rs more others z l r a h = sym a ∙ (λ j. clash_among (sym l j) (sym r j)) ∙ h

-- only one side is left
pub left_alone : (t : Term) (lefts rights ls : Tms) (z : Bool) → lefts ≡ cons (tm_of t) ls → rights ≡ nil → clash_among lefts rights ≡ z → true ≡ z
left_alone t lefts rights ls z l r h = (λ j. clash_among (sym l j) (sym r j)) ∙ h

pub right_alone : (u : Term) (lefts rights rs : Tms) (z : Bool) → lefts ≡ nil → rights ≡ cons (tm_of u) rs → clash_among lefts rights ≡ z → true ≡ z
right_alone u lefts rights rs z l r h = (λ j. clash_among (sym l j) (sym r j)) ∙ h

-- no term is left
pub none_left : (lefts rights : Tms) (z : Bool) → lefts ≡ nil → rights ≡ nil → clash_among lefts rights ≡ z → false ≡ z
none_left lefts rights z l r h = (λ j. clash_among (sym l j) (sym r j)) ∙ h

pub less_apart : (f : ℕ) (t : Term) (ts ls lefts : Tms) → t ≡ App f ts → lefts ≡ onto ts ls → weight_s lefts < weight (tm_of t) + weight_s ls
less_apart f t ts ls lefts e l = omega (arith, ap (λ (u : Term). weight (tm_of u)) e, ap weight_s l, onto-weight ts ls)

pub less_left : (t : Term) (all left more : Tms) → all ≡ cons (tm_of t) left → weight_s more < weight (tm_of t) + weight_s left → weight_s more < weight_s all
less_left t all left more a l = omega (arith, ap weight_s a, l)
