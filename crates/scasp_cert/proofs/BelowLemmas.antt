-- Whether every variable is below a number, by a walk.
use Rattle.std.proofs.Common.{◌≡◌, ℕ, ◌<◌, ◌≤◌, Bool, true, false, ◌&&◌, nat_lt, length, refl, ap, sym, ◌∙◌, arith}
use Rattle.std.proofs.lemmas.Bool.Decides.{Decides-ltb}
use Rattle.scasp_num.specs.Number.{Number}
use Rattle.scasp_syntax.specs.Tm.{Tm, Tms, var, num, app, nil, cons, items, weight, weight_s}
use Rattle.scasp_syntax.specs.View.{tm_of}
use Rattle.scasp_syntax.specs.Walks.{onto}
use Rattle.scasp_syntax.specs.WellFormed.{is_below, are_below}
use Rattle.scasp_syntax.specs.declared.term.Term.{Term}
use Rattle.scasp_syntax.specs.declared.term.Term.TheVariants.{Var, Num, App}
use Rattle.scasp_syntax.proofs.RebuildLemmas.{no_terms}
use Rattle.scasp_syntax.proofs.WalkLemmas.{onto-weight}

and_and : (a b c : Bool) → (a && (b && c)) ≡ ((a && b) && c)
and_and true b c = refl
and_and false b c = refl

below-onto : (n : ℕ) (ts us : Tms) → are_below n (onto ts us) ≡ (are_below n ts && are_below n us)
below-onto n nil us = refl
below-onto n (cons t ts) us = ap (λ b. is_below n t && b) (below-onto n ts us) ∙ and_and (is_below n t) (are_below n ts) (are_below n us)

-- what is left behind the next term
left-of : (n : ℕ) (t u : Term) (all left : Tms) (z : Bool) → all ≡ cons (tm_of t) left → t ≡ u → are_below n all ≡ z → (is_below n (tm_of u) && are_below n left) ≡ z
left-of n t u all left z a e h = ap (λ (v : Term). is_below n (tm_of v) && are_below n left) (sym e) ∙ ap (are_below n) (sym a) ∙ h

lower : (x n : ℕ) → x < n → nat_lt x n ≡ true
lower x n l = (Decides-ltb x n).1 l

not-lower : (x n : ℕ) → n ≤ x → nat_lt x n ≡ false
not-lower x n l = by (nat_lt x n) refl
  where
    by : (b : Bool) → nat_lt x n ≡ b → b ≡ false
    by true e = absurd (omega (arith, l, (Decides-ltb x n).0 e))
    by false e = refl

-- the next term is a variable that is not below
pub high_here : (n x : ℕ) (t : Term) (all left : Tms) (z : Bool) → all ≡ cons (tm_of t) left → t ≡ Var x → n ≤ x → are_below n all ≡ z → false ≡ z
high_here n x t all left z a e h k = sym (ap (λ b. b && are_below n left) (not-lower x n h)) ∙ left-of n t (Var x) all left z a e k

-- it is one below
pub low_passed : (n x : ℕ) (t : Term) (all left : Tms) (z : Bool) → all ≡ cons (tm_of t) left → t ≡ Var x → x < n → are_below n all ≡ z → are_below n left ≡ z
low_passed n x t all left z a e l k = sym (ap (λ b. b && are_below n left) (lower x n l)) ∙ left-of n t (Var x) all left z a e k

-- it is a number
pub number_passed : (n : ℕ) (q : Number) (t : Term) (all left : Tms) (z : Bool) → all ≡ cons (tm_of t) left → t ≡ Num q → are_below n all ≡ z → are_below n left ≡ z
number_passed n q t all left z a e k = left-of n t (Num q) all left z a e k

-- it has arguments
pub args_next : (n f : ℕ) (ts : Tms) (t : Term) (all left more : Tms) (z : Bool) → all ≡ cons (tm_of t) left → t ≡ App f ts → more ≡ onto ts left
    → are_below n all ≡ z → are_below n more ≡ z
args_next n f ts t all left more z a e m k = ap (are_below n) m ∙ below-onto n ts left ∙ left-of n t (App f ts) all left z a e k

-- it is a name alone
pub no_args : (n f : ℕ) (ts : Tms) (t : Term) (all left : Tms) (z : Bool) → all ≡ cons (tm_of t) left → t ≡ App f ts → length (items ts) ≡ 0
    → are_below n all ≡ z → are_below n left ≡ z
no_args n f ts t all left z a e o k = args_next n f ts t all left left z a e (ap (λ us. onto us left) (sym (no_terms ts o))) k

-- no term is left
pub none_high : (n : ℕ) (all : Tms) (z : Bool) → all ≡ nil → are_below n all ≡ z → true ≡ z
none_high n all z a k = ap (are_below n) (sym a) ∙ k

heavy : (t : Tm) → 1 ≤ weight t
heavy (var x) = omega arith
heavy (num q) = omega arith
heavy (app f ts) = omega arith

pub less_left : (t : Term) (all left : Tms) → all ≡ cons (tm_of t) left → weight_s left < weight_s all
less_left t all left a = omega (arith, ap weight_s a, heavy (tm_of t))

pub less_entered : (f : ℕ) (ts : Tms) (t : Term) (all left more : Tms) → all ≡ cons (tm_of t) left → t ≡ App f ts → more ≡ onto ts left
    → weight_s more < weight_s all
less_entered f ts t all left more a e m = omega (arith, ap weight_s a, ap (λ (u : Term). weight (tm_of u)) e, ap weight_s m, onto-weight ts left)
