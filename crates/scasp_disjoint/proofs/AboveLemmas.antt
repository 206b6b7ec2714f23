-- Above each variable of terms, by a walk.
use Rattle.std.proofs.Common.{◌≡◌, ℕ, suc, max, length, refl, ap, sym, ◌∙◌, arith}
use Rattle.scasp_num.specs.Number.{Number}
use Rattle.scasp_syntax.specs.Tm.{Tms, nil, cons, items}
use Rattle.scasp_syntax.specs.View.{tm_of}
use Rattle.scasp_syntax.specs.Walks.{onto}
use Rattle.scasp_syntax.specs.declared.term.Term.{Term}
use Rattle.scasp_syntax.specs.declared.term.Term.TheVariants.{Var, Num, App}
use Rattle.scasp_syntax.proofs.RebuildLemmas.{no_terms}
use Rattle.scasp_checker_rules.specs.PairLists.{above, above_all}

above-onto : (ts us : Tms) → above_all (onto ts us) ≡ max (above_all ts) (above_all us)
above-onto nil us = omega arith
above-onto (cons t ts) us = omega (arith, above-onto ts us)

-- what is left behind the next term
left-of : (n : ℕ) (t u : Term) (all left : Tms) (z : ℕ) → all ≡ cons (tm_of t) left → t ≡ u → max n (above_all all) ≡ z
    → max n (max (above (tm_of u)) (above_all left)) ≡ z
left-of n t u all left z a e h = ap (λ (v : Term). max n (max (above (tm_of v)) (above_all left))) (sym e) ∙ ap (λ ts. max n (above_all ts)) (sym a) ∙ h

-- the next term is a variable
pub variable_counted : (n m x y : ℕ) (t : Term) (all left : Tms) (z : ℕ) → all ≡ cons (tm_of t) left → t ≡ Var x → y ≡ suc x → m ≡ max n y
    → max n (above_all all) ≡ z → max m (above_all left) ≡ z
variable_counted n m x y t all left z a e f g h = omega (arith, f, g, left-of n t (Var x) all left z a e h)

-- it is a number
pub number_passed : (n : ℕ) (q : Number) (t : Term) (all left : Tms) (z : ℕ) → all ≡ cons (tm_of t) left → t ≡ Num q
    → max n (above_all all) ≡ z → max n (above_all left) ≡ z
number_passed n q t all left z a e h = omega (arith, left-of n t (Num q) all left z a e h)

-- it has arguments
pub args_next : (n f : ℕ) (ts : Tms) (t : Term) (all left more : Tms) (z : ℕ) → all ≡ cons (tm_of t) left → t ≡ App f ts → more ≡ onto ts left
    → max n (above_all all) ≡ z → max n (above_all more) ≡ z
args_next n f ts t all left more z a e m h = ap (λ us. max n (above_all us)) m ∙ ap (max n) (above-onto ts left) ∙ left-of n t (App f ts) all left z a e h

-- it is a name alone
pub no_args : (n f : ℕ) (ts : Tms) (t : Term) (all left : Tms) (z : ℕ) → all ≡ cons (tm_of t) left → t ≡ App f ts → length (items ts) ≡ 0
    → max n (above_all all) ≡ z → max n (above_all left) ≡ z
no_args n f ts t all left z a e o h = args_next n f ts t all left left z a e (ap (λ us. onto us left) (sym (no_terms ts o))) h

-- no term is left
pub all_counted : (n : ℕ) (all : Tms) (z : ℕ) → all ≡ nil → max n (above_all all) ≡ z → n ≡ z
all_counted n all z a h = omega (arith, ap above_all a, h)
