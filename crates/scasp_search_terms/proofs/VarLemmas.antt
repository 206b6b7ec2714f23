-- The variables of the terms that are left of a walk.
use Rattle.std.proofs.Common.{◌≡◌, ◌+◌, ◌<◌, ◌≤◌, ℕ, List, [], ◌∷◌, ◌++◌, length, arith, refl, ap, sym, append_assoc, ◌∙◌}
use Rattle.std.proofs.lemmas.List.{append-nil}
use Rattle.scasp_num.specs.Number.{Number}
use Rattle.scasp_syntax.specs.Tm.{Tm, Tms, var, num, app, nil, cons, items, weight, weight_s}
use Rattle.scasp_syntax.specs.View.{tm_of}
use Rattle.scasp_syntax.specs.Walks.{onto}
use Rattle.scasp_syntax.specs.declared.term.Term.{Term}
use Rattle.scasp_syntax.specs.declared.term.Term.TheVariants.{Var, Num, App}
use Rattle.scasp_syntax.proofs.WalkLemmas.{onto-weight}
use Rattle.scasp_unify.specs.Unification.{term_vars, terms_vars}

onto-vars : (ts us : Tms) → terms_vars (onto ts us) ≡ terms_vars ts ++ terms_vars us
onto-vars nil us = refl
onto-vars (cons t ts) us = ap (λ xs. term_vars t ++ xs) (onto-vars ts us) ∙ sym (append_assoc (term_vars t) (terms_vars ts) (terms_vars us))

heavy : (t : Tm) → 1 ≤ weight t
heavy (var x) = omega arith
heavy (num q) = omega arith
heavy (app f ts) = omega arith

-- the next term is left without its arguments
next : (all left : Tms) (t u : Term) (found z : List ℕ) → all ≡ cons (tm_of t) left → t ≡ u → found ++ terms_vars all ≡ z
    → found ++ (term_vars (tm_of u) ++ terms_vars left) ≡ z
next all left t u found z a e i = ap (λ v. found ++ (term_vars (tm_of v) ++ terms_vars left)) (sym e) ∙ ap (λ ts. found ++ terms_vars ts) (sym a) ∙ i

pub var_found : (all left : Tms) (t : Term) (x : ℕ) (found more z : List ℕ) → all ≡ cons (tm_of t) left → t ≡ Var x → more ≡ found ++ x ∷ [] → found ++ terms_vars all ≡ z
    → more ++ terms_vars left ≡ z
var_found all left t x found more z a e m i =
    ap (λ xs. xs ++ terms_vars left) m ∙ append_assoc found (x ∷ []) (terms_vars left) ∙ next all left t (Var x) found z a e i

pub num_passed : (all left : Tms) (t : Term) (q : Number) (found z : List ℕ) → all ≡ cons (tm_of t) left → t ≡ Num q → found ++ terms_vars all ≡ z → found ++ terms_vars left ≡ z
num_passed all left t q found z a e i = next all left t (Num q) found z a e i

no_vars : (ts : Tms) → length (items ts) ≡ 0 → [] ≡ terms_vars ts
no_vars nil e = refl
no_vars (cons t ts) e = absurd (omega (arith, e))

pub name_passed : (all left ts : Tms) (t : Term) (f : ℕ) (found z : List ℕ) → all ≡ cons (tm_of t) left → t ≡ App f ts → length (items ts) ≡ 0 → found ++ terms_vars all ≡ z
    → found ++ terms_vars left ≡ z
name_passed all left ts t f found z a e n i = ap (λ xs. found ++ (xs ++ terms_vars left)) (no_vars ts n) ∙ next all left t (App f ts) found z a e i

pub args_next : (all left more ts : Tms) (t : Term) (f : ℕ) (found z : List ℕ) → all ≡ cons (tm_of t) left → t ≡ App f ts → more ≡ onto ts left → found ++ terms_vars all ≡ z
    → found ++ terms_vars more ≡ z
args_next all left more ts t f found z a e m i = ap (λ xs. found ++ xs) (ap terms_vars m ∙ onto-vars ts left) ∙ next all left t (App f ts) found z a e i

pub none_left : (all : Tms) (found z : List ℕ) → all ≡ nil → found ++ terms_vars all ≡ z → found ≡ z
none_left all found z a i = sym (append-nil found) ∙ ap (λ ts. found ++ terms_vars ts) (sym a) ∙ i

-- ---- it comes to an end

pub less_one : (all left : Tms) (t : Term) → all ≡ cons (tm_of t) left → weight_s left < weight_s all
less_one all left t a = omega (arith, ap weight_s a, heavy (tm_of t))

pub less_args : (all left more ts : Tms) (t : Term) (f : ℕ) → all ≡ cons (tm_of t) left → t ≡ App f ts → more ≡ onto ts left → weight_s more < weight_s all
less_args all left more ts t f a e m =
    let here : weight (tm_of t) ≡ 1 + weight_s ts = ap (λ (u : Term). weight (tm_of u)) e in
    omega (arith, ap weight_s a, ap weight_s m, onto-weight ts left, here)
