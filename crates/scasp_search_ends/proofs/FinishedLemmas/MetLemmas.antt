-- Head variables that parts of a literal give a meaning to, by a walk over both.
use Rattle.std.proofs.Common.{◌≡◌, ℕ, Bool, true, false, ◌&&◌, nat_eq, if◌then◌else◌, List, [], ◌∷◌, ◌++◌, length, refl, ap, sym, ◌∙◌, arith, append_assoc, append-nil}
use Rattle.std.proofs.lemmas.Bool.{and_parts}
use Rattle.std.proofs.lemmas.Bool.Decides.{Decides-eqb}
use Rattle.scasp_num.specs.Number.{Number}
use Rattle.scasp_search_rules.specs.Successors.Numbering.{all_met, met}
use Rattle.scasp_syntax.specs.Tm.{Tms, nil, cons, items}
use Rattle.scasp_syntax.specs.View.{tm_of}
use Rattle.scasp_syntax.specs.Walks.{onto}
use Rattle.scasp_syntax.specs.declared.term.Term.{Term}
use Rattle.scasp_syntax.specs.declared.term.Term.TheVariants.{Var, Num, App}
use Rattle.scasp_unify.specs.Unification.{terms_vars}

-- lists of one length, before others
met-onto : (ts us hs ps : Tms) → length (items ts) ≡ length (items us) → all_met (onto ts hs) (onto us ps) ≡ all_met ts us ++ all_met hs ps
met-onto nil nil hs ps e = refl
met-onto nil (cons u us) hs ps e = absurd (omega (arith, e))
met-onto (cons t ts) nil hs ps e = absurd (omega (arith, e))
met-onto (cons t ts) (cons u us) hs ps e =
    ap (λ xs. met t u ++ xs) (met-onto ts us hs ps (omega (arith, e))) ∙ sym (append_assoc (met t u) (all_met ts us) (all_met hs ps))

module _ (before : List ℕ) (t u : Term) (hs ps : Tms) where
  -- some are found now, and the others are left
  found-first : (more now : List ℕ) → more ≡ before ++ now → met (tm_of t) (tm_of u) ≡ now
      → more ++ all_met hs ps ≡ before ++ (met (tm_of t) (tm_of u) ++ all_met hs ps)
  found-first more now m e =
      ap (λ xs. xs ++ all_met hs ps) m ∙ append_assoc before now (all_met hs ps) ∙ ap (λ xs. before ++ (xs ++ all_met hs ps)) (sym e)

  -- the head is a variable
  pub variable_met : (x : ℕ) (more : List ℕ) → t ≡ Var x → more ≡ before ++ x ∷ []
      → more ++ all_met hs ps ≡ before ++ (met (tm_of t) (tm_of u) ++ all_met hs ps)
  variable_met x more e m = found-first more (x ∷ []) m (ap (λ (v : Term). met (tm_of v) (tm_of u)) e)

  -- a variable stands for what has arguments
  pub args_met : (f y : ℕ) (ts : Tms) (more : List ℕ) → t ≡ App f ts → u ≡ Var y → more ≡ before ++ terms_vars ts
      → more ++ all_met hs ps ≡ before ++ (met (tm_of t) (tm_of u) ++ all_met hs ps)
  args_met f y ts more e d m = found-first more (terms_vars ts) m (λ i. met (tm_of (e i)) (tm_of (d i)))

  nothing : met (tm_of t) (tm_of u) ≡ [] → before ++ all_met hs ps ≡ before ++ (met (tm_of t) (tm_of u) ++ all_met hs ps)
  nothing e = ap (λ xs. before ++ (xs ++ all_met hs ps)) (sym e)

  -- the head is a number
  pub number_passed : (q : Number) → t ≡ Num q → before ++ all_met hs ps ≡ before ++ (met (tm_of t) (tm_of u) ++ all_met hs ps)
  number_passed q e = nothing (ap (λ (v : Term). met (tm_of v) (tm_of u)) e)

  -- a number stands where there are arguments
  pub number_met : (f : ℕ) (ts : Tms) (q : Number) → t ≡ App f ts → u ≡ Num q → before ++ all_met hs ps ≡ before ++ (met (tm_of t) (tm_of u) ++ all_met hs ps)
  number_met f ts q e d = nothing (λ i. met (tm_of (e i)) (tm_of (d i)))

  -- both have arguments, of one shape or not
  pub shapes_apart : (f g : ℕ) (ts us : Tms) → t ≡ App f ts → u ≡ App g us → false ≡ (nat_eq f g && nat_eq (length (items ts)) (length (items us)))
      → before ++ all_met hs ps ≡ before ++ (met (tm_of t) (tm_of u) ++ all_met hs ps)
  shapes_apart f g ts us e d h = nothing ((λ i. met (tm_of (e i)) (tm_of (d i))) ∙ ap (λ b. if b then all_met ts us else []) (sym h))

  pub args_next : (f g : ℕ) (ts us more others : Tms) → t ≡ App f ts → u ≡ App g us → true ≡ (nat_eq f g && nat_eq (length (items ts)) (length (items us)))
      → more ≡ onto ts hs → others ≡ onto us ps → before ++ all_met more others ≡ before ++ (met (tm_of t) (tm_of u) ++ all_met hs ps)
  args_next f g ts us more others e d h m o =
      let both = and_parts (nat_eq f g) (nat_eq (length (items ts)) (length (items us))) (sym h) in
      ap (λ xs. before ++ xs)
      ((λ i. all_met (m i) (o i)) ∙ met-onto ts us hs ps ((Decides-eqb (length (items ts)) (length (items us))).0 both.1)
      ∙ ap (λ b. (if b then all_met ts us else []) ++ all_met hs ps) h ∙ (λ i. met (tm_of (sym e i)) (tm_of (sym d i)) ++ all_met hs ps))

-- ---- the walk over both

-- the next two are met
pub pair_met : (found after : List ℕ) (t u : Term) (lefts rights ls rs more others : Tms) (z : List ℕ) → lefts ≡ cons (tm_of t) ls → rights ≡ cons (tm_of u) rs
    → after ++ all_met more others ≡ found ++ (met (tm_of t) (tm_of u) ++ all_met ls rs) → found ++ all_met lefts rights ≡ z → after ++ all_met more others ≡ z
pair_met found after t u lefts rights ls rs more others z l r a h = a ∙ (λ i. found ++ all_met (sym l i) (sym r i)) ∙ h

-- no head is left
pub no_heads : (found : List ℕ) (lefts rights : Tms) (z : List ℕ) → lefts ≡ nil → found ++ all_met lefts rights ≡ z → found ≡ z
no_heads found lefts rights z l h = sym (append-nil found) ∙ ap (λ ts. found ++ all_met ts rights) (sym l) ∙ h

-- no part is left
pub no_parts : (found : List ℕ) (t : Term) (lefts rights ls : Tms) (z : List ℕ) → lefts ≡ cons (tm_of t) ls → rights ≡ nil → found ++ all_met lefts rights ≡ z → found ≡ z
no_parts found t lefts rights ls z l r h = sym (append-nil found) ∙ (λ i. found ++ all_met (sym l i) (sym r i)) ∙ h
