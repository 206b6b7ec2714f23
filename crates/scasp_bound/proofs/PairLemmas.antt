-- Pairs of lists of terms that are still to be compared.
use Rattle.std.proofs.Common.{◌≡◌, ◌<◌, ℕ, ◌+◌, ◌*◌, Bool, true, false, ◌&&◌, List, [], ◌∷◌, ◌++◌, Option, arith, refl, ap, sym, ◌∙◌}
use Rattle.std.specs.List.{list_all, sum_by}
use Rattle.std.proofs.Math.Bool.{and-true, and-false}
use Rattle.std.proofs.lemmas.List.Folds.{list_all-append}
use Rattle.std.proofs.lemmas.List.Sums.{sum_by-append}
use Rattle.scasp_bound.specs.declared.sameness.Left.{Left}
use Rattle.scasp_bound.specs.declared.sameness.Left.TheVariants as left
use Rattle.scasp_bound.specs.declared.sameness.Pair.{Pair}
use Rattle.scasp_bound.specs.Inside.Pairs.{are_same, is_same, left_work, work}
use Rattle.scasp_unify.specs.declared.bindings.Binding.{Binding}

abbrev Bindings : Type 0
Bindings = List (Option Binding)

abbrev pub all_same : Bindings → List Pair → Bool
all_same bs ps = list_all (is_same bs) ps

-- what is left to do with them
abbrev pub all_work : Bindings → List Pair → ℕ
all_work bs ps = sum_by (work bs) ps

pushed : (bs : Bindings) (ps : List Pair) (p : Pair) → all_same bs (ps ++ p ∷ []) ≡ (all_same bs ps && is_same bs p)
pushed bs ps p = list_all-append (is_same bs) ps (p ∷ []) ∙ ap (λ b. all_same bs ps && b) (and-true (is_same bs p))

pushed_work : (bs : Bindings) (ps : List Pair) (p : Pair) → all_work bs (ps ++ p ∷ []) ≡ all_work bs ps + work bs p
pushed_work bs ps p = sum_by-append (work bs) ps (p ∷ []) ∙ (omega arith)

turned : (a b : Bool) → (a && b) ≡ (b && a)
turned true true = refl
turned true false = refl
turned false true = refl
turned false false = refl

first_pair : (bs : Bindings) (ps : List Pair) (p : Pair) → ps ≡ [] ++ p ∷ [] → all_same bs ps ≡ is_same bs p
first_pair bs ps p e = ap (all_same bs) e ∙ and-true (is_same bs p)

pub two_pairs : (bs : Bindings) (ps qs : List Pair) (p q : Pair) → ps ≡ [] ++ q ∷ [] → qs ≡ ps ++ p ∷ [] → all_same bs qs ≡ (is_same bs p && is_same bs q)
two_pairs bs ps qs p q e f = ap (all_same bs) f ∙ pushed bs ps p ∙ ap (λ b. b && is_same bs p) (first_pair bs ps q e) ∙ turned (is_same bs q) (is_same bs p)

-- of the last pair this is left
looked_at : (bs : Bindings) (ps qs : List Pair) (p : Pair) (l : Left) (z : Bool) → qs ≡ ps ++ p ∷ [] → are_same bs l ≡ is_same bs p
    → all_same bs qs ≡ z → (all_same bs ps && are_same bs l) ≡ z
looked_at bs ps qs p l z q s i = ap (λ b. all_same bs ps && b) s ∙ sym (pushed bs ps p) ∙ ap (all_same bs) (sym q) ∙ i

pub apart : (bs : Bindings) (ps qs : List Pair) (p : Pair) (z : Bool) → qs ≡ ps ++ p ∷ [] → are_same bs left.Apart ≡ is_same bs p → all_same bs qs ≡ z → false ≡ z
apart bs ps qs p z q s i = sym (and-false (all_same bs ps)) ∙ looked_at bs ps qs p left.Apart z q s i

pub nothing : (bs : Bindings) (ps qs : List Pair) (p : Pair) (z : Bool) → qs ≡ ps ++ p ∷ [] → are_same bs left.Nothing ≡ is_same bs p → all_same bs qs ≡ z → all_same bs ps ≡ z
nothing bs ps qs p z q s i = sym (and-true (all_same bs ps)) ∙ looked_at bs ps qs p left.Nothing z q s i

pub one_rest : (bs : Bindings) (ps qs rs : List Pair) (p rest : Pair) (z : Bool) → qs ≡ ps ++ p ∷ [] → are_same bs (left.Rest rest) ≡ is_same bs p → rs ≡ ps ++ rest ∷ []
    → all_same bs qs ≡ z → all_same bs rs ≡ z
one_rest bs ps qs rs p rest z q s r i = ap (all_same bs) r ∙ pushed bs ps rest ∙ looked_at bs ps qs p (left.Rest rest) z q s i

swapped : (a b c : Bool) → ((a && b) && c) ≡ (a && (c && b))
swapped true true true = refl
swapped true true false = refl
swapped true false true = refl
swapped true false false = refl
swapped false b c = refl

pub both_rest : (bs : Bindings) (ps qs rs os : List Pair) (p args rest : Pair) (z : Bool) → qs ≡ ps ++ p ∷ [] → are_same bs (left.Both args rest) ≡ is_same bs p → rs ≡ ps ++ rest ∷ []
    → os ≡ rs ++ args ∷ [] → all_same bs qs ≡ z → all_same bs os ≡ z
both_rest bs ps qs rs os p args rest z q s r o i =
    ap (all_same bs) o ∙ pushed bs rs args ∙ ap (λ b. b && is_same bs args) (ap (all_same bs) r ∙ pushed bs ps rest)
    ∙ swapped (all_same bs ps) (is_same bs rest) (is_same bs args) ∙ looked_at bs ps qs p (left.Both args rest) z q s i

pub all_seen : (bs : Bindings) (ps : List Pair) (z : Bool) → ps ≡ [] → all_same bs ps ≡ z → true ≡ z
all_seen bs ps z e i = ap (all_same bs) (sym e) ∙ i

-- ---- it comes to an end

pub less_nothing : (bs : Bindings) (ps qs : List Pair) (p : Pair) → qs ≡ ps ++ p ∷ [] → all_work bs ps < all_work bs qs
less_nothing bs ps qs p q = omega (arith, ap (all_work bs) q, pushed_work bs ps p)

pub less_rest : (bs : Bindings) (ps qs rs : List Pair) (p rest : Pair) → qs ≡ ps ++ p ∷ [] → left_work bs (left.Rest rest) < work bs p → rs ≡ ps ++ rest ∷ [] → all_work bs rs < all_work bs qs
less_rest bs ps qs rs p rest q l r = omega (arith, ap (all_work bs) q, pushed_work bs ps p, l, ap (all_work bs) r, pushed_work bs ps rest)

pub less_both : (bs : Bindings) (ps qs rs os : List Pair) (p args rest : Pair) → qs ≡ ps ++ p ∷ [] → left_work bs (left.Both args rest) < work bs p → rs ≡ ps ++ rest ∷ [] → os ≡ rs ++ args ∷ []
    → all_work bs os < all_work bs qs
less_both bs ps qs rs os p args rest q l r o =
    omega (arith, ap (all_work bs) q, pushed_work bs ps p, l, ap (all_work bs) r, pushed_work bs ps rest, ap (all_work bs) o, pushed_work bs rs args)
