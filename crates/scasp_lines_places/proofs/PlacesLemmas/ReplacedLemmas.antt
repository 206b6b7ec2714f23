-- Replacements one behind another.
use Rattle.std.proofs.Common.{◌≡◌, ◌≢◌, ◌∙◌, ℕ, Bool, true, false, nat_eq, if◌then◌else◌, List, [], ◌∷◌, ◌++◌, map, Option, None, Some, Bor, refl, sym, ap}
use Rattle.std.proofs.lemmas.List.{map_push}
use Rattle.std.proofs.lemmas.Simd.{map-map}
use Rattle.scasp_lines.specs.Openings.{bound_to}
use Rattle.scasp_lines.specs.Sides.{replacing}
use Rattle.scasp_lines_places.specs.Places.Chains.{behind, chained}
use Rattle.scasp_lines_places.specs.Places.View.{all_bound, all_replaced, bound_of, replaced_in}
use Rattle.scasp_lines_places.specs.declared.places.chain.Chain.{Chain}
use Rattle.scasp_syntax.specs.Tm.{Tm, var}
use Rattle.scasp_syntax.specs.Values.{under}
use Rattle.scasp_unify.specs.declared.bindings.Binding.{Binding}

-- a term with each variable replaced, the outermost first
abbrev pub replaced_by_all : List (ℕ × Tm) → Tm → Tm
replaced_by_all [] t = t
replaced_by_all (b ∷ bs) t = under (replacing b.0 b.1) (replaced_by_all bs t)

abbrev pub lent : Bor Binding → ℕ × Tm
lent b = bound_of b.now

all-of-variable : (bs : List (ℕ × Tm)) (x : ℕ) → replaced_by_all bs (var x) ≡ replaced_in bs x
all-of-variable [] x = refl
all-of-variable (b ∷ bs) x = ap (under (replacing b.0 b.1)) (all-of-variable bs x)

outermost : (bs : List (ℕ × Tm)) (b : ℕ × Tm) (t : Tm) → replaced_by_all (bs ++ b ∷ []) t ≡ replaced_by_all bs (under (replacing b.0 b.1) t)
outermost [] b t = refl
outermost (c ∷ bs) b t = ap (under (replacing c.0 c.1)) (outermost bs b t)

none-of-variable : (bs : List (ℕ × Tm)) (x : ℕ) → None ≡ bound_to bs x → var x ≡ replaced_in bs x
none-of-variable [] x e = refl
none-of-variable (b ∷ bs) x e = by (nat_eq x b.0) refl e (λ n. none-of-variable bs x n)
  where
    by : (t : Bool) → nat_eq x b.0 ≡ t → None ≡ (if t then Some b.1 else bound_to bs x) → (None ≡ bound_to bs x → var x ≡ replaced_in bs x) → var x ≡ under (replacing b.0 b.1) (replaced_in bs x)
    by true h n below = cc
    by false h n below = ap (λ c. if c then b.1 else var x) (sym h) ∙ ap (under (replacing b.0 b.1)) (below n)

-- none is of the variable
pub unreplaced : (c : Chain Binding) (x : ℕ) → None ≡ bound_to (all_bound c) x → var x ≡ all_replaced c x
unreplaced c x e = none-of-variable (all_bound c) x e

-- all of them still apply
pub all_left : (c : Chain Binding) (bs : List (Bor Binding)) (x : ℕ) → map behind bs ≡ chained c → replaced_by_all (map lent bs) (var x) ≡ all_replaced c x
all_left c bs x e =
    ap (λ ps. replaced_by_all ps (var x)) (sym (map-map bound_of behind bs) ∙ ap (map bound_of) e) ∙ all-of-variable (all_bound c) x

-- the outermost is applied
pub one_less : (all left : List (Bor Binding)) (b : Bor Binding) (value made z : Tm) → all ≡ left ++ b ∷ [] → made ≡ under (replacing (lent b).0 (lent b).1) value
    → replaced_by_all (map lent all) value ≡ z → replaced_by_all (map lent left) made ≡ z
one_less all left b value made z a m i =
    ap (replaced_by_all (map lent left)) m
    ∙ sym (outermost (map lent left) (lent b) value)
    ∙ ap (λ ps. replaced_by_all ps value) (sym (map_push lent left b) ∙ ap (map lent) (sym a))
    ∙ i
