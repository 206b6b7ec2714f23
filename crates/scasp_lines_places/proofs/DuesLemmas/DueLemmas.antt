-- Dues one by one.
use Rattle.std.proofs.Common.{◌≡◌, ℕ, zero, suc, ◌-◌, ◌<◌, ◌∙◌, ◌+◌, nat_lt, true, List, [], ◌∷◌, ◌++◌, map, drop, append-nil, append_assoc, refl, sym, ap, arith}
use Rattle.std.proofs.lemmas.Bool.Decides.{nat_tests}
use Rattle.scasp_syntax.specs.Values.{Sub}
use Rattle.scasp_syntax.specs.declared.clause.FlatItem.{FlatItem}
use Rattle.scasp_lines.specs.Dues.{Due, due_of, dues_until}

pub until_step : (m : Sub) (d : ℕ) (i : FlatItem) (is : List FlatItem) → 0 < d → dues_until m d (i ∷ is) ≡ due_of m (nat_lt 1 d) i ∷ dues_until m (d - 1) is
until_step m zero i is h = absurd (omega arith)
until_step m (suc zero) i is h = refl
until_step m (suc (suc d)) i is h =
    let a : nat_lt 1 (suc (suc d)) ≡ true = grind (arith, nat_tests) in
    let b : suc (suc d) - 1 ≡ suc d = omega arith in rw (a, b) refl

pub map_push : {A B : Type 0} (f : A → B) (xs : List A) (x : A) → map f (xs ++ x ∷ []) ≡ map f xs ++ f x ∷ []
map_push f [] x = refl
map_push f (y ∷ ys) x = ap (λ l. f y ∷ l) (map_push f ys x)

until_end : (m : Sub) (d : ℕ) → dues_until m d [] ≡ []
until_end m zero = refl
until_end m (suc d) = refl

-- no item is left
pub until_done : (m : Sub) (d : ℕ) (made : List Due) → made ++ dues_until m d [] ≡ made
until_done m d made = ap (λ ds. made ++ ds) (until_end m d) ∙ append-nil made

-- one more item
pub until_more : (m : Sub) (count place : ℕ) (items : List FlatItem) (i : FlatItem) (made : List Due) → place < count → drop place items ≡ i ∷ drop (place + 1) items
    → (made ++ due_of m (nat_lt 1 (count - place)) i ∷ []) ++ dues_until m (count - (place + 1)) (drop (place + 1) items) ≡ made ++ dues_until m (count - place) (drop place items)
until_more m count place items i made h e =
    let rest = drop (place + 1) items in
    let fewer : count - (place + 1) ≡ count - place - 1 = omega arith in
    let above : 0 < count - place = omega arith in
    let first : due_of m (nat_lt 1 (count - place)) i ∷ dues_until m (count - (place + 1)) rest ≡ dues_until m (count - place) (i ∷ rest) =
    ap (λ n. due_of m (nat_lt 1 (count - place)) i ∷ dues_until m n rest) fewer ∙ sym (until_step m (count - place) i rest above) in
    simp append_assoc (ap (λ ds. made ++ ds) (first ∙ ap (dues_until m (count - place)) (sym e)))
