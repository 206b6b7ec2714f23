-- Items that are left of a body.
use Rattle.std.proofs.Common.{◌≡◌, ◌+◌, ◌<◌, ◌≤◌, ℕ, zero, suc, List, [], ◌∷◌, ◌++◌, length, map, drop, get_or, arith, refl, ap, sym, ◌∙◌}
use Rattle.scasp_frames.specs.Inside.Kept.{items_behind, items_from}
use Rattle.scasp_frames.specs.declared.rest.Body.{Body}
use Rattle.scasp_search_rules.specs.Successors.Items.{item_raised}
use Rattle.scasp_syntax.specs.declared.clause.FlatItem.{FlatItem}

all_dropped : {T : Type 0} (k : ℕ) (xs : List T) → length xs ≤ k → drop k xs ≡ []
all_dropped zero [] h = refl
all_dropped (suc k) [] h = refl
all_dropped zero (x ∷ xs) h = absurd (omega (arith, h))
all_dropped (suc k) (x ∷ xs) h = all_dropped k xs (omega (arith, h))

one_dropped : {T : Type 0} (k : ℕ) (xs : List T) (x : T) → k < length xs → drop k xs ≡ get_or xs k x ∷ drop (k + 1) xs
one_dropped k [] x h = absurd (omega (arith, h))
one_dropped zero (y ∷ ys) x h = refl
one_dropped (suc k) (y ∷ ys) x h =
    let m : suc (k + 1) ≡ suc k + 1 = omega arith in
    one_dropped k ys x (omega (arith, h)) ∙ ap (λ (n : ℕ). get_or ys k x ∷ drop n (y ∷ ys)) m

pub next_before : (k : ℕ) (b : Body) (i : FlatItem) → k < length b.before.items → i ≡ get_or b.before.items k i
    → items_from k b ≡ i ∷ items_behind k b
next_before k b i h e =
    let d = one_dropped k b.before.items i h in
    ap (λ xs. xs ++ b.last ∷ []) d
    ∙ ap (λ x. x ∷ drop (k + 1) b.before.items ++ b.last ∷ []) (sym e)
    ∙ ap (λ xs. i ∷ drop 1 (xs ++ b.last ∷ [])) (sym d)

pub next_last : (k : ℕ) (b : Body) → length b.before.items ≤ k → items_from k b ≡ b.last ∷ items_behind k b
next_last k b h =
    let d = all_dropped k b.before.items h in
    ap (λ xs. xs ++ b.last ∷ []) d ∙ ap (λ xs. b.last ∷ drop 1 (xs ++ b.last ∷ [])) (sym d)

pub next_raised : (by k : ℕ) (b : Body) (i j : FlatItem) → items_from k b ≡ i ∷ items_behind k b → j ≡ item_raised by i
    → map (item_raised by) (items_from k b) ≡ j ∷ map (item_raised by) (items_behind k b)
next_raised by k b i j h e = ap (map (item_raised by)) h ∙ ap (λ x. x ∷ map (item_raised by) (items_behind k b)) (sym e)

pub more_behind : (k : ℕ) (b : Body) → k < length b.before.items → items_from (k + 1) b ≡ items_behind k b
more_behind k b h = ap (λ xs. drop 1 (xs ++ b.last ∷ [])) (sym (one_dropped k b.before.items b.last h))

pub none_behind : (k : ℕ) (b : Body) → length b.before.items ≤ k → items_behind k b ≡ []
none_behind k b h = ap (λ xs. drop 1 (xs ++ b.last ∷ [])) (all_dropped k b.before.items h)

pub one_less : (k : ℕ) (b : Body) (i : FlatItem) → k < length b.before.items → i ≡ get_or b.before.items k i
    → items_from k b ≡ i ∷ items_from (k + 1) b
one_less k b i h e = next_before k b i h e ∙ ap (λ is. i ∷ is) (sym (more_behind k b h))

pub only_last : (k : ℕ) (b : Body) → length b.before.items ≤ k → items_from k b ≡ b.last ∷ []
only_last k b h = next_last k b h ∙ ap (λ is. b.last ∷ is) (none_behind k b h)
