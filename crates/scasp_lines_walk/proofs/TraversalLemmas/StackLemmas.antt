-- Stacks, whose last item stands first.
use Rattle.std.proofs.Common.{◌≡◌, ◌∙◌, ℕ, List, [], ◌∷◌, ◌++◌, map, reverse, refl, ap, sym}
use Rattle.std.proofs.lemmas.List.{map-append, reverse-append, reverse-reverse}
use Rattle.scasp_lines_walk.specs.Traversal.View.{kept_with, parts_of, stack_of, stacked_of}
use Rattle.scasp_lines_walk.specs.declared.traversal.waiting.Stacked.{Stacked}
use Rattle.scasp_lines_walk.specs.Traversal.Pending.{Pending}

-- what is put last stands first in the reversed list
pub reverse_push : {A B : Type 0} (f : A → B) (xs : List A) (x : A) → reverse (map f (xs ++ x ∷ [])) ≡ f x ∷ reverse (map f xs)
reverse_push f xs x = ap reverse (map-append f xs (x ∷ [])) ∙ reverse-append (map f xs) (f x ∷ [])

pub map_reverse : {A B : Type 0} (f : A → B) (xs : List A) → map f (reverse xs) ≡ reverse (map f xs)
map_reverse f [] = refl
map_reverse f (x ∷ xs) =
    ap (map f) (reverse-append (x ∷ []) xs)
    ∙ map-append f (reverse xs) (x ∷ [])
    ∙ ap (λ ys. ys ++ f x ∷ []) (map_reverse f xs)
    ∙ sym (reverse-append (f x ∷ []) (map f xs))

pub stack_push : (ws : List Stacked) (w : Stacked) → stack_of (ws ++ w ∷ []) ≡ stacked_of w ∷ stack_of ws
stack_push ws w = reverse_push stacked_of ws w

-- the parts of those that are put before others
pub parts_kept : (k : ℕ) (ps : List Pending) (ws : List (ℕ × Pending)) → parts_of (kept_with k ps ++ ws) ≡ ps ++ parts_of ws
parts_kept k [] ws = refl
parts_kept k (p ∷ ps) ws = ap (λ qs. p ∷ qs) (parts_kept k ps ws)

-- what is turned round is read from the end
pub turned_back : {A B : Type 0} (f : A → B) (xs : List A) → reverse (map f (reverse xs)) ≡ map f xs
turned_back f xs = ap reverse (map_reverse f xs) ∙ reverse-reverse (map f xs)
