-- Lists of atoms as sets.
use Rattle.std.proofs.Common.{◌≡◌, ◌∷◌, ◌++◌, ◌∙◌, Bool, true, false, ◌&&◌, ◌||◌, not, List, [], refl, ap, sym, inl, inr}
use Rattle.std.specs.Bool.{Decides}
use Rattle.std.proofs.lemmas.Bool.{true≢false, false≢true, and_parts, and_from, or_cases, or_parts, or_from, or_left, or_right, not_from_false, not-true, false_from_ne_true}
use Rattle.std.proofs.lemmas.List.Folds.{list_all-append, list_any-append}
use Rattle.scasp_syntax.specs.Same.{same_atom}
use Rattle.scasp_syntax.specs.declared.atom.Atom.{Atom}
use Rattle.scasp_syntax.proofs.SameLemmas.{atom_decided}
use Rattle.scasp_model.specs.Atoms.{among, has_all, SameAtoms, are_distinct}

pub among-append : (xs ys : List Atom) (a : Atom) → among (xs ++ ys) a ≡ (among xs a || among ys a)
among-append xs ys a = list_any-append (same_atom a) xs ys

pub has_all-append : (atoms xs ys : List Atom) → has_all atoms (xs ++ ys) ≡ (has_all atoms xs && has_all atoms ys)
has_all-append atoms xs ys = list_all-append (among atoms) xs ys

pub same_atom-self : (a : Atom) → same_atom a a ≡ true
same_atom-self a = (atom_decided a a).1 refl

-- an atom of a list is in each list that has all of it
pub among-within : (atoms xs : List Atom) (a : Atom) → has_all atoms xs ≡ true → among xs a ≡ true → among atoms a ≡ true
among-within atoms [] a w h = absurd (false≢true h)
among-within atoms (x ∷ xs) a w h =
    let p = and_parts (among atoms x) (has_all atoms xs) w in
    elim (or_cases (same_atom a x) (among xs a) h) [
      | inl e ↦ ap (among atoms) ((atom_decided a x).0 e) ∙ p.0
      | inr e ↦ among-within atoms xs a p.1 e
    ]

pub has_all_from : (atoms xs : List Atom) → ((a : Atom) → among xs a ≡ true → among atoms a ≡ true) → has_all atoms xs ≡ true
has_all_from atoms [] f = refl
has_all_from atoms (x ∷ xs) f =
    and_from (among atoms x) (has_all atoms xs)
    (f x (or_left (same_atom x x) (among xs x) (same_atom-self x)))
    (has_all_from atoms xs (λ a h. f a (or_right (same_atom a x) (among xs a) h)))

pub has_all_trans : (atoms xs ys : List Atom) → has_all atoms xs ≡ true → has_all xs ys ≡ true → has_all atoms ys ≡ true
has_all_trans atoms xs ys w v =
    has_all_from atoms ys (λ a h. among-within atoms xs a w (among-within xs ys a v h))

same_truth : (x y : Bool) → (x ≡ true → y ≡ true) → (y ≡ true → x ≡ true) → x ≡ y
same_truth true y f g = sym (f refl)
same_truth false true f g = g refl
same_truth false false f g = refl

pub SameAtoms-from_all : (m n : List Atom) → has_all n m ≡ true → has_all m n ≡ true → SameAtoms m n
SameAtoms-from_all m n p q a = same_truth (among m a) (among n a) (among-within n m a p) (among-within m n a q)

pub all-from_SameAtoms : (m n : List Atom) → SameAtoms m n → has_all n m ≡ true
all-from_SameAtoms m n e = has_all_from n m (λ a h. sym (e a) ∙ h)

pub are_distinct-push : (xs : List Atom) (a : Atom) → are_distinct xs ≡ true → among xs a ≡ false → are_distinct (xs ++ a ∷ []) ≡ true
are_distinct-push [] a d n = refl
are_distinct-push (x ∷ xs) a d n =
    let p = and_parts (not (among xs x)) (are_distinct xs) d in
    let q = or_parts (same_atom a x) (among xs a) n in
    let other : same_atom x a ≡ false =
    false_from_ne_true (same_atom x a) (λ e. true≢false (sym ((atom_decided a x).1 (sym ((atom_decided x a).0 e))) ∙ q.0)) in
    let new : among (xs ++ a ∷ []) x ≡ false =
    among-append xs (a ∷ []) x ∙ or_from (among xs x) (among (a ∷ []) x) (not-true (among xs x) p.0) (or_from (same_atom x a) false other refl) in
    and_from (not (among (xs ++ a ∷ []) x)) (are_distinct (xs ++ a ∷ []))
    (not_from_false (among (xs ++ a ∷ []) x) new) (are_distinct-push xs a p.1 q.1)

pub SameAtoms-tested : (m n : List Atom) (b d : Bool) → b ≡ has_all n m → b ≡ true → d ≡ has_all m n → Decides d (SameAtoms m n)
SameAtoms-tested m n b d p t q =
    (λ e. SameAtoms-from_all m n (sym p ∙ t) (sym q ∙ e), λ s. q ∙ all-from_SameAtoms n m (λ a. sym (s a)))

pub SameAtoms-refused : (m n : List Atom) (b : Bool) → b ≡ has_all n m → b ≡ false → Decides b (SameAtoms m n)
SameAtoms-refused m n b p f =
    (λ e. absurd (true≢false (sym e ∙ f)), λ s. p ∙ all-from_SameAtoms m n s)
