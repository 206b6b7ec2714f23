-- Lists of the same atoms: without repeats they are as long, and have the same texts.
use Rattle.std.proofs.Common.{◌≡◌, ◌∙◌, ℕ, suc, ◌+◌, Bool, true, false, ◌&&◌, ◌||◌, not, List, [], ◌∷◌, length, map, refl, sym, ap, subst, arith}
use Rattle.std.specs.Prelude.{filter, bytes_eq}
use Rattle.std.proofs.lemmas.Bool.{and_parts, and_from, not-true, true≢false, cond-true, cond-false}
use Rattle.scasp_cert.specs.Text.Terms.{atom_text}
use Rattle.scasp_model.specs.Atoms.{among, are_distinct, SameAtoms}
use Rattle.scasp_model.proofs.AtomLemmas.{same_atom-self}
use Rattle.scasp_syntax.specs.Same.{same_atom}
use Rattle.scasp_syntax.specs.declared.atom.Atom.{Atom}
use Rattle.scasp_syntax.proofs.SameLemmas.{atom_decided}
use Rattle.scasp_print_atoms.specs.Lines.{atom_count, atom_line, atom_lines, without_repeats}
use Rattle.scasp_print_atoms.specs.Order.{in_byte_order}
use Rattle.scasp_print_atoms.proofs.OrderLemmas.{in-order, one, permutes, times, total, total-map, total-permutation, unique}

same-is : (a b : Atom) → same_atom a b ≡ true → a ≡ b
same-is a b e = (atom_decided a b).0 e

-- an atom is the same as another exactly where that is the same as it
turned : (a b : Atom) (t : Bool) → same_atom a b ≡ t → same_atom b a ≡ t
turned a b true e = subst (λ z. same_atom z a ≡ true) (same-is a b e) (same_atom-self a)
turned a b false e = by (same_atom b a) refl
  where
    by : (t : Bool) → same_atom b a ≡ t → same_atom b a ≡ false
    by true h = absurd (true≢false (sym ((atom_decided a b).1 (sym (same-is b a h))) ∙ e))
    by false h = h

and-nothing : (t : Bool) → (t && not true) ≡ false
and-nothing true = refl
and-nothing false = refl

and-all : (t : Bool) → (t && not false) ≡ t
and-all true = refl
and-all false = refl

-- ---- without repeats

absorbed : (a x : Atom) (xs : List Atom) → among xs x ≡ true → among xs a ≡ among (x ∷ xs) a
absorbed a x xs h = by (same_atom a x) refl
  where
    by : (t : Bool) → same_atom a x ≡ t → among xs a ≡ among (x ∷ xs) a
    by true e =
        let there : among xs a ≡ true = subst (λ z. among xs z ≡ true) (sym (same-is a x e)) h in
        there ∙ sym (ap (λ t. t || among xs a) e)
    by false e = sym (ap (λ t. t || among xs a) e)

pub among-once : (a : Atom) (xs : List Atom) → among (without_repeats xs) a ≡ among xs a
among-once a [] = refl
among-once a (x ∷ xs) = by (among-once a xs) (among xs x) refl
  where
    by : among (without_repeats xs) a ≡ among xs a → (t : Bool) → among xs x ≡ t → among (without_repeats (x ∷ xs)) a ≡ among (x ∷ xs) a
    by rest true e = ap (λ ys. among ys a) (cond-true (among xs x) (without_repeats xs) (x ∷ without_repeats xs) e) ∙ rest ∙ absorbed a x xs e
    by rest false e =
        ap (λ ys. among ys a) (cond-false (among xs x) (without_repeats xs) (x ∷ without_repeats xs) e) ∙ ap (λ t. same_atom a x || t) rest

pub distinct-once : (xs : List Atom) → are_distinct (without_repeats xs) ≡ true
distinct-once [] = refl
distinct-once (x ∷ xs) = by (distinct-once xs) (among xs x) refl
  where
    by : are_distinct (without_repeats xs) ≡ true → (t : Bool) → among xs x ≡ t → are_distinct (without_repeats (x ∷ xs)) ≡ true
    by rest true e = ap are_distinct (cond-true (among xs x) (without_repeats xs) (x ∷ without_repeats xs) e) ∙ rest
    by rest false e =
        ap are_distinct (cond-false (among xs x) (without_repeats xs) (x ∷ without_repeats xs) e)
        ∙ and_from (not (among (without_repeats xs) x)) (are_distinct (without_repeats xs)) (ap not (among-once x xs ∙ e)) rest

-- ---- sums over distinct atoms

abbrev others : Atom → List Atom → List Atom
others a xs = filter (λ b. not (same_atom a b)) xs

others-more : (a b : Atom) (xs : List Atom) → same_atom a b ≡ false → others a (b ∷ xs) ≡ b ∷ others a xs
others-more a b xs e = cond-true (not (same_atom a b)) (b ∷ others a xs) (others a xs) (ap not e)

others-less : (a b : Atom) (xs : List Atom) → same_atom a b ≡ true → others a (b ∷ xs) ≡ others a xs
others-less a b xs e = cond-false (not (same_atom a b)) (b ∷ others a xs) (others a xs) (ap not e)

none-out : (a : Atom) (xs : List Atom) → among xs a ≡ false → others a xs ≡ xs
none-out a [] h = refl
none-out a (b ∷ xs) h = by (none-out a xs) (same_atom a b) refl
  where
    by : (among xs a ≡ false → others a xs ≡ xs) → (t : Bool) → same_atom a b ≡ t → others a (b ∷ xs) ≡ b ∷ xs
    by rest true e = absurd (true≢false (sym (ap (λ t. t || among xs a) e) ∙ h))
    by rest false e = others-more a b xs e ∙ ap (λ ys. b ∷ ys) (rest (sym (ap (λ t. t || among xs a) e) ∙ h))

among-others : (a c : Atom) (xs : List Atom) → among (others a xs) c ≡ (among xs c && not (same_atom a c))
among-others a c [] = refl
among-others a c (b ∷ xs) = by (among-others a c xs) (same_atom a b) (same_atom c b) refl refl
  where
    by : among (others a xs) c ≡ (among xs c && not (same_atom a c)) → (s t : Bool) → same_atom a b ≡ s → same_atom c b ≡ t
        → among (others a (b ∷ xs)) c ≡ (among (b ∷ xs) c && not (same_atom a c))
    by rest true true e f =
        let same : a ≡ c = same-is a b e ∙ sym (same-is c b f) in
        let is : same_atom a c ≡ true = subst (λ z. same_atom a z ≡ true) same (same_atom-self a) in
        ap (λ ys. among ys c) (others-less a b xs e) ∙ rest ∙ ap (λ t. among xs c && not t) is ∙ and-nothing (among xs c)
        ∙ sym (ap (λ t. among (b ∷ xs) c && not t) is ∙ and-nothing (among (b ∷ xs) c))
    by rest true false e f =
        ap (λ ys. among ys c) (others-less a b xs e) ∙ rest ∙ ap (λ t. (t || among xs c) && not (same_atom a c)) (sym f)
    by rest false true e f =
        let is : same_atom a c ≡ false = subst (λ z. same_atom a z ≡ false) (sym (same-is c b f)) e in
        ap (λ ys. among ys c) (others-more a b xs e) ∙ ap (λ t. t || among (others a xs) c) f
        ∙ sym (ap (λ t. (t || among xs c) && not (same_atom a c)) f ∙ ap not is)
    by rest false false e f =
        ap (λ ys. among ys c) (others-more a b xs e) ∙ ap (λ t. t || among (others a xs) c) f ∙ rest
        ∙ ap (λ t. (t || among xs c) && not (same_atom a c)) (sym f)

distinct-others : (a : Atom) (xs : List Atom) → are_distinct xs ≡ true → are_distinct (others a xs) ≡ true
distinct-others a [] d = refl
distinct-others a (b ∷ xs) d =
    let p = and_parts (not (among xs b)) (are_distinct xs) d in
    by p.0 (distinct-others a xs p.1) (same_atom a b) refl
  where
    by : not (among xs b) ≡ true → are_distinct (others a xs) ≡ true → (t : Bool) → same_atom a b ≡ t → are_distinct (others a (b ∷ xs)) ≡ true
    by n rest true e = ap are_distinct (others-less a b xs e) ∙ rest
    by n rest false e =
        let gone : among (others a xs) b ≡ false = among-others a b xs ∙ ap (λ t. t && not (same_atom a b)) (not-true (among xs b) n) in
        ap are_distinct (others-more a b xs e) ∙ and_from (not (among (others a xs) b)) (are_distinct (others a xs)) (ap not gone) rest

total-others : (f : Atom → ℕ) (a : Atom) (xs : List Atom) → are_distinct xs ≡ true → among xs a ≡ true → total f xs ≡ f a + total f (others a xs)
total-others f a [] d h = cc h
total-others f a (b ∷ xs) d h =
    let p = and_parts (not (among xs b)) (are_distinct xs) d in
    by p.0 (total-others f a xs p.1) (same_atom a b) refl
  where
    by : not (among xs b) ≡ true → (among xs a ≡ true → total f xs ≡ f a + total f (others a xs)) → (t : Bool) → same_atom a b ≡ t
        → total f (b ∷ xs) ≡ f a + total f (others a (b ∷ xs))
    by n rest true e =
        let none : among xs a ≡ false = subst (λ z. among xs z ≡ false) (sym (same-is a b e)) (not-true (among xs b) n) in
        let left : others a (b ∷ xs) ≡ xs = others-less a b xs e ∙ none-out a xs none in
        let one_more : f b ≡ f a = ap f (sym (same-is a b e)) in
        ap (λ k. k + total f xs) one_more ∙ ap (λ ys. f a + total f ys) (sym left)
    by n rest false e =
        let there : among xs a ≡ true = sym (ap (λ t. t || among xs a) e) ∙ h in
        let more : total f (others a (b ∷ xs)) ≡ f b + total f (others a xs) = ap (total f) (others-more a b xs e) in
        let sum : total f (b ∷ xs) ≡ f b + total f xs = refl in
        omega (arith, rest there, more, sum)

pub total-same : (f : Atom → ℕ) (xs ys : List Atom) → are_distinct xs ≡ true → are_distinct ys ≡ true → SameAtoms xs ys → total f xs ≡ total f ys
total-same f [] [] d e s = refl
total-same f [] (b ∷ ys) d e s = cc (s b, same_atom-self b)
total-same f (a ∷ xs) ys d e s =
    let p = and_parts (not (among xs a)) (are_distinct xs) d in
    let there : among ys a ≡ true = sym (s a) ∙ ap (λ t. t || among xs a) (same_atom-self a) in
    let rest : total f xs ≡ total f (others a ys) = total-same f xs (others a ys) p.1 (distinct-others a ys e) (λ c. left p.0 c (same_atom a c) refl) in
    ap (λ k. f a + k) rest ∙ sym (total-others f a ys e there)
  where
    left : not (among xs a) ≡ true → (c : Atom) (t : Bool) → same_atom a c ≡ t → among xs c ≡ among (others a ys) c
    left n c true h =
        let none : among xs c ≡ false = subst (λ z. among xs z ≡ false) (same-is a c h) (not-true (among xs a) n) in
        none ∙ sym (among-others a c ys ∙ ap (λ t. among ys c && not t) h ∙ and-nothing (among ys c))
    left n c false h =
        let back : same_atom c a ≡ false = turned a c false h in
        sym (ap (λ t. t || among xs c) back) ∙ s c ∙ sym (among-others a c ys ∙ ap (λ t. among ys c && not t) h ∙ and-all (among ys c))

-- ---- texts

same-once : (xs ys : List Atom) → SameAtoms xs ys → SameAtoms xs (without_repeats ys)
same-once xs ys s a = s a ∙ sym (among-once a ys)

total-length : (xs : List Atom) → total (λ a. 1) xs ≡ length xs
total-length [] = refl
total-length (x ∷ xs) =
    let sum : total (λ a. 1) (x ∷ xs) ≡ 1 + total (λ a. 1) xs = refl in
    let long : length (x ∷ xs) ≡ suc (length xs) = refl in
    omega (arith, total-length xs, sum, long)

pub same-count : (xs ys : List Atom) → are_distinct xs ≡ true → SameAtoms xs ys → length xs ≡ atom_count ys
same-count xs ys d s =
    sym (total-length xs) ∙ total-same (λ a. 1) xs (without_repeats ys) d (distinct-once ys) (same-once xs ys s) ∙ total-length (without_repeats ys)

pub same-texts : (text : Atom → List ℕ) (xs ys : List Atom) → are_distinct xs ≡ true → SameAtoms xs ys
    → in_byte_order (map text xs) ≡ in_byte_order (map text (without_repeats ys))
same-texts text xs ys d s =
    unique (in_byte_order (map text xs)) (in_byte_order (map text (without_repeats ys))) (in-order (map text xs)) (in-order (map text (without_repeats ys)))
    (λ t. often t xs ∙ total-same (λ a. one (bytes_eq (text a) t)) xs (without_repeats ys) d (distinct-once ys) (same-once xs ys s) ∙ sym (often t (without_repeats ys)))
  where
    often : (t : List ℕ) (zs : List Atom) → times t (in_byte_order (map text zs)) ≡ total (λ a. one (bytes_eq (text a) t)) zs
    often t zs =
        total-permutation (λ s. one (bytes_eq s t)) (map text zs) (in_byte_order (map text zs)) (permutes (map text zs))
        ∙ total-map (λ s. one (bytes_eq s t)) text zs
