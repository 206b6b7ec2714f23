-- Atoms that are found, and sets that grow.
use Rattle.std.proofs.Common.{◌≡◌, ◌∙◌, ◌∷◌, ◌++◌, Bool, true, false, ◌||◌, List, [], refl, ap, sym, append-nil}
use Rattle.std.proofs.lemmas.Bool.{cond-true, cond-false}
use Rattle.scasp_syntax.specs.Same.{same_atom}
use Rattle.scasp_syntax.specs.declared.atom.Atom.{Atom}
use Rattle.scasp_syntax.proofs.SameLemmas.{atom_decided}
use Rattle.scasp_model.specs.Atoms.{among, SameAtoms}
use Rattle.scasp_model.proofs.AtomLemmas.{among-append}
use Rattle.scasp_tables.specs.Tables.{with_atom}
use Rattle.scasp_extend_levels.specs.Sets.{with_atoms}

or-false : (b : Bool) → (b || false) ≡ b
or-false true = refl
or-false false = refl

with_atom-among : (xs : List Atom) (x a : Atom) → among (with_atom xs x) a ≡ (among xs a || among (x ∷ []) a)
with_atom-among xs x a = by (among xs x) refl
  where
    by : (b : Bool) → among xs x ≡ b → among (with_atom xs x) a ≡ (among xs a || among (x ∷ []) a)
    by true e = ap (λ ys. among ys a) (cond-true (among xs x) xs (xs ++ x ∷ []) e) ∙ there (same_atom a x) refl
      where
        there : (b : Bool) → same_atom a x ≡ b → among xs a ≡ (among xs a || among (x ∷ []) a)
        there true same =
            let here : among xs a ≡ true = ap (among xs) ((atom_decided a x).0 same) ∙ e in
            here ∙ sym (ap (λ z. z || among (x ∷ []) a) here)
        there false other = sym (ap (λ z. among xs a || (z || false)) other ∙ or-false (among xs a))
    by false e = ap (λ ys. among ys a) (cond-false (among xs x) xs (xs ++ x ∷ []) e) ∙ among-append xs (x ∷ []) a

-- atoms that are put into a set stand behind it
pub with_atoms-same : (xs ys : List Atom) → SameAtoms (with_atoms xs ys) (xs ++ ys)
with_atoms-same xs [] a = ap (λ zs. among zs a) (sym (append-nil xs))
with_atoms-same xs (y ∷ ys) a =
    with_atoms-same (with_atom xs y) ys a ∙ among-append (with_atom xs y) ys a
    ∙ ap (λ z. z || among ys a) (with_atom-among xs y a)
    ∙ or-regroup (among xs a) (same_atom a y) (among ys a)
    ∙ sym (among-append xs (y ∷ ys) a)
  where
    or-regroup : (b c d : Bool) → ((b || (c || false)) || d) ≡ (b || (c || d))
    or-regroup true c d = refl
    or-regroup false true d = refl
    or-regroup false false d = refl

pub append-same : (xs ys us vs : List Atom) → SameAtoms xs us → SameAtoms ys vs → SameAtoms (xs ++ ys) (us ++ vs)
append-same xs ys us vs p q a =
    among-append xs ys a ∙ ap (λ z. z || among ys a) (p a) ∙ ap (λ z. among us a || z) (q a) ∙ sym (among-append us vs a)

-- a set into which atoms were put has theirs
pub put-same : (set old slice atoms more all : List Atom) → set ≡ with_atoms old slice → slice ≡ atoms → SameAtoms atoms more → SameAtoms (old ++ more) all → SameAtoms set all
put-same set old slice atoms more all e f h k a =
    ap (λ xs. among xs a) e ∙ with_atoms-same old slice a
    ∙ append-same old slice old more (λ b. refl) (λ b. ap (λ xs. among xs b) f ∙ h b) a ∙ k a
