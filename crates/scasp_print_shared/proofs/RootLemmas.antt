-- Subtrees that stand side by side.
use Rattle.std.proofs.Common.{◌≡◌, ℕ, zero, suc, ◌+◌, ◌<◌, ◌≤◌, ◌∙◌, Bool, true, false, List, [], ◌∷◌, ◌++◌, length, get_or, drop, reverse, refl, sym, ap, arith, append_assoc, append-nil}
use Rattle.std.specs.Prelude.{nat_lt}
use Rattle.std.proofs.lemmas.Bool.{cond-true, cond-false, ltb-true, ltb-false, lt-ltb, le-ltb}
use Rattle.std.proofs.lemmas.List.{reverse-append}
use Rattle.std.proofs.lemmas.List.Folds.{length-prefix_len}
use Rattle.std.proofs.lemmas.List.Sums.{prefix_len-le-length, take_while-cons}
use Rattle.scasp_copies.specs.Copies.{deeper_than, subtree}
use Rattle.scasp_copies.specs.Pieces.{Piece}
use Rattle.scasp_print_shared.specs.Inside.Classes.{below, beside, classes_of, count_of, key_of, place_in, root_of, roots, marks}
use Rattle.scasp_print_shared.specs.declared.classes.Root.{Root}

-- ---- the first of them

pub popped : (items others : List Root) (r : Root) → items ≡ others ++ r ∷ [] → reverse items ≡ r ∷ reverse others
popped items others r e = ap reverse e ∙ reverse-append others (r ∷ [])

pub below-deeper : (depth : ℕ) (r : Root) (rs : List Root) → depth < r.depth → below depth (r ∷ rs) ≡ r ∷ below depth rs
below-deeper depth r rs h = cond-true (nat_lt depth r.depth) (r ∷ below depth rs) [] (lt-ltb depth r.depth h)

pub beside-deeper : (depth : ℕ) (r : Root) (rs : List Root) → depth < r.depth → beside depth (r ∷ rs) ≡ beside depth rs
beside-deeper depth r rs h = cond-true (nat_lt depth r.depth) (beside depth rs) (r ∷ rs) (lt-ltb depth r.depth h)

pub below-others : (depth : ℕ) (r : Root) (rs : List Root) → r.depth ≤ depth → below depth (r ∷ rs) ≡ []
below-others depth r rs h = cond-false (nat_lt depth r.depth) (r ∷ below depth rs) [] (le-ltb depth r.depth h)

pub beside-others : (depth : ℕ) (r : Root) (rs : List Root) → r.depth ≤ depth → beside depth (r ∷ rs) ≡ r ∷ rs
beside-others depth r rs h = cond-false (nat_lt depth r.depth) (beside depth rs) (r ∷ rs) (le-ltb depth r.depth h)

-- ---- below two depths

below-below : (d e : ℕ) (rs : List Root) → d ≤ e → below e (below d rs) ≡ below e rs
below-below d e [] h = refl
below-below d e (r ∷ rs) h = by (nat_lt e r.depth) refl (nat_lt d r.depth) refl (below-below d e rs h)
  where
    by : (a : Bool) → nat_lt e r.depth ≡ a → (b : Bool) → nat_lt d r.depth ≡ b → below e (below d rs) ≡ below e rs → below e (below d (r ∷ rs)) ≡ below e (r ∷ rs)
    by true p true q ih = simp (p, q) (ap (λ x. r ∷ x) ih)
    by true p false q ih = let l = ltb-true e r.depth p in let g = ltb-false d r.depth q in absurd (omega arith)
    by false p true q ih = simp (p, q) refl
    by false p false q ih = simp (p, q) refl

beside-below : (d e : ℕ) (rs : List Root) → d ≤ e → beside e (below d rs) ≡ below d (beside e rs)
beside-below d e [] h = refl
beside-below d e (r ∷ rs) h = by (nat_lt e r.depth) refl (nat_lt d r.depth) refl (beside-below d e rs h)
  where
    by : (a : Bool) → nat_lt e r.depth ≡ a → (b : Bool) → nat_lt d r.depth ≡ b → beside e (below d rs) ≡ below d (beside e rs) → beside e (below d (r ∷ rs)) ≡ below d (beside e (r ∷ rs))
    by true p true q ih = simp (p, q) ih
    by true p false q ih = let l = ltb-true e r.depth p in let g = ltb-false d r.depth q in absurd (omega arith)
    by false p true q ih = simp (p, q) refl
    by false p false q ih = simp (p, q) refl

count-parts : (d : ℕ) (rs : List Root) → count_of (below d rs) + count_of (beside d rs) ≡ count_of rs
count-parts d [] = refl
count-parts d (r ∷ rs) = by (nat_lt d r.depth) refl (count-parts d rs)
  where
    by : (a : Bool) → nat_lt d r.depth ≡ a → count_of (below d rs) + count_of (beside d rs) ≡ count_of rs → count_of (below d (r ∷ rs)) + count_of (beside d (r ∷ rs)) ≡ r.count + count_of rs
    by true p ih = simp p (omega arith)
    by false p ih = simp p (omega arith)

-- ---- of the lines

abbrev pub root : ℕ → ℕ → ℕ → Root
root depth count class = record { depth = depth; count = count; class = class }

pub deeper-true : (d : ℕ) (p : Piece) (ps : List Piece) → nat_lt d p.depth ≡ true → deeper_than d (p ∷ ps) ≡ p ∷ deeper_than d ps
deeper-true d p ps e =
    take_while-cons (λ (x : Piece). nat_lt d x.depth) p ps ∙ cond-true (nat_lt d p.depth) (p ∷ deeper_than d ps) [] e

pub deeper-false : (d : ℕ) (p : Piece) (ps : List Piece) → nat_lt d p.depth ≡ false → deeper_than d (p ∷ ps) ≡ []
deeper-false d p ps e =
    take_while-cons (λ (x : Piece). nat_lt d x.depth) p ps ∙ cond-false (nat_lt d p.depth) (p ∷ deeper_than d ps) [] e

pub subtree-within : (ps : List Piece) → length (subtree ps) ≤ length ps
subtree-within [] = omega arith
subtree-within (p ∷ ps) =
    let f : Piece → Bool = λ x. nat_lt p.depth x.depth in
    omega (arith, length-prefix_len f ps, prefix_len-le-length f ps)

module _ (table : List (List ℕ)) where
  -- the subtree of a line before these, by those below it
  abbrev pub root_by : Piece → List Root → Root
  root_by p inner = root p.depth (1 + count_of inner) (place_in table (key_of p.words inner))

  -- the subtrees of the deeper lines are the deeper subtrees
  pub below-roots : (d : ℕ) (ps : List Piece) → below d (roots table ps) ≡ roots table (deeper_than d ps)
  below-roots d [] = refl
  below-roots d (p ∷ ps) = by (nat_lt d p.depth) refl (below-roots d ps)
    where
      by : (a : Bool) → nat_lt d p.depth ≡ a → below d (roots table ps) ≡ roots table (deeper_than d ps) → below d (roots table (p ∷ ps)) ≡ roots table (deeper_than d (p ∷ ps))
      by true q ih =
          let rs = roots table ps in
          let h : d ≤ p.depth = (let l = ltb-true d p.depth q in omega arith) in
          let same = below-below d p.depth rs h in
          let moved = beside-below d p.depth rs h in
          cond-true (nat_lt d p.depth) (root_of table p rs ∷ below d (beside p.depth rs)) [] q
          ∙ (λ j. root_by p (sym same j) ∷ sym moved j)
          ∙ ap (λ x. root_of table p x ∷ beside p.depth x) ih
          ∙ ap (roots table) (sym (deeper-true d p ps q))
      by false q ih =
          let rs = roots table ps in
          cond-false (nat_lt d p.depth) (root_of table p rs ∷ below d (beside p.depth rs)) [] q
          ∙ ap (roots table) (sym (deeper-false d p ps q))

  count-roots : (ps : List Piece) → count_of (roots table ps) ≡ length ps
  count-roots [] = refl
  count-roots (p ∷ ps) = let rs = roots table ps in omega (arith, count-parts p.depth rs, count-roots ps)

  -- the subtree of a line, by the deeper lines behind it
  pub root-is : (p : Piece) (ps : List Piece) → root_of table p (roots table ps) ≡ root_by p (roots table (deeper_than p.depth ps))
  root-is p ps = ap (root_by p) (below-roots p.depth ps)

  pub count-root : (p : Piece) (ps : List Piece) → (root_of table p (roots table ps)).count ≡ length (subtree (p ∷ ps))
  count-root p ps = ap (λ rs. 1 + count_of rs) (below-roots p.depth ps) ∙ omega (arith, count-roots (deeper_than p.depth ps))

  -- ---- the mark of each line

  pub length-marks : (ps : List Piece) → length (marks table ps) ≡ length ps
  length-marks [] = refl
  length-marks (p ∷ ps) = ap suc (length-marks ps)

  pub mark-at : (ps qs : List Piece) (q : Piece) (k : ℕ) (d : Root) → drop k ps ≡ q ∷ qs → get_or (marks table ps) k d ≡ root_of table q (roots table qs)
  mark-at [] qs q zero d e = cc
  mark-at [] qs q (suc k) d e = cc
  mark-at (p ∷ ps) qs q zero d e = let a : p ≡ q = cc in let b : ps ≡ qs = cc in λ j. root_of table (a j) (roots table (b j))
  mark-at (p ∷ ps) qs q (suc k) d e = mark-at ps qs q k d e

-- ---- taking those below a line

module _ (depth : ℕ) (items others : List Root) (r : Root) (pop : items ≡ others ++ r ∷ []) where
  pub taken-roots : depth < r.depth → beside depth (reverse others) ≡ beside depth (reverse items)
  taken-roots h = sym (ap (beside depth) (popped items others r pop) ∙ beside-deeper depth r (reverse others) h)

  taken-below : depth < r.depth → below depth (reverse items) ≡ r ∷ below depth (reverse others)
  taken-below h = ap (below depth) (popped items others r pop) ∙ below-deeper depth r (reverse others) h

  pub taken-count : (count : ℕ) → depth < r.depth → count + r.count + count_of (below depth (reverse others)) ≡ count + count_of (below depth (reverse items))
  taken-count count h = let e = ap count_of (taken-below h) in omega (arith, e)

  pub taken-classes : (before now : List ℕ) → depth < r.depth → now ≡ before ++ r.class ∷ []
      → now ++ classes_of (below depth (reverse others)) ≡ before ++ classes_of (below depth (reverse items))
  taken-classes before now h e =
      let rest = classes_of (below depth (reverse others)) in
      ap (λ z. z ++ rest) e
      ∙ append_assoc before (r.class ∷ []) rest
      ∙ ap (λ z. before ++ classes_of z) (sym (taken-below h))

  left-below : r.depth ≤ depth → below depth (reverse items) ≡ []
  left-below h = ap (below depth) (popped items others r pop) ∙ below-others depth r (reverse others) h

  pub left-roots : r.depth ≤ depth → reverse items ≡ beside depth (reverse items)
  left-roots h = sym (ap (beside depth) (popped items others r pop) ∙ beside-others depth r (reverse others) h ∙ sym (popped items others r pop))

  pub left-classes : (now : List ℕ) → r.depth ≤ depth → now ≡ now ++ classes_of (below depth (reverse items))
  left-classes now h = sym (ap (λ z. now ++ classes_of z) (left-below h) ∙ append-nil now)

  pub left-count : (count : ℕ) → r.depth ≤ depth → count ≡ count + count_of (below depth (reverse items))
  left-count count h = let e = ap count_of (left-below h) in omega (arith, e)
