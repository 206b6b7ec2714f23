-- A subtree that moves keeps its class.
use Rattle.std.proofs.Common.{◌≡◌, ℕ, ◌+◌, ◌-◌, ◌^◌, ◌<◌, ◌≤◌, ◌∙◌, Bool, true, false, List, [], ◌∷◌, ◌++◌, map, refl, sym, ap, subst, arith}
use Rattle.std.specs.Prelude.{nat_lt}
use Rattle.std.proofs.lemmas.Bool.{ltb-true, ltb-false, lt-ltb, le-ltb}
use Rattle.scasp_copies.specs.Copies.{Move, deeper_than, moved_piece}
use Rattle.scasp_copies.specs.Pieces.{Piece}
use Rattle.scasp_print_shared.specs.Inside.Classes.{below, beside, classes_of, count_of, place_in, root_of, roots}
use Rattle.scasp_print_shared.specs.Inside.Keys.{numbers}
use Rattle.scasp_print_shared.specs.declared.classes.Root.{Root}
use Rattle.scasp_print_shared.proofs.RootLemmas.{deeper-true, deeper-false, root}
use Rattle.scasp_print_shared.proofs.WordLemmas.{stem-moved}

-- ---- lines that are at least as deep as the top

abbrev pub AreBelow : ℕ → List Piece → Type 0
AreBelow top [] = Unit {0}
AreBelow top (p ∷ ps) = (top ≤ p.depth) × AreBelow top ps

pub deeper-are : (top : ℕ) (ps : List Piece) → AreBelow top (deeper_than top ps)
deeper-are top [] = tt
deeper-are top (p ∷ ps) = by (nat_lt top p.depth) refl (deeper-are top ps)
  where
    by : (a : Bool) → nat_lt top p.depth ≡ a → AreBelow top (deeper_than top ps) → AreBelow top (deeper_than top (p ∷ ps))
    by true q ih =
        let l = ltb-true top p.depth q in
        let h : top ≤ p.depth = omega arith in
        subst (AreBelow top) (sym (deeper-true top p ps q)) (h, ih)
    by false q ih = subst (AreBelow top) (sym (deeper-false top p ps q)) tt

abbrev RootsBelow : ℕ → List Root → Type 0
RootsBelow top [] = Unit {0}
RootsBelow top (r ∷ rs) = (top ≤ r.depth) × RootsBelow top rs

beside-are : (top d : ℕ) (rs : List Root) → RootsBelow top rs → RootsBelow top (beside d rs)
beside-are top d [] h = tt
beside-are top d (r ∷ rs) h = by (nat_lt d r.depth) refl (beside-are top d rs h.1)
  where
    by : (a : Bool) → nat_lt d r.depth ≡ a → RootsBelow top (beside d rs) → RootsBelow top (beside d (r ∷ rs))
    by true q ih = rw q ih
    by false q ih = rw q h

roots-are : (table : List (List ℕ)) (top : ℕ) (ps : List Piece) → AreBelow top ps → RootsBelow top (roots table ps)
roots-are table top [] h = tt
roots-are table top (p ∷ ps) h = (h.0, beside-are top p.depth (roots table ps) (roots-are table top ps h.1))

-- ---- the subtrees of moved lines

module _ (top depth : ℕ) where
  abbrev pub moved_root : Root → Root
  moved_root r = record { depth = depth + (r.depth - top); count = r.count; class = r.class }

  lt-moved : (a b : ℕ) → top ≤ a → top ≤ b → nat_lt (depth + (a - top)) (depth + (b - top)) ≡ nat_lt a b
  lt-moved a b h g = by (nat_lt a b) refl
    where
      by : (t : Bool) → nat_lt a b ≡ t → nat_lt (depth + (a - top)) (depth + (b - top)) ≡ t
      by true q = let l = ltb-true a b q in lt-ltb (depth + (a - top)) (depth + (b - top)) (omega arith)
      by false q = let l = ltb-false a b q in le-ltb (depth + (a - top)) (depth + (b - top)) (omega arith)

  below-moved : (d : ℕ) (rs : List Root) → top ≤ d → RootsBelow top rs → below (depth + (d - top)) (map moved_root rs) ≡ map moved_root (below d rs)
  below-moved d [] h g = refl
  below-moved d (r ∷ rs) h g = by (nat_lt d r.depth) refl (below-moved d rs h g.1)
    where
      by : (t : Bool) → nat_lt d r.depth ≡ t → below (depth + (d - top)) (map moved_root rs) ≡ map moved_root (below d rs)
          → below (depth + (d - top)) (map moved_root (r ∷ rs)) ≡ map moved_root (below d (r ∷ rs))
      by true q ih = let s = lt-moved d r.depth h g.0 ∙ q in simp (q, s) (ap (λ x. moved_root r ∷ x) ih)
      by false q ih = let s = lt-moved d r.depth h g.0 ∙ q in simp (q, s) refl

  beside-moved : (d : ℕ) (rs : List Root) → top ≤ d → RootsBelow top rs → beside (depth + (d - top)) (map moved_root rs) ≡ map moved_root (beside d rs)
  beside-moved d [] h g = refl
  beside-moved d (r ∷ rs) h g = by (nat_lt d r.depth) refl (beside-moved d rs h g.1)
    where
      by : (t : Bool) → nat_lt d r.depth ≡ t → beside (depth + (d - top)) (map moved_root rs) ≡ map moved_root (beside d rs)
          → beside (depth + (d - top)) (map moved_root (r ∷ rs)) ≡ map moved_root (beside d (r ∷ rs))
      by true q ih = let s = lt-moved d r.depth h g.0 ∙ q in simp (q, s) ih
      by false q ih = let s = lt-moved d r.depth h g.0 ∙ q in simp (q, s) refl

  pub classes-moved : (rs : List Root) → classes_of (map moved_root rs) ≡ classes_of rs
  classes-moved [] = refl
  classes-moved (r ∷ rs) = ap (λ t. r.class ∷ t) (classes-moved rs)

  count-moved : (rs : List Root) → count_of (map moved_root rs) ≡ count_of rs
  count-moved [] = refl
  count-moved (r ∷ rs) = ap (λ n. r.count + n) (count-moved rs)

  pub roots-moved : (m : Move) (table : List (List ℕ)) (ps : List Piece) → m.to + m.count < 2 ^ 64 → AreBelow top ps
      → roots table (map (moved_piece m top depth) ps) ≡ map moved_root (roots table ps)
  roots-moved m table [] h g = refl
  roots-moved m table (p ∷ ps) h g =
      let rs = roots table ps in
      let d = depth + (p.depth - top) in
      let inner = below-moved p.depth rs g.0 (roots-are table top ps g.1) in
      let counts : count_of (below d (map moved_root rs)) ≡ count_of (below p.depth rs) = ap count_of inner ∙ count-moved (below p.depth rs) in
      let classes : classes_of (below d (map moved_root rs)) ≡ classes_of (below p.depth rs) = ap classes_of inner ∙ classes-moved (below p.depth rs) in
      let words = stem-moved m p.words h in
      ap (λ x. root_of table (moved_piece m top depth p) x ∷ beside d x) (roots-moved m table ps h g.1)
      ∙ (λ j.
      root d (1 + counts j) (place_in table (numbers (words j) (classes j))) ∷ beside-moved p.depth rs g.0 (roots-are table top ps g.1) j)
