-- Keys in a table that grows, and the marks by it.
use Rattle.std.proofs.Common.{◌≡◌, ℕ, suc, ◌+◌, ◌^◌, ◌<◌, ◌∙◌, Bool, true, false, not, ◌||◌, List, [], ◌∷◌, ◌++◌, length, get_or, map, take, drop, refl, sym, ap, arith}
use Rattle.std.specs.Prelude.{if◌then◌else◌}
use Rattle.std.specs.List.{position_or_len}
use Rattle.std.specs.Str.{bytes_eq}
use Rattle.std.proofs.Math.Seq.{drop-cons}
use Rattle.std.proofs.lemmas.Bool.{true≢false, cond-true, cond-false, or_parts, or_left, or_right}
use Rattle.std.proofs.lemmas.List.{length-take-le, length-drop, take-append-drop, drop-append-le}
use Rattle.std.proofs.lemmas.List.Folds.{list_any-append}
use Rattle.std.proofs.lemmas.Slice.Eq.{bytes_eq-Decides}
use Rattle.scasp_name.specs.Texts.{has_text, with_text}
use Rattle.scasp_copies.specs.Copies.{subtree}
use Rattle.scasp_copies.specs.Pieces.{Piece}
use Rattle.scasp_print_shared.specs.Shared.{is_copy}
use Rattle.scasp_print_shared.specs.Inside.Classes.{below, beside, key_of, place_in, root_of, roots, marks, AreFound, AreMarks}
use Rattle.scasp_print_shared.specs.declared.classes.Root.{Root}
use Rattle.scasp_print_shared.proofs.CopyLemmas.{copy-class}
use Rattle.scasp_print_shared.proofs.RootLemmas.{count-root, length-marks, mark-at, root, subtree-within}

-- ---- places of keys

pub place-map : {K : Type 0} (read : K → List ℕ) (keys : List K) (key : List ℕ) → position_or_len (λ k. bytes_eq key (read k)) keys ≡ place_in (map read keys) key
place-map read [] key = refl
place-map read (k ∷ keys) key = by (bytes_eq key (read k)) (place-map read keys key)
  where
    by : (b : Bool) → position_or_len (λ x. bytes_eq key (read x)) keys ≡ place_in (map read keys) key → (if not b then 1 + position_or_len (λ x. bytes_eq key (read x)) keys else 0) ≡ (if not b then 1 + place_in (map read keys) key else 0)
    by true h = refl
    by false h = ap (λ n. 1 + n) h

place-kept : (table : List (List ℕ)) (new key : List ℕ) → has_text table key ≡ true → place_in (table ++ new ∷ []) key ≡ place_in table key
place-kept [] new key h = absurd (true≢false (sym h))
place-kept (t ∷ table) new key h = by (bytes_eq key t) refl (λ g. place-kept table new key g)
  where
    by : (b : Bool) → bytes_eq key t ≡ b → (has_text table key ≡ true → place_in (table ++ new ∷ []) key ≡ place_in table key) → place_in ((t ∷ table) ++ new ∷ []) key ≡ place_in (t ∷ table) key
    by true e ih = simp e refl
    by false e ih = simp e (ap (λ n. 1 + n) (ih (sym (ap (λ b. b || has_text table key) e) ∙ h)))

place-new : (table : List (List ℕ)) (key : List ℕ) → has_text table key ≡ false → place_in (table ++ key ∷ []) key ≡ place_in table key
place-new [] key h = rw ((bytes_eq-Decides key key).1 refl) refl
place-new (t ∷ table) key h =
    let p = or_parts (bytes_eq key t) (has_text table key) h in
    simp p.0 (ap (λ n. 1 + n) (place-new table key p.1))

-- a key that is put into the table keeps the places of those that it has
pub place-with : (table : List (List ℕ)) (new key : List ℕ) → has_text table key ≡ true → place_in (with_text table new) key ≡ place_in table key
place-with table new key h = by (has_text table new) refl
  where
    by : (b : Bool) → has_text table new ≡ b → place_in (with_text table new) key ≡ place_in table key
    by true e = ap (λ z. place_in z key) (cond-true (has_text table new) table (table ++ new ∷ []) e)
    by false e = ap (λ z. place_in z key) (cond-false (has_text table new) table (table ++ new ∷ []) e) ∙ place-kept table new key h

pub place-put : (table : List (List ℕ)) (key : List ℕ) → place_in (with_text table key) key ≡ place_in table key
place-put table key = by (has_text table key) refl
  where
    by : (b : Bool) → has_text table key ≡ b → place_in (with_text table key) key ≡ place_in table key
    by true e = ap (λ z. place_in z key) (cond-true (has_text table key) table (table ++ key ∷ []) e)
    by false e = ap (λ z. place_in z key) (cond-false (has_text table key) table (table ++ key ∷ []) e) ∙ place-new table key e

has-with : (table : List (List ℕ)) (new key : List ℕ) → has_text table key ≡ true → has_text (with_text table new) key ≡ true
has-with table new key h = by (has_text table new) refl
  where
    by : (b : Bool) → has_text table new ≡ b → has_text (with_text table new) key ≡ true
    by true e = ap (λ z. has_text z key) (cond-true (has_text table new) table (table ++ new ∷ []) e) ∙ h
    by false e =
        ap (λ z. has_text z key) (cond-false (has_text table new) table (table ++ new ∷ []) e)
        ∙ list_any-append (bytes_eq key) table (new ∷ [])
        ∙ or_left (has_text table key) (bytes_eq key new || false) h

has-put : (table : List (List ℕ)) (key : List ℕ) → has_text (with_text table key) key ≡ true
has-put table key = by (has_text table key) refl
  where
    by : (b : Bool) → has_text table key ≡ b → has_text (with_text table key) key ≡ true
    by true e = ap (λ z. has_text z key) (cond-true (has_text table key) table (table ++ key ∷ []) e) ∙ e
    by false e =
        ap (λ z. has_text z key) (cond-false (has_text table key) table (table ++ key ∷ []) e)
        ∙ list_any-append (bytes_eq key) table (key ∷ [])
        ∙ or_right (has_text table key) (bytes_eq key key || false) (or_left (bytes_eq key key) false ((bytes_eq-Decides key key).1 refl))

-- ---- marks by a table that grows

module _ (table : List (List ℕ)) (new : List ℕ) where
  roots-with : (ps : List Piece) → AreFound table ps → roots (with_text table new) ps ≡ roots table ps
  roots-with [] h = refl
  roots-with (p ∷ ps) h =
      let key = key_of p.words (below p.depth (roots table ps)) in
      ap (λ rs. root_of (with_text table new) p rs ∷ beside p.depth rs) (roots-with ps h.1)
      ∙ ap (λ n. root p.depth (root_of table p (roots table ps)).count n ∷ beside p.depth (roots table ps)) (place-with table new key h.0)

  marks-with : (ps : List Piece) → AreFound table ps → marks (with_text table new) ps ≡ marks table ps
  marks-with [] h = refl
  marks-with (p ∷ ps) h =
      let key = key_of p.words (below p.depth (roots table ps)) in
      (λ j. root_of (with_text table new) p (roots-with ps h.1 j) ∷ marks-with ps h.1 j)
      ∙ ap (λ n. root p.depth (root_of table p (roots table ps)).count n ∷ marks table ps) (place-with table new key h.0)

  found-with : (ps : List Piece) → AreFound table ps → AreFound (with_text table new) ps
  found-with [] h = tt
  found-with (p ∷ ps) h =
      let key = key_of p.words (below p.depth (roots table ps)) in (
        ap (λ rs. has_text (with_text table new) (key_of p.words (below p.depth rs))) (roots-with ps h.1) ∙ has-with table new key h.0,
        found-with ps h.1,
      )

-- one line more in front, its key put into the table
module _ (table : List (List ℕ)) (p : Piece) (ps : List Piece) (found : AreFound table ps) where
  abbrev pub key : List ℕ
  key = key_of p.words (below p.depth (roots table ps))

  root-put : root_of (with_text table key) p (roots (with_text table key) ps) ≡ root_of table p (roots table ps)
  root-put =
      ap (root_of (with_text table key) p) (roots-with table key ps found)
      ∙ ap (λ n. root p.depth (root_of table p (roots table ps)).count n) (place-put table key)

  pub roots-put : roots (with_text table key) (p ∷ ps) ≡ root_of table p (roots table ps) ∷ beside p.depth (roots table ps)
  roots-put = λ j. root-put j ∷ beside p.depth (roots-with table key ps found j)

  pub marks-put : marks (with_text table key) (p ∷ ps) ≡ root_of table p (roots table ps) ∷ marks table ps
  marks-put = λ j. root-put j ∷ marks-with table key ps found j

  pub found-put : AreFound (with_text table key) (p ∷ ps)
  found-put = (
    ap (λ rs. has_text (with_text table key) (key_of p.words (below p.depth rs))) (roots-with table key ps found) ∙ has-put table key,
    found-with table key ps found,
  )

-- ---- what holds of the marks

dummy : Piece
dummy = record { depth = 0; words = [] }

pub marks-are : (table : List (List ℕ)) (ps : List Piece) → length ps < 2 ^ 63 → AreMarks ps (marks table ps)
marks-are table ps small = record {
  size = length-marks table ps;
  counts = λ k d h.
      let e = drop-cons ps k dummy h in
      ap (λ (r : Root). r.count) (mark-at table ps (drop (suc k) ps) (get_or ps k dummy) k d e)
      ∙ count-root table (get_or ps k dummy) (drop (suc k) ps)
      ∙ ap (λ z. length (subtree z)) (sym e);
  classes = λ j k d h g c. one j k d h g c;
}
  where
    one : (j k : ℕ) (d : Root) → j < k → k < length ps → is_copy (take k ps) (drop k ps) (j + 1) ≡ true → (get_or (marks table ps) j d).class ≡ (get_or (marks table ps) k d).class
    one j k d h g c =
        let told = take k ps in
        let q = get_or told j dummy in
        let qs = drop (suc j) told in
        let p = get_or ps k dummy in
        let rest = drop (suc k) ps in
        let told-size : length told ≡ k = length-take-le k ps (omega arith) in
        let within : j < length told = omega (arith, told-size) in
        let front : drop j told ≡ q ∷ qs = drop-cons told j dummy within in
        let behind : drop k ps ≡ p ∷ rest = drop-cons ps k dummy g in
        let all : drop j ps ≡ q ∷ (qs ++ p ∷ rest) =
        ap (drop j) (sym (take-append-drop k ps)) ∙ drop-append-le j told (drop k ps) (omega (arith, within)) ∙ (λ i. front i ++ behind i) in
        let n : j + 1 ≡ suc j = omega arith in
        let copied : is_copy told (p ∷ rest) (suc j) ≡ true = (λ i. is_copy told (sym behind i) (sym n i)) ∙ c in
        let room : length told + 1 + length (subtree (p ∷ rest)) < 2 ^ 64 = omega (arith, told-size, subtree-within (p ∷ rest), length-drop (suc k) ps) in
        ap (λ (r : Root). r.class) (mark-at table ps (qs ++ p ∷ rest) q j d all)
        ∙ copy-class table told j q qs p rest front room copied
        ∙ sym (ap (λ (r : Root). r.class) (mark-at table ps rest p k d behind))
