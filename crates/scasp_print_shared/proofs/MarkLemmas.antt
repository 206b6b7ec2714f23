-- The marks of the lines from a number on.
use Rattle.std.proofs.Common.{◌≡◌, ℕ, ◌+◌, ◌^◌, ◌<◌, ◌≤◌, ◌∙◌, List, [], ◌∷◌, ◌++◌, length, get_or, drop, reverse, sym, ap, subst, arith}
use Rattle.std.proofs.lemmas.List.{length-map, reverse-append}
use Rattle.scasp_copies.specs.Pieces.{Piece}
use Rattle.scasp_name.specs.Texts.{with_text}
use Rattle.scasp_print_shared.specs.Inside.Classes.{below, beside, key_of, root_of, roots, marks, AreFound, AreMarks}
use Rattle.scasp_print_shared.specs.Inside.Lines.{read, read_all}
use Rattle.scasp_print_shared.specs.declared.classes.Root.{Root}
use Rattle.scasp_print_shared.specs.declared.lines.Line.{Line}
use Rattle.scasp_print_shared.proofs.ClassLemmas.{found-put, marks-are, marks-put, roots-put}
use Rattle.scasp_print_shared.proofs.LineLemmas.{drop-read, lines-from}

-- the last of each list is the first line's
pub record Marked (table : List (List ℕ)) (ls : List Line) (left : ℕ) (rs ms : List Root) : Type 0 where
  pub within : left ≤ length ls
  pub roots : reverse rs ≡ roots table (drop left (read_all ls))
  pub marks : reverse ms ≡ marks table (drop left (read_all ls))
  pub found : AreFound table (drop left (read_all ls))

pub one-more : (table new : List (List ℕ)) (ls : List Line) (now left : ℕ) (x : Line) (r : Root) (rs new_rs ms new_ms : List Root)
    → Marked table ls left rs ms → now + 1 ≡ left → x ≡ get_or ls now x
    → r ≡ root_of table (read x) (reverse rs) → reverse new_rs ≡ r ∷ beside x.depth (reverse rs)
    → new ≡ with_text table (key_of x.words.now (below x.depth (reverse rs))) → new_ms ≡ ms ++ r ∷ []
    → Marked new ls now new_rs new_ms
one-more table new ls now left x r rs new_rs ms new_ms m e at root others put pushed =
    let w = m.within in
    let h : now < length ls = omega (arith, w, e) in
    let ps = drop left (read_all ls) in
    let p = read x in
    let behind : drop now (read_all ls) ≡ p ∷ ps =
    drop-read ls now ∙ lines-from ls now x h at ∙ ap (λ z. p ∷ z) (sym (drop-read ls (now + 1)) ∙ ap (λ k. drop k (read_all ls)) e) in
    let key = key_of p.words (below p.depth (roots table ps)) in
    let same : new ≡ with_text table key = put ∙ ap (λ z. with_text table (key_of p.words (below p.depth z))) m.roots in
    let first : r ≡ root_of table p (roots table ps) = root ∙ ap (root_of table p) m.roots in
    record {
      within = omega (arith, h);
      roots = others ∙ (λ j. first j ∷ beside p.depth (m.roots j)) ∙ sym (roots-put table p ps m.found) ∙ (λ j. roots (sym same j) (sym behind j));
      marks = ap reverse pushed ∙ reverse-append ms (r ∷ []) ∙ (λ j. first j ∷ m.marks j) ∙ sym (marks-put table p ps m.found) ∙ (λ j. marks (sym same j) (sym behind j));
      found = all (with_text table key) new (p ∷ ps) (drop now (read_all ls)) (sym same) (sym behind) (found-put table p ps m.found);
    }
  where
    all : (t u : List (List ℕ)) (xs ys : List Piece) → t ≡ u → xs ≡ ys → AreFound t xs → AreFound u ys
    all t u xs ys a b f = subst (λ z. AreFound z ys) a (subst (AreFound t) b f)

pub all-marked : (table : List (List ℕ)) (ls : List Line) (rs ms new : List Root) → length ls < 2 ^ 63 → Marked table ls 0 rs ms → new ≡ reverse ms → AreMarks (read_all ls) new
all-marked table ls rs ms new small m e =
    let size : length (read_all ls) < 2 ^ 63 = omega (arith, small, length-map ls read) in
    let same : marks table (read_all ls) ≡ new = sym m.marks ∙ sym e in
    subst (AreMarks (read_all ls)) same (marks-are table (read_all ls) size)
