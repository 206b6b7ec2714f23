-- Lines of a file, remarks among them, and their text.
use Rattle.std.proofs.Common.{◌≡◌, ◌∙◌, ℕ, ◌+◌, ◌≤◌, Bool, true, false, List, [], ◌∷◌, ◌++◌, length, drop, map, flat_map, replicate, codes, refl, sym, ap, arith, append_assoc, length-append}
use Rattle.std.specs.Prelude.{if◌then◌else◌}
use Rattle.scasp_list.specs.Each.{Each}
use Rattle.scasp_copies.specs.Pieces.{Piece, piece_of, piece_text, split_lines}
use Rattle.scasp_answers.specs.Blocks.Files.{is_remark}
use Rattle.scasp_law_copies.specs.Written.{pieces_among, IsSpelled}
use Rattle.scasp_law_answer_text.specs.LineReadback.Endings.{begins_lower}
use Rattle.scasp_law_answer_text.specs.LineReadback.Writable.{IsTable}
use Rattle.scasp_law_answer_text.proofs.LineReadbackLemmas.Feeds.{IsClean, clean-append}
use Rattle.scasp_law_answer_text.proofs.LineReadbackLemmas.Files.{split-line, clean-blanks, indent-words, drop-words, no-remark}

-- ---- lists

pub each-append : {A : Type 0} (P : A → Type 0) (xs ys : List A) → Each P xs → Each P ys → Each P (xs ++ ys)
each-append P [] ys a b = b
each-append P (x ∷ xs) ys a b = (a.0, each-append P xs ys a.1 b)

pub each-front : {A : Type 0} (P : A → Type 0) (xs ys : List A) → Each P (xs ++ ys) → Each P xs
each-front P [] ys a = tt
each-front P (x ∷ xs) ys a = (a.0, each-front P xs ys a.1)

pub each-behind : {A : Type 0} (P : A → Type 0) (xs ys : List A) → Each P (xs ++ ys) → Each P ys
each-behind P [] ys a = a
each-behind P (x ∷ xs) ys a = each-behind P xs ys a.1

-- ---- items

-- a remark, by its text behind `%`, or words behind blanks
pub data Item : Type 0 where
  remark_item : List ℕ → Item
  words_item : Piece → Item

abbrev pub item_line : Item → List ℕ
item_line (remark_item text) = 37 ∷ text
item_line (words_item p) = replicate p.depth 32 ++ p.words

abbrev pub item_text : Item → List ℕ
item_text i = item_line i ++ codes "\n"

abbrev pub items_text : List Item → List ℕ
items_text items = flat_map item_text items

abbrev pub item_pieces : Item → List Piece
item_pieces (remark_item text) = []
item_pieces (words_item p) = p ∷ []

abbrev pub pieces_of : List Item → List Piece
pieces_of items = flat_map item_pieces items

-- one line, with a letter first
abbrev pub IsSound : Piece → Type 0
IsSound p = IsClean p.words × (begins_lower p.words ≡ true)

abbrev pub IsGood : Item → Type 0
IsGood (remark_item text) = IsClean text
IsGood (words_item p) = IsSound p × IsSpelled p

pub words-good : (ps : List Piece) → Each (λ p. IsSound p × IsSpelled p) ps → Each IsGood (map words_item ps)
words-good [] e = tt
words-good (p ∷ ps) e = (e.0, words-good ps e.1)

pub good-spelled : (items : List Item) → Each IsGood items → Each IsSpelled (pieces_of items)
good-spelled [] e = tt
good-spelled (remark_item text ∷ items) e = good-spelled items e.1
good-spelled (words_item p ∷ items) e = (e.0.1, good-spelled items e.1)

pub words-pieces : (ps : List Piece) → pieces_of (map words_item ps) ≡ ps
words-pieces [] = refl
words-pieces (p ∷ ps) = ap (λ r. p ∷ r) (words-pieces ps)

pub words-text : (ps : List Piece) → flat_map piece_text ps ≡ items_text (map words_item ps)
words-text [] = refl
words-text (p ∷ ps) = ap (λ r. piece_text p ++ r) (words-text ps)

-- ---- as bytes

item-clean : (i : Item) → IsGood i → IsClean (item_line i)
item-clean (remark_item text) e = e
item-clean (words_item p) e = clean-append (replicate p.depth 32) p.words (clean-blanks p.depth) e.0.0

pub split-items : (items : List Item) → Each IsGood items → split_lines (items_text items) ≡ record { lines = map item_line items; rest = [] }
split-items [] e = refl
split-items (i ∷ items) e =
    ap split_lines (append_assoc (item_line i) (codes "\n") (items_text items))
    ∙ split-line (item_line i) (items_text items) (item-clean i e.0)
    ∙ ap (λ s. record { lines = item_line i ∷ s.lines; rest = s.rest }) (split-items items e.1)

module _ (names : List (List ℕ)) (table : IsTable names) where
  pub piece-back : (p : Piece) → IsSound p → piece_of (item_line (words_item p)) ≡ p
  piece-back p e =
      ap (λ d. record { depth = d; words = drop d (replicate p.depth 32 ++ p.words) }) (indent-words names table p.depth p.words e.1)
      ∙ ap (λ bytes. record { depth = p.depth; words = bytes }) (drop-words names table p.depth p.words)

  pub among-items : (items : List Item) → Each IsGood items → pieces_among (map item_line items) ≡ pieces_of items
  among-items [] e = refl
  among-items (remark_item text ∷ items) e = among-items items e.1
  among-items (words_item p ∷ items) e =
      let line = item_line (words_item p) in
      let ls = map item_line items in
      ap (λ (b : Bool). if b then pieces_among ls else piece_of line ∷ pieces_among ls) (no-remark names table p.depth p.words e.0.0.1)
      ∙ (λ i. piece-back p e.0.0 i ∷ among-items items e.1 i)

-- ---- lengths

pub words-shorter : (items : List Item) → length (flat_map piece_text (pieces_of items)) ≤ length (items_text items)
words-shorter [] = omega arith
words-shorter (remark_item text ∷ items) =
    omega (arith, words-shorter items, length-append (item_text (remark_item text)) (items_text items))
words-shorter (words_item p ∷ items) =
    omega (arith, words-shorter items, length-append (item_text (words_item p)) (items_text items), length-append (piece_text p) (flat_map piece_text (pieces_of items)))

pub count-shorter : (ps : List Piece) → length ps ≤ length (flat_map piece_text ps)
count-shorter [] = omega arith
count-shorter (p ∷ ps) =
    let feed : List ℕ = codes "\n" in
    let blanks : List ℕ = replicate p.depth 32 in
    omega (arith, count-shorter ps, length-append (piece_text p) (flat_map piece_text ps), length-append (blanks ++ p.words) feed)
