-- Printed files of version 2, and the files of version 1 that they stand for.
use Rattle.std.proofs.Common.{◌≡◌, ◌∙◌, ℕ, ◌+◌, ◌-◌, ◌*◌, ◌/◌, ◌%◌, ◌^◌, ◌<◌, ◌≤◌, Bool, true, false, not, ◌&&◌, List, [], ◌∷◌, ◌++◌, length, map, flat_map, codes, decimal, Option, None, Some, Ok, refl, sym, ap, arith, append-nil, length-append}
use Rattle.std.specs.Prelude.{nat_lt}
use Rattle.std.specs.List.{list_all}
use Rattle.std.proofs.lemmas.Bool.{and_parts, and_from, false≢true, lt-ltb}
use Rattle.std.proofs.lemmas.Fmt.{decimal_by_steps}
use Rattle.std.proofs.lemmas.Grind.{flat_map-append}
use Rattle.std.proofs.lemmas.List.{map-append}
use Rattle.std.proofs.lemmas.List.Folds.{list_all-append}
use Rattle.scasp_num.specs.Arithmetic.{◌>>=◌}
use Rattle.scasp_list.specs.Each.{Each}
use Rattle.scasp_reader_tokens.specs.Bytes.{is_of_line}
use Rattle.scasp_reader_tokens.specs.Numbers.{digits_value}
use Rattle.scasp_reader_tokens.proofs.NumberLemmas.{digits_value-append}
use Rattle.scasp_cert.specs.Certificate.{Certificate}
use Rattle.scasp_cert.specs.Text.Block.{block_text}
use Rattle.scasp_copies.specs.Pieces.{Piece as Words, piece_of, piece_text as text_of, split_lines}
use Rattle.scasp_copies.specs.Copies.{last_number}
use Rattle.scasp_copies.specs.Writing.{copy_line, is_copy_line, written_out}
use Rattle.scasp_print_shared.specs.Shared.{shared_block, shared_lines, shared_text}
use Rattle.scasp_print_shared.proofs.WordLemmas.{decimal-digits, last-behind}
use Rattle.scasp_answers_terms.specs.Tokens.Bounds.{is_place, line_fits}
use Rattle.scasp_answers_terms.specs.Tokens.Tokens.{tokens_in}
use Rattle.scasp_answers_terms.specs.Tokens.Readers.{number_at}
use Rattle.scasp_answers_terms.specs.Tokens.Lines.{header_line, words_of}
use Rattle.scasp_answers.specs.Blocks.Blocks.{Placed, at, placed_text, block_lines}
use Rattle.scasp_answers.specs.Blocks.States.{Entry}
use Rattle.scasp_answers.specs.Blocks.Files.{alone, byte_limit, copy_in, number_alone, is_second, file_in}
use Rattle.scasp_law_copies.specs.Written.{pieces_in, pieces_among, written_lines, told_past, first_header, second_header, is_of_first, IsSpelled, WrittenOut}
use Rattle.scasp_law_answer_text.specs.LineReadback.Texts.{Piece, remark, answer, ending, rejection, piece_text, piece_entries, file_text, is_printable}
use Rattle.scasp_law_answer_text.specs.LineReadback.Writable.{IsTable, is_written}
use Rattle.scasp_law_answer_text.proofs.LineReadbackLemmas.Feeds.{IsClean, clean-append, clean-decimal, words-clean_line, words-begin}
use Rattle.scasp_law_answer_text.proofs.LineReadbackLemmas.Numerals.{digits-read}
use Rattle.scasp_law_answer_text.proofs.LineReadbackLemmas.NoCopies.{one_text, no-copy}
use Rattle.scasp_law_answer_text.proofs.LineReadbackLemmas.Files.{Row, comment, written, row_text, is_row_fine, row_words, rows_of, header, placed-rows, piece-rows, file-rows, piece-fine, header-fine}
use Rattle.scasp_law_shared_text.specs.Shared.{shared_piece, shared_file}
use Rattle.scasp_law_shared_text.proofs.Items.{each-append, Item, remark_item, words_item, item_line, item_text, items_text, item_pieces, pieces_of, IsSound, IsGood, words-good, good-spelled, words-pieces, words-text, split-items, piece-back, among-items, words-shorter, count-shorter}
use Rattle.scasp_law_shared_text.proofs.Blocks.{HasNoCopy, once, block-each, line-out, plain-written, written-append, block-written}
use Rattle.scasp_law_shared_text.proofs.Lengths.{IsLong, size, words-long, block-shorter}
use Rattle.scasp_law_shared_text.proofs.NoTrees.{block-words-once}

-- ---- the number of a copy

abbrev Spells : ℕ → List ℕ → Type 0
Spells n ds = digits_value 0 ds ≡ n

one-digit : (n : ℕ) → n < 10 → Spells n ((48 + n) ∷ [])
one-digit n h = omega arith

more-digits : (n : ℕ) (ds : List ℕ) → 10 ≤ n → Spells (n / 10) ds → Spells n (ds ++ (48 + n % 10) ∷ [])
more-digits n ds h s =
    let value : 10 * (n / 10) + (48 + n % 10 - 48) ≡ n = omega arith in
    digits_value-append 0 ds ((48 + n % 10) ∷ []) ∙ ap (λ v. 10 * v + (48 + n % 10 - 48)) s ∙ value

number-last : (depth n : ℕ) → n < 2 ^ 64 → last_number (copy_line depth n).words ≡ n
number-last depth n h =
    ap (digits_value 0) (last-behind (codes "copy ") (decimal n) refl (decimal-digits n h)) ∙ decimal_by_steps Spells one-digit more-digits n h

number-read : (n : ℕ) → n < 2 ^ 128 → number_alone (decimal n) ≡ Some n
unfolding tokens_in
number-read n h =
    ap (λ ts. number_at ts >>= alone) (ap tokens_in (sym (append-nil (decimal n))) ∙ digits-read n [] h (refl, refl))

copy-good : (d n : ℕ) → n ≤ byte_limit → IsSound (copy_line d n) × IsSpelled (copy_line d n)
copy-good d n h =
    let wide : n < 2 ^ 128 = omega (arith, h) in
    let narrow : n < 2 ^ 64 = omega (arith, h) in
    let clean : IsClean (codes "copy " ++ decimal n) = clean-append (codes "copy ") (decimal n) refl (clean-decimal n) in
    let last : last_number (copy_line d n).words ≡ n = number-last d n narrow in
    let place : is_place n ≡ true = lt-ltb n (2 ^ 63) (omega (arith, h)) in
    ((clean, refl), λ c. (number-read n wide ∙ ap Some (sym last), ap is_place last ∙ place))

-- ---- rows

module _ (names : List (List ℕ)) (table : IsTable names) where
  abbrev item_of : Row → Item
  item_of (comment text) = remark_item text
  item_of (written p) = words_item (row_words names table p)

  rows-text : (rows : List Row) → flat_map (row_text names) rows ≡ items_text (map item_of rows)
  rows-text [] = refl
  rows-text (comment text ∷ rows) = ap (λ r. row_text names (comment text) ++ r) (rows-text rows)
  rows-text (written p ∷ rows) = ap (λ r. row_text names (written p) ++ r) (rows-text rows)

  plain-row : (p : Placed) → is_row_fine (length names) (written p) ≡ true → (is_copy_line (row_words names table p) ≡ false) × (is_second (words_of names p.line) ≡ false)
  plain-row p e = no-copy names (length names) p.line (and_parts (is_written (length names) p.line) (line_fits p.line) e).0

  good-row : (r : Row) → is_row_fine (length names) r ≡ true → IsGood (item_of r)
  good-row (comment text) e = e
  good-row (written p) e =
      let h = and_parts (is_written (length names) p.line) (line_fits p.line) e in
      ((words-clean_line names (length names) p.line h.0, words-begin names p.line), λ c. absurd (false≢true (sym (plain-row p e).0 ∙ c)))

  good-rows : (rows : List Row) → list_all (is_row_fine (length names)) rows ≡ true → Each IsGood (map item_of rows)
  good-rows [] e = tt
  good-rows (r ∷ rows) e = let k = and_parts (is_row_fine (length names) r) (list_all (is_row_fine (length names)) rows) e in (good-row r k.0, good-rows rows k.1)

  first-rows : (rows : List Row) → list_all (is_row_fine (length names)) rows ≡ true → list_all is_of_first (pieces_of (map item_of rows)) ≡ true
  first-rows [] e = refl
  first-rows (comment text ∷ rows) e = first-rows rows (and_parts (is_row_fine (length names) (comment text)) (list_all (is_row_fine (length names)) rows) e).1
  first-rows (written p ∷ rows) e =
      let k = and_parts (is_row_fine (length names) (written p)) (list_all (is_row_fine (length names)) rows) e in
      let h = plain-row p k.0 in
      and_from (is_of_first (row_words names table p)) (list_all is_of_first (pieces_of (map item_of rows)))
      (and_from (not (is_copy_line (row_words names table p))) (not (is_second (words_of names p.line))) (ap not h.0) (ap not h.1)) (first-rows rows k.1)

  plain-rows : (rows : List Row) → list_all (is_row_fine (length names)) rows ≡ true → HasNoCopy (pieces_of (map item_of rows))
  plain-rows [] e = refl
  plain-rows (comment text ∷ rows) e = plain-rows rows (and_parts (is_row_fine (length names) (comment text)) (list_all (is_row_fine (length names)) rows) e).1
  plain-rows (written p ∷ rows) e =
      let k = and_parts (is_row_fine (length names) (written p)) (list_all (is_row_fine (length names)) rows) e in
      and_from (not (is_copy_line (row_words names table p))) (list_all (λ q. not (is_copy_line q)) (pieces_of (map item_of rows))) (ap not (plain-row p k.0).0) (plain-rows rows k.1)

  -- the words of placed lines
  abbrev words_of_lines : List Placed → List Words
  words_of_lines ps = map (row_words names table) ps

  placed-pieces : (ps : List Placed) → pieces_of (map item_of (map written ps)) ≡ words_of_lines ps
  placed-pieces [] = refl
  placed-pieces (p ∷ ps) = ap (λ r. row_words names table p ∷ r) (placed-pieces ps)

  back : (ps : List Placed) → Each IsGood (map item_of (map written ps)) → map piece_of (map item_line (map item_of (map written ps))) ≡ words_of_lines ps
  back [] e = refl
  back (p ∷ ps) e = λ i. piece-back names table (row_words names table p) e.0.0 i ∷ back ps e.1 i

  placed-text : (ps : List Placed) → items_text (map item_of (map written ps)) ≡ flat_map text_of (words_of_lines ps)
  placed-text [] = refl
  placed-text (p ∷ ps) = ap (λ r. text_of (row_words names table p) ++ r) (placed-text ps)

  each-long : (ps : List Placed) → Each IsLong (words_of_lines ps)
  each-long [] = tt
  each-long (p ∷ ps) = (words-long names p.line, each-long ps)

  each-words : (ps : List Placed) → Each IsGood (map item_of (map written ps)) → Each (λ p. IsSound p × IsSpelled p) (words_of_lines ps)
  each-words [] e = tt
  each-words (p ∷ ps) e = (e.0, each-words ps e.1)

-- ---- printed pieces

-- `blocks` is the law that the text of a block is that of its lines
module _ (names : List (List ℕ)) (table : IsTable names) (blocks : (c : Certificate) (n : ℕ) → block_text names c n ≡ flat_map (placed_text names) (block_lines c n)) where
  abbrev first_items : Piece → List Item
  first_items x = map (item_of names table) (rows_of names table blocks x)

  abbrev block_words : Certificate → ℕ → List Words
  block_words c n = words_of_lines names table (block_lines c n)

  abbrev second_items : Piece → List Item
  second_items (remark text) = first_items (remark text)
  second_items (answer n c) = map words_item (shared_block (block_words c n))
  second_items (ending e q) = first_items (ending e q)
  second_items (rejection q n at_line reason) = first_items (rejection q n at_line reason)

  first-text : (x : Piece) → piece_text names x ≡ items_text (first_items x)
  first-text x = piece-rows names table blocks x ∙ rows-text names table (rows_of names table blocks x)

  first-good : (x : Piece) → is_printable (length names) x ≡ true → Each IsGood (first_items x)
  first-good x e = good-rows names table (rows_of names table blocks x) (piece-fine names table blocks x e)

  second-text : (x : Piece) → is_printable (length names) x ≡ true → shared_piece names x ≡ items_text (second_items x)
  unfolding shared_text
  second-text (remark text) e = first-text (remark text)
  second-text (answer n c) e =
      let items = first_items (answer n c) in
      let split : split_lines (block_text names c n) ≡ record { lines = map item_line items; rest = [] } =
      ap split_lines (first-text (answer n c)) ∙ split-items items (first-good (answer n c) e) in
      ap (λ s. flat_map text_of (shared_block (map piece_of s.lines)) ++ s.rest) split
      ∙ append-nil (flat_map text_of (shared_block (map piece_of (map item_line items))))
      ∙ ap (λ ps. flat_map text_of (shared_block ps)) (back names table (block_lines c n) (first-good (answer n c) e))
      ∙ words-text (shared_block (block_words c n))
  second-text (ending q n) e = first-text (ending q n)
  second-text (rejection q n at_line reason) e = first-text (rejection q n at_line reason)

  -- a block has at most as many lines as bytes
  few-lines : (c : Certificate) (n : ℕ) → length (block_words c n) ≤ length (block_text names c n)
  few-lines c n =
      let items = first_items (answer n c) in
      let text : length (block_text names c n) ≡ length (items_text items) = ap length (first-text (answer n c)) in
      let lines : length (pieces_of items) ≡ length (block_words c n) = ap length (placed-pieces names table (block_lines c n)) in
      omega (arith, text, lines, count-shorter (pieces_of items), words-shorter items)

  second-good : (x : Piece) → is_printable (length names) x ≡ true → length (piece_text names x) ≤ byte_limit → Each IsGood (second_items x)
  second-good (remark text) e h = first-good (remark text) e
  second-good (answer n c) e h =
      words-good (shared_block (block_words c n))
      (block-each (λ p. IsSound p × IsSpelled p) byte_limit copy-good (block_words c n) (each-words names table (block_lines c n) (first-good (answer n c) e)) (omega (arith, h, few-lines c n)))
  second-good (ending q n) e h = first-good (ending q n) e
  second-good (rejection q n at_line reason) e h = first-good (rejection q n at_line reason) e

  -- no longer than the piece of version 1
  second-shorter : (x : Piece) → is_printable (length names) x ≡ true → length (piece_text names x) ≤ byte_limit → length (shared_piece names x) ≤ length (piece_text names x)
  second-shorter (remark text) e h = omega arith
  second-shorter (answer n c) e h =
      let ws = block_words c n in
      let whole : length (block_text names c n) ≡ size ws = ap length (first-text (answer n c) ∙ placed-text names table (block_lines c n)) in
      let shared : length (shared_text (block_text names c n)) ≡ size (shared_block ws) = ap length (second-text (answer n c) e ∙ sym (words-text (shared_block ws))) in
      omega (arith, whole, shared, block-shorter ws (each-long names table (block_lines c n)) (omega (arith, h, few-lines c n)))
  second-shorter (ending q n) e h = omega arith
  second-shorter (rejection q n at_line reason) e h = omega arith

  -- ---- files

  abbrev firsts : List Piece → List Item
  firsts xs = flat_map first_items xs

  abbrev seconds : List Piece → List Item
  seconds xs = flat_map second_items xs

  abbrev ArePrintable : List Piece → Type 0
  ArePrintable xs = list_all (is_printable (length names)) xs ≡ true

  items-append : (xs ys : List Item) → items_text (xs ++ ys) ≡ items_text xs ++ items_text ys
  items-append xs ys = flat_map-append item_text xs ys

  firsts-rows : (xs : List Piece) → map (item_of names table) (flat_map (rows_of names table blocks) xs) ≡ firsts xs
  firsts-rows [] = refl
  firsts-rows (x ∷ xs) = map-append (item_of names table) (rows_of names table blocks x) (flat_map (rows_of names table blocks) xs) ∙ ap (λ r. first_items x ++ r) (firsts-rows xs)

  seconds-text : (xs : List Piece) → ArePrintable xs → flat_map (shared_piece names) xs ≡ items_text (seconds xs)
  seconds-text [] e = refl
  seconds-text (x ∷ xs) e =
      let k = and_parts (is_printable (length names) x) (list_all (is_printable (length names)) xs) e in
      (λ i. second-text x k.0 i ++ seconds-text xs k.1 i) ∙ sym (items-append (second_items x) (seconds xs))

  abbrev text_size : List Piece → ℕ
  text_size xs = length (flat_map (piece_text names) xs)

  size-cons : (x : Piece) (xs : List Piece) → text_size (x ∷ xs) ≡ length (piece_text names x) + text_size xs
  size-cons x xs = length-append (piece_text names x) (flat_map (piece_text names) xs)

  seconds-good : (xs : List Piece) → ArePrintable xs → text_size xs ≤ byte_limit → Each IsGood (seconds xs)
  seconds-good [] e h = tt
  seconds-good (x ∷ xs) e h =
      let k = and_parts (is_printable (length names) x) (list_all (is_printable (length names)) xs) e in
      each-append IsGood (second_items x) (seconds xs) (second-good x k.0 (omega (arith, h, size-cons x xs))) (seconds-good xs k.1 (omega (arith, h, size-cons x xs)))

  seconds-shorter : (xs : List Piece) → ArePrintable xs → text_size xs ≤ byte_limit → length (flat_map (shared_piece names) xs) ≤ text_size xs
  seconds-shorter [] e h = omega arith
  seconds-shorter (x ∷ xs) e h =
      let k = and_parts (is_printable (length names) x) (list_all (is_printable (length names)) xs) e in
      omega (
        arith,
        size-cons x xs,
        length-append (shared_piece names x) (flat_map (shared_piece names) xs),
        second-shorter x k.0 (omega (arith, h, size-cons x xs)),
        seconds-shorter xs k.1 (omega (arith, h, size-cons x xs)),
      )

  -- `law` is that the lines with their copies, written out, are the lines
  module _ (law : (told ps : List Words) → length told + length ps < 2 ^ 64 → HasNoCopy ps → written_out told (shared_lines told ps) ≡ Some ps) where
    plain-piece : (told : List Words) (x : Piece) → is_printable (length names) x ≡ true → written_lines told (pieces_of (first_items x)) ≡ Some (pieces_of (first_items x))
    plain-piece told x e = plain-written told (pieces_of (first_items x)) (plain-rows names table (rows_of names table blocks x) (piece-fine names table blocks x e))

    written-piece : (told : List Words) (x : Piece) → is_printable (length names) x ≡ true → length (piece_text names x) ≤ byte_limit
        → written_lines told (pieces_of (second_items x)) ≡ Some (pieces_of (first_items x))
    written-piece told (remark text) e h = plain-piece told (remark text) e
    written-piece told (answer n c) e h =
        let ws = block_words c n in
        let same = placed-pieces names table (block_lines c n) in
        let plain : HasNoCopy ws = ap (list_all (λ q. not (is_copy_line q))) (sym same) ∙ plain-rows names table (rows_of names table blocks (answer n c)) (piece-fine names table blocks (answer n c) e) in
        let small : length ws < 2 ^ 64 = omega (arith, h, few-lines c n) in
        ap (written_lines told) (words-pieces (shared_block ws)) ∙ block-written law told ws plain (block-words-once names c n) small ∙ ap Some (sym same)
    written-piece told (ending q n) e h = plain-piece told (ending q n) e
    written-piece told (rejection q n at_line reason) e h = plain-piece told (rejection q n at_line reason) e

    written-pieces : (xs : List Piece) → ArePrintable xs → text_size xs ≤ byte_limit → (told : List Words) → written_lines told (pieces_of (seconds xs)) ≡ Some (pieces_of (firsts xs))
    written-pieces [] e h told = refl
    written-pieces (x ∷ xs) e h told =
        let k = and_parts (is_printable (length names) x) (list_all (is_printable (length names)) xs) e in
        ap (written_lines told) (flat_map-append item_pieces (second_items x) (seconds xs))
        ∙ written-append told (pieces_of (second_items x)) (pieces_of (seconds xs)) (pieces_of (first_items x)) (pieces_of (firsts xs))
        (written-piece told x k.0 (omega (arith, h, size-cons x xs))) (written-pieces xs k.1 (omega (arith, h, size-cons x xs)))
        ∙ ap Some (sym (flat_map-append item_pieces (first_items x) (firsts xs)))

    -- ---- the two files

    first-header : item_of names table (header names table blocks) ≡ words_item first_header
    unfolding words_of
    first-header = ap (λ ds. words_item (record { depth = 0; words = codes "scasp " ++ ds })) one_text

    first-file : (xs : List Piece) → file_text names xs ≡ items_text (words_item first_header ∷ firsts xs)
    first-file xs =
        file-rows names table blocks xs ∙ rows-text names table (header names table blocks ∷ flat_map (rows_of names table blocks) xs)
        ∙ (λ i. items_text (first-header i ∷ firsts-rows xs i))

    second-file : (xs : List Piece) → ArePrintable xs → shared_file names xs ≡ items_text (words_item second_header ∷ seconds xs)
    second-file xs e = ap (λ r. codes "scasp 2\n" ++ r) (seconds-text xs e)

    lines-in : (text : List ℕ) (items : List Item) → text ≡ items_text items → Each IsGood items → (pieces_in text ≡ pieces_of items) × ((split_lines text).rest ≡ [])
    lines-in text items t e =
        let split = ap split_lines t ∙ split-items items e in
        (ap (λ s. pieces_among s.lines) split ∙ among-items names table items e, ap (λ s. s.rest) split)

    header-good : (w : Words) → IsSound w → is_copy_line w ≡ false → IsGood (words_item w)
    header-good w s plain = (s, λ c. absurd (false≢true (sym plain ∙ c)))

    firsts-good : (xs : List Piece) → ArePrintable xs → Each IsGood (firsts xs)
    firsts-good [] e = tt
    firsts-good (x ∷ xs) e =
        let k = and_parts (is_printable (length names) x) (list_all (is_printable (length names)) xs) e in
        each-append IsGood (first_items x) (firsts xs) (first-good x k.0) (firsts-good xs k.1)

    firsts-first : (xs : List Piece) → ArePrintable xs → list_all is_of_first (pieces_of (firsts xs)) ≡ true
    firsts-first [] e = refl
    firsts-first (x ∷ xs) e =
        let k = and_parts (is_printable (length names) x) (list_all (is_printable (length names)) xs) e in
        ap (list_all is_of_first) (flat_map-append item_pieces (first_items x) (firsts xs))
        ∙ list_all-append is_of_first (pieces_of (first_items x)) (pieces_of (firsts xs))
        ∙ and_from (list_all is_of_first (pieces_of (first_items x))) (list_all is_of_first (pieces_of (firsts xs)))
        (first-rows names table (rows_of names table blocks x) (piece-fine names table blocks x k.0)) (firsts-first xs k.1)

    pub stands-for : (xs : List Piece) → ArePrintable xs → length (file_text names xs) ≤ byte_limit → WrittenOut (shared_file names xs) (file_text names xs)
    stands-for xs e h =
        let head : List ℕ = codes "scasp 1\n" in
        let other : List ℕ = codes "scasp 2\n" in
        let size : text_size xs ≤ byte_limit = omega (arith, h, length-append head (flat_map (piece_text names) xs)) in
        let second = lines-in (shared_file names xs) (words_item second_header ∷ seconds xs) (second-file xs e) (header-good second_header (refl, refl) refl, seconds-good xs e size) in
        let first = lines-in (file_text names xs) (words_item first_header ∷ firsts xs) (first-file xs) (header-good first_header (refl, refl) refl, firsts-good xs e) in
        let shorter = words-shorter (words_item first_header ∷ firsts xs) in
        record {
          lines = pieces_of (seconds xs);
          written = pieces_of (firsts xs);
          begins_second = second.0;
          ends = second.1;
          within = omega (arith, h, seconds-shorter xs e size, length-append head (flat_map (piece_text names) xs), length-append other (flat_map (shared_piece names) xs));
          begins_first = first.0;
          written_within = omega (arith, h, shorter, ap length (first-file xs));
          are_spelled = good-spelled (seconds xs) (seconds-good xs e size);
          are_first = firsts-first xs e;
          are_written = line-out [] second_header (pieces_of (seconds xs)) (pieces_of (firsts xs)) refl (written-pieces xs e size (told_past [] (second_header ∷ [])));
        }
