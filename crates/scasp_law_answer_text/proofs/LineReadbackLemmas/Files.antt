-- Files are read back.
use Rattle.std.proofs.Common.{◌≡◌, ℕ, zero, suc, ◌+◌, ◌<◌, ◌≤◌, Bool, true, false, cond, ◌&&◌, ◌==◌, nat_lt, List, [], ◌∷◌, ◌++◌, length, drop, flat_map, replicate, codes, decimal, Option, None, Some, Result, Ok, Err, refl, sym, ap, ◌∙◌, arith, append_assoc, append-nil}
use Rattle.std.specs.Prelude.{if◌then◌else◌, map}
use Rattle.std.specs.List.{list_all, take_while}
use Rattle.std.proofs.lemmas.Bool.{and_parts, and_from, false≢true}
use Rattle.std.proofs.lemmas.Bool.Decides.{nat_tests}
use Rattle.std.proofs.lemmas.List.Folds.{list_all-append}
use Rattle.std.proofs.lemmas.List.Sums.{take_while-cons}
use Rattle.scasp_num.specs.Arithmetic.{◌>>=◌}
use Rattle.scasp_reader_tokens.specs.Bytes.{is_of_line, is_lower}
use Rattle.scasp_cert.specs.Certificate.{Certificate}
use Rattle.scasp_cert.specs.Text.Trees.{line_text}
use Rattle.scasp_cert.specs.Text.Block.{block_text}
use Rattle.scasp_reader_terms.specs.Names.{place_in}
use Rattle.scasp_answers_terms.specs.Tokens.Bounds.{line_fits}
use Rattle.scasp_answers_terms.specs.Tokens.Forms.{line_in}
use Rattle.scasp_answers_terms.specs.Tokens.Lines.{Line, header_line, ending_line, rejected_line, words_of}
use Rattle.scasp_answers.specs.Blocks.Blocks.{Placed, at, placed_text, block_lines}
use Rattle.scasp_answers.specs.Blocks.States.{Entry, State, first_state, next_state}
use Rattle.scasp_copies.specs.Pieces.{Piece as Words, piece_of}
use Rattle.scasp_copies.specs.Writing.{is_copy_line}
use Rattle.scasp_answers.specs.Blocks.Files.{Reading, fault, with_byte, split_lines, is_remark, indent, in_order, judged, Versioned, first_versioned, is_second, line_judged, fault_place, proceeds, is_between, read_lines, byte_limit, file_in}
use Rattle.scasp_answers.specs.declared.blocks.version.Version.TheVariants as version
use Rattle.scasp_answers.specs.declared.blocks.fault.AnswerKind.{AnswerKind}
use Rattle.scasp_answers.specs.declared.blocks.fault.AnswerKind.TheVariants as kind
use Rattle.scasp_law_answer_text.specs.AnswerReadback.Reading.{read_placed, has_read}
use Rattle.scasp_law_answer_text.proofs.AnswerReadbackLemmas.Leads.{read-append, read-cons}
use Rattle.scasp_law_answer_text.proofs.AnswerReadbackLemmas.BlockLeads.{the-block}
use Rattle.scasp_law_answer_text.specs.LineReadback.Endings.{begins_lower}
use Rattle.scasp_law_answer_text.specs.LineReadback.Writable.{IsTable, is_written}
use Rattle.scasp_law_answer_text.specs.LineReadback.Texts.{Piece, remark, answer, ending, rejection, piece_text, file_text, piece_lines, piece_entries, are_printable, is_printable}
use Rattle.scasp_law_answer_text.proofs.LineReadbackLemmas.Lines.{writable-read}
use Rattle.scasp_law_answer_text.proofs.LineReadbackLemmas.NoCopies.{one_text, no-copy}
use Rattle.scasp_law_answer_text.proofs.LineReadbackLemmas.Feeds.{IsClean, clean-append, words-clean_line, words-begin}

-- ---- rows: the lines of a file, remarks among them

-- a line that is written, or the text of a remark behind `%`
pub data Row : Type 0 where
  comment : List ℕ → Row
  written : Placed → Row

abbrev pub row_bytes : List (List ℕ) → Row → List ℕ
row_bytes names (comment text) = 37 ∷ text
row_bytes names (written p) = replicate p.depth 32 ++ words_of names p.line

abbrev pub row_text : List (List ℕ) → Row → List ℕ
row_text names r = row_bytes names r ++ codes "\n"

abbrev pub row_lines : Row → List Placed
row_lines (comment text) = []
row_lines (written p) = p ∷ []

abbrev pub is_row_fine : ℕ → Row → Bool
is_row_fine count (comment text) = list_all is_of_line text
is_row_fine count (written p) = is_written count p.line && line_fits p.line

-- ---- splitting into lines

pub split-line : (line rest : List ℕ) → IsClean line → split_lines (line ++ (10 ∷ rest)) ≡ record { lines = line ∷ (split_lines rest).lines; rest = (split_lines rest).rest }
split-line [] rest e = refl
split-line (b ∷ line) rest e =
    let p = and_parts (is_of_line b) (list_all is_of_line line) e in
    let other : (b == 10) ≡ false = not-feed b p.0 in
    ap (λ t. if t then record { lines = [] ∷ (split_lines (line ++ (10 ∷ rest))).lines; rest = (split_lines (line ++ (10 ∷ rest))).rest } else with_byte b (split_lines (line ++ (10 ∷ rest)))) other
    ∙ ap (with_byte b) (split-line line rest p.1)
  where
    not-feed : (b : ℕ) → is_of_line b ≡ true → (b == 10) ≡ false
    not-feed b e = grind (arith, nat_tests)

pub clean-blanks : (d : ℕ) → IsClean (replicate d 32)
clean-blanks zero = refl
clean-blanks (suc d) = clean-blanks d

module _ (names : List (List ℕ)) (table : IsTable names) where
  row-clean : (r : Row) → is_row_fine (length names) r ≡ true → IsClean (row_bytes names r)
  row-clean (comment text) e = e
  row-clean (written p) e =
      let h = and_parts (is_written (length names) p.line) (line_fits p.line) e in
      clean-append (replicate p.depth 32) (words_of names p.line) (clean-blanks p.depth) (words-clean_line names (length names) p.line h.0)

  split-rows : (rows : List Row) → list_all (is_row_fine (length names)) rows ≡ true → split_lines (flat_map (row_text names) rows) ≡ record { lines = map (row_bytes names) rows; rest = [] }
  split-rows [] e = refl
  split-rows (r ∷ rows) e =
      let p = and_parts (is_row_fine (length names) r) (list_all (is_row_fine (length names)) rows) e in
      ap split_lines (append_assoc (row_bytes names r) (codes "\n") (flat_map (row_text names) rows))
      ∙ split-line (row_bytes names r) (flat_map (row_text names) rows) (row-clean r p.0)
      ∙ ap (λ s. record { lines = row_bytes names r ∷ s.lines; rest = s.rest }) (split-rows rows p.1)

  -- ---- one line

  abbrev is_blank : ℕ → Bool
  is_blank b = b == 32

  lower-no_blank : (b : ℕ) → is_lower b ≡ true → (b == 32) ≡ false
  lower-no_blank b e = grind (arith, nat_tests)

  lower-no_percent : (b : ℕ) → is_lower b ≡ true → (b == 37) ≡ false
  lower-no_percent b e = grind (arith, nat_tests)

  pub indent-words : (d : ℕ) (w : List ℕ) → begins_lower w ≡ true → indent (replicate d 32 ++ w) ≡ d
  indent-words zero [] e = absurd (false≢true e)
  indent-words zero (b ∷ w) e =
      ap length (take_while-cons (λ b. b == 32) b w) ∙ ap (λ t. length (cond t (b ∷ take_while (λ b. b == 32) w) [])) (lower-no_blank b e)
  indent-words (suc d) w e = ap length (take_while-cons (λ b. b == 32) 32 (replicate d 32 ++ w)) ∙ ap suc (indent-words d w e)

  pub drop-words : (d : ℕ) (w : List ℕ) → drop d (replicate d 32 ++ w) ≡ w
  drop-words zero w = refl
  drop-words (suc d) w = drop-words d w

  pub no-remark : (d : ℕ) (w : List ℕ) → begins_lower w ≡ true → is_remark (replicate d 32 ++ w) ≡ false
  no-remark zero [] e = absurd (false≢true e)
  no-remark zero (b ∷ w) e = lower-no_percent b e
  no-remark (suc d) w e = refl

  abbrev judge : State → ℕ → Option Line → Result State AnswerKind
  judge s depth o = elim o [ None ↦ Err kind.Line | Some l ↦ if line_fits l then in_order (next_state s (at depth l)) else Err kind.NumberTooLarge ]

  -- the words of a row
  abbrev pub row_words : Placed → Words
  row_words p = record { depth = p.depth; words = words_of names p.line }

  piece-row : (p : Placed) → piece_of (row_bytes names (written p)) ≡ row_words p
  piece-row p =
      let w = words_of names p.line in
      ap (λ d. record { depth = d; words = drop d (replicate p.depth 32 ++ w) }) (indent-words p.depth w (words-begin names p.line))
      ∙ ap (λ bytes. record { depth = p.depth; words = bytes }) (drop-words p.depth w)

  judged-row : (s t : State) (p : Placed) → is_row_fine (length names) (written p) ≡ true → next_state s p ≡ Some t → judged names s (row_words p) ≡ Ok t
  judged-row s t p e n =
      let h = and_parts (is_written (length names) p.line) (line_fits p.line) e in
      ap (judge s p.depth) (writable-read names p.line (record { table = table; written = h.0; fits = h.1 }))
      ∙ ap (λ b. if b then in_order (next_state s p) else Err kind.NumberTooLarge) h.1
      ∙ ap in_order n

  -- what has been read of a file of version 1
  abbrev first : State → Versioned
  first s = record first_versioned { state = s }

  plain-piece : (s t : State) (p : Words) → is_copy_line p ≡ false → is_second p.words ≡ false → judged names s p ≡ Ok t → line_judged names (first s) p ≡ Ok (first t)
  plain-piece s t p copy second j = rw (copy, second, j) refl

  -- a line that is neither a copy nor the header of version 2 leads to the state that it has by itself
  line-row : (s t : State) (p : Placed) → is_row_fine (length names) (written p) ≡ true → next_state s p ≡ Some t
      → line_judged names (first s) (piece_of (row_bytes names (written p))) ≡ Ok (first t)
  line-row s t p e n =
      let h = and_parts (is_written (length names) p.line) (line_fits p.line) e in
      let k = no-copy names (length names) p.line h.0 in
      ap (line_judged names (first s)) (piece-row p) ∙ plain-piece s t (row_words p) k.0 k.1 (judged-row s t p e n)

  -- ---- all lines

  rows-read : (rows : List Row) (s t : State) (place : ℕ) → list_all (is_row_fine (length names)) rows ≡ true → read_placed s (flat_map row_lines rows) ≡ Some t → is_between t.phase ≡ true
      → read_lines names (first s) place (map (row_bytes names) rows) [] ≡ Ok t.entries
  rows-read [] s t place e h b = let same : s ≡ t = cc in ap (λ u. if is_between u.phase then Ok u.entries else fault place kind.Cut) same ∙ rw b refl
  rows-read (comment text ∷ rows) s t place e h b =
      rows-read rows s t (place + length (37 ∷ text) + 1) (and_parts (list_all is_of_line text) (list_all (is_row_fine (length names)) rows) e).1 h b
  rows-read (written p ∷ rows) s t place e h b = by (next_state s p) refl (λ u g. rows-read rows u t (place + length (row_bytes names (written p)) + 1) parts.1 g b)
    where
      parts : (is_row_fine (length names) (written p) ≡ true) × (list_all (is_row_fine (length names)) rows ≡ true)
      parts = and_parts (is_row_fine (length names) (written p)) (list_all (is_row_fine (length names)) rows) e

      line : List ℕ
      line = row_bytes names (written p)

      by : (o : Option State) → next_state s p ≡ o
          → ((u : State) → read_placed u (flat_map row_lines rows) ≡ Some t → read_lines names (first u) (place + length (row_bytes names (written p)) + 1) (map (row_bytes names) rows) [] ≡ Ok t.entries)
          → read_lines names (first s) place (row_bytes names (written p) ∷ map (row_bytes names) rows) [] ≡ Ok t.entries
      by None n more = let none : None ≡ Some t = ap (λ o. o >>= (λ u. read_placed u (flat_map row_lines rows))) (sym n) ∙ h in cc
      by (Some u) n more =
          let behind : Versioned → Reading = λ w. read_lines names w (place + length line + 1) (map (row_bytes names) rows) [] in
          ap (λ b. if b then behind (first s) else proceeds (line_judged names (first s) (piece_of line)) (fault_place place line) behind)
          (no-remark p.depth (words_of names p.line) (words-begin names p.line))
          ∙ ap (λ r. proceeds r (fault_place place line) behind) (line-row s u p parts.0 n)
          ∙ more u (sym (ap (λ o. o >>= (λ u. read_placed u (flat_map row_lines rows))) n) ∙ h)

-- `blocks` is the law that the text of a block is that of its lines
module _ (names : List (List ℕ)) (table : IsTable names) (blocks : (c : Certificate) (n : ℕ) → block_text names c n ≡ flat_map (placed_text names) (block_lines c n)) where
  -- ---- a file as rows

  abbrev pub rows_of : Piece → List Row
  rows_of (remark text) = comment text ∷ []
  rows_of (answer n c) = map written (block_lines c n)
  rows_of (ending e q) = written (at 0 (ending_line e q)) ∷ []
  rows_of (rejection q n at_line reason) = written (at 0 (rejected_line q n at_line reason)) ∷ []

  abbrev pub header : Row
  header = written (at 0 (header_line 1))

  pub placed-rows : (ps : List Placed) → flat_map (placed_text names) ps ≡ flat_map (row_text names) (map written ps)
  unfolding line_text
  placed-rows [] = refl
  placed-rows (p ∷ ps) = ap (λ text. (replicate p.depth 32 ++ words_of names p.line ++ codes "\n") ++ text) (placed-rows ps)

  rows-append : (xs ys : List Row) → flat_map (row_text names) (xs ++ ys) ≡ flat_map (row_text names) xs ++ flat_map (row_text names) ys
  rows-append [] ys = refl
  rows-append (x ∷ xs) ys = ap (λ r. row_text names x ++ r) (rows-append xs ys) ∙ sym (append_assoc (row_text names x) (flat_map (row_text names) xs) (flat_map (row_text names) ys))

  pub piece-rows : (p : Piece) → piece_text names p ≡ flat_map (row_text names) (rows_of p)
  piece-rows (remark text) = sym (append-nil (37 ∷ (text ++ codes "\n")))
  piece-rows (answer n c) = blocks c n ∙ placed-rows (block_lines c n)
  piece-rows (ending e q) = sym (append-nil (words_of names (ending_line e q) ++ codes "\n"))
  piece-rows (rejection q n at_line reason) = sym (append-nil (words_of names (rejected_line q n at_line reason) ++ codes "\n"))

  pieces-rows : (ps : List Piece) → flat_map (piece_text names) ps ≡ flat_map (row_text names) (flat_map rows_of ps)
  pieces-rows [] = refl
  pieces-rows (p ∷ ps) = (λ i. piece-rows p i ++ pieces-rows ps i) ∙ sym (rows-append (rows_of p) (flat_map rows_of ps))

  header-row : codes "scasp 1\n" ≡ row_text names header
  unfolding words_of
  header-row = ap (λ ds. codes "scasp " ++ ds ++ codes "\n") (sym one_text)

  pub file-rows : (ps : List Piece) → file_text names ps ≡ flat_map (row_text names) (header ∷ flat_map rows_of ps)
  file-rows ps = λ i. header-row i ++ pieces-rows ps i

  -- ---- its lines

  lines-written : (ps : List Placed) → flat_map row_lines (map written ps) ≡ ps
  lines-written [] = refl
  lines-written (p ∷ ps) = ap (λ r. p ∷ r) (lines-written ps)

  lines-append : (xs ys : List Row) → flat_map row_lines (xs ++ ys) ≡ flat_map row_lines xs ++ flat_map row_lines ys
  lines-append [] ys = refl
  lines-append (comment text ∷ xs) ys = lines-append xs ys
  lines-append (written p ∷ xs) ys = ap (λ r. p ∷ r) (lines-append xs ys)

  piece-lines : (p : Piece) → flat_map row_lines (rows_of p) ≡ piece_lines p
  piece-lines (remark text) = refl
  piece-lines (answer n c) = lines-written (block_lines c n)
  piece-lines (ending e q) = refl
  piece-lines (rejection q n at_line reason) = refl

  pieces-lines : (ps : List Piece) → flat_map row_lines (flat_map rows_of ps) ≡ flat_map piece_lines ps
  pieces-lines [] = refl
  pieces-lines (p ∷ ps) = lines-append (rows_of p) (flat_map rows_of ps) ∙ (λ i. piece-lines p i ++ pieces-lines ps i)

  fine-written : (ps : List Placed) → are_printable (length names) ps ≡ true → list_all (is_row_fine (length names)) (map written ps) ≡ true
  fine-written [] e = refl
  fine-written (p ∷ ps) e =
      let h = and_parts (is_written (length names) p.line && line_fits p.line) (are_printable (length names) ps) e in
      and_from (is_row_fine (length names) (written p)) (list_all (is_row_fine (length names)) (map written ps)) h.0 (fine-written ps h.1)

  pub piece-fine : (p : Piece) → is_printable (length names) p ≡ true → list_all (is_row_fine (length names)) (rows_of p) ≡ true
  piece-fine (remark text) e = and_from (list_all is_of_line text) true e refl
  piece-fine (answer n c) e = fine-written (block_lines c n) e
  piece-fine (ending q n) e = e
  piece-fine (rejection q n at_line reason) e = e

  pub pieces-fine : (ps : List Piece) → list_all (is_printable (length names)) ps ≡ true → list_all (is_row_fine (length names)) (flat_map rows_of ps) ≡ true
  pieces-fine [] e = refl
  pieces-fine (p ∷ ps) e =
      let h = and_parts (is_printable (length names) p) (list_all (is_printable (length names)) ps) e in
      list_all-append (is_row_fine (length names)) (rows_of p) (flat_map rows_of ps)
      ∙ and_from (list_all (is_row_fine (length names)) (rows_of p)) (list_all (is_row_fine (length names)) (flat_map rows_of ps)) (piece-fine p h.0) (pieces-fine ps h.1)

  pub header-fine : is_row_fine (length names) header ≡ true
  unfolding is_written line_fits
  header-fine = refl

  -- ---- the states

  piece-read : (p : Piece) (entries : List Entry) → read_placed (has_read entries) (piece_lines p) ≡ Some (has_read (entries ++ piece_entries p))
  unfolding next_state
  piece-read (remark text) entries = ap (λ es. Some (has_read es)) (sym (append-nil entries))
  piece-read (answer n c) entries = the-block (has_read entries) c n refl refl
  piece-read (ending e q) entries = refl
  piece-read (rejection q n at_line reason) entries = refl

  pieces-read : (ps : List Piece) (entries : List Entry) → read_placed (has_read entries) (flat_map piece_lines ps) ≡ Some (has_read (entries ++ flat_map piece_entries ps))
  pieces-read [] entries = ap (λ es. Some (has_read es)) (sym (append-nil entries))
  pieces-read (p ∷ ps) entries =
      read-append (has_read entries) (has_read (entries ++ piece_entries p)) (piece_lines p) (flat_map piece_lines ps) (piece-read p entries)
      ∙ pieces-read ps (entries ++ piece_entries p)
      ∙ ap (λ es. Some (has_read es)) (append_assoc entries (piece_entries p) (flat_map piece_entries ps))

  header-read : next_state first_state (at 0 (header_line 1)) ≡ Some (has_read [])
  unfolding next_state
  header-read = refl

  file-read : (ps : List Piece) → read_placed first_state (flat_map row_lines (header ∷ flat_map rows_of ps)) ≡ Some (has_read (flat_map piece_entries ps))
  file-read ps =
      read-cons first_state (has_read []) (at 0 (header_line 1)) (flat_map row_lines (flat_map rows_of ps)) header-read
      ∙ ap (read_placed (has_read [])) (pieces-lines ps) ∙ pieces-read ps []

  within : (n : ℕ) → n ≤ byte_limit → nat_lt byte_limit n ≡ false
  within n h = grind (arith, nat_tests)

  pub text-read : (ps : List Piece) → list_all (is_printable (length names)) ps ≡ true → length (file_text names ps) ≤ byte_limit → file_in names (file_text names ps) ≡ Ok (flat_map piece_entries ps)
  unfolding file_in
  text-read ps e h =
      let rows = header ∷ flat_map rows_of ps in
      let fine = and_from (is_row_fine (length names) header) (list_all (is_row_fine (length names)) (flat_map rows_of ps)) header-fine (pieces-fine ps e) in
      ap (λ t. if t then fault byte_limit kind.Limit else read_lines names first_versioned 0 (split_lines (file_text names ps)).lines (split_lines (file_text names ps)).rest) (within (length (file_text names ps)) h)
      ∙ ap (λ s. read_lines names first_versioned 0 s.lines s.rest) (ap split_lines (file-rows ps) ∙ split-rows names table rows fine)
      ∙ rows-read names table rows first_state (has_read (flat_map piece_entries ps)) 0 fine (file-read ps) refl
