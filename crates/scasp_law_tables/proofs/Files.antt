-- A file that was written by one table is that of its moved pieces by the table with its texts.
use Rattle.std.specs.Prelude.{◌≡◌, ℕ, ◌<◌, ◌≤◌, true, ◌&&◌, List, [], ◌∷◌, ◌++◌, codes, flat_map, length, map, replicate, Ok}
use Rattle.std.specs.List.{Contains, list_all}
use Rattle.std.proofs.Common.{◌∙◌, ap, append_assoc, arith, inl, inr, refl, subst, sym}
use Rattle.std.proofs.lemmas.Bool.{and_from, and_parts}
use Rattle.std.proofs.lemmas.Grind.{flat_map-append}
use Rattle.std.proofs.lemmas.List.Elements.{Contains-append_right}
use Rattle.std.proofs.lemmas.List.Folds.{list_all-append}
use Rattle.scasp_answers.specs.Blocks.Blocks.{Placed, at, block_lines, check_lines, placed_text, trees_lines}
use Rattle.scasp_answers.specs.Blocks.Files.{Split, byte_limit, file_in, split_lines}
use Rattle.scasp_answers.specs.Files.Texts.{with_lines, with_names, with_names_of}
use Rattle.scasp_answers_terms.specs.Tokens.Bounds.{line_fits, terms_fit}
use Rattle.scasp_answers_terms.specs.Tokens.Lines.{answer_line, clash_line, end_line, ending_line, given_line, map_line, rejected_line, sample_line, tree_line, words_of}
use Rattle.scasp_cert.specs.Certificate.{Certificate}
use Rattle.scasp_cert.specs.Text.Block.{block_text}
use Rattle.scasp_cert.specs.Text.Names.{text_at}
use Rattle.scasp_cert.specs.Text.Trees.{line_text}
use Rattle.scasp_cert.specs.Trees.{listed}
use Rattle.scasp_law_answer_text.specs.LineReadback.Texts.{Piece, remark, answer, ending, rejection, are_printable, file_text, is_printable, piece_entries, piece_text}
use Rattle.scasp_law_answer_text.specs.LineReadback.Writable.{IsTable, are_named, is_spelled, is_written}
use Rattle.scasp_law_answer_text.proofs.LineReadbackLemmas.Feeds.{IsClean, clean-append, words-clean_line}
use Rattle.scasp_law_answer_text.proofs.LineReadbackLemmas.Files.{Row, clean-blanks, comment, file-rows, header, header-fine, is_row_fine, pieces-fine, row_bytes, row_text, rows_of, split-line, text-read, written as row}
use Rattle.scasp_list.specs.Each.{Each}
use Rattle.scasp_syntax.specs.declared.con.Con.{Con}
use Rattle.scasp_unify.proofs.Members.{Each-member}
use Rattle.scasp_list.proofs.MemberLemmas.{Contains-cases, Contains-flat_map, Contains-here, Contains-map, Contains-none, Contains-there}
use Rattle.scasp_syntax.specs.Tm.{Tm, Tms, var, num, app, nil, cons}
use Rattle.scasp_law_tables.specs.Moved.{GrownTablesRead, IsFine, IsSampled, ReadAnswersAccepted, all_renamed, moved_piece, moved_sample, moving}
use Rattle.scasp_law_tables.specs.Tables.{Agree}
use Rattle.scasp_law_tables.proofs.Agreeing.{words-same}
use Rattle.scasp_law_tables.proofs.Larger.{line-larger}
use Rattle.scasp_law_tables.proofs.Places.{Grows, grown-length, grown-text, line-has, lines-grow}
use Rattle.scasp_law_tables.proofs.Keeping.{Kept, kept-apart, kept-first, moving-stays, values-kept}
use Rattle.scasp_law_tables.proofs.Renaming.{renamed-accepted}
use Rattle.scasp_law_tables.proofs.Samples.{ValueIn, ValuesIn, all-renamed-fit, sample-has, sample-named, sample-text, values-own}

-- ---- the lines of a block around its sample

abbrev pub lines_before : Certificate → ℕ → List Placed
lines_before c n = at 0 (answer_line c.query n c.terms) ∷ map (λ g. at 0 (given_line g)) c.given

abbrev pub lines_behind : Certificate → List Placed
lines_behind c =
    at 0 tree_line ∷ trees_lines 1 (listed c.trees) ++ flat_map check_lines c.checks ++ map (λ k. at 0 (clash_line k)) c.clashes ++ map (λ m. at 0 (map_line m)) c.map
    ++ at 0 end_line ∷ []

abbrev pub around : Certificate → Tms → ℕ → List Placed
around c ts n = lines_before c n ++ (at 0 (sample_line ts) ∷ lines_behind c)

regrouped : (a b c d e f : List Placed) → a ++ b ++ c ++ d ++ e ++ f ≡ a ++ (b ++ c ++ d ++ e ++ f)
regrouped a b c d e f = simp append_assoc refl

-- the lines of a block with these values for its sample
pub is-around : (c : Certificate) (ts : Tms) (n : ℕ) → block_lines (record c { sample = ts }) n ≡ around c ts n
is-around c ts n =
    regrouped (lines_before c n) (at 0 (sample_line ts) ∷ at 0 tree_line ∷ trees_lines 1 (listed c.trees)) (flat_map check_lines c.checks) (map (λ k. at 0 (clash_line k)) c.clashes)
    (map (λ m. at 0 (map_line m)) c.map) (at 0 end_line ∷ [])

are-printable-parts : (count : ℕ) (xs ys : List Placed) → are_printable count (xs ++ ys) ≡ true → (are_printable count xs ≡ true) × (are_printable count ys ≡ true)
are-printable-parts count xs ys e = and_parts (are_printable count xs) (are_printable count ys) (sym (list_all-append (λ (p : Placed). is_written count p.line && line_fits p.line) xs ys) ∙ e)

are-printable-from : (count : ℕ) (xs ys : List Placed) → are_printable count xs ≡ true → are_printable count ys ≡ true → are_printable count (xs ++ ys) ≡ true
are-printable-from count xs ys h k = list_all-append (λ (p : Placed). is_written count p.line && line_fits p.line) xs ys ∙ and_from (are_printable count xs) (are_printable count ys) h k

module _ (n m : ℕ) (l : n ≤ m) where
  lines-larger : (ps : List Placed) → are_printable n ps ≡ true → are_printable m ps ≡ true
  lines-larger [] e = refl
  lines-larger (p ∷ ps) e =
      let h = and_parts (is_written n p.line && line_fits p.line) (are_printable n ps) e in
      let k = and_parts (is_written n p.line) (line_fits p.line) h.0 in
      and_from (is_written m p.line && line_fits p.line) (are_printable m ps) (and_from (is_written m p.line) (line_fits p.line) (line-larger n m l p.line k.0) k.1) (lines-larger ps h.1)

-- the parts of a block that is printable but for its sample
record IsAround (count n : ℕ) (c : Certificate) : Type 0 where
  before : are_printable count (lines_before c n) ≡ true
  behind : are_printable count (lines_behind c) ≡ true

sampled-around : (count total n : ℕ) (c : Certificate) → IsSampled count total n c → IsAround count n c
sampled-around count total n c h =
    let k = are-printable-parts count (lines_before c n) (at 0 (sample_line nil) ∷ lines_behind c) (subst (λ (ls : List Placed). are_printable count ls ≡ true) (is-around c nil n) h.printable) in
    record { before = k.0; behind = (and_parts (is_written count (sample_line nil) && line_fits (sample_line nil)) (are_printable count (lines_behind c)) k.1).1 }

sample-printable : (count : ℕ) (ts : Tms) → are_named count ts ≡ true → terms_fit ts ≡ true → (is_written count (sample_line ts) && line_fits (sample_line ts)) ≡ true
unfolding is_written line_fits
sample-printable count ts h k = and_from (are_named count ts) (terms_fit ts) h k

around-printable : (count n : ℕ) (c : Certificate) (ts : Tms) → IsAround count n c → are_named count ts ≡ true → terms_fit ts ≡ true → are_printable count (block_lines (record c { sample = ts }) n) ≡ true
around-printable count n c ts h k f =
    subst (λ (ls : List Placed). are_printable count ls ≡ true) (sym (is-around c ts n))
    (are-printable-from count (lines_before c n) (at 0 (sample_line ts) ∷ lines_behind c) h.before
    (and_from (is_written count (sample_line ts) && line_fits (sample_line ts)) (are_printable count (lines_behind c)) (sample-printable count ts k f) h.behind))

around-larger : (n m : ℕ) → n ≤ m → (k : ℕ) (c : Certificate) → IsAround n k c → IsAround m k c
around-larger n m l k c h = record { before = lines-larger n m l (lines_before c k) h.before; behind = lines-larger n m l (lines_behind c) h.behind }

-- ---- texts of lines

pub texts-same : (count : ℕ) (names table : List (List ℕ)) → Agree count names table → (ps : List Placed) → are_printable count ps ≡ true → flat_map (placed_text names) ps ≡ flat_map (placed_text table) ps
texts-same count names table same [] e = refl
texts-same count names table same (p ∷ ps) e =
    let h = and_parts (is_written count p.line && line_fits p.line) (are_printable count ps) e in
    let k = and_parts (is_written count p.line) (line_fits p.line) h.0 in
    λ i. line_text p.depth (words-same count names table same p.line k.0 i) ++ texts-same count names table same ps h.1 i

-- `blocks` is the law that the text of a block is that of its lines, `reads` the law that files are read back
module _ (names written : List (List ℕ)) (pieces : List Piece) (lists : 1 < length names) (longer : length names ≤ length written) (agree : Agree (length names) names written) (table : IsTable written)
    (blocks : (names : List (List ℕ)) (c : Certificate) (n : ℕ) → block_text names c n ≡ flat_map (placed_text names) (block_lines c n)) where
  some : 0 < length names
  some = omega (arith, lists)

  -- ---- by the table that the file was written with

  piece-own : (p : Piece) → IsFine (length names) (length written) p → is_printable (length written) p ≡ true
  piece-own (remark text) h = h
  piece-own (answer n c) h =
      around-printable (length written) n c c.sample (around-larger (length names) (length written) longer n c (sampled-around (length names) (length written) n c h))
      (values-own (length names) (length written) c.sample h.values) h.fits
  piece-own (ending e q) h = lines-larger (length names) (length written) longer (at 0 (ending_line e q) ∷ []) h
  piece-own (rejection q n at_line reason) h = lines-larger (length names) (length written) longer (at 0 (rejected_line q n at_line reason) ∷ []) h

  pieces-own : (ps : List Piece) → Each (IsFine (length names) (length written)) ps → list_all (is_printable (length written)) ps ≡ true
  pieces-own [] h = refl
  pieces-own (p ∷ ps) h = and_from (is_printable (length written) p) (list_all (is_printable (length written)) ps) (piece-own p h.0) (pieces-own ps h.1)

  row-clean : (r : Row) → is_row_fine (length written) r ≡ true → IsClean (row_bytes written r)
  row-clean (comment text) e = e
  row-clean (row p) e =
      let h = and_parts (is_written (length written) p.line) (line_fits p.line) e in
      clean-append (replicate p.depth 32) (words_of written p.line) (clean-blanks p.depth) (words-clean_line written (length written) p.line h.0)

  -- each row is a line of the file
  rows-have : (rows : List Row) → list_all (is_row_fine (length written)) rows ≡ true → (r : Row) → Contains rows r → Contains (split_lines (flat_map (row_text written) rows)).lines (row_bytes written r)
  rows-have [] e r i = absurd (Contains-none r i)
  rows-have (x ∷ rows) e r i =
      let h = and_parts (is_row_fine (length written) x) (list_all (is_row_fine (length written)) rows) e in
      let same = ap split_lines (append_assoc (row_bytes written x) (codes "\n") (flat_map (row_text written) rows)) ∙ split-line (row_bytes written x) (flat_map (row_text written) rows) (row-clean x h.0) in
      subst (λ (z : Split). Contains z.lines (row_bytes written r)) (sym same)
      (elim (Contains-cases x rows r i) [
        | inl k ↦ subst (λ (y : Row). Contains (row_bytes written x ∷ (split_lines (flat_map (row_text written) rows)).lines) (row_bytes written y)) k (Contains-here (row_bytes written x) (split_lines (flat_map (row_text written) rows)).lines)
        | inr j ↦ Contains-there (row_bytes written x) (split_lines (flat_map (row_text written) rows)).lines (row_bytes written r) (rows-have rows h.1 r j)
      ])

  -- the values whose names stand on a line have them in the table with the texts of all lines
  line-values : (lines : List (List ℕ)) (line : List ℕ) → Contains lines line → (ts : Tms) → ((start : List (List ℕ)) → ValuesIn written (with_names_of start line) ts) → ValuesIn written (with_lines names lines) ts
  line-values lines line i nil h = tt
  line-values lines line i (cons t ts) h = (one t (λ start. (h start).0), line-values lines line i ts (λ start. (h start).1))
    where
      one : (t : Tm) → ((start : List (List ℕ)) → ValueIn written (with_names_of start line) t) → ValueIn written (with_lines names lines) t
      one (var x) k = tt
      one (num q) k = tt
      one (app f us) k = line-has names lines line (text_at written f) i k

  module _ (fine : Each (IsFine (length names) (length written)) pieces) where
    rows : List Row
    rows = header written table (blocks written) ∷ flat_map (rows_of written table (blocks written)) pieces

    rows-fine : list_all (is_row_fine (length written)) (header written table (blocks written) ∷ flat_map (rows_of written table (blocks written)) pieces) ≡ true
    rows-fine =
        and_from (is_row_fine (length written) (header written table (blocks written))) (list_all (is_row_fine (length written)) (flat_map (rows_of written table (blocks written)) pieces))
        (header-fine written table (blocks written)) (pieces-fine written table (blocks written) pieces (pieces-own pieces fine))

    abbrev other : List (List ℕ)
    other = with_names names (file_text written pieces)

    grows : Grows names other
    grows = lines-grow names (split_lines (file_text written pieces)).lines

    agree-other : Agree (length names) written other
    agree-other f l = sym (agree f l) ∙ grown-text names other grows f l

    sample-row : (n : ℕ) (c : Certificate) → Contains pieces (answer n c) → Contains (header written table (blocks written) ∷ flat_map (rows_of written table (blocks written)) pieces) (row (at 0 (sample_line c.sample)))
    sample-row n c i =
        Contains-there (header written table (blocks written)) (flat_map (rows_of written table (blocks written)) pieces) (row (at 0 (sample_line c.sample)))
        (Contains-flat_map (rows_of written table (blocks written)) pieces (answer n c) (row (at 0 (sample_line c.sample))) i
        (Contains-map row (block_lines c n) (at 0 (sample_line c.sample))
        (subst (λ (ls : List Placed). Contains ls (at 0 (sample_line c.sample))) (sym (is-around c c.sample n))
        (Contains-append_right (lines_before c n) (at 0 (sample_line c.sample) ∷ lines_behind c) (at 0 (sample_line c.sample)) (Contains-here (at 0 (sample_line c.sample)) (lines_behind c))))))

    values-there : (n : ℕ) (c : Certificate) → Contains pieces (answer n c) → IsSampled (length names) (length written) n c → ValuesIn written other c.sample
    values-there n c i h =
        line-values (split_lines (file_text written pieces)).lines (words_of written (sample_line c.sample))
        (subst (λ (text : List ℕ). Contains (split_lines text).lines (words_of written (sample_line c.sample))) (sym (file-rows written table (blocks written) pieces))
        (rows-have (header written table (blocks written) ∷ flat_map (rows_of written table (blocks written)) pieces) rows-fine (row (at 0 (sample_line c.sample))) (sample-row n c i)))
        c.sample (λ start. sample-has written table (length names) some start c.sample h.values h.fits)

    -- ---- the text by the other table

    line-same : (p : Placed) → are_printable (length names) (p ∷ []) ≡ true → words_of written p.line ≡ words_of other p.line
    line-same p h = words-same (length names) written other agree-other p.line (and_parts (is_written (length names) p.line) (line_fits p.line) (and_parts (is_written (length names) p.line && line_fits p.line) true h).0).0

    answer-text : (n : ℕ) (c : Certificate) → Contains pieces (answer n c) → IsSampled (length names) (length written) n c → block_text written c n ≡ block_text other (moved_sample written other c) n
    answer-text n c i h =
        blocks written c n
        ∙ ap (flat_map (placed_text written)) (is-around c c.sample n)
        ∙ flat_map-append (placed_text written) (lines_before c n) (at 0 (sample_line c.sample) ∷ lines_behind c)
        ∙ (λ i. before i ++ (line_text 0 (sample i) ++ behind i))
        ∙ sym (flat_map-append (placed_text other) (lines_before c n) (at 0 (sample_line (all_renamed (moving written other) c.sample)) ∷ lines_behind c))
        ∙ sym (ap (flat_map (placed_text other)) (is-around c (all_renamed (moving written other) c.sample) n))
        ∙ sym (blocks other (moved_sample written other c) n)
      where
        a : IsAround (length names) n c
        a = sampled-around (length names) (length written) n c h

        before : flat_map (placed_text written) (lines_before c n) ≡ flat_map (placed_text other) (lines_before c n)
        before = texts-same (length names) written other agree-other (lines_before c n) a.before

        behind : flat_map (placed_text written) (lines_behind c) ≡ flat_map (placed_text other) (lines_behind c)
        behind = texts-same (length names) written other agree-other (lines_behind c) a.behind

        sample : words_of written (sample_line c.sample) ≡ words_of other (sample_line (all_renamed (moving written other) c.sample))
        sample = sample-text written table (length names) some other agree-other c.sample h.values (values-there n c i h)

    piece-same : (p : Piece) → Contains pieces p → IsFine (length names) (length written) p → piece_text written p ≡ piece_text other (moved_piece written other p)
    piece-same (remark text) i h = refl
    piece-same (answer n c) i h = answer-text n c i h
    piece-same (ending e q) i h = ap (λ (z : List ℕ). z ++ codes "\n") (line-same (at 0 (ending_line e q)) h)
    piece-same (rejection q n at_line reason) i h = ap (λ (z : List ℕ). z ++ codes "\n") (line-same (at 0 (rejected_line q n at_line reason)) h)

    pieces-same : (ps : List Piece) → ((p : Piece) → Contains ps p → Contains pieces p) → Each (IsFine (length names) (length written)) ps
        → flat_map (piece_text written) ps ≡ flat_map (piece_text other) (map (moved_piece written other) ps)
    pieces-same [] i h = refl
    pieces-same (p ∷ ps) i h = λ j. piece-same p (i p (Contains-here p ps)) h.0 j ++ pieces-same ps (λ q k. i q (Contains-there p ps q k)) h.1 j

    piece-moved : (p : Piece) → Contains pieces p → IsFine (length names) (length written) p → is_printable (length other) (moved_piece written other p) ≡ true
    piece-moved (remark text) i h = h
    piece-moved (answer n c) i h =
        around-printable (length other) n c (all_renamed (moving written other) c.sample)
        (around-larger (length names) (length other) (grown-length names other grows) n c (sampled-around (length names) (length written) n c h))
        (sample-named written table (length names) some other agree-other c.sample h.values (values-there n c i h)) (all-renamed-fit (moving written other) c.sample ∙ h.fits)
    piece-moved (ending e q) i h = lines-larger (length names) (length other) (grown-length names other grows) (at 0 (ending_line e q) ∷ []) h
    piece-moved (rejection q n at_line reason) i h = lines-larger (length names) (length other) (grown-length names other grows) (at 0 (rejected_line q n at_line reason) ∷ []) h

    pieces-moved : (ps : List Piece) → ((p : Piece) → Contains ps p → Contains pieces p) → Each (IsFine (length names) (length written)) ps → list_all (is_printable (length other)) (map (moved_piece written other) ps) ≡ true
    pieces-moved [] i h = refl
    pieces-moved (p ∷ ps) i h =
        and_from (is_printable (length other) (moved_piece written other p)) (list_all (is_printable (length other)) (map (moved_piece written other) ps)) (piece-moved p (i p (Contains-here p ps)) h.0)
        (pieces-moved ps (λ q k. i q (Contains-there p ps q k)) h.1)

    -- ---- what is read

    file-read : IsTable other → length (file_text written pieces) ≤ byte_limit → file_in other (file_text written pieces) ≡ Ok (flat_map piece_entries (map (moved_piece written other) pieces))
    file-read is short =
        let same : file_text written pieces ≡ file_text other (map (moved_piece written other) pieces) = ap (λ (z : List ℕ). codes "scasp 1\n" ++ z) (pieces-same pieces (λ p i. i) fine) in
        ap (file_in other) same
        ∙ text-read other is (blocks other) (map (moved_piece written other) pieces) (pieces-moved pieces (λ p i. i) fine) (subst (λ (z : List ℕ). length z ≤ byte_limit) same short)

pub grown-read : ((names : List (List ℕ)) (c : Certificate) (n : ℕ) → block_text names c n ≡ flat_map (placed_text names) (block_lines c n)) → GrownTablesRead
grown-read blocks names written pieces h = file-read names written pieces h.lists h.longer h.agree h.table blocks h.fine h.read h.short

-- ---- what is read is accepted

spelled-given : (count : ℕ) (cs : List Con) → are_printable count (map (λ g. at 0 (given_line g)) cs) ≡ true → list_all (is_spelled count) cs ≡ true
unfolding is_written
spelled-given count [] e = refl
spelled-given count (c ∷ cs) e =
    let h = and_parts (is_spelled count c && line_fits (given_line c)) (are_printable count (map (λ g. at 0 (given_line g)) cs)) e in
    and_from (is_spelled count c) (list_all (is_spelled count) cs) (and_parts (is_spelled count c) (line_fits (given_line c)) h.0).0 (spelled-given count cs h.1)

pub read-accepted : ((names : List (List ℕ)) (c : Certificate) (n : ℕ) → block_text names c n ≡ flat_map (placed_text names) (block_lines c n)) → ReadAnswersAccepted
read-accepted blocks names written pieces h p n c i right =
    let some : 0 < length names = (let k = h.lists in omega (arith, k)) in
    let other : List (List ℕ) = with_names names (file_text written pieces) in
    let sampled : IsSampled (length names) (length written) n c = Each-member (IsFine (length names) (length written)) pieces (answer n c) h.fine i in
    let around = sampled-around (length names) (length written) n c sampled in
    let given = spelled-given (length names) c.given (and_parts (is_written (length names) (answer_line c.query n c.terms) && line_fits (answer_line c.query n c.terms)) (are_printable (length names) (map (λ g. at 0 (given_line g)) c.given)) around.before).1 in
    let same = agree-other names written pieces h.lists h.longer h.agree h.table blocks h.fine in
    let there = values-there names written pieces h.lists h.longer h.agree h.table blocks h.fine n c i sampled in
    let wide = grown-length names other (grows names written pieces h.lists h.longer h.agree h.table blocks h.fine) in
    renamed-accepted (moving written other) (length names) (Kept written other) (kept-first written h.table other h.read (length names) h.longer wide same)
    (moving-stays written h.table other h.read (length names) h.longer wide same) (kept-apart written h.table other) p c given
    (values-kept written h.table other (length names) c.sample sampled.values there) right
