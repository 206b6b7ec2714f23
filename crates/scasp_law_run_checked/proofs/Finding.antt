-- A check of the text of a run finds each of its answers right.
use Rattle.std.specs.Prelude.{◌≡◌, ℕ, suc, ◌+◌, ◌<◌, ◌≤◌, ◌^◌, zero, Bool, true, if◌then◌else◌, List, [], ◌∷◌, ◌++◌, codes, decimal, flat_map, length, map, slice_get, Option, Some, Ok}
use Rattle.std.specs.List.{concat}
use Rattle.std.proofs.Common.{◌∙◌, ap, arith, refl, subst, sym}
use Rattle.std.proofs.lemmas.List.{length-map}
use Rattle.scasp_answers.specs.Blocks.Blocks.{block_lines, placed_text}
use Rattle.scasp_answers.specs.Blocks.Files.{byte_limit, file_in}
use Rattle.scasp_answers.specs.Blocks.States.{Entry, block, ended_entry, rejected_entry}
use Rattle.scasp_answers.specs.Files.Texts.{with_names}
use Rattle.scasp_cert.specs.Certificate.{Certificate}
use Rattle.scasp_cert.specs.Flat.{are_flat, is_flat, listed_at, listed_below}
use Rattle.scasp_cert.specs.Text.Block.{block_text}
use Rattle.scasp_cert.specs.Trees.{listed}
use Rattle.scasp_command_check.specs.Texts.{checked_line, entry_lines, is_accepted, line_by, passes, recheck_text, rechecked_of}
use Rattle.scasp_command_check.specs.Texts as check_texts
use Rattle.scasp_command_check.specs.Worths.{worth_of}
use Rattle.scasp_command_check.specs.declared.checking.Rechecked.TheVariants.{Accepted, Refused}
use Rattle.scasp_command_check.specs.declared.worth.Worth.{Worth}
use Rattle.scasp_command_check.specs.declared.worth.Worth.TheVariants.{Right}
use Rattle.scasp_command_inputs.specs.Inputs.{IsProgram}
use Rattle.scasp_command_run.specs.Queries.{Shown}
use Rattle.scasp_command_run.specs.Runs.{RunsFrom}
use Rattle.scasp_command_run.specs.Texts.{run_text}
use Rattle.scasp_command_words.specs.declared.format.Format.TheVariants.{Whole}
use Rattle.scasp_law_answer_text.specs.LineReadback.Texts.{Piece, remark, answer, ending, rejection, file_text, piece_entries}
use Rattle.scasp_law_checked.specs.Checked.{IsFoundRight, IsReadRight, IsSearchedFile, IsSearchedPiece, SearchedAnswersAreRight, SearchesAreNamed}
use Rattle.scasp_law_checked.proofs.Checking.{searched-written}
use Rattle.scasp_law_printable.specs.Printable.{AnswersArePrintable, AnswersAreSampled}
use Rattle.scasp_law_printable.proofs.ReadPrograms.{two-names}
use Rattle.scasp_law_tables.specs.Moved.{GrownTablesRead, moved_piece, moved_sample, moving}
use Rattle.scasp_law_tables.proofs.Places.{grown-length, grown-text, grows-on}
use Rattle.scasp_law_tables.proofs.Renaming.{length-renamed}
use Rattle.scasp_list.specs.Each.{Each}
use Rattle.scasp_list.proofs.EachLemmas.{Each-at, test_from-Each}
use Rattle.scasp_print_samples.specs.Samples.{with_samples}
use Rattle.scasp_syntax.specs.Programs.{numbered}
use Rattle.scasp_syntax.specs.declared.clause.Query.{Query}
use Rattle.scasp_syntax.specs.declared.program.Program.{Program}
use Rattle.scasp_law_run_checked.specs.RunChecked.{IsPlaced, IsReadBack, RunsAreFoundRight, printed_answers, right_line, right_text, whole_job}
use Rattle.scasp_law_run_checked.proofs.Answers.{AreNamed, runs-met, shown-few}
use Rattle.scasp_law_run_checked.proofs.Parts.{answers_of, queries}
use Rattle.scasp_law_run_checked.proofs.Tables.{IsLarger, file-larger, plain-table, samples-larger, translated-larger}
use Rattle.scasp_law_run_checked.proofs.Variables.{IsNameClean, IsReadWell, IsVariable, names-clean, program-well}

-- ---- the lines of a check

module _ (p : Program) (written other : List (List ℕ)) where
  -- another sample of as many values makes no other certificate flat
  flat-same : (c : Certificate) → is_flat (moved_sample written other c) ≡ is_flat c
  flat-same c = ap (λ (n : ℕ). are_flat n (listed_below (listed c.trees) ++ flat_map (λ k. listed_at k.1) c.checks)) (length-renamed (moving written other) c.sample)

  line-same : (n : ℕ) (c : Certificate) → line_by Right n (moved_sample written other c) ≡ line_by Right n c
  unfolding line_by
  line-same n c = ap (λ (b : Bool). decimal c.query ++ codes "." ++ decimal n ++ codes " " ++ (codes "right" ++ (if b then codes " any" else codes " closed")) ++ codes "\n") (flat-same c)

  lines-are : (pieces : List Piece) → Each (IsFoundRight p) (flat_map piece_entries (map (moved_piece written other) pieces))
      → flat_map (entry_lines p) (flat_map piece_entries (map (moved_piece written other) pieces)) ≡ map right_line (flat_map answers_of pieces)
  lines-are [] h = refl
  lines-are (remark text ∷ pieces) h = lines-are pieces h
  lines-are (answer n c ∷ pieces) h =
      let one : line_by (worth_of p (moved_sample written other c)) n (moved_sample written other c) ≡ right_line (n, c) =
      ap (λ (w : Worth). line_by w n (moved_sample written other c)) h.0 ∙ line-same n c in
      λ i. one i ∷ lines-are pieces h.1 i
  lines-are (ending e q ∷ pieces) h = lines-are pieces h.1
  lines-are (rejection q n at reason ∷ pieces) h = lines-are pieces h.1

-- what is read of a file whose answers are right is printed so
module _ (p : Program) (entries : List Entry) (right : Each (IsFoundRight p) entries) where
  entry-passes : (e : Entry) → IsFoundRight p e → passes p e ≡ true
  entry-passes (block n c) h = ap is_accepted h
  entry-passes (ended_entry e q) h = refl
  entry-passes (rejected_entry q n at why) h = refl

  all-accepted : rechecked_of p entries ≡ Accepted
  all-accepted = ap (λ (b : Bool). if b then Accepted else Refused) (test_from-Each (passes p) (IsFoundRight p) entry-passes entries right)

  text-is : (answers : List (ℕ × Certificate)) → check_texts.block_lines p entries ≡ map right_line answers → recheck_text p entries ≡ right_text answers
  text-is answers e =
      ap (λ (ls : List (List ℕ)). concat ls ++ checked_line (length ls)) e ∙ ap (λ (k : ℕ). concat (map right_line answers) ++ checked_line k) (length-map answers right_line)

-- ---- the whole

query-at : (P : Query → Type 0) (qs : List Query) → Each P qs → (k : ℕ) (q : Query) → numbered qs k ≡ Some q → P q
query-at P qs h zero q e = absurd (cc e)
query-at P qs h (suc k) q e = Each-at P qs k q h (sym e)

-- `blocks` is the law that the text of a block is that of its lines
module _ (blocks : (names : List (List ℕ)) (c : Certificate) (n : ℕ) → block_text names c n ≡ flat_map (placed_text names) (block_lines c n))
    (searches : SearchesAreNamed) (printable : AnswersArePrintable) (sampled : AnswersAreSampled) (right : SearchedAnswersAreRight) (grown : GrownTablesRead)
    (told : Option (List ℕ)) (p : Program) (names : List (List ℕ)) (program : IsProgram told p names) (budget : ℕ) (asked : Option ℕ) where
  well : IsReadWell program.written.queries program.table
  well = program-well program.is.bytes program.written program.table program.is.read

  above : IsLarger program.table names
  above = translated-larger program.table program.written p names program.translated well.table

  named : AreNamed p names
  named number q there checks map = searches program.is.bytes program.written p program.table names program.is.read program.translated number q there checks map

  larger : (n : ℕ) → IsLarger names (with_samples names n)
  larger n = samples-larger names n above.is

  variables : (n : ℕ) (q : Query) (k : ℕ) → numbered p.queries k ≡ Some q → Each (IsNameClean (with_samples names n)) q.names
  variables n q k there =
      names-clean program.table (with_samples names n) (grows-on program.table names (with_samples names n) above.grows (larger n).grows) q.names
      (query-at (λ r. Each (IsVariable program.table) r.names) p.queries
      (subst (Each (λ (r : Query). Each (IsVariable program.table) r.names)) (sym program.translated.queries) well.variables) k q there)

  few : (all : List Shown) → RunsFrom (whole_job p names budget asked) 1 p.queries all → 1 + length all < 2 ^ 64
  few all runs =
      let one = shown-few (whole_job p names budget asked) 1 p.queries all runs in
      let same : length p.queries ≡ length program.written.queries = ap length program.translated.queries in
      let most = well.few in omega (arith, one, same, most)

  -- the text of a file with these pieces
  module _ (most : ℕ) (pieces : List Piece) (searched : Each (IsSearchedPiece p names (with_samples names most)) pieces) (short : length (file_text (with_samples names most) pieces) ≤ byte_limit) where
    abbrev written : List (List ℕ)
    written = with_samples names most

    file : IsSearchedFile p names written pieces
    file = record {
      lists = two-names names above.is.lists;
      longer = grown-length names written (larger most).grows;
      agree = λ f l. grown-text names written (larger most).grows f l;
      table = plain-table written (larger most).is;
      read = plain-table (with_names names (file_text written pieces)) (file-larger names (file_text written pieces) above.is).is;
      searched = searched;
      short = short;
    }

    read-back : IsReadBack p names (file_text written pieces) (flat_map answers_of pieces)
    read-back =
        let found : IsReadRight p names (file_text written pieces) = right p names written pieces file in
        let other : List (List ℕ) = with_names names (file_text written pieces) in
        let all : List Entry = flat_map piece_entries (map (moved_piece written other) pieces) in
        let read : file_in other (file_text written pieces) ≡ Ok all = grown names written pieces (searched-written sampled p names written pieces file) in
        let same : found.entries ≡ all = cc (sym found.read ∙ read) in
        let each : Each (IsFoundRight p) all = subst (Each (IsFoundRight p)) same found.right in
        record {
          entries = all;
          read = read;
          right = each;
          prints = text-is p all each (flat_map answers_of pieces) (lines-are p written other pieces each);
          ends = all-accepted p all each;
        }

  text-read : (all : List Shown) (text : List ℕ) → RunsFrom (whole_job p names budget asked) 1 p.queries all → text ≡ run_text Whole p all → Each IsPlaced (printed_answers all)
      → length text ≤ byte_limit → IsReadBack p names text (printed_answers all)
  text-read all text runs is placed short =
      let front : (i : ℕ) → i ≡ 0 + i = λ i. omega arith in
      let met = runs-met (whole_job p names budget asked) named 0 p.queries all (λ i. ap (slice_get p.queries) (front i)) runs in
      let part = queries p names met.0 blocks printable (λ n. (larger n).grows) variables 1 all (few all runs) met.1 placed in
      let same : text ≡ file_text (with_samples names met.0) part.pieces = is ∙ ap (λ (z : List ℕ). codes "scasp 1\n" ++ z) part.is in
      let back = read-back met.0 part.pieces part.searched (subst (λ (z : List ℕ). length z ≤ byte_limit) same short) in
      subst (λ (z : List ℕ). IsReadBack p names z (printed_answers all)) (sym same)
      (subst (IsReadBack p names (file_text (with_samples names met.0) part.pieces)) part.told back)

pub runs-found : ((names : List (List ℕ)) (c : Certificate) (n : ℕ) → block_text names c n ≡ flat_map (placed_text names) (block_lines c n))
    → SearchesAreNamed → AnswersArePrintable → AnswersAreSampled → SearchedAnswersAreRight → GrownTablesRead → RunsAreFoundRight
runs-found blocks searches printable sampled right grown told p names program budget asked text end run placed short =
    text-read blocks searches printable sampled right grown told p names program budget asked run.all text run.runs run.text_is placed short
