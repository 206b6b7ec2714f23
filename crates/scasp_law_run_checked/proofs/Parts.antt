-- The text of a run is that of a file of answers of searches: a part for each answer with its remarks, and for the end of each query.
use Rattle.std.specs.Prelude.{◌≡◌, ℕ, suc, ◌+◌, ◌<◌, ◌^◌, ◌==◌, Bool, true, false, if◌then◌else◌, Option, None, Some, List, [], ◌∷◌, ◌++◌, codes, flat_map, length}
use Rattle.std.proofs.Common.{◌∙◌, ap, append-nil, arith, refl, subst, sym}
use Rattle.std.proofs.lemmas.Bool.{and_from}
use Rattle.std.proofs.lemmas.Bool.Decides.{nat_tests}
use Rattle.std.proofs.lemmas.Grind.{flat_map-append}
use Rattle.scasp_answers.specs.Blocks.Blocks.{at, block_lines, placed_text}
use Rattle.scasp_answers_terms.specs.Tokens.Bounds.{is_count, line_fits}
use Rattle.scasp_answers_terms.specs.Tokens.Lines.{End, ended, stopped, spent, overflow, ending_line, words_of}
use Rattle.scasp_cert.specs.Certificate.{Certificate}
use Rattle.scasp_cert.specs.Flat.{is_flat}
use Rattle.scasp_cert.specs.Text.Block.{block_text}
use Rattle.scasp_cert.specs.Text.Constraints.{con_text}
use Rattle.scasp_cert.specs.Text.Names.{text_at}
use Rattle.scasp_cert.specs.Text.Separators.{separator_text}
use Rattle.scasp_cert.specs.Text.Terms.{term_text}
use Rattle.scasp_checker_rules.specs.Accepted.{Accepts}
use Rattle.scasp_command_run.specs.Queries.{Printed, Shown}
use Rattle.scasp_command_run.specs.Texts.{end_line, last_line, names_of, queries_text, shown_from, variables_of}
use Rattle.scasp_command_run.specs.declared.ends.QueryEnd.{QueryEnd}
use Rattle.scasp_command_run.specs.declared.ends.QueryEnd.TheVariants.{Ended, Stopped, Spent, Overflow}
use Rattle.scasp_command_words.specs.declared.format.Format.TheVariants.{Whole}
use Rattle.scasp_fill.specs.Filling.Filled.{filled}
use Rattle.scasp_law_answer_text.specs.LineReadback.Texts.{Piece, remark, answer, ending, rejection, is_printable, piece_text}
use Rattle.scasp_law_answer_text.specs.LineReadback.Writable.{is_written}
use Rattle.scasp_law_answer_text.proofs.LineReadbackLemmas.Feeds.{IsClean, clean-append, clean-con, clean-term}
use Rattle.scasp_law_checked.specs.Checked.{IsSearchedPiece}
use Rattle.scasp_law_printable.specs.Printable.{AnswersArePrintable, IsFilled}
use Rattle.scasp_law_run_checked.specs.RunChecked.{IsPlaced, numbered_from, printed_answers}
use Rattle.scasp_law_run_checked.proofs.Answers.{AreMet, IsMet}
use Rattle.scasp_law_run_checked.proofs.Tables.{samples-grow}
use Rattle.scasp_law_run_checked.proofs.Variables.{IsNameClean}
use Rattle.scasp_law_tables.specs.Tables.{Agree}
use Rattle.scasp_law_tables.proofs.Files.{texts-same}
use Rattle.scasp_law_tables.proofs.Places.{Grows, grown-length, grown-text}
use Rattle.scasp_lines.specs.Lines.{free_of}
use Rattle.scasp_list.specs.Each.{Each}
use Rattle.scasp_list.proofs.EachLemmas.{Each-append, Each-left, Each-right}
use Rattle.scasp_print_remarks.specs.Remarks.{Value, alternative_lines, alternatives_text, cons_text, domain_line, has_empty, numbers_told, remarks_text, value_line, value_of, values_of, where_text}
use Rattle.scasp_print_samples.specs.Samples.{with_samples}
use Rattle.scasp_project.specs.Projection.{projection}
use Rattle.scasp_project.specs.declared.projecting.Projected.{Projected}
use Rattle.scasp_project.specs.declared.projecting.Projected.TheVariants as projected
use Rattle.scasp_print_remarks.specs.Remarks.{shown_variables}
use Rattle.scasp_fixed.specs.Fixed.{telling}
use Rattle.scasp_shorten.specs.Shortest.{shortest}
use Rattle.scasp_syntax.specs.Programs.{numbered}
use Rattle.scasp_syntax.specs.Tm.{Tm, Tms, nil, cons, items}
use Rattle.scasp_syntax.specs.Values.{Sub, under}
use Rattle.scasp_syntax.specs.declared.clause.Query.{Query}
use Rattle.scasp_syntax.specs.declared.con.Con.{Con}
use Rattle.scasp_syntax.specs.declared.program.Program.{Program}
use Rattle.scasp_unify.specs.Solving.{sub_of}

-- the answer of a piece, with its number
abbrev pub answers_of : Piece → List (ℕ × Certificate)
answers_of (remark text) = []
answers_of (answer n c) = (n, c) ∷ []
answers_of (ending e q) = []
answers_of (rejection q n at reason) = []

module _ (p : Program) (names written : List (List ℕ)) where
  -- the text is that of such pieces, which have these answers
  pub record IsPart (text : List ℕ) (answers : List (ℕ × Certificate)) : Type 0 where
    pub pieces : List Piece
    pub is : text ≡ flat_map (piece_text written) pieces
    pub searched : Each (IsSearchedPiece p names written) pieces
    pub told : flat_map answers_of pieces ≡ answers

  nothing : IsPart [] []
  nothing = record { pieces = []; is = refl; searched = tt; told = refl }

  both : (s t : List ℕ) (xs ys : List (ℕ × Certificate)) → IsPart s xs → IsPart t ys → IsPart (s ++ t) (xs ++ ys)
  both s t xs ys a b = record {
    pieces = a.pieces ++ b.pieces;
    is = (λ i. a.is i ++ b.is i) ∙ sym (flat_map-append (piece_text written) a.pieces b.pieces);
    searched = Each-append (IsSearchedPiece p names written) a.pieces b.pieces a.searched b.searched;
    told = flat_map-append answers_of a.pieces b.pieces ∙ (λ i. a.told i ++ b.told i);
  }

  -- ---- remarks

  abbrev AreRemarks : List ℕ → Type 0
  AreRemarks text = IsPart text []

  one-remark : (text : List ℕ) → IsClean text → AreRemarks (codes "%" ++ text ++ codes "\n")
  one-remark text clean = record { pieces = remark text ∷ []; is = sym (append-nil (codes "%" ++ text ++ codes "\n")); searched = (clean, tt); told = refl }

  remarks-if : (b : Bool) (s t : List ℕ) → AreRemarks s → AreRemarks t → AreRemarks (if b then s else t)
  remarks-if true s t h k = h
  remarks-if false s t h k = k

  module _ (table : List (List ℕ)) where
    abbrev IsValueClean : Value → Type 0
    IsValueClean v = IsClean (text_at table v.name)

    values-clean : (vs : List (Option ℕ)) (ts : Tms) → Each (IsNameClean table) vs → Each IsValueClean (values_of vs ts)
    values-clean [] ts h = tt
    values-clean (v ∷ vs) nil h = tt
    values-clean (v ∷ vs) (cons t ts) h = Each-append IsValueClean (value_of v t) (values_of vs ts) (one v h.0) (values-clean vs ts h.1)
      where
        one : (v : Option ℕ) → IsNameClean table v → Each IsValueClean (value_of v t)
        one None k = tt
        one (Some f) k = (k, tt)

    value-remarks : (s : Sub) (vs : List Value) → Each IsValueClean vs → AreRemarks (flat_map (value_line table s) vs)
    value-remarks s [] h = nothing
    value-remarks s (v ∷ vs) h =
        both (value_line table s v) (flat_map (value_line table s) vs) [] []
        (one-remark (codes " " ++ text_at table v.name ++ codes " = " ++ term_text table (under s v.term))
        (clean-append (codes " " ++ text_at table v.name ++ codes " = ") (term_text table (under s v.term)) (clean-append (codes " " ++ text_at table v.name) (codes " = ") h.0 refl)
        (clean-term table (under s v.term))))
        (value-remarks s vs h.1)

    separator-clean : (b : Bool) → IsClean (separator_text b (codes ", "))
    separator-clean true = refl
    separator-clean false = refl

    cons-clean : (b : Bool) (cs : List Con) → IsClean (cons_text table b cs)
    cons-clean b [] = refl
    cons-clean b (c ∷ cs) =
        clean-append (separator_text b (codes ", ") ++ con_text table c) (cons_text table false cs) (clean-append (separator_text b (codes ", ")) (con_text table c) (separator-clean b) (clean-con table c))
        (cons-clean false cs)

    alternative-remarks : (b : Bool) (lists : List (List Con)) → AreRemarks (alternative_lines table b lists)
    alternative-remarks b [] = nothing
    alternative-remarks true (cs ∷ more) =
        both (codes "% where " ++ cons_text table true cs ++ codes "\n") (alternative_lines table false more) [] []
        (one-remark (codes " where " ++ cons_text table true cs) (cons-clean true cs)) (alternative-remarks false more)
    alternative-remarks false (cs ∷ more) =
        both (codes "% or " ++ cons_text table true cs ++ codes "\n") (alternative_lines table false more) [] []
        (one-remark (codes " or " ++ cons_text table true cs) (cons-clean true cs)) (alternative-remarks false more)

    where-remarks : (sample : List Tm) (o : Option Projected) → AreRemarks (where_text table sample o)
    where-remarks sample None = one-remark (codes " where overflow") refl
    where-remarks sample (Some projected.TooMany) = one-remark (codes " where more") refl
    where-remarks sample (Some (projected.Alternatives lists)) = by (shortest (telling lists sample).lists)
      where
        by : (ls : List (List Con)) → AreRemarks (alternatives_text table ls)
        by ls =
            remarks-if (length ls == 0) (codes "% where false\n") (if has_empty ls then [] else alternative_lines table true ls) (one-remark (codes " where false") refl)
            (remarks-if (has_empty ls) [] (alternative_lines table true ls) nothing (alternative-remarks true ls))

    domain-remark : (c : Certificate) → AreRemarks (domain_line c)
    domain-remark c = remarks-if (is_flat c) (codes "% domain any\n") (codes "% domain closed\n") (one-remark (codes " domain any") refl) (one-remark (codes " domain closed") refl)

    all-remarks : (vs : List (Option ℕ)) (c : Certificate) → Each (IsNameClean table) vs → AreRemarks (remarks_text table vs c)
    all-remarks vs c h =
        let values = values_of vs c.terms in
        let sample = items c.sample in
        let known = projection c.given (shown_variables values) in
        both (flat_map (value_line table (sub_of (numbers_told sample known))) values ++ where_text table sample known) (domain_line c) [] []
        (both (flat_map (value_line table (sub_of (numbers_told sample known))) values) (where_text table sample known) [] []
        (value-remarks (sub_of (numbers_told sample known)) values (values-clean vs c.terms h)) (where-remarks sample known)) (domain-remark c)

  -- ---- ends of queries

  ending-printable : (count q : ℕ) (e : End) → is_count q ≡ true → is_printable count (ending e q) ≡ true
  unfolding is_written line_fits
  ending-printable count q e h = and_from (is_count q) true h refl

  one-end : (q : ℕ) (e : End) (text : List ℕ) → text ≡ words_of written (ending_line e q) ++ codes "\n" → is_count q ≡ true → IsPart text []
  one-end q e text same h = record {
    pieces = ending e q ∷ [];
    is = same ∙ sym (append-nil (words_of written (ending_line e q) ++ codes "\n"));
    searched = (ending-printable (length names) q e h, tt);
    told = refl;
  }

  query-end : (q : ℕ) (end : QueryEnd) → is_count q ≡ true → IsPart (end_line q end) []
  unfolding words_of
  query-end q Ended h = one-end q ended (end_line q Ended) refl h
  query-end q Stopped h = one-end q stopped (end_line q Stopped) refl h
  query-end q Spent h = one-end q spent (end_line q Spent) refl h
  query-end q Overflow h = one-end q overflow (end_line q Overflow) refl h

  last-end : (q : ℕ) (end : Option QueryEnd) → is_count q ≡ true → IsPart (last_line q end) []
  last-end q None h = nothing
  last-end q (Some end) h = query-end q end h

-- ---- answers

-- `blocks` is the law that the text of a block is that of its lines, `printable` the law that answers are printable
module _ (p : Program) (names : List (List ℕ)) (most : ℕ)
    (blocks : (names : List (List ℕ)) (c : Certificate) (n : ℕ) → block_text names c n ≡ flat_map (placed_text names) (block_lines c n)) (printable : AnswersArePrintable)
    (larger : (n : ℕ) → Grows names (with_samples names n)) (variables : (n : ℕ) (q : Query) (k : ℕ) → numbered p.queries k ≡ Some q → Each (IsNameClean (with_samples names n)) q.names) where
  abbrev Part : List ℕ → List (ℕ × Certificate) → Type 0
  Part text answers = IsPart p names (with_samples names most) text answers

  own-grows : (one : Printed) → IsMet p names most one → Grows one.names (with_samples names most)
  own-grows one h = subst (λ (t : List (List ℕ)). Grows t (with_samples names most)) (sym h.table_is) (samples-grow names h.tried h.more most h.within)

  is-filled : (n : ℕ) (one : Printed) → (h : IsMet p names most one) → IsPlaced (n, one.certificate) → IsFilled h.problem n h.tree one.certificate
  is-filled n one h placed = record {
    is = h.completes.is ∙ ap (λ (x : Program). filled x h.tree) (sym h.about);
    accepted = subst (λ (x : Program). Accepts x one.certificate) (sym h.about) h.completes.right.accepted;
    places = placed;
  }

  block-same : (n : ℕ) (one : Printed) → IsMet p names most one → IsPlaced (n, one.certificate) → block_text one.names one.certificate n ≡ block_text (with_samples names most) one.certificate n
  block-same n one h placed =
      let c = one.certificate in
      let count : ℕ = length names + free_of c in
      let agree : Agree count one.names (with_samples names most) = λ f l. grown-text one.names (with_samples names most) (own-grows one h) f (let k = h.enough in omega (arith, l, k)) in
      blocks one.names c n
      ∙ texts-same count one.names (with_samples names most) agree (block_lines c n) (printable (length names) h.budget n h.problem h.query h.tree c h.asked h.met (is-filled n one h placed))
      ∙ sym (blocks (with_samples names most) c n)

  one-answer : (n : ℕ) (one : Printed) → IsMet p names most one → IsPlaced (n, one.certificate) → Part (block_text one.names one.certificate n) ((n, one.certificate) ∷ [])
  one-answer n one h placed = record {
    pieces = answer n one.certificate ∷ [];
    is = block-same n one h placed ∙ sym (append-nil (block_text (with_samples names most) one.certificate n));
    searched = (
      record {
        problem = h.problem;
        query = h.query;
        budget = h.budget;
        tree = h.tree;
        about = h.about;
        asked = h.asked;
        met = h.met;
        filled = is-filled n one h placed;
        right = h.completes.right;
        enough = (let k = h.enough in let l = grown-length one.names (with_samples names most) (own-grows one h) in omega (arith, k, l));
      },
      tt,
    );
    told = refl;
  }

  names-known : (one : Printed) → IsMet p names most one → (k : ℕ) → Each (IsNameClean one.names) (variables_of p k)
  names-known one h k = by (numbered p.queries k) refl
    where
      by : (o : Option Query) → numbered p.queries k ≡ o → Each (IsNameClean one.names) (names_of o)
      by None e = tt
      by (Some q) e = subst (λ (t : List (List ℕ)). Each (IsNameClean t) q.names) (sym h.table_is) (variables h.tried q k e)

  shown : (number n : ℕ) (answers : List Printed) (end : Option QueryEnd) → is_count number ≡ true → AreMet p names most answers → Each IsPlaced (numbered_from n answers)
      → Part (shown_from Whole p number n answers end) (numbered_from n answers)
  shown number n [] end count h placed = last-end p names (with_samples names most) number end count
  shown number n (one ∷ more) end count h placed =
      let remarks = remarks_text one.names (variables_of p one.certificate.query) one.certificate in
      both p names (with_samples names most) (block_text one.names one.certificate n ++ remarks) (shown_from Whole p number (suc n) more end) ((n, one.certificate) ∷ []) (numbered_from (suc n) more)
      (both p names (with_samples names most) (block_text one.names one.certificate n) remarks ((n, one.certificate) ∷ []) [] (one-answer n one h.0 placed.0)
      (all-remarks p names (with_samples names most) one.names (variables_of p one.certificate.query) one.certificate (names-known one h.0 one.certificate.query)))
      (shown number (suc n) more end count h.1 placed.1)

  small : (n : ℕ) → n < 2 ^ 64 → is_count n ≡ true
  small n l = grind (arith, nat_tests, l)

  pub queries : (number : ℕ) (all : List Shown) → number + length all < 2 ^ 64 → Each (λ s. AreMet p names most s.answers) all → Each IsPlaced (printed_answers all)
      → Part (queries_text Whole p number all) (printed_answers all)
  queries number [] few h placed = nothing p names (with_samples names most)
  queries number (s ∷ all) few h placed =
      both p names (with_samples names most) (shown_from Whole p number 1 s.answers s.end) (queries_text Whole p (suc number) all) (numbered_from 1 s.answers) (printed_answers all)
      (shown number 1 s.answers s.end (small number (omega (arith, few))) h.0 (Each-left IsPlaced (numbered_from 1 s.answers) (printed_answers all) placed))
      (queries (suc number) all (omega (arith, few)) h.1 (Each-right IsPlaced (numbered_from 1 s.answers) (printed_answers all) placed))
