-- Lines are read back, by their first word.
use Rattle.std.proofs.Common.{◌≡◌, ℕ, ◌<◌, ◌^◌, Bool, true, false, cond, ◌&&◌, ◌||◌, ◌==◌, nat_lt, List, [], ◌∷◌, ◌++◌, length, codes, decimal, Option, None, Some, refl, sym, ap, subst, ◌∙◌, append_assoc, append-nil}
use Rattle.std.specs.Prelude.{if◌then◌else◌, option_map}
use Rattle.std.specs.List.{list_any}
use Rattle.std.specs.Str.{bytes_eq}
use Rattle.std.proofs.lemmas.Bool.{and_parts, false≢true}
use Rattle.std.proofs.lemmas.Slice.Eq.{bytes_eq-Decides}
use borrow.Author.Tests.{eqb-true}
use Rattle.scasp_list.specs.Each.{Each}
use Rattle.scasp_num.specs.Arithmetic.{◌>>=◌}
use Rattle.scasp_syntax.specs.Tm.{Tm, Tms}
use Rattle.scasp_syntax.specs.declared.atom.Atom.{Atom}
use Rattle.scasp_syntax.specs.declared.atom.Lit.{Lit}
use Rattle.scasp_syntax.specs.declared.atom.Pred.{Pred}
use Rattle.scasp_syntax.specs.declared.con.Con.{Con}
use Rattle.scasp_syntax.specs.declared.hint.Hint.{Hint}
use Rattle.scasp_syntax.specs.declared.hint.Hint.TheVariants as hint
use Rattle.scasp_syntax.specs.declared.predicate_map.PredMap.{PredMap}
use Rattle.scasp_cert.specs.declared.certificate.Clash.{Clash}
use Rattle.scasp_cert.specs.Text.Names.{text_at, name_text, is_plain}
use Rattle.scasp_cert.specs.Text.Terms.{list_text, minus_text, atom_text, lit_text}
use Rattle.scasp_cert.specs.Text.Constraints.{con_text}
use Rattle.scasp_cert.specs.Text.Hints.{hint_text}
use Rattle.scasp_cert.specs.Text.Block.{pred_text}
use Rattle.scasp_reader_terms.specs.Names.{place_in}
use Rattle.scasp_answers_terms.specs.Tokens.Tokens.{Token, word, quoted, digits, minus, plus, sign, tokens_in}
use Rattle.scasp_answers_terms.specs.Tokens.Readers.{Parsed, made, both, past_text, only, number_at}
use Rattle.scasp_answers_terms.specs.Tokens.Names.{name_at}
use Rattle.scasp_answers_terms.specs.Tokens.Bounds.{is_place, bounded_place, is_count, terms_fit, con_fits, hint_fits, line_fits}
use Rattle.scasp_answers_terms.specs.Tokens.Terms.{list_at, atom_at, lit_at}
use Rattle.scasp_answers_terms.specs.Tokens.Constraints.{con_at, related_to}
use Rattle.scasp_answers_terms.specs.Tokens.Hints.{hint_at}
use Rattle.scasp_answers_terms.specs.Tokens.Reasons.{reasons, reason_at}
use Rattle.scasp_answers_terms.specs.Tokens.Lines.{End, ended, stopped, spent, overflow, end_text, place_text, Line, header_line, ending_line, rejected_line, answer_line, given_line, sample_line, tree_line, check_line, clash_line, map_line, end_line, pos_line, neg_line, loop_line, seen_line, test_line, rule_line, split_line, void_line, leaf_line, head_line, words_of}
use Rattle.scasp_answers_terms.specs.Tokens.Forms.{place_at, pred_of, clash_of, map_of, unsigned_pred_at, pred_at, level_sign_at, rejected_at, answer_at, clash_at, map_at, pos_at, repeat_at, test_at, version_at, line_at, nothing_behind, line_in}
use Rattle.scasp_law_answer_text.specs.LineReadback.Endings.{ends_part}
use Rattle.scasp_law_answer_text.specs.LineReadback.Writable.{IsTable, are_named, is_spelled, is_hint, is_written, Writable}
use Rattle.scasp_law_answer_text.proofs.LineReadbackLemmas.Fronts.{ends-digits, ends-name, minus-read}
use Rattle.scasp_law_answer_text.proofs.LineReadbackLemmas.Words.{name_token, name-read}
use Rattle.scasp_law_answer_text.proofs.LineReadbackLemmas.Table.{text-utf8, text-place}
use Rattle.scasp_law_answer_text.proofs.LineReadbackLemmas.Numerals.{digits-read}
use Rattle.scasp_law_answer_text.proofs.LineReadbackLemmas.Leaves.{place-below, place-same, count-below}
use Rattle.scasp_law_answer_text.proofs.LineReadbackLemmas.Terms.{Fines}
use Rattle.scasp_law_answer_text.proofs.LineReadbackLemmas.Lists.{name_at-read, FineAtom, list-read, atom-read, lit-read}
use Rattle.scasp_law_answer_text.proofs.LineReadbackLemmas.Constraints.{EndsCon, ends-line, con-read}
use Rattle.scasp_law_answer_text.proofs.LineReadbackLemmas.Hints.{hint-read}
use Rattle.scasp_law_answer_text.proofs.LineReadbackLemmas.Readings.{both-reads, number-here}

-- ---- texts between the parts of a line

past-blank : (rest : List ℕ) → past_text (codes " ") (tokens_in (32 ∷ rest)) ≡ Some (tokens_in rest)
unfolding past_text tokens_in
past-blank rest = refl

past-point : (rest : List ℕ) → past_text (codes ".") (tokens_in (46 ∷ rest)) ≡ Some (tokens_in rest)
unfolding past_text tokens_in
past-point rest = refl

past-slash : (rest : List ℕ) → past_text (codes "/") (tokens_in (47 ∷ rest)) ≡ Some (tokens_in rest)
unfolding past_text tokens_in
past-slash rest = refl

past-rule : (rest : List ℕ) → past_text (codes " rule ") (tokens_in (codes " rule " ++ rest)) ≡ Some (tokens_in rest)
unfolding past_text tokens_in
past-rule rest = refl

past-at : (rest : List ℕ) → past_text (codes " at ") (tokens_in (codes " at " ++ rest)) ≡ Some (tokens_in rest)
unfolding past_text tokens_in
past-at rest = refl

-- ---- numbers

-- what the reading gives of the bytes, with nothing behind it
abbrev Whole : {A : Type 0} → (List Token → Parsed A) → List ℕ → A → Type 0
Whole reads bytes a = reads (tokens_in bytes) ≡ Some (a, [])

nothing : tokens_in [] ≡ []
unfolding tokens_in
nothing = refl

-- what is read at the line's end
at-end : {A : Type 0} (reads : List Token → Parsed A) (text : List ℕ) (a : A) → reads (tokens_in (text ++ [])) ≡ Some (a, tokens_in []) → Whole reads text a
at-end reads text a e = ap (λ bytes. reads (tokens_in bytes)) (sym (append-nil text)) ∙ e ∙ ap (λ ts. Some (a, ts)) nothing

number-end : (n : ℕ) → n < 2 ^ 128 → Whole number_at (decimal n) n
number-end n h = at-end number_at (decimal n) n (number-here n [] h (ends-digits [] refl))

-- `Q.N` before a blank
place-read : (q n : ℕ) (rest : List ℕ) → is_count q ≡ true → is_count n ≡ true → place_at (tokens_in (decimal q ++ (46 ∷ (decimal n ++ (32 ∷ rest))))) ≡ Some ((q, n), tokens_in (32 ∷ rest))
place-read q n rest hq hn =
    let behind = decimal n ++ (32 ∷ rest) in
    both-reads number_at (codes ".") number_at (tokens_in (decimal q ++ (46 ∷ behind))) (tokens_in (46 ∷ behind)) (tokens_in behind) (tokens_in (32 ∷ rest)) q n
    (number-here q (46 ∷ behind) (count-below q hq) (ends-digits (46 ∷ behind) refl)) (past-point behind) (number-here n (32 ∷ rest) (count-below n hn) (ends-digits (32 ∷ rest) refl))

-- a number, a blank, and what stands behind it
numbered : {B : Type 0} (reads : List Token → Parsed B) (n : ℕ) (rest : List ℕ) (b : B) → n < 2 ^ 128 → Whole reads rest b → Whole (both number_at (codes " ") reads) (decimal n ++ (32 ∷ rest)) (n, b)
numbered reads n rest b h e =
    both-reads number_at (codes " ") reads (tokens_in (decimal n ++ (32 ∷ rest))) (tokens_in (32 ∷ rest)) (tokens_in rest) [] n b
    (number-here n (32 ∷ rest) h (ends-digits (32 ∷ rest) refl)) (past-blank rest) e

-- ---- reasons

reads-each : Each (λ r. reason_at (tokens_in r) ≡ Some (r, [])) reasons
unfolding past_text tokens_in
reads-each = (refl, (refl, (refl, (refl, (refl, (refl, (refl, (refl, (refl, (refl, (refl, (refl, (refl, (refl, (refl, (refl, (refl, (refl, (refl, (refl, tt))))))))))))))))))))

pub among : (P : List ℕ → Type 0) (xs : List (List ℕ)) (x : List ℕ) → Each P xs → list_any (bytes_eq x) xs ≡ true → P x
among P [] x h e = absurd (false≢true e)
among P (y ∷ ys) x h e = by (bytes_eq x y) refl (among P ys x h.1)
  where
    by : (t : Bool) → bytes_eq x y ≡ t → (list_any (bytes_eq x) ys ≡ true → P x) → P x
    by true s more = let same : y ≡ x = sym ((bytes_eq-Decides x y).0 s) in subst P same h.0
    by false s more = more (sym (ap (λ t. t || list_any (bytes_eq x) ys) s) ∙ e)

-- ---- the forms

-- what is left of a line is nothing
abbrev complete : {A : Type 0} → (A → Line) → Parsed A → Option Line
complete make o = made make o >>= (λ r. nothing_behind r.0 r.1)

module _ (place : List ℕ → ℕ) where
  header-form : (body : List ℕ) → line_in place (codes "scasp " ++ body) ≡ complete header_line (version_at (tokens_in body))
  unfolding line_in line_at past_text tokens_in
  header-form body = refl

  ending-form : (e : End) (body : List ℕ) → line_in place (end_text e ++ body) ≡ complete (ending_line e) (number_at (tokens_in body))
  unfolding line_in line_at past_text tokens_in
  ending-form ended body = refl
  ending-form stopped body = refl
  ending-form spent body = refl
  ending-form overflow body = refl

  rejected-form : (body : List ℕ) → line_in place (codes "rejected " ++ body) ≡ complete (λ r. rejected_line r.0.0 r.0.1 r.1.0 r.1.1) (rejected_at (tokens_in body))
  unfolding line_in line_at past_text tokens_in
  rejected-form body = refl

  answer-form : (body : List ℕ) → line_in place (codes "answer " ++ body) ≡ complete (λ r. answer_line r.0.0 r.0.1 r.1) (answer_at place (tokens_in body))
  unfolding line_in line_at past_text tokens_in
  answer-form body = refl

  given-form : (body : List ℕ) → line_in place (codes "given " ++ body) ≡ complete given_line (con_at place (tokens_in body))
  unfolding line_in line_at past_text tokens_in
  given-form body = refl

  sample-form : (body : List ℕ) → line_in place (codes "sample " ++ body) ≡ complete sample_line (list_at place (tokens_in body))
  unfolding line_in line_at past_text tokens_in
  sample-form body = refl

  tree-form : line_in place (codes "tree") ≡ Some tree_line
  unfolding line_in line_at tokens_in
  tree-form = refl

  check-form : (body : List ℕ) → line_in place (codes "check " ++ body) ≡ complete check_line (number_at (tokens_in body))
  unfolding line_in line_at past_text tokens_in
  check-form body = refl

  clash-form : (body : List ℕ) → line_in place (codes "clash " ++ body) ≡ complete (λ r. clash_line (clash_of r)) (clash_at (tokens_in body))
  unfolding line_in line_at past_text tokens_in
  clash-form body = refl

  map-form : (body : List ℕ) → line_in place (codes "map " ++ body) ≡ complete (λ r. map_line (map_of r)) (map_at place (tokens_in body))
  unfolding line_in line_at past_text tokens_in
  map-form body = refl

  end-form : line_in place (codes "end") ≡ Some end_line
  unfolding line_in line_at tokens_in
  end-form = refl

  pos-form : (body : List ℕ) → line_in place (codes "pos " ++ body) ≡ complete (λ r. pos_line r.0 r.1.0 r.1.1) (pos_at place (tokens_in body))
  unfolding line_in line_at past_text tokens_in
  pos-form body = refl

  neg-form : (body : List ℕ) → line_in place (codes "neg " ++ body) ≡ complete neg_line (atom_at place (tokens_in body))
  unfolding line_in line_at past_text tokens_in
  neg-form body = refl

  loop-form : (body : List ℕ) → line_in place (codes "loop " ++ body) ≡ complete (λ r. loop_line r.0 r.1) (repeat_at place (tokens_in body))
  unfolding line_in line_at past_text tokens_in
  loop-form body = refl

  seen-form : (body : List ℕ) → line_in place (codes "seen " ++ body) ≡ complete (λ r. seen_line r.0 r.1) (repeat_at place (tokens_in body))
  unfolding line_in line_at past_text tokens_in
  seen-form body = refl

  test-form : (body : List ℕ) → line_in place (codes "test " ++ body) ≡ complete (λ r. test_line r.0 r.1) (test_at place (tokens_in body))
  unfolding line_in line_at past_text tokens_in
  test-form body = refl

  rule-form : (body : List ℕ) → line_in place (codes "rule " ++ body) ≡ complete rule_line (number_at (tokens_in body))
  unfolding line_in line_at past_text tokens_in
  rule-form body = refl

  split-form : (body : List ℕ) → line_in place (codes "split " ++ body) ≡ complete split_line (con_at place (tokens_in body))
  unfolding line_in line_at past_text tokens_in
  split-form body = refl

  void-form : (body : List ℕ) → line_in place (codes "void " ++ body) ≡ complete void_line (hint_at (tokens_in body))
  unfolding line_in line_at past_text tokens_in
  void-form body = refl

  leaf-form : (body : List ℕ) → line_in place (codes "leaf " ++ body) ≡ complete leaf_line (number_at (tokens_in body))
  unfolding line_in line_at past_text tokens_in
  leaf-form body = refl

  head-form : line_in place (codes "head") ≡ Some head_line
  unfolding line_in line_at tokens_in
  head-form = refl

-- ---- bounds

pub three-fit : (a b c : Bool) → (a && b && c) ≡ true → (a ≡ true) × (b ≡ true) × (c ≡ true)
three-fit a b c e = let p = and_parts (a && b) c e in let q = and_parts a b p.0 in (q.0, q.1, p.1)

-- a constraint before a hint

behind-con : (place : List ℕ → ℕ) (h : Hint) → EndsCon place (32 ∷ hint_text h)
unfolding past_text tokens_in
behind-con place h = record { part = refl; free = refl; unrelated = λ t. by t h }
  where
    by : (t : Tm) (h : Hint) → related_to place t (tokens_in (32 ∷ hint_text h)) ≡ None
    by t hint.Terms = refl
    by t (hint.Rows steps) = refl
    by t (hint.Same n lists) = refl

module _ (names : List (List ℕ)) (table : IsTable names) where
  abbrev place : List ℕ → ℕ
  place = place_in names

  abbrev Reads : Line → Type 0
  Reads l = line_in place (words_of names l) ≡ Some l

  -- ---- lines with one part

  header-read : (v : ℕ) → (v == 1) ≡ true → is_count v ≡ true → Reads (header_line v)
  unfolding words_of
  header-read v one h =
      header-form place (decimal v) ∙ ap (λ o. complete header_line (o >>= (λ r. if r.0 == 1 then Some r else None))) (number-end v (count-below v h)) ∙ rw one refl

  ending-read : (e : End) (q : ℕ) → is_count q ≡ true → Reads (ending_line e q)
  unfolding words_of
  ending-read e q h = ending-form place e (decimal q) ∙ ap (complete (ending_line e)) (number-end q (count-below q h))

  given-read : (c : Con) → is_spelled (length names) c ≡ true → con_fits c ≡ true → Reads (given_line c)
  unfolding words_of
  given-read c n f = given-form place (con_text names c) ∙ ap (complete given_line) (at-end (con_at place) (con_text names c) c (con-read names table [] (ends-line place) c n f))

  sample-read : (ts : Tms) → Fines names table ts → Reads (sample_line ts)
  unfolding words_of
  sample-read ts g = sample-form place (list_text names ts) ∙ ap (complete sample_line) (at-end (list_at place) (list_text names ts) ts (list-read names table ts [] g))

  check-read : (k : ℕ) → is_count k ≡ true → Reads (check_line k)
  unfolding words_of
  check-read k h = check-form place (decimal k) ∙ ap (complete check_line) (number-end k (count-below k h))

  neg-read : (a : Atom) → FineAtom names table a → Reads (neg_line a)
  unfolding words_of
  neg-read a g = neg-form place (atom_text names a) ∙ ap (complete neg_line) (at-end (atom_at place) (atom_text names a) a (atom-read names table a [] g refl))

  rule-read : (k : ℕ) → is_place k ≡ true → Reads (rule_line k)
  unfolding words_of
  rule-read k h = rule-form place (decimal k) ∙ ap (complete rule_line) (number-end k (place-below k h))

  split-read : (c : Con) → is_spelled (length names) c ≡ true → con_fits c ≡ true → Reads (split_line c)
  unfolding words_of
  split-read c n f = split-form place (con_text names c) ∙ ap (complete split_line) (at-end (con_at place) (con_text names c) c (con-read names table [] (ends-line place) c n f))

  hint-end : (h : Hint) → is_hint h ≡ true → hint_fits h ≡ true → Whole hint_at (hint_text h) h
  hint-end h i f = at-end hint_at (hint_text h) h (hint-read h [] i f refl)

  void-read : (h : Hint) → is_hint h ≡ true → hint_fits h ≡ true → Reads (void_line h)
  unfolding words_of
  void-read h i f = void-form place (hint_text h) ∙ ap (complete void_line) (hint-end h i f)

  leaf-read : (k : ℕ) → is_count k ≡ true → Reads (leaf_line k)
  unfolding words_of
  leaf-read k h = leaf-form place (decimal k) ∙ ap (complete leaf_line) (number-end k (count-below k h))

  -- ---- lines with several parts

  repeat-read : (l : Lit) (at : ℕ) → FineAtom names table l.atom → is_place at ≡ true → Whole (repeat_at place) (lit_text names l ++ (codes " at " ++ decimal at)) (l, at)
  repeat-read l at g h =
      let behind = codes " at " ++ decimal at in
      both-reads (lit_at place) (codes " at ") number_at (tokens_in (lit_text names l ++ behind)) (tokens_in behind) (tokens_in (decimal at)) [] l at
      (lit-read names table l behind g refl) (past-at (decimal at)) (number-end at (place-below at h))

  loop-read : (l : Lit) (at : ℕ) → FineAtom names table l.atom → is_place at ≡ true → Reads (loop_line l at)
  unfolding words_of
  loop-read l at g h =
      ap (λ bytes. line_in place (codes "loop " ++ bytes)) (append_assoc (lit_text names l) (codes " at ") (decimal at))
      ∙ loop-form place (lit_text names l ++ (codes " at " ++ decimal at)) ∙ ap (complete (λ r. loop_line r.0 r.1)) (repeat-read l at g h)

  seen-read : (l : Lit) (at : ℕ) → FineAtom names table l.atom → is_place at ≡ true → Reads (seen_line l at)
  unfolding words_of
  seen-read l at g h =
      ap (λ bytes. line_in place (codes "seen " ++ bytes)) (append_assoc (lit_text names l) (codes " at ") (decimal at))
      ∙ seen-form place (lit_text names l ++ (codes " at " ++ decimal at)) ∙ ap (complete (λ r. seen_line r.0 r.1)) (repeat-read l at g h)

  test-read : (c : Con) (h : Hint) → is_spelled (length names) c ≡ true → is_hint h ≡ true → con_fits c ≡ true → hint_fits h ≡ true → Reads (test_line c h)
  unfolding words_of
  test-read c h n i f k =
      let behind = 32 ∷ hint_text h in
      ap (λ bytes. line_in place (codes "test " ++ bytes)) (append_assoc (con_text names c) (codes " ") (hint_text h))
      ∙ test-form place (con_text names c ++ behind)
      ∙ ap (complete (λ r. test_line r.0 r.1))
      (both-reads (con_at place) (codes " ") hint_at (tokens_in (con_text names c ++ behind)) (tokens_in behind) (tokens_in (hint_text h)) [] c h (con-read names table behind (behind-con place h) c n f)
      (past-blank (hint_text h)) (hint-end h i k))

  pos-grouped : (a b c d e : List ℕ) → (((a ++ b) ++ c) ++ d) ++ e ≡ a ++ (b ++ (c ++ (d ++ e)))
  pos-grouped a b c d e = simp append_assoc

  list-end : (ts : Tms) → Fines names table ts → Whole (list_at place) (list_text names ts) ts
  list-end ts g = at-end (list_at place) (list_text names ts) ts (list-read names table ts [] g)

  pos-read : (a : Atom) (rule : ℕ) (ts : Tms) → FineAtom names table a → is_place rule ≡ true → Fines names table ts → Reads (pos_line a rule ts)
  unfolding words_of
  pos-read a rule ts g h ht =
      let numbers = decimal rule ++ (32 ∷ list_text names ts) in
      let behind = codes " rule " ++ numbers in
      ap (λ bytes. line_in place (codes "pos " ++ bytes)) (pos-grouped (atom_text names a) (codes " rule ") (decimal rule) (codes " ") (list_text names ts))
      ∙ pos-form place (atom_text names a ++ behind)
      ∙ ap (complete (λ r. pos_line r.0 r.1.0 r.1.1))
      (both-reads (atom_at place) (codes " rule ") (both number_at (codes " ") (list_at place)) (tokens_in (atom_text names a ++ behind)) (tokens_in behind) (tokens_in numbers) [] a (rule, ts)
      (atom-read names table a behind g refl) (past-rule numbers) (numbered (list_at place) rule (list_text names ts) ts (place-below rule h) (list-end ts ht)))

  -- `Q.N`, a blank, and what stands behind it
  placed : {B : Type 0} (reads : List Token → Parsed B) (q n : ℕ) (rest : List ℕ) (b : B) → is_count q ≡ true → is_count n ≡ true → Whole reads rest b
      → Whole (both place_at (codes " ") reads) (decimal q ++ (46 ∷ (decimal n ++ (32 ∷ rest)))) ((q, n), b)
  placed reads q n rest b hq hn e =
      both-reads place_at (codes " ") reads (tokens_in (decimal q ++ (46 ∷ (decimal n ++ (32 ∷ rest))))) (tokens_in (32 ∷ rest)) (tokens_in rest) [] (q, n) b (place-read q n rest hq hn) (past-blank rest) e

  answer-grouped : (q p n b e : List ℕ) → (((q ++ p) ++ n) ++ b) ++ e ≡ q ++ (p ++ (n ++ (b ++ e)))
  answer-grouped q p n b e = simp append_assoc

  answer-read : (q n : ℕ) (ts : Tms) → is_count q ≡ true → is_count n ≡ true → Fines names table ts → Reads (answer_line q n ts)
  unfolding words_of
  answer-read q n ts hq hn g =
      ap (λ bytes. line_in place (codes "answer " ++ bytes)) (answer-grouped (decimal q) (codes ".") (decimal n) (codes " ") (list_text names ts))
      ∙ answer-form place (decimal q ++ (46 ∷ (decimal n ++ (32 ∷ list_text names ts))))
      ∙ ap (complete (λ r. answer_line r.0.0 r.0.1 r.1)) (placed (list_at place) q n (list_text names ts) ts hq hn (list-end ts g))

  rejected-grouped : (q p n b a c r : List ℕ) → (((((q ++ p) ++ n) ++ b) ++ a) ++ c) ++ r ≡ q ++ (p ++ (n ++ (b ++ (a ++ (c ++ r)))))
  rejected-grouped q p n b a c r = simp append_assoc

  rejected-read : (q n at : ℕ) (reason : List ℕ) → list_any (bytes_eq reason) reasons ≡ true → is_count q ≡ true → is_count n ≡ true → is_place at ≡ true → Reads (rejected_line q n at reason)
  unfolding words_of
  rejected-read q n at reason r hq hn ha =
      let behind = decimal at ++ (32 ∷ reason) in
      ap (λ bytes. line_in place (codes "rejected " ++ bytes)) (rejected-grouped (decimal q) (codes ".") (decimal n) (codes " ") (decimal at) (codes " ") reason)
      ∙ rejected-form place (decimal q ++ (46 ∷ (decimal n ++ (32 ∷ behind))))
      ∙ ap (complete (λ r. rejected_line r.0.0 r.0.1 r.1.0 r.1.1))
      (placed (both number_at (codes " ") reason_at) q n behind (at, reason) hq hn
      (numbered reason_at at reason reason (place-below at ha) (among (λ r. reason_at (tokens_in r) ≡ Some (r, [])) reasons reason reads-each r)))

  clash-grouped : (a b c d e : List ℕ) → (((a ++ b) ++ c) ++ d) ++ e ≡ a ++ (b ++ (c ++ (d ++ e)))
  clash-grouped a b c d e = simp append_assoc

  clash-read : (k : Clash) → is_hint k.hint ≡ true → is_place k.first ≡ true → is_place k.second ≡ true → hint_fits k.hint ≡ true → Reads (clash_line k)
  unfolding words_of
  clash-read k i h1 h2 f =
      let second = decimal k.second ++ (32 ∷ hint_text k.hint) in
      ap (λ bytes. line_in place (codes "clash " ++ bytes)) (clash-grouped (decimal k.first) (codes " ") (decimal k.second) (codes " ") (hint_text k.hint))
      ∙ clash-form place (decimal k.first ++ (32 ∷ second))
      ∙ ap (complete (λ r. clash_line (clash_of r)))
      (numbered (both number_at (codes " ") hint_at) k.first second (k.second, k.hint) (place-below k.first h1)
      (numbered hint_at k.second (hint_text k.hint) k.hint (place-below k.second h2) (hint-end k.hint i f)))
      ∙ (λ i. Some (clash_line (record { first = place-same k.first h1 i; second = place-same k.second h2 i; hint = k.hint })))

  -- ---- the map

  level-plus : Whole level_sign_at (codes "+") true
  unfolding past_text tokens_in
  level-plus = refl

  level-minus : Whole level_sign_at (codes "-") false
  unfolding past_text tokens_in
  level-minus = refl

  abbrev sign_bytes : Bool → List ℕ
  sign_bytes p = if p then codes "+" else codes "-"

  level-sign : (p : Bool) → Whole level_sign_at (sign_bytes p) p
  level-sign true = level-plus
  level-sign false = level-minus

  unsigned_pred-read : (negative : Bool) (f n : ℕ) (rest : List ℕ) → nat_lt f (length names) ≡ true → is_count n ≡ true → ends_part rest ≡ true
      → unsigned_pred_at place negative (tokens_in (name_text names f ++ (47 ∷ (decimal n ++ rest)))) ≡ Some (pred_of negative (f, n), tokens_in rest)
  unsigned_pred-read negative f n rest hf hn end =
      let behind = 47 ∷ (decimal n ++ rest) in
      let text = text_at names f in
      ap (made (pred_of negative))
      (both-reads (name_at place) (codes "/") number_at (tokens_in (name_text names f ++ behind)) (tokens_in behind) (tokens_in (decimal n ++ rest)) (tokens_in rest) (place text) n
      (ap (name_at place) (name-read text behind (text-utf8 names table f hf) refl) ∙ name_at-read place text (tokens_in behind)) (past-slash (decimal n ++ rest))
      (number-here n rest (count-below n hn) (ends-digits rest end)))
      ∙ ap (λ g. Some (pred_of negative (g, n), tokens_in rest)) (text-place names table f hf)

  plain_pred : (text : List ℕ) (ts : List Token) → pred_at place (name_token text ∷ ts) ≡ unsigned_pred_at place false (name_token text ∷ ts)
  plain_pred text ts = by (is_plain text)
    where
      by : (plain : Bool) → pred_at place (cond plain (word text) (quoted text) ∷ ts) ≡ unsigned_pred_at place false (cond plain (word text) (quoted text) ∷ ts)
      by true = refl
      by false = refl

  pred-grouped : (m n s d rest : List ℕ) → (((m ++ n) ++ s) ++ d) ++ rest ≡ m ++ (n ++ (s ++ (d ++ rest)))
  pred-grouped m n s d rest = simp append_assoc

  pred-read : (p : Pred) (rest : List ℕ) → nat_lt p.name (length names) ≡ true → is_count p.arity ≡ true → ends_part rest ≡ true → pred_at place (tokens_in (pred_text names p ++ rest)) ≡ Some (p, tokens_in rest)
  unfolding pred_text
  pred-read p rest hf hn end =
      ap (λ bytes. pred_at place (tokens_in bytes)) (pred-grouped (minus_text p.minus) (name_text names p.name) (codes "/") (decimal p.arity) rest) ∙ by p.minus
    where
      first : tokens_in (name_text names p.name ++ (47 ∷ (decimal p.arity ++ rest))) ≡ name_token (text_at names p.name) ∷ tokens_in (47 ∷ (decimal p.arity ++ rest))
      first = name-read (text_at names p.name) (47 ∷ (decimal p.arity ++ rest)) (text-utf8 names table p.name hf) refl

      by : (m : Bool) → pred_at place (tokens_in (minus_text m ++ (name_text names p.name ++ (47 ∷ (decimal p.arity ++ rest))))) ≡ Some (pred_of m (p.name, p.arity), tokens_in rest)
      by true = ap (pred_at place) (minus-read (name_text names p.name ++ (47 ∷ (decimal p.arity ++ rest)))) ∙ unsigned_pred-read true p.name p.arity rest hf hn end
      by false =
          ap (pred_at place) first ∙ plain_pred (text_at names p.name) (tokens_in (47 ∷ (decimal p.arity ++ rest))) ∙ ap (unsigned_pred_at place false) (sym first)
          ∙ unsigned_pred-read false p.name p.arity rest hf hn end

  map-grouped : (p b l s : List ℕ) → ((p ++ b) ++ l) ++ s ≡ p ++ (b ++ (l ++ s))
  map-grouped p b l s = simp append_assoc

  map-read : (m : PredMap) → nat_lt m.pred.name (length names) ≡ true → is_count m.pred.arity ≡ true → is_place m.level ≡ true → Reads (map_line m)
  unfolding words_of
  map-read m hf hn hl =
      let behind = 32 ∷ (decimal m.level ++ (32 ∷ sign_bytes m.plus)) in
      ap (λ bytes. line_in place (codes "map " ++ bytes)) (map-grouped (pred_text names m.pred) (codes " ") (decimal m.level) (if m.plus then codes " +" else codes " -"))
      ∙ ap (λ s. line_in place (codes "map " ++ (pred_text names m.pred ++ (32 ∷ (decimal m.level ++ s))))) (signs m.plus)
      ∙ map-form place (pred_text names m.pred ++ behind)
      ∙ ap (complete (λ r. map_line (map_of r)))
      (both-reads (pred_at place) (codes " ") (both number_at (codes " ") level_sign_at) (tokens_in (pred_text names m.pred ++ behind)) (tokens_in behind) (tokens_in (decimal m.level ++ (32 ∷ sign_bytes m.plus))) [] m.pred (m.level, m.plus)
      (pred-read m.pred behind hf hn refl) (past-blank (decimal m.level ++ (32 ∷ sign_bytes m.plus)))
      (numbered level_sign_at m.level (sign_bytes m.plus) m.plus (place-below m.level hl) (level-sign m.plus)))
      ∙ rw (hn, hl) refl
    where
      signs : (p : Bool) → (if p then codes " +" else codes " -") ≡ 32 ∷ sign_bytes p
      signs true = refl
      signs false = refl

  -- ---- lines of one word

  tree-read : Reads tree_line
  unfolding words_of
  tree-read = tree-form place

  end-read : Reads end_line
  unfolding words_of
  end-read = end-form place

  head-read : Reads head_line
  unfolding words_of
  head-read = head-form place

  -- ---- any line

  atom-fine : (a : Atom) → (nat_lt a.name (length names) && are_named (length names) a.args) ≡ true → terms_fit a.args ≡ true → FineAtom names table a
  atom-fine a n f = let p = and_parts (nat_lt a.name (length names)) (are_named (length names) a.args) n in (p.0, (p.1, f))

  line-read : (l : Line) → is_written (length names) l ≡ true → line_fits l ≡ true → Reads l
  unfolding is_written line_fits
  line-read (header_line v) w f = header-read v w f
  line-read (ending_line e q) w f = ending-read e q f
  line-read (rejected_line q n at reason) w f = let h = three-fit (is_count q) (is_count n) (is_place at) f in rejected-read q n at reason w h.0 h.1 h.2
  line-read (answer_line q n ts) w f = let h = three-fit (is_count q) (is_count n) (terms_fit ts) f in answer-read q n ts h.0 h.1 (w, h.2)
  line-read (given_line c) w f = given-read c w f
  line-read (sample_line ts) w f = sample-read ts (w, f)
  line-read tree_line w f = tree-read
  line-read (check_line k) w f = check-read k f
  line-read (clash_line k) w f = let h = three-fit (is_place k.first) (is_place k.second) (hint_fits k.hint) f in clash-read k w h.0 h.1 h.2
  line-read (map_line m) w f = let h = and_parts (is_count m.pred.arity) (is_place m.level) f in map-read m w h.0 h.1
  line-read end_line w f = end-read
  line-read (pos_line a rule ts) w f =
      let h = three-fit (terms_fit a.args) (is_place rule) (terms_fit ts) f in
      let n = and_parts (nat_lt a.name (length names) && are_named (length names) a.args) (are_named (length names) ts) w in
      pos-read a rule ts (atom-fine a n.0 h.0) h.1 (n.1, h.2)
  line-read (neg_line a) w f = neg-read a (atom-fine a w f)
  line-read (loop_line l at) w f = let h = and_parts (terms_fit l.atom.args) (is_place at) f in loop-read l at (atom-fine l.atom w h.0) h.1
  line-read (seen_line l at) w f = let h = and_parts (terms_fit l.atom.args) (is_place at) f in seen-read l at (atom-fine l.atom w h.0) h.1
  line-read (test_line c h) w f =
      let n = and_parts (is_spelled (length names) c) (is_hint h) w in
      let k = and_parts (con_fits c) (hint_fits h) f in test-read c h n.0 n.1 k.0 k.1
  line-read (rule_line k) w f = rule-read k f
  line-read (split_line c) w f = split-read c w f
  line-read (void_line h) w f = void-read h w f
  line-read (leaf_line k) w f = leaf-read k f
  line-read head_line w f = head-read

pub writable-read : (names : List (List ℕ)) (l : Line) → Writable names l → line_in (place_in names) (words_of names l) ≡ Some l
writable-read names l w = line-read names w.table l w.written w.fits
