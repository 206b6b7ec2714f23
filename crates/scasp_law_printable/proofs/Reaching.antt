-- The answers of a search are within the table, and so are printable.
use Rattle.std.specs.Prelude.{◌≡◌, ℕ, ◌+◌, ◌<◌, ◌≤◌, Bool, true, false, not, ◌&&◌, if◌then◌else◌, Option, Some, None, List, [], ◌∷◌, ◌++◌, length, map, filter}
use Rattle.std.specs.List.{flat_map, list_all}
use Rattle.std.proofs.Common.{◌∙◌, ap, arith, refl, sym, subst}
use Rattle.std.proofs.lemmas.Bool.{and_from, and_parts}
use Rattle.std.proofs.lemmas.List.Folds.{list_all-append}
use Rattle.scasp_answers.specs.Blocks.Blocks.{Placed, at, block_lines}
use Rattle.scasp_answers_terms.specs.Tokens.Bounds.{line_fits, terms_fit}
use Rattle.scasp_answers_terms.specs.Tokens.Lines.{sample_line}
use Rattle.scasp_cert.specs.Certificate.{Certificate}
use Rattle.scasp_cert.specs.Trees.{Tree, Trees, Branch, Branches, pos_tree, neg_tree, loop_tree, seen_tree, test_tree, no_tree, tree, split, void, leaf, head, no_branch, branch, listed}
use Rattle.scasp_checker_rules.specs.Accepted.{Accepts}
use Rattle.scasp_checker_rules.specs.Faults.{is_map_of}
use Rattle.scasp_checker_rules.specs.SameConstraint.{same_con}
use Rattle.scasp_checker_rules.specs.Normality.{AreRowsNormal}
use Rattle.scasp_fill.specs.Filling.Filled.{clashes_found, filled, found_on}
use Rattle.scasp_fill.specs.Filling.Hinted.{shown_by}
use Rattle.scasp_law_answer_text.specs.LineReadback.Texts.{answer, are_printable, is_printable}
use Rattle.scasp_law_answer_text.specs.LineReadback.Writable.{are_named, is_written}
use Rattle.scasp_law_outcomes.specs.Problems.{IsAnswer}
use Rattle.scasp_law_outcomes.proofs.Answering.{kept-answer}
use Rattle.scasp_law_outcomes.proofs.Walking.{Invariant, met-holds}
use Rattle.scasp_law_promise.specs.OwnRows.{constraints_at, constraints_below, constraints_by, constraints_in, constraints_of, has_normal_rows, is_con_normal}
use Rattle.scasp_law_promise.proofs.OwnRowLemmas.{rows-normal}
use Rattle.scasp_law_tables.specs.Moved.{IsSampled, are_values, without_sample}
use Rattle.scasp_law_tables.proofs.Files.{is-around, lines_before, lines_behind}
use Rattle.scasp_law_tables.proofs.Samples.{values-own}
use Rattle.scasp_lines.specs.Lines.{free_of}
use Rattle.scasp_list.specs.Each.{Each}
use Rattle.scasp_list.proofs.EachLemmas.{Each-append, Each-filter, Each-map, test_from-Each}
use Rattle.scasp_nmr.specs.declared.items.CheckItem.{CheckItem}
use Rattle.scasp_num.proofs.NormalTests.{normal-decided}
use Rattle.scasp_search_rules.specs.declared.states.lines.Line.{Line}
use Rattle.scasp_search_rules.specs.declared.states.state.State.{State}
use Rattle.scasp_search_rules.specs.declared.states.tasks.Task.{Task}
use Rattle.scasp_search_rules.specs.declared.states.tasks.Task.TheVariants as task
use Rattle.scasp_search_rules.specs.Successors.Answers.{answer_of, certificate_at, given_lines, once, pair_lists, sampled}
use Rattle.scasp_search_rules.specs.Successors.Cases.{line_under}
use Rattle.scasp_search_rules.specs.Successors.Numbering.{con_renamed, free_variables, line_renamed, placing, universal_variables}
use Rattle.scasp_search_rules.specs.Successors.Problems.{Problem}
use Rattle.scasp_search_rules.specs.Successors.Reading.{con_under, holds_always}
use Rattle.scasp_search_rules.specs.Successors.Regions.{givens}
use Rattle.scasp_search_rules.specs.Successors.Replacing.{close_overflows, end_overflows}
use Rattle.scasp_search_rules.specs.Successors.Search.{answer_at, search_for, start}
use Rattle.scasp_search_rules.specs.Successors.Trees.{built, literal_lines}
use Rattle.scasp_search_rules.specs.Successors.Variables.{meaning}
use Rattle.scasp_syntax.specs.Flat.{flat_body}
use Rattle.scasp_syntax.specs.Programs.{predicates}
use Rattle.scasp_syntax.specs.Tm.{Tms, nil, items}
use Rattle.scasp_syntax.specs.Values.{Sub, all_under}
use Rattle.scasp_syntax.specs.declared.clause.Query.{Query}
use Rattle.scasp_syntax.specs.declared.con.Con.{Con}
use Rattle.scasp_syntax.specs.declared.con.Con.TheVariants as con
use Rattle.scasp_unify.specs.Negations.{new_parts}
use Rattle.scasp_unify.specs.SimpleForm.{simple}
use Rattle.scasp_law_printable.specs.Printable.{AnswersArePrintable, AnswersAreSampled, IsNamed}
use Rattle.scasp_law_printable.specs.Places.{has_places}
use Rattle.scasp_law_printable.specs.Within.{AllWithin, ClauseWithin, ConWithin, QueryWithin, Within}
use Rattle.scasp_law_printable.proofs.Bodies.{flat-within, lines-under-within, shows-within}
use Rattle.scasp_law_printable.proofs.Ending.{BranchTold, BranchesTold, BuiltTold, ConTold, EntryTold, TreeTold, TreesTold, built-told, lines-told, listed-told, renamed-told}
use Rattle.scasp_law_printable.proofs.Hints.{clashes-told, hints-told}
use Rattle.scasp_law_printable.proofs.Larger.{clause-larger, query-larger}
use Rattle.scasp_law_printable.proofs.Predicates.{map-named, predicates-within}
use Rattle.scasp_law_printable.proofs.Standing.{Held, TaskWithin, reads}
use Rattle.scasp_law_printable.proofs.Stepping.{step-held}
use Rattle.scasp_law_printable.proofs.Terms.{all-under-within, new-within, read-within, simple-within}
use Rattle.scasp_law_printable.proofs.Writing.{CertificateTold, IsWritten, block-written}

-- ---- rows in normal form

module _ (count : ℕ) where
  con-normal : (c : Con) → ConTold count c → is_con_normal c ≡ true
  con-normal (con.Row r) h = (normal-decided r).1 h.0
  con-normal (con.Eq t u) h = refl
  con-normal (con.Neq t u) h = refl
  con-normal (con.NotShape x f n) h = refl
  con-normal (con.Num t) h = refl
  con-normal (con.NotNum t) h = refl

  abbrev IsNormalCon : Con → Type 0
  IsNormalCon c = is_con_normal c ≡ true

  mutual
    tree-normal : (t : Tree) → TreeTold count t → Each IsNormalCon (constraints_by t)
    tree-normal (pos_tree a k ts children) h = trees-normal children h.2
    tree-normal (neg_tree a covers) h = branches-normal covers h.1
    tree-normal (loop_tree l n) h = tt
    tree-normal (seen_tree l n) h = tt
    tree-normal (test_tree c shown) h = (con-normal c h, tt)

    trees-normal : (ts : Trees) → TreesTold count ts → Each IsNormalCon (constraints_below ts)
    trees-normal no_tree h = tt
    trees-normal (tree t ts) h = Each-append IsNormalCon (constraints_by t) (constraints_below ts) (tree-normal t h.0) (trees-normal ts h.1)

    branch-normal : (b : Branch) → BranchTold count b → Each IsNormalCon (constraints_at b)
    branch-normal (split c first second) h =
        (con-normal c h.0, Each-append IsNormalCon (constraints_at first) (constraints_at second) (branch-normal first h.1) (branch-normal second h.2))
    branch-normal (void shown) h = tt
    branch-normal (leaf k children) h = trees-normal children h
    branch-normal (head children) h = trees-normal children h

    branches-normal : (bs : Branches) → BranchesTold count bs → Each IsNormalCon (constraints_in bs)
    branches-normal no_branch h = tt
    branches-normal (branch k b bs) h = Each-append IsNormalCon (constraints_at b) (constraints_in bs) (branch-normal b h.0) (branches-normal bs h.1)

  entries-normal : (cs : List (ℕ × Branch)) → Each (EntryTold count) cs → Each IsNormalCon (flat_map (λ k. constraints_at k.1) cs)
  entries-normal [] h = tt
  entries-normal (c ∷ cs) h = Each-append IsNormalCon (constraints_at c.1) (flat_map (λ k. constraints_at k.1) cs) (branch-normal c.1 h.0) (entries-normal cs h.1)

  certificate-normal : (c : Certificate) → CertificateTold count c → has_normal_rows c ≡ true
  certificate-normal c h =
      test_from-Each is_con_normal IsNormalCon (λ k e. e) (constraints_of c)
      (Each-append IsNormalCon c.given (constraints_below (listed c.trees) ++ flat_map (λ k. constraints_at k.1) c.checks) (Each-map (ConTold count) IsNormalCon con-normal c.given h.given)
      (Each-append IsNormalCon (constraints_below (listed c.trees)) (flat_map (λ k. constraints_at k.1) c.checks) (trees-normal (listed c.trees) (listed-told count c.trees h.trees)) (entries-normal c.checks h.checks)))

-- ---- answers

each-once : (P : Con → Type 0) (cs : List Con) → Each P cs → Each P (once cs)
each-once P [] h = tt
each-once P (c ∷ cs) h = (h.0, Each-filter P (λ d. not (same_con c d)) (once cs) (each-once P cs h.1))

-- What is said of an answer but for its map. Its sample has values with names behind those of the table, one for each variable.
record AnswerTold (count m : ℕ) (c : Certificate) : Type 0 where
  terms : AllWithin m c.terms
  given : Each (ConTold m) c.given
  trees : Each (TreeTold m) c.trees
  checks : Each (EntryTold m) c.checks
  sample : are_values count (count + free_of c) c.sample ≡ true
  sample_fits : terms_fit c.sample ≡ true

module _ (count m : ℕ) (two : 1 < m) (p : Problem) (q : Query) (clauses : Each (ClauseWithin m) p.program.clauses) (query : QueryWithin m q)
    (samples : (cs : List Con) (n : ℕ) (ts : Tms) → p.sample cs n ≡ Some ts → (length (items ts) ≡ n) × (are_values count (count + n) ts ≡ true) × (terms_fit ts ≡ true)) where
  checks-within : (is : List CheckItem) → Each (TaskWithin m) (map (λ i. task.Check i.clause i.head) is)
  checks-within [] = tt
  checks-within (i ∷ is) = (tt, checks-within is)

  begun : Held m (start q p.checks)
  begun = record {
    bound = tt;
    given = tt;
    covers = tt;
    literals = tt;
    work = Each-append (TaskWithin m) (map task.Show (flat_body q.body)) (map (λ i. task.Check i.clause i.head) p.checks) (shows-within m (flat_body q.body) (flat-within m [] q.body query)) (checks-within p.checks);
    lines = tt;
  }

  read-all : (v : Sub) → ((x : ℕ) → Within m (v x)) → (gs : List Con) → Each (ConWithin m) gs → Each (ConWithin m) (map simple (map (con_under v) gs))
  read-all v k [] h = tt
  read-all v k (c ∷ gs) h = (simple-within m two (con_under v c) (read-within m v k c h.0), read-all v k gs h.1)

  givens-within : (s : State) → Held m s → Each (ConWithin m) (given_lines s)
  givens-within s e =
      each-once (ConWithin m) (filter (λ c. not (holds_always c)) (map simple (givens s)))
      (Each-filter (ConWithin m) (λ c. not (holds_always c)) (map simple (givens s)) (read-all (meaning s) (reads m s e) s.given e.given))

  renamed-all : (v : Sub) → ((x : ℕ) → Within m (v x)) → (cs : List Con) → Each (ConWithin m) cs → Each (ConTold m) (map (con_renamed v) cs)
  renamed-all v k [] h = tt
  renamed-all v k (c ∷ cs) h = (renamed-told m two v k c h.0, renamed-all v k cs h.1)

  module _ (s : State) (e : Held m s) (queried : ℕ) where
    abbrev terms : Tms
    terms = all_under (meaning s) (new_parts 0 queried)

    abbrev told : List Line
    told = map (line_under s) s.lines

    abbrev places : Sub
    places = placing (free_variables s terms (given_lines s) told ++ universal_variables p.program told)

    made : BuiltTold m (built (literal_lines 1 told) (map (line_renamed places) told))
    made = built-told m (literal_lines 1 told) (map (line_renamed places) told) (lines-told m two places (λ x. tt) told (lines-under-within m s e s.lines e.lines))

    ended-told : (ts : Tms) → p.sample (certificate_at p s queried).given (free_of (certificate_at p s queried)) ≡ Some ts → AnswerTold count m (record (certificate_at p s queried) { sample = ts })
    ended-told ts f =
        let k = samples (certificate_at p s queried).given (free_of (certificate_at p s queried)) ts f in
        record {
          terms = all-under-within m places (λ x. tt) terms (all-under-within m (meaning s) (reads m s e) (new_parts 0 queried) (new-within m 0 queried));
          given = each-once (ConTold m) (map (con_renamed places) (given_lines s)) (renamed-all places (λ x. tt) (given_lines s) (givens-within s e));
          trees = made.nodes;
          checks = made.checks;
          sample = subst (λ (n : ℕ). are_values count (count + n) ts ≡ true) (sym k.0) k.1;
          sample_fits = k.2;
        }

    answered-told : (a : Certificate) → answer_of p (certificate_at p s queried) ≡ Some (Some a) → AnswerTold count m a
    answered-told a f = by (list_all (λ cs. not (p.sat cs)) (pair_lists p.program c)) (p.sample c.given (free_of c)) refl f
      where
        c : Certificate
        c = certificate_at p s queried

        by : (b : Bool) (o : Option Tms) → p.sample (certificate_at p s queried).given (free_of (certificate_at p s queried)) ≡ o
            → (if b then Some (sampled (certificate_at p s queried) o) else None) ≡ Some (Some a) → AnswerTold count m a
        by true (Some ts) g f = let same : record (certificate_at p s queried) { sample = ts } ≡ a = cc f in subst (AnswerTold count m) same (ended-told ts g)
        by true None g f = absurd (cc f)
        by false o g f = absurd (cc f)

    work-told : (ws : List Task) (a : Certificate) → answer_at p s queried ws ≡ Some (Some a) → AnswerTold count m a
    work-told [] a f = answered-told a (kept-answer (end_overflows s) (answer_of p (certificate_at p s queried)) a f)
    work-told (t ∷ ts) a f = absurd (cc (kept-answer (close_overflows s (t ∷ ts)) None a f))

  keeps : Invariant (search_for p q) (Held m) (AnswerTold count m)
  keeps = record {
    next = λ s e. step-held m two p.program clauses p.sat s s.work e;
    answer = λ s a e f. work-told s e (length q.names) s.work a f;
  }

  answer-told : (budget : ℕ) (c : Certificate) → IsAnswer p q budget c → AnswerTold count m c
  answer-told budget c met = met-holds (search_for p q) (Held m) (AnswerTold count m) keeps budget c (start q p.checks ∷ []) 0 (begun, tt) met

-- ---- the laws

none-fits : line_fits (sample_line nil) ≡ true
unfolding line_fits
none-fits = refl

sample-fits : (ts : Tms) → line_fits (sample_line ts) ≡ true → terms_fit ts ≡ true
unfolding line_fits
sample-fits ts e = e

-- so the line fits
both-tests : (count : ℕ) (ls : List Placed) → Each (IsWritten count) ls → list_all (λ (l : Placed). has_places l.line) ls ≡ true → are_printable count ls ≡ true
both-tests count [] h e = refl
both-tests count (l ∷ ls) h e =
    let k = and_parts (has_places l.line) (list_all (λ (l : Placed). has_places l.line) ls) e in
    and_from (is_written count l.line && line_fits l.line) (are_printable count ls) (and_from (is_written count l.line) (line_fits l.line) h.0.0 (h.0.1 k.0)) (both-tests count ls h.1 k.1)

sample-places : (ts : Tms) → has_places (sample_line ts) ≡ true
unfolding has_places
sample-places ts = refl

module _ (count budget : ℕ) (p : Problem) (q : Query) (bare : Certificate) (asked : IsNamed count p q) (met : IsAnswer p q budget bare) where
  -- what is said of the answer by a table with m names or more
  by-table : (m : ℕ) → count ≤ m → AnswerTold count m bare
  by-table m l =
      let two : 1 < m = (let k = asked.lists in omega (arith, l, k)) in
      let clauses = Each-map (ClauseWithin count) (ClauseWithin m) (clause-larger count m l) p.program.clauses asked.program.clauses in
      answer-told count m two p q clauses (query-larger count m l q asked.query) asked.samples budget bare met

  -- and with values in place of its sample that are named by that table
  with-sample : (m : ℕ) → count ≤ m → is_map_of (predicates p.program) bare.map ≡ true → (ts : Tms) → are_named m ts ≡ true → terms_fit ts ≡ true → CertificateTold m (record bare { sample = ts })
  with-sample m l map ts h f =
      let a = by-table m l in
      let clauses = Each-map (ClauseWithin count) (ClauseWithin m) (clause-larger count m l) p.program.clauses asked.program.clauses in
      let queries = Each-map (QueryWithin count) (QueryWithin m) (query-larger count m l) p.program.queries asked.program.queries in
      record {
        terms = a.terms;
        given = a.given;
        sample = h;
        sample_fits = f;
        trees = a.trees;
        checks = a.checks;
        map = map-named m bare.map (predicates p.program) (predicates-within m p.program.clauses p.program.queries clauses queries) map;
      }

  module _ (n : ℕ) (right : Accepts p.program (filled p.program bare)) (places : list_all (λ (l : Placed). has_places l.line) (block_lines (filled p.program bare) n) ≡ true) where
    more : count ≤ count + free_of bare
    more = omega arith

    values : are_values count (count + free_of bare) bare.sample ≡ true
    values = (by-table count (omega arith)).sample

    whole : CertificateTold (count + free_of bare) bare
    whole = with-sample (count + free_of bare) more right.map bare.sample (values-own count (count + free_of bare) bare.sample values) (by-table count (omega arith)).sample_fits

    normal : AreRowsNormal p.program bare
    normal = rows-normal p.program bare (certificate-normal (count + free_of bare) bare whole)

    lines : (m : ℕ) (t : Certificate) → CertificateTold m t → Each (IsWritten m) (block_lines (shown_by (found_on p.program bare) (clashes_found p.program bare) t) n)
    lines m t k = block-written m (found_on p.program bare) (hints-told p.program bare normal) t (clashes_found p.program bare) n k (clashes-told p.program bare normal)

    filled-printable : is_printable (count + free_of bare) (answer n (filled p.program bare)) ≡ true
    filled-printable = both-tests (count + free_of bare) (block_lines (filled p.program bare) n) (lines (count + free_of bare) bare whole) places

    -- the lines without the sample have such places too
    parts : (list_all (λ (l : Placed). has_places l.line) (lines_before (filled p.program bare) n) ≡ true)
        × (list_all (λ (l : Placed). has_places l.line) (at 0 (sample_line bare.sample) ∷ lines_behind (filled p.program bare)) ≡ true)
    parts =
        and_parts (list_all (λ (l : Placed). has_places l.line) (lines_before (filled p.program bare) n)) (list_all (λ (l : Placed). has_places l.line) (at 0 (sample_line bare.sample) ∷ lines_behind (filled p.program bare)))
        (sym (list_all-append (λ (l : Placed). has_places l.line) (lines_before (filled p.program bare) n) (at 0 (sample_line bare.sample) ∷ lines_behind (filled p.program bare)))
        ∙ sym (ap (list_all (λ (l : Placed). has_places l.line)) (is-around (filled p.program bare) bare.sample n)) ∙ places)

    behind : list_all (λ (l : Placed). has_places l.line) (lines_behind (filled p.program bare)) ≡ true
    behind = (and_parts (has_places (sample_line bare.sample)) (list_all (λ (l : Placed). has_places l.line) (lines_behind (filled p.program bare))) parts.1).1

    filled-sampled : IsSampled count (count + free_of bare) n (filled p.program bare)
    filled-sampled = record {
      printable =
          both-tests count (block_lines (without_sample (filled p.program bare)) n) (lines count (record bare { sample = nil }) (with-sample count (omega arith) right.map nil refl refl))
          (ap (list_all (λ (l : Placed). has_places l.line)) (is-around (filled p.program bare) nil n)
          ∙ list_all-append (λ (l : Placed). has_places l.line) (lines_before (filled p.program bare) n) (at 0 (sample_line nil) ∷ lines_behind (filled p.program bare))
          ∙ and_from (list_all (λ (l : Placed). has_places l.line) (lines_before (filled p.program bare) n)) (list_all (λ (l : Placed). has_places l.line) (at 0 (sample_line nil) ∷ lines_behind (filled p.program bare))) parts.0
          (and_from (has_places (sample_line nil)) (list_all (λ (l : Placed). has_places l.line) (lines_behind (filled p.program bare))) (sample-places nil) behind));
      values = values;
      fits = (by-table count (omega arith)).sample_fits;
    }

pub printable : AnswersArePrintable
printable count budget n p q bare c asked met is =
    subst (λ (x : Certificate). is_printable (count + free_of x) (answer n x) ≡ true) (sym is.is)
    (filled-printable count budget p q bare asked met n (subst (Accepts p.program) is.is is.accepted) (subst (λ (x : Certificate). list_all (λ (l : Placed). has_places l.line) (block_lines x n) ≡ true) is.is is.places))

pub sampled-named : AnswersAreSampled
sampled-named count budget n p q bare c asked met is =
    subst (λ (x : Certificate). IsSampled count (count + free_of x) n x) (sym is.is)
    (filled-sampled count budget p q bare asked met n (subst (Accepts p.program) is.is is.accepted) (subst (λ (x : Certificate). list_all (λ (l : Placed). has_places l.line) (block_lines x n) ≡ true) is.is is.places))
