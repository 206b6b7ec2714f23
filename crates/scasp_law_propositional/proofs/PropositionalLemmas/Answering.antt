-- Each answer of the search over a propositional program is accepted.
use Rattle.std.specs.Prelude.{◌≡◌, ℕ, zero, suc, ◌+◌, nat_eq, Bool, true, false, ◌&&◌, not, if◌then◌else◌, is_some, Option, Some, None, List, [], ◌∷◌, ◌++◌, map, filter, reverse, slice_get, drop, length}
use Rattle.std.specs.List.{list_all}
use Rattle.std.proofs.Common.{◌∙◌, refl, ap, sym, subst, arith}
use Rattle.std.proofs.lemmas.Bool.{and_parts, and_from}
use Rattle.std.proofs.lemmas.Bool.Decides.{Decides-eqb}
use Rattle.std.proofs.lemmas.List.{append-nil}
use Rattle.std.proofs.lemmas.List.Folds.{list_all-append}
use Rattle.std.proofs.Math.Seq.{drop-length}
use Rattle.scasp_list.specs.Each.{Each}
use Rattle.scasp_checker_rules.specs.Accepted.{Accepts}
use Rattle.scasp_checker_rules.specs.Firm.{is_firm}
use Rattle.scasp_checker_rules.specs.PairLists.{pair_list}
use Rattle.scasp_checker_rules.specs.Pairs.{all_pairs, is_pair}
use Rattle.scasp_checker_rules.specs.Told.{Told, all_told}
use Rattle.scasp_cert.specs.Certificate.{Certificate}
use Rattle.scasp_cert.specs.Lines.{lines_of, lines_below, lines_at, lines_under}
use Rattle.scasp_cert.specs.Trees.{Tree, Branch, listed}
use Rattle.scasp_graph.specs.Analyses.{is_checked}
use Rattle.scasp_graph.specs.RightMap.{pred_in}
use Rattle.scasp_graph.specs.declared.analysis.Analysis.{Analysis}
use Rattle.scasp_graph.proofs.AnalysisLemmas.{known-distinct}
use Rattle.scasp_hint.specs.Satisfying.{sat}
use Rattle.scasp_lines.specs.Dues.{query_dues}
use Rattle.scasp_lines.specs.Lines.{free_of, lines}
use Rattle.scasp_lines.specs.Places.{start as begin}
use Rattle.scasp_lines.specs.Rooms.{room_below, room_under}
use Rattle.scasp_lines.specs.Walk.{Setting, nodes_walk, checks_walk}
use Rattle.scasp_lines.specs.Walk.{Line as Walked}
use Rattle.scasp_nmr.specs.Checks.{checks_from, checks_of, clause_in}
use Rattle.scasp_nmr.specs.declared.items.CheckItem.{CheckItem}
use Rattle.scasp_law_outcomes.specs.Problems.{IsAnalysed, IsAnswer}
use Rattle.scasp_law_outcomes.proofs.Answering.{kept-answer}
use Rattle.scasp_law_outcomes.proofs.Standing.{checks_in, checks_before, told, owed, Keeps}
use Rattle.scasp_law_outcomes.proofs.Stepping.{step-keep, start-keeps}
use Rattle.scasp_law_outcomes.proofs.Walking.{Invariant, met-holds}
use Rattle.scasp_search_rules.specs.declared.states.covers.Cover.{Cover}
use Rattle.scasp_search_rules.specs.declared.states.lines.Line.{Line}
use Rattle.scasp_search_rules.specs.declared.states.lines.Line.TheVariants as line
use Rattle.scasp_search_rules.specs.declared.states.state.Kind.TheVariants.{Existential}
use Rattle.scasp_search_rules.specs.declared.states.state.State.{State}
use Rattle.scasp_search_rules.specs.declared.states.tasks.Task.{Task}
use Rattle.scasp_search_rules.specs.declared.states.tasks.Task.TheVariants as task
use Rattle.scasp_search_rules.specs.Successors.Answers.{certificate, certificate_by, certificate_at, given_lines, answer_of, pair_lists, hint_lists, sampled}
use Rattle.scasp_search_rules.specs.Successors.Cases.{line_under}
use Rattle.scasp_search_rules.specs.Successors.Numbering.{free_variables, universal_variables, placing, line_renamed}
use Rattle.scasp_search_rules.specs.Successors.Problems.{Problem}
use Rattle.scasp_search_rules.specs.Successors.Replacing.{close_overflows, end_overflows}
use Rattle.scasp_search_rules.specs.Successors.Search.{answer_at, nothing, search_for, start, step}
use Rattle.scasp_search_rules.specs.Successors.Trees.{Built, built, no_lines, literal_lines}
use Rattle.scasp_search_rules.specs.Successors.Variables.{meaning, with_new}
use Rattle.scasp_syntax.specs.Flat.{flat_body}
use Rattle.scasp_syntax.specs.Programs.{numbered, predicates}
use Rattle.scasp_syntax.specs.Tm.{Tms, nil, items}
use Rattle.scasp_syntax.specs.Values.{Sub, all_under}
use Rattle.scasp_syntax.specs.declared.atom.Atom.{Atom}
use Rattle.scasp_syntax.specs.declared.clause.Clause.{Clause}
use Rattle.scasp_syntax.specs.declared.clause.FlatItem.{FlatItem}
use Rattle.scasp_syntax.specs.declared.clause.Query.{Query}
use Rattle.scasp_syntax.specs.declared.con.Con.{Con}
use Rattle.scasp_syntax.specs.declared.predicate_map.PredMap.{PredMap}
use Rattle.scasp_syntax.specs.declared.program.Program.{Program}
use Rattle.scasp_unify.specs.Negations.{new_parts}
use Rattle.scasp_law_propositional.specs.Propositional.Problems.{HasTests}
use Rattle.scasp_law_propositional.specs.Propositional.Propositional.{is_plain_item, is_plain_clause, is_plain_query, is_propositional}
use Rattle.scasp_law_propositional.proofs.PropositionalLemmas.Backing.{ats, coming, entries, Shape, Begun}
use Rattle.scasp_law_propositional.proofs.PropositionalLemmas.Casing.{nothing-asked, step-next}
use Rattle.scasp_law_propositional.proofs.PropositionalLemmas.Counting.{Rises, rises-later, Counts, trail-counts}
use Rattle.scasp_law_propositional.proofs.PropositionalLemmas.Fitting.{Fits, fit-trees}
use Rattle.scasp_law_propositional.proofs.PropositionalLemmas.Holding.{PlainTold}
use Rattle.scasp_law_propositional.proofs.PropositionalLemmas.Passing.{trail-passed}
use Rattle.scasp_law_propositional.proofs.PropositionalLemmas.Plains.{atom-kept, IsPlain, PlainClause, body-plain, clause-plain}
use Rattle.scasp_law_propositional.proofs.PropositionalLemmas.Shapes.{first_tree, first_entry, IsClause, GoodChecks}
use Rattle.scasp_law_propositional.proofs.PropositionalLemmas.Spanning.{Spans}
use Rattle.scasp_law_propositional.proofs.PropositionalLemmas.States.{PlainLine, PlainTask, Plain, lines-kept, none-under}
use Rattle.scasp_law_propositional.proofs.PropositionalLemmas.Steps.{Next}
use Rattle.scasp_law_propositional.proofs.PropositionalLemmas.Telling.{map-of, Makes, made, told-plain, no-hint, made-accepted}
use Rattle.scasp_law_propositional.proofs.PropositionalLemmas.Views.{View, lines_before, view, opens, shows, Trail, stays, follows}

-- ---- the program

pub clauses-plain : (p : Program) → is_propositional p ≡ true → (k : ℕ) (c : Clause) → numbered p.clauses k ≡ Some c → PlainClause c
clauses-plain p h zero c e = absurd (cc e)
clauses-plain p h (suc k) c e =
    let all = (and_parts (list_all is_plain_clause p.clauses) (list_all is_plain_query p.queries) h).0 in
    clause-plain c (among p.clauses k all e)
  where
    among : (cs : List Clause) (i : ℕ) → list_all is_plain_clause cs ≡ true → slice_get cs i ≡ Some c → is_plain_clause c ≡ true
    among [] i a e = absurd (cc e)
    among (d ∷ cs) zero a e = let same : d ≡ c = cc e in subst (λ (z : Clause). is_plain_clause z ≡ true) same (and_parts (is_plain_clause d) (list_all is_plain_clause cs) a).0
    among (d ∷ cs) (suc i) a e = among cs i (and_parts (is_plain_clause d) (list_all is_plain_clause cs) a).1 e

pub record PlainQuery (q : Query) : Type 0 where
  pub body : Each IsPlain (flat_body q.body)
  pub no_name : length q.names ≡ 0

pub query-plain : (p : Program) → is_propositional p ≡ true → (k : ℕ) (q : Query) → numbered p.queries k ≡ Some q → PlainQuery q
query-plain p h zero q e = absurd (cc e)
query-plain p h (suc k) q e =
    let all = (and_parts (list_all is_plain_clause p.clauses) (list_all is_plain_query p.queries) h).1 in
    let is = and_parts (list_all is_plain_item q.body) (nat_eq (length q.names) 0) (among p.queries k all e) in
    record { body = body-plain q.body is.0; no_name = (Decides-eqb (length q.names) 0).0 is.1 }
  where
    among : (qs : List Query) (i : ℕ) → list_all is_plain_query qs ≡ true → slice_get qs i ≡ Some q → is_plain_query q ≡ true
    among [] i a e = absurd (cc e)
    among (d ∷ qs) zero a e = let same : d ≡ q = cc e in subst (λ (z : Query). is_plain_query z ≡ true) same (and_parts (is_plain_query d) (list_all is_plain_query qs) a).0
    among (d ∷ qs) (suc i) a e = among qs i (and_parts (is_plain_query d) (list_all is_plain_query qs) a).1 e

-- ---- the clauses that are checked

-- they are clauses of the program, in rising order
pub record ChecksOf (cs : List Clause) (n : ℕ) (items : List CheckItem) : Type 0 where
  pub clauses : Each (λ (i : CheckItem). IsClause cs i.clause) items
  pub rises : Rises n (map clause_in items)

checks-from : (cs : List Clause) (odd : List ℕ) (n : ℕ) (ds : List Clause) → ((k : ℕ) (c : Clause) → slice_get ds k ≡ Some c → numbered cs (n + k) ≡ Some c)
    → ChecksOf cs n (checks_from odd n ds)
checks-from cs odd n [] h = record { clauses = tt; rises = tt }
checks-from cs odd n (d ∷ ds) h =
    by (is_checked odd n d) (checks-from cs odd (n + 1) ds (λ k c e. (
    let next : n + suc k ≡ (n + 1) + k = omega arith in subst (λ (m : ℕ). numbered cs m ≡ Some c) next (h (suc k) c e)
    )))
  where
    here : numbered cs n ≡ Some d
    here = let same : n + 0 ≡ n = omega arith in subst (λ (m : ℕ). numbered cs m ≡ Some d) same (h 0 d refl)

    by : (b : Bool) → ChecksOf cs (n + 1) (checks_from odd (n + 1) ds)
        → ChecksOf cs n (if b then record { clause = n; head = is_some d.head } ∷ checks_from odd (n + 1) ds else checks_from odd (n + 1) ds)
    by true k =
        let next : n + 1 ≡ suc n = omega arith in
        record {
          clauses = ((d, here), k.clauses);
          rises = (omega arith, subst (λ (m : ℕ). Rises m (map clause_in (checks_from odd (n + 1) ds))) next k.rises);
        }
    by false k = record { clauses = k.clauses; rises = rises-later n (n + 1) (map clause_in (checks_from odd (n + 1) ds)) (omega arith) k.rises }

pub all-checks : (p : Program) (odd : List ℕ) → ChecksOf p.clauses 1 (checks_of p odd)
all-checks p odd = checks-from p.clauses odd 1 p.clauses (λ k c e. (
    let next : suc k ≡ 1 + k = omega arith in subst (λ (m : ℕ). numbered p.clauses m ≡ Some c) next e
    ))

-- ---- the start

abbrev check_tasks : List CheckItem → List Task
check_tasks is = map (λ (i : CheckItem). task.Check i.clause i.head) is

tasks-plain : (cs : List Clause) (is : List FlatItem) (items : List CheckItem) → Each IsPlain is → Each (λ (i : CheckItem). IsClause cs i.clause) items
    → Each (PlainTask cs) (shows is ++ check_tasks items)
tasks-plain cs [] [] h k = tt
tasks-plain cs [] (i ∷ items) h k = (k.0, tasks-plain cs [] items h k.1)
tasks-plain cs (i ∷ is) items h k = (h.0, tasks-plain cs is items h.1 k)

pub start-plain : (cs : List Clause) (q : Query) (items : List CheckItem) → PlainQuery q → Each (λ (i : CheckItem). IsClause cs i.clause) items → Plain cs (start q items)
start-plain cs q items h k = record {
  is_bare = λ i. record (with_new nothing Existential 0 (h.no_name i)) { work = shows (flat_body q.body) ++ check_tasks items };
  parts = record { covers = tt; literals = tt; lines = tt; work = tasks-plain cs (flat_body q.body) items h.body k };
}

-- ---- the lines as they are written in the certificate

renamed : (v : Sub) (l : Line) → PlainLine l → line_renamed v l ≡ l
renamed v (line.Pos a k ts n) h = λ i. line.Pos (atom-kept v a h.0 i) k (none-under v ts h.1 i) n
renamed v (line.Neg a n) h = ap (λ (z : Atom). line.Neg z n) (atom-kept v a h)
renamed v (line.Loop l n) h = ap (λ (z : Atom). line.Loop (record { positive = l.positive; atom = z }) n) (atom-kept v l.atom h)
renamed v (line.Seen l n) h = ap (λ (z : Atom). line.Seen (record { positive = l.positive; atom = z }) n) (atom-kept v l.atom h)
renamed v (line.Rule a k first) h = refl
renamed v (line.Check k first) h = refl
renamed v (line.Leaf n) h = refl
renamed v (line.Head n) h = refl
renamed v l h = absurd h

all-renamed : (v : Sub) (ls : List Line) → Each PlainLine ls → map (line_renamed v) ls ≡ ls
all-renamed v [] h = refl
all-renamed v (l ∷ ls) h = λ i. renamed v l h.0 i ∷ all-renamed v ls h.1 i

-- ---- the end

-- the checks that what was made has, where checks alone are left to do
record LastChecks (cs : List Clause) (ls : List Line) (at : ℕ) (b : Built) : Type 0 where
  checks : List (ℕ × Branch)
  all : b.checks ≡ checks
  good : GoodChecks cs ls (ats cs ls) at [] checks
  nodes : b.nodes ≡ []
  end : at + lines_under checks ≡ suc (length ls)

last-checks : (cs : List Clause) (ls : List Line) (at : ℕ) (is : List CheckItem) (b : Built) → Fits cs ls (ats cs ls) at [] (check_tasks is) b → LastChecks cs ls at b
last-checks cs ls at [] b h =
    let last = h.1 in
    record { checks = []; all = ap (λ (z : Built). z.checks) h.0; good = tt; nodes = ap (λ (z : Built). z.nodes) h.0; end = omega (arith, last) }
last-checks cs ls at (i ∷ is) b h =
    let r = last-checks cs ls (at + (1 + lines_at h.0)) is (record b { checks = h.1 }) h.4 in
    let end = r.end in
    record {
      checks = (i.clause, h.0) ∷ r.checks;
      all = h.2 ∙ ap (λ (z : List (ℕ × Branch)). (i.clause, h.0) ∷ z) r.all;
      good = (h.3, r.good);
      nodes = r.nodes;
      end = omega (arith, end);
    }

nothing-behind : (all trees rest : List Tree) → all ≡ trees ++ rest → rest ≡ [] → all ≡ trees
nothing-behind all trees rest e none = e ∙ ap (λ (z : List Tree). trees ++ z) none ∙ append-nil trees

spans-start : (cs : List Clause) (ls : List Line) (at : ℕ) (firm : Bool) (is : List FlatItem) (items : List CheckItem) (b : Built)
    → Spans cs ls (ats cs ls) at firm [] (shows is ++ check_tasks items) b
spans-start cs ls at firm [] [] b = tt
spans-start cs ls at firm [] (i ∷ more) b =
    spans-start cs ls (at + (1 + lines_at (first_entry b.checks).1)) true [] more (record b { checks = drop 1 b.checks })
spans-start cs ls at firm (i ∷ is) more b =
    spans-start cs ls (at + lines_of (first_tree b.nodes)) (firm && is_firm (first_tree b.nodes)) is more (record b { nodes = drop 1 b.nodes })

-- What a view with nothing left to do comes to: all its lines make the trees and the checks.
pub record Comes (p : Program) (number : ℕ) (ls : List Line) : Type 0 where
  pub trees : List Tree
  pub checks : List (ℕ × Branch)
  pub nodes : (built (literal_lines 1 ls) ls).nodes ≡ trees
  pub entries : (built (literal_lines 1 ls) ls).checks ≡ checks
  pub makes : Makes p ls number trees checks

pub trail-comes : (p : Program) (number : ℕ) (q : Query) (items : List CheckItem) (v : View) → is_propositional p ≡ true → numbered p.queries number ≡ Some q
    → ChecksOf p.clauses 1 items → Trail p.clauses (record { lines = []; literals = []; work = shows (flat_body q.body) ++ check_tasks items }) v
    → v.work ≡ [] → checks_in v.lines ≡ map clause_in items → Comes p number v.lines
trail-comes p number q items v h named checks trail done told =
    let cs : List Clause = p.clauses in
    let ls : List Line = v.lines in
    let plain = query-plain p h number q named in
    let first : View = record { lines = []; literals = []; work = shows (flat_body q.body) ++ check_tasks items } in
    let rest : drop (length ls) ls ≡ [] = drop-length ls in
    let begun : Begun ls ls = sym (append-nil ls) ∙ ap (λ (z : List Line). ls ++ z) (sym rest) in
    let none : coming cs ls ls ≡ no_lines = ap (built (ats cs ls)) rest in
    let last : Shape cs ls v =
    record {
      begun = begun;
      fits = subst (λ (z : List Task). Fits cs ls (ats cs ls) (suc (length ls)) (entries (ats cs ls) (opens v.literals)) z (coming cs ls ls)) (sym done) (none, refl);
    } in
    let passed = trail-passed cs ls first v trail (record { numbered = refl; lines = refl })
    (λ s. record { spans = spans-start cs ls 1 true (flat_body q.body) items (coming cs ls []); known = tt; seen = λ i l n e f. absurd (omega (arith, e)) }) last in
    let r = fit-trees cs ls (ats cs ls) 1 [] (flat_body q.body) (check_tasks items) (coming cs ls []) passed.shape.fits in
    let c = last-checks cs ls (1 + lines_below (listed r.trees)) items (record (coming cs ls []) { nodes = r.rest }) r.fits in
    record {
      trees = r.trees;
      checks = c.checks;
      nodes = nothing-behind (coming cs ls []).nodes r.trees r.rest r.nodes c.nodes;
      entries = c.all;
      makes = record {
        query = q;
        named = named;
        no_name = plain.no_name;
        plain = plain.body;
        clauses = clauses-plain p h;
        trees_good = r.good;
        checks_good = c.good;
        end = c.end;
        seen = passed.past.seen;
        rises = subst (Rises 1) (sym told) checks.rises;
      };
    }

-- ---- what is known of each state

pub record Held (cs : List Clause) (first : State) (all : List ℕ) (s : State) : Type 0 where
  pub plain : Plain cs s
  pub trail : Trail cs (view first) (view s)
  pub keeps : Keeps all s

each-held : (cs : List Clause) (first : State) (all : List ℕ) (s : State) → Trail cs (view first) (view s) → (ts : List State) → Each (Next cs s) ts → Each (Keeps all) ts
    → Each (Held cs first all) ts
each-held cs first all s trail [] h k = tt
each-held cs first all s trail (t ∷ ts) h k =
    (record { plain = h.0.plain; trail = follows (view s) (view t) trail h.0.move; keeps = k.0 }, each-held cs first all s trail ts h.1 k.1)

step-held : (p : Program) (first : State) (all : List ℕ) (s : State) → is_propositional p ≡ true → Counts (view first) → Held p.clauses first all s
    → Each (Held p.clauses first all) (step p sat s).states
step-held p first all s e n h =
    each-held p.clauses first all s h.trail (step p sat s).states
    (step-next p (clauses-plain p e) s h.plain (length (reverse s.literals)) (trail-counts p.clauses (view first) (view s) h.trail n).numbered)
    (step-keep all p sat s h.keeps)

-- ---- no literal stands beside its negation

plain-pair : (free : ℕ) (a b : Told) → PlainTold a → PlainTold b → pair_list free [] a b ≡ []
plain-pair free a b h k =
    λ i. pair_list free []
    (record { at = a.at; positive = a.positive; atom = record { minus = a.atom.minus; name = a.atom.name; args = h.no_argument i }; opened = h.opened i })
    (record { at = b.at; positive = b.positive; atom = record { minus = b.atom.minus; name = b.atom.name; args = k.no_argument i }; opened = k.opened i })

no-partner : (free : ℕ) (a : Told) (ts : List Told) → PlainTold a → Each PlainTold ts
    → list_all (λ (ab : Told × Told). not (sat (pair_list free [] ab.0 ab.1))) (map (λ b. (a, b)) (filter (is_pair a) ts)) ≡ true
    → filter (is_pair a) ts ≡ []
no-partner free a [] h k e = refl
no-partner free a (t ∷ ts) h k e = by (is_pair a t) e (no-partner free a ts h k.1)
  where
    yes : sat (pair_list free [] a t) ≡ true
    yes = ap sat (plain-pair free a t h k.0) ∙ nothing-asked

    by : (b : Bool) → list_all (λ (ab : Told × Told). not (sat (pair_list free [] ab.0 ab.1))) (map (λ u. (a, u)) (if b then t ∷ filter (is_pair a) ts else filter (is_pair a) ts)) ≡ true
        → (list_all (λ (ab : Told × Told). not (sat (pair_list free [] ab.0 ab.1))) (map (λ u. (a, u)) (filter (is_pair a) ts)) ≡ true → filter (is_pair a) ts ≡ [])
        → (if b then t ∷ filter (is_pair a) ts else filter (is_pair a) ts) ≡ []
    by true f later =
        let none = (and_parts (not (sat (pair_list free [] a t))) _ f).0 in absurd (cc (none, ap not yes))
    by false f later = later f

no-pair : (free : ℕ) (ts : List Told) → Each PlainTold ts → list_all (λ (ab : Told × Told). not (sat (pair_list free [] ab.0 ab.1))) (all_pairs ts) ≡ true → all_pairs ts ≡ []
no-pair free [] h e = refl
no-pair free (t ∷ ts) h e =
    let test : Told × Told → Bool = λ ab. not (sat (pair_list free [] ab.0 ab.1)) in
    let both = and_parts (list_all test (map (λ b. (t, b)) (filter (is_pair t) ts))) (list_all test (all_pairs ts))
    (sym (list_all-append test (map (λ b. (t, b)) (filter (is_pair t) ts)) (all_pairs ts)) ∙ e) in
    ap (λ (z : List Told). map (λ (b : Told). (t, b)) z ++ all_pairs ts) (no-partner free t ts h.0 h.1 both.0) ∙ no-pair free ts h.1 both.1

all-mapped : {A B : Type 0} (test : B → Bool) (f : A → B) (xs : List A) → list_all test (map f xs) ≡ true → list_all (λ (x : A). test (f x)) xs ≡ true
all-mapped test f [] e = refl
all-mapped test f (x ∷ xs) e =
    let both = and_parts (test (f x)) (list_all test (map f xs)) e in and_from (test (f x)) (list_all (λ y. test (f y)) xs) both.0 (all-mapped test f xs both.1)

-- ---- the answer

-- the certificate is accepted, and no list is asked about it
pub record Right (p : Program) (c : Certificate) : Type 0 where
  pub accepted : Accepts p c
  pub no_pair : pair_lists p c ≡ []
  pub no_hint : hint_lists p c ≡ []

-- the parts of an answer
record Answers (p : Problem) (before c : Certificate) : Type 0 where
  apart : list_all (λ cs. not (p.sat cs)) (pair_lists p.program before) ≡ true
  values : Tms
  sampled : p.sample before.given (free_of before) ≡ Some values
  same : record before { sample = values } ≡ c

answer-parts : (p : Problem) (before c : Certificate) → answer_of p before ≡ Some (Some c) → Answers p before c
answer-parts p before c e = by (list_all (λ cs. not (p.sat cs)) (pair_lists p.program before)) refl (p.sample before.given (free_of before)) refl e
  where
    by : (b : Bool) → list_all (λ cs. not (p.sat cs)) (pair_lists p.program before) ≡ b → (o : Option Tms) → p.sample before.given (free_of before) ≡ o
        → (if b then Some (sampled before o) else None) ≡ Some (Some c) → Answers p before c
    by true h (Some ts) k f = record { apart = h; values = ts; sampled = k; same = cc f }
    by true h None k f = absurd (cc f)
    by false h o k f = absurd (cc f)

-- the lines of such a certificate, by how many free variables it has
abbrev lines_with : Program → ℕ → List Tree → List (ℕ × Branch) → ℕ → List Walked
lines_with p number trees checks free =
    let s : Setting = record { clauses = p.clauses; free = free; top = free + (room_below p.clauses (listed trees) + room_under p.clauses checks) } in
    let first = nodes_walk s (begin s.top) 1 free (query_dues (numbered p.queries number) nil) (listed trees) in
    first.lines ++ (checks_walk s (begin s.top) (1 + lines_below (listed trees)) first.next checks).lines

same-lines : (p : Program) (number : ℕ) (ms : List PredMap) (trees : List Tree) (checks : List (ℕ × Branch)) (ts us : Tms) → length (items ts) ≡ length (items us)
    → lines p (made number ms trees checks ts) ≡ lines p (made number ms trees checks us)
same-lines p number ms trees checks ts us e = ap (lines_with p number trees checks) e

-- a sample in place of the free variables themselves
made-right : (p : Problem) (n : ℕ) (trees : List Tree) (checks : List (ℕ × Branch)) (ls : List Line) (c : Certificate) → HasTests p
    → map pred_in p.map ≡ predicates p.program → Makes p.program ls p.query trees checks
    → Answers p (made p.query p.map trees checks (new_parts 0 n)) c → Right p.program c
made-right p n trees checks ls c tests maps m a =
    let before : Certificate = made p.query p.map trees checks (new_parts 0 n) in
    let now : Certificate = made p.query p.map trees checks a.values in
    let is = tests.samples [] (free_of before) a.values a.sampled in
    let same : lines p.program now ≡ lines p.program before = same-lines p.program p.query p.map trees checks a.values (new_parts 0 n) is.0 in
    let test : List Con → Bool = λ cs. not (sat cs) in
    let apart : list_all test (pair_lists p.program before) ≡ true =
    subst (λ (judge : List Con → Bool). list_all (λ cs. not (judge cs)) (pair_lists p.program before) ≡ true) tests.sat_is a.apart in
    let told : Each PlainTold (all_told (lines p.program before)) = told-plain p.program ls p.query p.map trees checks m (new_parts 0 n) in
    let none_before : all_pairs (all_told (lines p.program before)) ≡ [] =
    no-pair (free_of before) (all_told (lines p.program before)) told
    (all-mapped test (λ (ab : Told × Told). pair_list (free_of before) [] ab.0 ab.1) (all_pairs (all_told (lines p.program before))) apart) in
    let none : all_pairs (all_told (lines p.program now)) ≡ [] = ap (λ (z : List Walked). all_pairs (all_told z)) same ∙ none_before in
    let distinct = known-distinct p.program (predicates p.program) refl in
    subst (Right p.program) a.same (record {
      accepted = made-accepted p.program ls p.query p.map trees checks m a.values is.1 (map-of (predicates p.program) p.map maps distinct) none;
      no_pair = ap (map (λ (ab : Told × Told). pair_list (free_of now) [] ab.0 ab.1)) none;
      no_hint = no-hint p.program ls p.query p.map trees checks m a.values;
    })

-- the certificate of a plain state with nothing left to do
certificate-is : (p : Problem) (s : State) (queried : ℕ) → queried ≡ 0 → Plain p.program.clauses s → (c : Comes p.program p.query s.lines)
    → (n : ℕ) × (certificate_at p s queried ≡ made p.query p.map c.trees c.checks (new_parts 0 n))
certificate-is p s queried e h c =
    let terms : all_under (meaning s) (new_parts 0 queried) ≡ nil = ap (λ (k : ℕ). all_under (meaning s) (new_parts 0 k)) e in
    let given : given_lines s ≡ [] = ap given_lines h.is_bare in
    let ls : map (line_under s) s.lines ≡ s.lines = lines-kept s s.lines h.parts.lines in
    let free : List ℕ = free_variables s nil [] s.lines in
    let v : Sub = placing (free ++ universal_variables p.program s.lines) in
    let plain : map (line_renamed v) s.lines ≡ s.lines = all-renamed v s.lines h.parts.lines in (
      length free,
      (λ i. certificate_by p s (terms i) (given i) (ls i))
          ∙ (λ i. certificate p nil [] (length free) (built (literal_lines 1 s.lines) (plain i)))
          ∙ (λ i. made p.query p.map (c.nodes i) (c.entries i) (new_parts 0 (length free))),
    )

no-cover : (covers : List Cover) → 0 ≡ length covers → covers ≡ []
no-cover [] e = refl
no-cover (c ∷ covers) e = absurd (cc e)

same-answer : (p : Problem) (a b c : Certificate) → a ≡ b → answer_of p a ≡ Some (Some c) → answer_of p b ≡ Some (Some c)
same-answer p a b c e f = ap (answer_of p) (sym e) ∙ f

answer-right : (p : Problem) (q : Query) (s : State) (c : Certificate) → HasTests p → map pred_in p.map ≡ predicates p.program → is_propositional p.program ≡ true
    → numbered p.program.queries p.query ≡ Some q → ChecksOf p.program.clauses 1 p.checks → Held p.program.clauses (start q p.checks) (map clause_in p.checks) s
    → (work : List Task) → s.work ≡ work → answer_at p s (length q.names) work ≡ Some (Some c) → Right p.program c
answer-right p q s c tests maps e named checks h (t ∷ ts) w f = absurd (cc (kept-answer (close_overflows s (t ∷ ts)) None c f))
answer-right p q s c tests maps e named checks h [] w f =
    let none : s.covers ≡ [] = no-cover s.covers (ap (λ (z : List Task). (owed z).closes) (sym w) ∙ h.keeps.closes) in
    let lines : (view s).lines ≡ s.lines = ap (λ (z : List Cover). lines_before z ++ s.lines) none in
    let told_all : checks_in s.lines ≡ map clause_in p.checks =
    ap (λ (z : List Cover). checks_before z ++ checks_in s.lines) (sym none) ∙ sym (append-nil (told s))
    ∙ ap (λ (z : List Task). told s ++ (owed z).checks) (sym w) ∙ h.keeps.checks in
    let comes : Comes p.program p.query (view s).lines =
    trail-comes p.program p.query q p.checks (view s) e named checks h.trail w (ap checks_in lines ∙ told_all) in
    let here : Comes p.program p.query s.lines = subst (Comes p.program p.query) lines comes in
    let is = certificate-is p s (length q.names) (query-plain p.program e p.query q named).no_name h.plain here in
    made-right p is.0 here.trees here.checks s.lines c tests maps here.makes
    (answer-parts p (made p.query p.map here.trees here.checks (new_parts 0 is.0)) c (same-answer p (certificate_at p s (length q.names)) (made p.query p.map here.trees here.checks (new_parts 0 is.0)) c is.1
    (kept-answer (end_overflows s) (answer_of p (certificate_at p s (length q.names))) c f)))

-- ---- all answers

pub answers-right : (p : Problem) (a : Analysis) → HasTests p → IsAnalysed p a → is_propositional p.program ≡ true → (q : Query)
    → numbered p.program.queries p.query ≡ Some q → (budget : ℕ) (c : Certificate) → IsAnswer p q budget c → Right p.program c
answers-right p a tests is e q named budget c met =
    let cs : List Clause = p.program.clauses in
    let first : State = start q p.checks in
    let all : List ℕ = map clause_in p.checks in
    let plain = query-plain p.program e p.query q named in
    let checks : ChecksOf cs 1 p.checks = subst (ChecksOf cs 1) (sym is.checks) (all-checks p.program a.odd_rules) in
    let maps : map pred_in p.map ≡ predicates p.program = ap (map pred_in) is.map ∙ is.analysis.right.listed in
    let counts : Counts (view first) = record { numbered = refl; lines = refl } in
    let keeps : Invariant (search_for p q) (Held cs first all) (Right p.program) =
    record {
      next = λ s h. subst (λ (judge : List Con → Bool). Each (Held cs first all) (step p.program judge s).states) (sym tests.sat_is) (step-held p.program first all s e counts h);
      answer = λ s d h f. answer-right p q s d tests maps e named checks h s.work refl f;
    } in
    met-holds (search_for p q) (Held cs first all) (Right p.program) keeps budget c (first ∷ []) 0
    (record { plain = start-plain cs q p.checks plain checks.clauses; trail = stays; keeps = start-keeps q p.checks }, tt) met
