-- Each answer that a run has printed is one that the search for its query meets, filled and right; and one table has the names of all.
use Rattle.std.specs.Prelude.{◌≡◌, ℕ, suc, ◌+◌, ◌≤◌, List, [], ◌∷◌, length, slice_get, Option, None, Some}
use Rattle.std.proofs.Common.{◌∙◌, ap, arith, refl, subst, sym}
use Rattle.scasp_cert.specs.Certificate.{Certificate}
use Rattle.scasp_command_run.specs.Jobs.{Job}
use Rattle.scasp_command_run.specs.Queries.{Meets, Printed, Prints, prints, passes, stops, ends, is_spent, overflows, is_cut, RunsQuery, Shown, fewer}
use Rattle.scasp_command_run.specs.Runs.{Follows, RunsFrom}
use Rattle.scasp_command_run.specs.declared.ends.QueryEnd.{QueryEnd}
use Rattle.scasp_command_run.specs.declared.ends.QueryEnd.TheVariants.{Ended, Stopped, Spent, Overflow}
use Rattle.scasp_fill.specs.Finishing.Right.{Completes}
use Rattle.scasp_law_outcomes.specs.Giving.{GivesAnswer, at_once, later}
use Rattle.scasp_law_outcomes.specs.Problems.{IsAnswer}
use Rattle.scasp_law_printable.specs.Printable.{IsNamed}
use Rattle.scasp_list.specs.Each.{Each}
use Rattle.scasp_list.proofs.EachLemmas.{Each-map}
use Rattle.scasp_nmr.specs.Checks.{checks_of}
use Rattle.scasp_nmr.specs.declared.items.CheckItem.{CheckItem}
use Rattle.scasp_print_samples.specs.Samples.{with_samples}
use Rattle.scasp_search_ends.specs.Ends.Ends.{problem}
use Rattle.scasp_search_rules.specs.Successors.Machine.{answered}
use Rattle.scasp_search_rules.specs.Successors.Problems.{Problem}
use Rattle.scasp_syntax.specs.Programs.{numbered}
use Rattle.scasp_syntax.specs.Tm.{items}
use Rattle.scasp_syntax.specs.declared.clause.Query.{Query}
use Rattle.scasp_syntax.specs.declared.predicate_map.PredMap.{PredMap}
use Rattle.scasp_syntax.specs.declared.program.Program.{Program}
use Rattle.scasp_written.specs.Written.Rests.{Rest, machine}

-- the answer is one of a search of the program, completed; at most so many texts were tried for the names of its sample
pub record IsMet (p : Program) (names : List (List ℕ)) (most : ℕ) (one : Printed) : Type 0 where
  pub problem : Problem
  pub query : Query
  pub budget : ℕ
  pub tree : Certificate
  pub about : problem.program ≡ p
  pub asked : IsNamed (length names) problem query
  pub met : IsAnswer problem query budget tree
  pub completes : Completes p tree one.certificate
  pub tried : ℕ
  pub table_is : one.names ≡ with_samples names tried
  pub enough : length names + length (items one.certificate.sample) ≤ length one.names
  pub more : ℕ
  pub within : most ≡ more + tried

abbrev pub AreMet : Program → List (List ℕ) → ℕ → List Printed → Type 0
AreMet p names most all = Each (IsMet p names most) all

met-later : (p : Program) (names : List (List ℕ)) (most more : ℕ) (one : Printed) → IsMet p names most one → IsMet p names (more + most) one
met-later p names most more one h = record {
  problem = h.problem;
  query = h.query;
  budget = h.budget;
  tree = h.tree;
  about = h.about;
  asked = h.asked;
  met = h.met;
  completes = h.completes;
  tried = h.tried;
  table_is = h.table_is;
  enough = h.enough;
  more = more + h.more;
  within = (let k = h.within in omega (arith, k));
}

all-later : (p : Program) (names : List (List ℕ)) (most more : ℕ) (all : List Printed) → AreMet p names most all → AreMet p names (more + most) all
all-later p names most more all h = Each-map (IsMet p names most) (IsMet p names (more + most)) (met-later p names most more) all h

-- ---- the answers to one query

module _ (p : Program) (names : List (List ℕ)) (problem : Problem) (query : Query) (budget : ℕ) (about : problem.program ≡ p) (asked : IsNamed (length names) problem query) where
  -- what the rest of the search meets, the search meets
  abbrev IsRest : Rest → Type 0
  IsRest rest = (c : Certificate) → GivesAnswer (machine rest.problem rest.queried) rest.budget c rest.states rest.calls → IsAnswer problem query budget c

  first-met : (rest next : Rest) (tree : Certificate) → Meets rest (answered tree) next → IsRest rest → IsAnswer problem query budget tree
  first-met rest next tree m h =
      h tree (at_once rest.states rest.calls (record { event = answered tree; calls = m.calls; may = m.tells.0; rest = m.states }) m.tells.1 refl)

  rest-behind : (rest next : Rest) (tree : Certificate) → Meets rest (answered tree) next → IsRest rest → IsRest next
  rest-behind rest next tree m h =
      let behind : IsRest (record rest { calls = m.calls; states = m.states }) =
      λ c g. h c (later rest.states rest.calls (record { event = answered tree; calls = m.calls; may = m.tells.0; rest = m.states }) tree m.tells.1 refl g) in
      subst IsRest (sym m.is) behind

  all-met : (asked_for : Option ℕ) (rest : Rest) (all : List Printed) (end : Option QueryEnd) → Prints p names asked_for rest all end → IsRest rest → (most : ℕ) × AreMet p names most all
  all-met _ _ _ _ (prints asked_for rest next tree one more end open_yet meets completes named behind) h =
      let others = all-met (fewer asked_for) next more end behind (rest-behind rest next tree meets h) in
      let first : IsMet p names (others.0 + named.tried) one = record {
        problem = problem;
        query = query;
        budget = budget;
        tree = tree;
        about = about;
        asked = asked;
        met = first-met rest next tree meets h;
        completes = completes;
        tried = named.tried;
        table_is = named.table_is;
        enough = named.enough;
        more = others.0;
        within = refl;
      } in
      let turned : named.tried + others.0 ≡ others.0 + named.tried = omega arith in
      (others.0 + named.tried, (first, subst (λ (m : ℕ). AreMet p names m more) turned (all-later p names others.0 named.tried more others.1)))
  all-met _ _ _ _ (passes asked_for rest next tree more end open_yet meets none behind) h = all-met asked_for next more end behind (rest-behind rest next tree meets h)
  all-met _ _ _ _ (stops rest) h = (0, tt)
  all-met _ _ _ _ (ends asked_for rest next open_yet meets) h = (0, tt)
  all-met _ _ _ _ (is_spent asked_for rest next open_yet meets) h = (0, tt)
  all-met _ _ _ _ (overflows asked_for rest open_yet may) h = (0, tt)
  all-met _ _ _ _ (is_cut asked_for rest) h = (0, tt)

-- ---- the answers to all queries

-- each search for a query of the program is named by its table
abbrev pub AreNamed : Program → List (List ℕ) → Type 0
AreNamed p names =
    (number : ℕ) (q : Query) → numbered p.queries number ≡ Some q → (checks : List CheckItem) (map : List PredMap) → IsNamed (length names) (problem p number checks map (length names)) q

rest-runs : (job : Job) (number : ℕ) (qs : List Query) (end : Option QueryEnd) (more : List Shown) → Follows end more (RunsFrom job number qs more) → RunsFrom job number qs more
rest-runs job number qs None more f = subst (RunsFrom job number qs) (sym f) tt
rest-runs job number qs (Some Ended) more f = f
rest-runs job number qs (Some Stopped) more f = f
rest-runs job number qs (Some Spent) more f = subst (RunsFrom job number qs) (sym f) tt
rest-runs job number qs (Some Overflow) more f = subst (RunsFrom job number qs) (sym f) tt

module _ (job : Job) (named : AreNamed job.program job.names) where
  query-met : (number : ℕ) (q : Query) (s : Shown) → numbered job.program.queries number ≡ Some q → RunsQuery job number q s → (most : ℕ) × AreMet job.program job.names most s.answers
  query-met number q s there run =
      let a = run.opens.analysis in
      let about : Problem = problem job.program number (checks_of job.program a.odd_rules) a.map (length job.names) in
      all-met job.program job.names about q job.budget refl (named number q there (checks_of job.program a.odd_rules) a.map) job.answers run.rest s.answers s.end run.prints
      (subst (IsRest job.program job.names about q job.budget refl (named number q there (checks_of job.program a.odd_rules) a.map)) (sym run.opens.whole) (λ c g. g))

  pub runs-met : (k : ℕ) (qs : List Query) (all : List Shown) → ((i : ℕ) → slice_get qs i ≡ slice_get job.program.queries (k + i)) → RunsFrom job (suc k) qs all
      → (most : ℕ) × Each (λ s. AreMet job.program job.names most s.answers) all
  runs-met k qs [] at r = (0, tt)
  runs-met k [] (s ∷ all) at r = absurd r
  runs-met k (q ∷ qs) (s ∷ all) at r =
      let here : k + 0 ≡ k = omega arith in
      let one = query-met (suc k) q s (ap (slice_get job.program.queries) (sym here) ∙ sym (at 0)) r.0 in
      let others = runs-met (suc k) qs all (λ i. at (suc i) ∙ ap (slice_get job.program.queries) (farther k i)) (rest-runs job (suc (suc k)) qs s.end all r.1) in
      let turned : others.0 + one.0 ≡ one.0 + others.0 = omega arith in (
        one.0 + others.0,
        (
          subst (λ (m : ℕ). AreMet job.program job.names m s.answers) turned (all-later job.program job.names one.0 others.0 s.answers one.1),
          Each-map (λ t. AreMet job.program job.names others.0 t.answers) (λ t. AreMet job.program job.names (one.0 + others.0) t.answers) (λ t h. all-later job.program job.names others.0 one.0 t.answers h) all others.1,
        ),
      )
    where
      farther : (k i : ℕ) → k + suc i ≡ suc k + i
      farther k i = omega arith

-- no more queries are shown than there are
pub shown-few : (job : Job) (number : ℕ) (qs : List Query) (all : List Shown) → RunsFrom job number qs all → length all ≤ length qs
shown-few job number qs [] r = omega arith
shown-few job number [] (s ∷ all) r = absurd r
shown-few job number (q ∷ qs) (s ∷ all) r = let k = shown-few job (suc number) qs all (rest-runs job (suc number) qs s.end all r.1) in omega (arith, k)
