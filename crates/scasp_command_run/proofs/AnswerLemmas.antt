-- The state at which a search meets an answer, and what it asks.
use Rattle.std.proofs.Common.{◌≡◌, ◌∙◌, ℕ, zero, suc, ◌+◌, nat_eq, Bool, true, false, ◌&&◌, ◌||◌, not, List, [], ◌∷◌, ◌++◌, length, Option, None, Some, if◌then◌else◌, refl, ap, sym, subst, inr}
use Rattle.std.specs.List.{list_all, list_any}
use Rattle.std.proofs.lemmas.List.Folds.{list_any-append}
use Rattle.scasp_cert.specs.Certificate.{Certificate}
use Rattle.scasp_sample.specs.Sampling.{evaluated, is_in_range, point_for, sample, values_from}
use Rattle.scasp_fill.specs.Finishing.Finishes.{ArePairsApart, HasOverflow}
use Rattle.scasp_hint.specs.Finding.{overflows_in}
use Rattle.scasp_hint.specs.Satisfying.{sat}
use Rattle.scasp_num.specs.Arithmetic.{◌>>=◌}
use Rattle.scasp_num.specs.declared.linear.RatPair.{RatPair}
use Rattle.scasp_law_outcomes.proofs.Answering.{kept-answer}
use Rattle.scasp_command_run.specs.Inside.Events.{IsAbout}
use Rattle.scasp_command_run.specs.Queries.{Meets, MayOverflow}
use Rattle.scasp_written.specs.Written.Rests.{Rest, machine}
use Rattle.scasp_search_rules.specs.declared.states.state.State.{State}
use Rattle.scasp_search_rules.specs.declared.states.tasks.Task.{Task}
use Rattle.scasp_search_rules.proofs.SuccessorsLemmas.Walks.{finds-one}
use Rattle.scasp_search_rules.specs.Successors.Answers.{answer_of, certificate_at, hint_lists, pair_lists, sampled}
use Rattle.scasp_search_rules.specs.Successors.Machine.{Machine, Found, Finds, Outcome, answered, ended, spent, overflowed, outcome_of, behind, first_event, pick, cost}
use Rattle.scasp_search_rules.specs.Successors.Problems.{Problem}
use Rattle.scasp_search_rules.specs.Successors.Replacing.{close_overflows, end_overflows}
use Rattle.scasp_search_rules.specs.Successors.Search.{answer_at, asked_by}
use Rattle.scasp_syntax.specs.Tm.{Tms, items}
use Rattle.scasp_syntax.specs.Values.{giving}
use Rattle.scasp_syntax.specs.declared.con.Con.{Con}
use Rattle.scasp_syntax.specs.declared.program.Program.{Program}
use Rattle.scasp_unify.specs.Numbers.{number_var}

pub or-true : (a : Bool) → (a || true) ≡ true
or-true true = refl
or-true false = refl

-- ---- the state of an answer

-- the answer is that of some state, and it is told where that state asks a list that overflows
record AnswerState {S A : Type 0} (m : Machine S A) (a : A) (found : Found S A) : Type 0 where
  state : S
  is : m.answer state ≡ Some (Some a)
  asks : m.asks state ≡ true → found.may ≡ true

picked-answer : {S A : Type 0} (m : Machine S A) (s : S) (answer : Option (Option A)) (over may : Bool) (calls : ℕ) (left : Option A → List S) (at_end : Found S A)
    (later : Option (Found S A)) (found : Found S A) (a : A) → m.answer s ≡ answer → at_end.event ≡ spent
    → pick answer over (λ o. record { event = outcome_of o; calls = calls; may = may || m.asks s; rest = left o }) at_end later ≡ Some found
    → found.event ≡ answered a → (later ≡ Some found → AnswerState m a found) → AnswerState m a found
picked-answer {S} {A} m s (Some (Some b)) over may calls left at_end later found a is end h e go =
    let one : Found S A = record { event = answered b; calls = calls; may = may || m.asks s; rest = left (Some b) } in
    let k : one ≡ found = cc h in
    let same : answered b ≡ answered a = ap (λ (f : Found S A). f.event) k ∙ e in
    let b_is : b ≡ a = cc same in
    record {
      state = s;
      is = is ∙ ap (λ (x : A). Some (Some x)) b_is;
      asks = λ asks. sym (ap (λ (f : Found S A). f.may) k) ∙ ap (λ x. may || x) asks ∙ or-true may;
    }
picked-answer {S} {A} m s (Some None) over may calls left at_end later found a is end h e go =
    let one : Found S A = record { event = overflowed; calls = calls; may = may || m.asks s; rest = left None } in
    let k : one ≡ found = cc h in
    let same : overflowed ≡ answered a = ap (λ (f : Found S A). f.event) k ∙ e in
    absurd (cc same)
picked-answer {S} {A} m s None true may calls left at_end later found a is end h e go =
    let k : at_end ≡ found = cc h in
    let same : spent ≡ answered a = sym end ∙ ap (λ (f : Found S A). f.event) k ∙ e in
    absurd (cc same)
picked-answer m s None false may calls left at_end later found a is end h e go = go h

answer-state : {S A : Type 0} (m : Machine S A) (budget n : ℕ) (states : List S) (calls : ℕ) (may : Bool) (found : Found S A) (a : A)
    → first_event m budget n states calls may ≡ Some found → found.event ≡ answered a → AnswerState m a found
unfolding first_event
answer-state m budget zero states calls may found a h e = absurd (cc h)
answer-state {S} {A} m budget (suc n) [] calls may found a h e =
    let one : Found S A = record { event = ended; calls = calls; may = may; rest = [] } in
    let k : one ≡ found = cc h in
    let same : ended ≡ answered a = ap (λ (f : Found S A). f.event) k ∙ e in
    absurd (cc same)
answer-state m budget (suc n) (s ∷ states) calls may found a h e =
    picked-answer m s (m.answer s) (m.pays s && nat_eq calls budget) may calls (λ o. behind o s states) _ _ found a refl refl h e
    (λ g. answer-state m budget n (m.next s ++ states) (calls + cost (m.pays s)) (may || m.asks s) found a g e)

-- ---- the sample of an answer

values-length : (is_number : ℕ → Bool) (point : List RatPair) (fresh x n : ℕ) → length (items (values_from is_number point fresh x n)) ≡ n
values-length is_number point fresh x zero = refl
values-length is_number point fresh x (suc n) = by (is_number x) refl (values-length is_number point fresh (suc x) n) (values-length is_number point (suc fresh) (suc x) n)
  where
    by : (b : Bool) → is_number x ≡ b → length (items (values_from is_number point fresh (suc x) n)) ≡ n
        → length (items (values_from is_number point (suc fresh) (suc x) n)) ≡ n
        → length (items (values_from is_number point fresh x (suc n))) ≡ suc n
    by true e one other = rw e (ap suc one)
    by false e one other = rw e (ap suc other)

-- the values at which the rows are evaluated are those of the sample
pub evaluated-is : (cs : List Con) (ts us : Tms) → evaluated cs ts ≡ Some us → ts ≡ us
evaluated-is cs ts us h = by (list_all (is_in_range (giving (items ts))) cs) h
  where
    by : (b : Bool) → (if b then Some ts else None) ≡ Some us → ts ≡ us
    by true e = cc e
    by false e = absurd (cc e)

bound-length : (n : ℕ) (cs : List Con) (f : List RatPair → Tms) (o : Option (List RatPair)) (ts : Tms) → ((point : List RatPair) → length (items (f point)) ≡ n)
    → (o >>= (λ point. evaluated cs (f point))) ≡ Some ts → length (items ts) ≡ n
bound-length n cs f None ts each h = absurd (cc h)
bound-length n cs f (Some point) ts each h = let k : f point ≡ ts = evaluated-is cs (f point) ts h in sym (ap (λ (x : Tms). length (items x)) k) ∙ each point

sample-length : (fresh : ℕ) (cs : List Con) (n : ℕ) (ts : Tms) → sample fresh cs n ≡ Some ts → length (items ts) ≡ n
sample-length fresh cs n ts h =
    bound-length n cs (λ point. values_from (number_var cs) point fresh 0 n) (point_for cs) ts (λ point. values-length (number_var cs) point fresh 0 n) h

-- ---- the lists about an answer

-- another sample of the same length changes none of them
sampled-pairs : (p : Program) (c : Certificate) (ts : Tms) → length (items ts) ≡ length (items c.sample) → pair_lists p (record c { sample = ts }) ≡ pair_lists p c
sampled-pairs p c ts e = rw e refl

sampled-hints : (p : Program) (c : Certificate) (ts : Tms) → length (items ts) ≡ length (items c.sample) → hint_lists p (record c { sample = ts }) ≡ hint_lists p c
sampled-hints p c ts e = rw e refl

record Chosen (test : Bool) (o : Option Tms) (d c : Certificate) : Type 0 where
  holds : test ≡ true
  sample_of : Tms
  found : o ≡ Some sample_of
  same : record d { sample = sample_of } ≡ c

chosen : (test : Bool) (o : Option Tms) (d c : Certificate) → (if test then Some (sampled d o) else None) ≡ Some (Some c) → Chosen test o d c
chosen true None d c h = absurd (cc h)
chosen true (Some ts) d c h = record { holds = refl; sample_of = ts; found = refl; same = cc h }
chosen false o d c h = absurd (cc h)

-- the literals of the answer are apart, and what overflows of the lists that are about it is asked
record Asks (p : Problem) (c : Certificate) (asked : List (List Con)) : Type 0 where
  apart : list_all (λ cs. not (p.sat cs)) (pair_lists p.program c) ≡ true
  asks : list_any p.overflows (pair_lists p.program c ++ hint_lists p.program c) ≡ true → list_any p.overflows asked ≡ true

beside : (a g h : Bool) → (a || h) ≡ true → (a || (g || h)) ≡ true
beside true g h e = refl
beside false true h e = refl
beside false false h e = e

among-asked : (test : List Con → Bool) (pairs hints : List (List Con)) (given : List Con) → list_any test (pairs ++ hints) ≡ true → list_any test (pairs ++ given ∷ hints) ≡ true
among-asked test pairs hints given h =
    list_any-append test pairs (given ∷ hints)
    ∙ beside (list_any test pairs) (test given) (list_any test hints) (sym (list_any-append test pairs hints) ∙ h)

tested : (p : Problem) (fresh : ℕ) (d c : Certificate) → p.sample ≡ sample fresh → answer_of p d ≡ Some (Some c)
    → Asks p c (pair_lists p.program d ++ d.given ∷ hint_lists p.program d)
tested p fresh d c is h =
    let k = chosen (list_all (λ cs. not (p.sat cs)) (pair_lists p.program d)) (p.sample d.given (length (items d.sample))) d c h in
    let e : length (items k.sample_of) ≡ length (items d.sample) =
    sample-length fresh d.given (length (items d.sample)) k.sample_of
    (sym (ap (λ (f : List Con → ℕ → Option Tms). f d.given (length (items d.sample))) is) ∙ k.found) in
    let pairs = sampled-pairs p.program d k.sample_of e in
    let hints = sampled-hints p.program d k.sample_of e in
    subst (λ (x : Certificate). Asks p x (pair_lists p.program d ++ d.given ∷ hint_lists p.program d)) k.same
    (record {
      apart = ap (λ (ls : List (List Con)). list_all (λ cs. not (p.sat cs)) ls) pairs ∙ k.holds;
      asks = λ o.
          among-asked p.overflows (pair_lists p.program d) (hint_lists p.program d) d.given
          (ap (λ (ls : List (List Con)). list_any p.overflows (ls ++ hint_lists p.program d)) (sym pairs)
          ∙ ap (λ (ls : List (List Con)). list_any p.overflows (pair_lists p.program (record d { sample = k.sample_of }) ++ ls)) (sym hints) ∙ o);
    })

answered-at : (p : Problem) (s : State) (queried fresh : ℕ) (work : List Task) (c : Certificate) → p.sample ≡ sample fresh
    → answer_at p s queried work ≡ Some (Some c) → Asks p c (asked_by p s queried work)
answered-at p s queried fresh (t ∷ ts) c is h = absurd (cc (kept-answer (close_overflows s (t ∷ ts)) None c h))
answered-at p s queried fresh [] c is h =
    tested p fresh (certificate_at p s queried) c is (kept-answer (end_overflows s) (answer_of p (certificate_at p s queried)) c h)

-- ---- the answer of a search

-- the tests of the search are those of the whole language
apart-by : (p P : Program) (test : List Con → Bool) (c : Certificate) → P ≡ p → test ≡ sat
    → list_all (λ cs. not (test cs)) (pair_lists P c) ≡ true → ArePairsApart p c
apart-by p P test c program tests h =
    ap (λ (f : List Con → Bool). list_all (λ cs. not (f cs)) (pair_lists p c)) (sym tests)
    ∙ ap (λ (q : Program). list_all (λ cs. not (test cs)) (pair_lists q c)) (sym program) ∙ h

overflow-by : (p P : Program) (test : List Con → Bool) (c : Certificate) → P ≡ p → test ≡ overflows_in
    → HasOverflow p c → list_any test (pair_lists P c ++ hint_lists P c) ≡ true
overflow-by p P test c program tests h =
    ap (λ (f : List Con → Bool). list_any f (pair_lists P c ++ hint_lists P c)) tests
    ∙ ap (λ (q : Program). list_any overflows_in (pair_lists q c ++ hint_lists q c)) program ∙ h

module _ (p : Program) (old new : Rest) (c : Certificate) (about : IsAbout p old) (meets : Meets old (answered c) new) where
  abbrev m : Machine State Certificate
  m = machine old.problem old.queried

  abbrev pub first : Found State Certificate
  first = record { event = answered c; calls = meets.calls; may = meets.tells.0; rest = meets.states }

  at-state : AnswerState m c first
  at-state = answer-state m old.budget meets.tells.1.0 old.states old.calls false first c meets.tells.1.1 refl

  asks-about : Asks old.problem c (asked_by old.problem (at-state).state old.queried ((at-state).state).work)
  asks-about = answered-at old.problem (at-state).state old.queried about.fresh ((at-state).state).work c about.sample_is (at-state).is

  pub answer-apart : ArePairsApart p c
  answer-apart = apart-by p old.problem.program old.problem.sat c about.program about.sat_is (asks-about).apart

  -- where a list overflows that is asked about the tree, the run may end by an overflow
  pub tree-may-overflow : HasOverflow p c → MayOverflow old
  tree-may-overflow h found finds =
      let k : first ≡ found = finds-one m old.budget old.calls old.states first found meets.tells.1 finds in
      inr (sym (ap (λ (f : Found State Certificate). f.may) k)
      ∙ (at-state).asks ((asks-about).asks (overflow-by p old.problem.program old.problem.overflows c about.program about.overflows h)))
