-- What the steps of a machine keep holds of all that it meets.
use Rattle.std.specs.Prelude.{◌≡◌, ℕ, ◌+◌, zero, suc, nat_eq, Bool, true, false, ◌&&◌, ◌||◌, Option, Some, None, List, [], ◌∷◌, ◌++◌, map, length}
use Rattle.std.proofs.Common.{◌∙◌, ap, sym, subst}
use Rattle.scasp_cert.specs.Certificate.{Certificate}
use Rattle.scasp_graph.specs.Map.{MapHolds}
use Rattle.scasp_graph.specs.declared.analysis.Analysis.{Analysis}
use Rattle.scasp_list.specs.Each.{Each}
use Rattle.scasp_list.proofs.EachLemmas.{Each-append}
use Rattle.scasp_nmr.specs.Checks.{clause_in}
use Rattle.scasp_nmr.proofs.CheckLemmas.{checks-cover}
use Rattle.scasp_sound.specs.MapLevels.{covered}
use Rattle.scasp_search_rules.specs.Successors.Machine.{Machine, Found, Finds, answered, ended, spent, overflowed, outcome_of, behind, cost, pick, first_event}
use Rattle.scasp_search_rules.specs.Successors.Problems.{Problem}
use Rattle.scasp_search_rules.specs.Successors.Search.{search_for, start}
use Rattle.scasp_syntax.specs.declared.clause.Query.{Query}
use Rattle.scasp_syntax.specs.declared.predicate_map.PredMap.{PredMap}
use Rattle.scasp_law_outcomes.specs.Giving.{GivesAnswer, at_once, later}
use Rattle.scasp_law_outcomes.specs.Problems.{IsOfProblem, IsAnalysed, IsAnswer}
use Rattle.scasp_law_outcomes.proofs.Answering.{answer_at-is}
use Rattle.scasp_law_outcomes.proofs.Standing.{Keeps}
use Rattle.scasp_law_outcomes.proofs.Stepping.{step-keep, start-keeps}

-- Each step keeps P of the states, and Q holds of the answer of each state that has P.
pub record Invariant {S A : Type 0} (m : Machine S A) (P : S → Type 0) (Q : A → Type 0) : Type 0 where
  pub next : (s : S) → P s → Each P (m.next s)
  pub answer : (s : S) (a : A) → P s → m.answer s ≡ Some (Some a) → Q a

-- Q holds of the answer that was found, and P of the states behind it.
pub record Holds {S A : Type 0} (P : S → Type 0) (Q : A → Type 0) (found : Found S A) : Type 0 where
  pub answer : (a : A) → found.event ≡ answered a → Q a
  pub rest : Each P found.rest

-- whichever of the three applies
picked : {S A : Type 0} (P : S → Type 0) (Q : A → Type 0) (o : Option (Option A)) (over : Bool) (calls : ℕ) (may now : Bool) (s : S) (states : List S) (other : Option (Found S A)) (found : Found S A)
    → ((a : A) → o ≡ Some (Some a) → Q a) → P s → Each P states
    → pick o over (λ a. record { event = outcome_of a; calls = calls; may = may; rest = behind a s states })
    (record { event = spent; calls = calls; may = now; rest = s ∷ states }) other ≡ Some found
    → (other ≡ Some found → Holds P Q found) → Holds P Q found
picked {S} {A} P Q (Some (Some a)) over calls may now s states other found here h hs e next =
    let one : Found S A = record { event = answered a; calls = calls; may = may; rest = states } in
    let same : one ≡ found = cc e in
    subst (Holds P Q) same (record { answer = λ b g. (let is : a ≡ b = cc g in here b (ap (λ x. Some (Some x)) is)); rest = hs })
picked {S} {A} P Q (Some None) over calls may now s states other found here h hs e next =
    let one : Found S A = record { event = overflowed; calls = calls; may = may; rest = s ∷ states } in
    let same : one ≡ found = cc e in
    subst (Holds P Q) same (record { answer = λ b g. absurd (cc g); rest = (h, hs) })
picked {S} {A} P Q None true calls may now s states other found here h hs e next =
    let one : Found S A = record { event = spent; calls = calls; may = now; rest = s ∷ states } in
    let same : one ≡ found = cc e in
    subst (Holds P Q) same (record { answer = λ b g. absurd (cc g); rest = (h, hs) })
picked P Q None false calls may now s states other found here h hs e next = next e

first-holds : {S A : Type 0} (m : Machine S A) (P : S → Type 0) (Q : A → Type 0) → Invariant m P Q
    → (budget n : ℕ) (states : List S) (calls : ℕ) (may : Bool) (found : Found S A) → Each P states
    → first_event m budget n states calls may ≡ Some found → Holds P Q found
unfolding first_event
first-holds m P Q i budget zero states calls may found h e = absurd (cc e)
first-holds {S} {A} m P Q i budget (suc n) [] calls may found h e =
    let one : Found S A = record { event = ended; calls = calls; may = may; rest = [] } in
    let same : one ≡ found = cc e in
    subst (Holds P Q) same (record { answer = λ b g. absurd (cc g); rest = tt })
first-holds m P Q i budget (suc n) (s ∷ states) calls may found h e =
    picked P Q (m.answer s) (m.pays s && nat_eq calls budget) calls (may || m.asks s) may s states
    (first_event m budget n (m.next s ++ states) (calls + cost (m.pays s)) (may || m.asks s)) found (λ a. i.answer s a h.0) h.0 h.1 e
    (first-holds m P Q i budget n (m.next s ++ states) (calls + cost (m.pays s)) (may || m.asks s) found
    (Each-append P (m.next s) states (i.next s h.0) h.1))

pub finds-holds : {S A : Type 0} (m : Machine S A) (P : S → Type 0) (Q : A → Type 0) → Invariant m P Q
    → (budget calls : ℕ) (states : List S) (found : Found S A) → Each P states → Finds m budget states calls found → Holds P Q found
finds-holds m P Q i budget calls states found h f = first-holds m P Q i budget f.0 states calls false found h f.1

pub met-holds : {S A : Type 0} (m : Machine S A) (P : S → Type 0) (Q : A → Type 0) → Invariant m P Q
    → (budget : ℕ) (a : A) (states : List S) (calls : ℕ) → Each P states → GivesAnswer m budget a states calls → Q a
met-holds m P Q i budget a _ _ h (at_once states calls found f e) = (finds-holds m P Q i budget calls states found h f).answer a e
met-holds m P Q i budget a _ _ h (later states calls found b f e rest) =
    met-holds m P Q i budget a found.rest found.calls (finds-holds m P Q i budget calls states found h f).rest rest

-- ---- the written search

pub search-keeps : (p : Problem) (q : Query) → Invariant (search_for p q) (Keeps (map clause_in p.checks)) (IsOfProblem p)
search-keeps p q = record {
  next = λ s h. step-keep (map clause_in p.checks) p.program p.sat s h;
  answer = λ s a h e. answer_at-is p s (length q.names) s.work a h e;
}

pub answers-are-of-problem : (p : Problem) (q : Query) (budget : ℕ) (c : Certificate) → IsAnswer p q budget c → IsOfProblem p c
answers-are-of-problem p q budget c met =
    met-holds (search_for p q) (Keeps (map clause_in p.checks)) (IsOfProblem p) (search-keeps p q) budget c (start q p.checks ∷ []) 0
    (start-keeps q p.checks, tt) met

pub answers-keep-map : (p : Problem) (a : Analysis) → IsAnalysed p a → (q : Query) (budget : ℕ) (c : Certificate) → IsAnswer p q budget c
    → MapHolds p.program (covered c) c.map
answers-keep-map p a is q budget c met =
    let h = answers-are-of-problem p q budget c met in
    let M : List PredMap → Type 0 = λ m. MapHolds p.program (covered c) m in
    let C : List ℕ → Type 0 = λ ns. MapHolds p.program ns a.map in
    subst M (sym (h.map ∙ is.map)) (subst C (sym h.checks) (checks-cover p.program a p.checks is.analysis is.checks))
