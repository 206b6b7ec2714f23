-- Words for worked searches.
use Rattle.std.specs.Prelude.{ℕ, zero, suc, Bool, true, false, cond, None, Some, List, [], ◌∷◌}
use Rattle.scasp_cert.specs.Certificate.{Certificate}
use Rattle.scasp_hint.specs.Satisfying.{sat}
use Rattle.scasp_nmr.specs.declared.items.CheckItem.{CheckItem}
use Rattle.scasp_search_rules.specs.declared.states.state.State.{State}
use Rattle.scasp_syntax.specs.Tm.{nil}
use Rattle.scasp_syntax.specs.declared.clause.Query.{Query}
use Rattle.scasp_syntax.specs.declared.program.Program.{Program}
use Rattle.scasp_search_rules.specs.Successors.Machine.{Machine, Outcome, answered, ended, spent, overflowed, first_event}
use Rattle.scasp_search_rules.specs.Successors.Problems.{Problem}
use Rattle.scasp_search_rules.specs.Successors.Search.{search_for, start}

-- the problem of a program and these checks, without a map and without samples
abbrev pub problem : Program → List CheckItem → Problem
problem p checks = record {
  program = p;
  query = 1;
  checks = checks;
  map = [];
  sat = sat;
  sample = λ cs n. Some nil;
  overflows = λ cs. false;
}

abbrev pub is_answer : Outcome Certificate → Bool
is_answer (answered a) = true
is_answer ended = false
is_answer spent = false
is_answer overflowed = false

-- the first so many events, each with the calls spent before it; the walk to each takes at most 100000 steps
abbrev pub events_from : Machine State Certificate → ℕ → ℕ → List State → ℕ → List (Outcome Certificate × ℕ)
events_from m budget zero states calls = []
events_from m budget (suc n) states calls =
    elim (first_event m budget 100000 states calls false) [
      | None ↦ []
      | Some f ↦ (f.event, f.calls) ∷ cond (is_answer f.event) (events_from m budget n f.rest f.calls) []
    ]

abbrev pub events : Problem → Query → ℕ → ℕ → List (Outcome Certificate × ℕ)
events p q budget n = events_from (search_for p q) budget n (start q p.checks ∷ []) 0

-- how many calls were spent before each of the first so many events
abbrev pub calls_of : List (Outcome Certificate × ℕ) → List ℕ
calls_of [] = []
calls_of (e ∷ es) = e.1 ∷ calls_of es
