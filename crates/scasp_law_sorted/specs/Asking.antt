-- Which lists the steps of a search ask, and that they are sorted.
use Rattle.std.specs.Prelude.{◌≡◌, ◌↔◌, ℕ, Bool, true, false, ◌&&◌, not, List, [], ◌∷◌}
use Rattle.std.specs.List.{Contains, list_all, list_any}
use Rattle.scasp_hint.specs.AskedRows.{RowsNormal}
use Rattle.scasp_hint.specs.Satisfying.{sat}
use Rattle.scasp_list.specs.Each.{Each}
use Rattle.scasp_project.specs.Meaning.{IsNoEquation}
use Rattle.scasp_search_rules.specs.declared.states.state.State.{State}
use Rattle.scasp_search_rules.specs.declared.states.tasks.Task.{Task}
use Rattle.scasp_search_rules.specs.declared.states.tasks.Task.TheVariants as task
use Rattle.scasp_search_rules.specs.Successors.Answers.{certificate_at, given_lines}
use Rattle.scasp_search_rules.specs.Successors.Problems.{Problem}
use Rattle.scasp_search_rules.specs.Successors.Regions.{asked_with, context}
use Rattle.scasp_search_rules.specs.Successors.Replacing.{is_unreplaced}
use Rattle.scasp_search_rules.specs.Successors.Search.{asked_by, search_for, start, step}
use Rattle.scasp_search_rules.specs.Successors.Variables.{is_kind_universal, meaning}
use Rattle.scasp_syntax.specs.Constraints.{Sat}
use Rattle.scasp_syntax.specs.WellFormed.{is_query_well_formed}
use Rattle.scasp_syntax.specs.declared.clause.FlatItem.{FlatItem}
use Rattle.scasp_syntax.specs.declared.clause.FlatItem.TheVariants as flat
use Rattle.scasp_syntax.specs.declared.clause.Item.{Item}
use Rattle.scasp_syntax.specs.declared.clause.Item.TheVariants as item
use Rattle.scasp_syntax.specs.declared.clause.Query.{Query}
use Rattle.scasp_syntax.specs.declared.con.Con.{Con}
use Rattle.scasp_unify.specs.Sorted.{Sorted, is_typed}
use Rattle.scasp_law_first_event.specs.Events.{IsReachable}
use Rattle.scasp_law_first_event.specs.Positive.{is_positive}

-- some variable of the state is universal
abbrev pub has_universal_made : State → Bool
has_universal_made s = list_any (λ m. is_kind_universal m.kind) s.made

-- the lists that the next step asks
abbrev pub asked_next : Problem → State → List (List Con)
asked_next p s = (step p.program p.sat s).asked

-- the state comes of the start by steps from states without universal variables
pub data ComesPlainly (p : Problem) (q : Query) : State → Type 0 where
  begins : ComesPlainly p q (start q p.checks)
  goes_on : (t u : State) → ComesPlainly p q t → has_universal_made t ≡ false → Contains ((search_for p q).next t) u → ComesPlainly p q u

-- In such a state the bindings with the given constraints are sorted.
abbrev pub GivenAreSorted : Type 0
GivenAreSorted = (p : Problem) (q : Query) (s : State) → is_query_well_formed q ≡ true → p.sat ≡ sat → ComesPlainly p q s → Sorted (asked_with s s.given)

-- And each list that the next step asks is, if the state itself has no universal variable.
abbrev pub AskedAreSorted : Type 0
AskedAreSorted =
    (p : Problem) (q : Query) (s : State) → is_query_well_formed q ≡ true → p.sat ≡ sat → ComesPlainly p q s → has_universal_made s ≡ false
    → Each Sorted (asked_next p s)

-- So there the test says of each list that is asked whether the list has a valuation.
abbrev pub TestsDecide : Type 0
TestsDecide =
    (p : Problem) (q : Query) (s : State) → is_query_well_formed q ≡ true → p.sat ≡ sat → ComesPlainly p q s → has_universal_made s ≡ false
    → Each (λ cs. p.sat cs ≡ true ↔ Sat cs) (asked_next p s)

-- Where neither the query nor a clause has a negated literal, and no clause is checked, so it is of all states that come of the start.
abbrev pub PositivesComePlainly : Type 0
PositivesComePlainly =
    (p : Problem) (q : Query) (s : State) → is_query_well_formed q ≡ true → is_positive p q ≡ true → p.sat ≡ sat → IsReachable p q s
    → ComesPlainly p q s × (has_universal_made s ≡ false)

-- ---- programs without rows

abbrev pub is_item_rowless : Item → Bool
is_item_rowless (item.Call l) = true
is_item_rowless (item.Equal t u) = true
is_item_rowless (item.Differ t u) = true
is_item_rowless (item.Linear l) = false

-- neither the query nor a clause has a linear item
abbrev pub is_rowless : Problem → Query → Bool
is_rowless p q = list_all is_item_rowless q.body && list_all (λ c. list_all is_item_rowless c.body) p.program.clauses

-- Each list that is asked is sorted then, from whatever state that comes of the start, and whatever the test is. So are the lists about the
-- certificate of a state with nothing left to do.
abbrev pub RowlessAskSorted : Type 0
RowlessAskSorted =
    (p : Problem) (q : Query) (s : State) (queried : ℕ) → is_rowless p q ≡ true → IsReachable p q s → Each Sorted (asked_by p s queried s.work)

-- what the laws on projections ask of a list: its rows are in normal form, it has no equations, and it is sorted
pub record CanBeProjected (cs : List Con) : Type 0 where
  pub normal : RowsNormal cs
  pub plain : Each IsNoEquation cs
  pub sorted : Sorted cs

-- So it is with the given constraints of the certificate of each such state, where so many variables are those of the query.
abbrev pub RowlessGiveSorted : Type 0
RowlessGiveSorted = (p : Problem) (q : Query) (s : State) (queried : ℕ) → is_rowless p q ≡ true → IsReachable p q s → CanBeProjected (certificate_at p s queried).given

-- ---- all programs

abbrev pub test_unreplaced : State → FlatItem → Bool
test_unreplaced s (flat.Test c) = is_unreplaced (meaning s) c
test_unreplaced s (flat.Call l) = false

-- The first of these tasks shows a row that the bindings cannot replace within the range of the numbers.
abbrev pub shows_unreplaced : State → List Task → Bool
shows_unreplaced s [] = false
shows_unreplaced s (task.Show i ∷ ts) = test_unreplaced s i
shows_unreplaced s (task.Equate t u ∷ ts) = false
shows_unreplaced s (task.Assume c ∷ ts) = false
shows_unreplaced s (task.Differ ps aim ∷ ts) = false
shows_unreplaced s (task.Become x t ps aim ∷ ts) = false
shows_unreplaced s (task.Avoid x q ps aim ∷ ts) = false
shows_unreplaced s (task.Shape x f us ps aim ∷ ts) = false
shows_unreplaced s (task.Cover a k ∷ ts) = false
shows_unreplaced s (task.Check k checks_head ∷ ts) = false
shows_unreplaced s (task.Begin k first checks_head ∷ ts) = false
shows_unreplaced s (task.Void ∷ ts) = false
shows_unreplaced s (task.Leave ∷ ts) = false
shows_unreplaced s (task.Close ∷ ts) = false

-- the state comes of the start by steps at none of which such a row is shown
pub data ComesReplaced (p : Problem) (q : Query) : State → Type 0 where
  starts : ComesReplaced p q (start q p.checks)
  moves_on : (t u : State) → ComesReplaced p q t → shows_unreplaced t t.work ≡ false → Contains ((search_for p q).next t) u → ComesReplaced p q u

-- In such a state the bindings with the given constraints are sorted, and with the whole context.
abbrev pub ContextsAreSorted : Type 0
ContextsAreSorted =
    (p : Problem) (q : Query) (s : State) → is_query_well_formed q ≡ true → p.sat ≡ sat → ComesReplaced p q s
    → Sorted (asked_with s s.given) × Sorted (asked_with s (context s))

-- And each list that the next step asks is sorted.
abbrev pub AllAskSorted : Type 0
AllAskSorted = (p : Problem) (q : Query) (s : State) → is_query_well_formed q ≡ true → p.sat ≡ sat → ComesReplaced p q s → Each Sorted (asked_next p s)

-- So the test says of each such list whether the list has a valuation.
abbrev pub AllTestsDecide : Type 0
AllTestsDecide =
    (p : Problem) (q : Query) (s : State) → is_query_well_formed q ≡ true → p.sat ≡ sat → ComesReplaced p q s
    → Each (λ cs. p.sat cs ≡ true ↔ Sat cs) (asked_next p s)

-- So are the given constraints as they read, if each row of theirs can be replaced.
abbrev pub GivenLinesAreSorted : Type 0
GivenLinesAreSorted =
    (p : Problem) (q : Query) (s : State) → is_query_well_formed q ≡ true → p.sat ≡ sat → ComesReplaced p q s → list_any (is_unreplaced (meaning s)) s.given ≡ false
    → Sorted (given_lines s)

-- the list passes the test, though some variable of a row does not count as a number
abbrev pub is_loose : List Con → Bool
is_loose cs = sat cs && not (is_typed cs)

-- Such a list is not sorted.
abbrev pub LooseIsUnsorted : Type 0
LooseIsUnsorted = (cs : List Con) → is_loose cs ≡ true → Sorted cs → ⊥
