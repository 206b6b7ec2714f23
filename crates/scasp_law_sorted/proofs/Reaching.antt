-- States that come of the start by states without universal variables.
use Rattle.std.specs.Prelude.{◌≡◌, ◌↔◌, ℕ, Bool, true, false, List, [], ◌∷◌, length}
use Rattle.std.proofs.Common.{refl, ap, sym, subst, ◌∙◌}
use Rattle.std.proofs.lemmas.Bool.{true≢false}
use Rattle.scasp_hint.specs.Satisfying.{sat}
use Rattle.scasp_hint.proofs.SatisfyingLemmas.{sat-sorted}
use Rattle.scasp_list.specs.Each.{Each}
use Rattle.scasp_list.proofs.EachLemmas.{Each-map}
use Rattle.scasp_list.proofs.MemberLemmas.{list_any-none_from, list_any-none_member}
use Rattle.scasp_search_rules.specs.declared.states.covers.Cover.{Cover}
use Rattle.scasp_search_rules.specs.declared.states.state.Made.{Made}
use Rattle.scasp_search_rules.specs.declared.states.state.State.{State}
use Rattle.scasp_search_rules.specs.declared.states.tasks.Task.{Task}
use Rattle.scasp_search_rules.specs.declared.states.tasks.Task.TheVariants as task
use Rattle.scasp_search_rules.specs.Successors.Problems.{Problem}
use Rattle.scasp_search_rules.specs.declared.states.state.Kind.TheVariants.{Existential}
use Rattle.scasp_search_rules.specs.Successors.Reading.{among}
use Rattle.scasp_search_rules.specs.Successors.Search.{nothing, search_for, start, step}
use Rattle.scasp_search_rules.specs.Successors.Variables.{is_kind_universal}
use Rattle.scasp_syntax.specs.Constraints.{Sat}
use Rattle.scasp_syntax.specs.WellFormed.{is_query_well_formed}
use Rattle.scasp_syntax.specs.declared.clause.Query.{Query}
use Rattle.scasp_syntax.specs.declared.con.Con.{Con}
use Rattle.scasp_syntax.specs.declared.program.Program.{Program}
use Rattle.scasp_unify.specs.Sorted.{Sorted, typed}
use Rattle.scasp_unify.proofs.Members.{Each-from, Each-member}
use Rattle.scasp_unify.specs.declared.bindings.Binding.{Binding}
use Rattle.scasp_law_first_event.specs.Events.{IsReachable, itself, after}
use Rattle.scasp_law_first_event.specs.Positive.{is_positive}
use Rattle.scasp_law_first_event.proofs.EachStates.{each-state}
use Rattle.scasp_law_first_event.proofs.Unnegated.{Plain, follows}
use Rattle.scasp_law_no_circle.proofs.Reaching.{Known, known}
use Rattle.scasp_law_no_circle.proofs.Scope.{Holds, Scoped}
use Rattle.scasp_law_no_circle.proofs.Tasks.{Waiting, Front, plain, assumes, numbers, differs, becomes, avoids, shapes, begins, part-no_row}
use Rattle.scasp_law_sorted.specs.Asking.{ComesPlainly, begins as at_start, goes_on, has_universal_made, asked_next}
use Rattle.scasp_law_sorted.proofs.Evenness.{Tame, tame-at, Even, even-new, Settled, Asks}
use Rattle.scasp_law_sorted.proofs.Walking.{Unowned, FirstTested, FirstNoBeginning, step-settled, step-even}

-- ---- what the first task is

front-tested : (p : Program) (made : List Made) (cs : List Cover) (bs : List Binding) (n : ℕ) (ts : List Task) → Front p made cs bs n ts → FirstTested ts
front-tested p made cs bs n _ (plain [] w) = tt
front-tested p made cs bs n _ (plain (t ∷ ts) w) = by t w
  where
    by : (t : Task) → Waiting (Scoped made cs bs) n (t ∷ ts) → FirstTested (t ∷ ts)
    by (task.Assume c) v = absurd v.0
    by (task.Show i) v = tt
    by (task.Equate t u) v = tt
    by (task.Differ ps aim) v = tt
    by (task.Become x t ps aim) v = tt
    by (task.Avoid x q ps aim) v = tt
    by (task.Shape x f us ps aim) v = tt
    by (task.Cover a k) v = tt
    by (task.Check k checks_head) v = tt
    by (task.Begin k first checks_head) v = tt
    by task.Void v = tt
    by task.Leave v = tt
    by task.Close v = tt
front-tested p made cs bs n _ (assumes c ts e a w) = part-no_row made cs bs n c e
front-tested p made cs bs n _ (numbers x q ps aim ts a pf af w) = tt
front-tested p made cs bs n _ (differs ps aim ts pf af w) = tt
front-tested p made cs bs n _ (becomes x t ps aim ts a b pf af w) = tt
front-tested p made cs bs n _ (avoids x q ps aim ts a pf af w) = tt
front-tested p made cs bs n _ (shapes x f us ps aim ts a b pf af w) = tt
front-tested p made cs bs n _ (begins k first checks_head ts heads w) = tt

first-plain : (ts : List Task) → FirstTested ts → Each Plain ts → FirstNoBeginning ts
first-plain [] f h = tt
first-plain (task.Assume c ∷ ts) f h = f
first-plain (task.Show i ∷ ts) f h = tt
first-plain (task.Equate t u ∷ ts) f h = tt
first-plain (task.Differ ps aim ∷ ts) f h = tt
first-plain (task.Become x t ps aim ∷ ts) f h = tt
first-plain (task.Avoid x q ps aim ∷ ts) f h = tt
first-plain (task.Shape x g us ps aim ∷ ts) f h = tt
first-plain (task.Cover a k ∷ ts) f h = tt
first-plain (task.Check k checks_head ∷ ts) f h = absurd h.0
first-plain (task.Begin k first checks_head ∷ ts) f h = absurd h.0
first-plain (task.Void ∷ ts) f h = tt
first-plain (task.Leave ∷ ts) f h = tt
first-plain (task.Close ∷ ts) f h = tt

-- ---- kinds

tame-from : (s : State) → has_universal_made s ≡ false → Each Tame s.made
tame-from s e = Each-from Tame s.made (λ m i. list_any-none_member (λ (m : Made). is_kind_universal m.kind) s.made m e i)

tame-none : (s : State) → Each Tame s.made → has_universal_made s ≡ false
tame-none s h = list_any-none_from (λ (m : Made). is_kind_universal m.kind) s.made (λ m i. Each-member Tame s.made m h i)

module _ (p : Problem) (q : Query) (fits : is_query_well_formed q ≡ true) (same : p.sat ≡ sat) where
  unowned : (s : State) → Known p q fits s → Each Tame s.made → Unowned s.covers
  unowned s k h =
      Each-map (Holds p.program s.made s.covers s.bound) (λ c. (u : ℕ) → among u c.universals ≡ true → ⊥) (λ c o u i. true≢false (sym (ap is_kind_universal (o.universals u i).0.1) ∙ tame-at s.made h u)) s.covers k.owning.sound.covers

  begun : Even (start q p.checks)
  begun = (even-new nothing Existential 0 (length q.names) refl (record { kinds = tt; settled = record { sorted = typed refl; bare = tt } }))

  step-asks : (s : State) → Known p q fits s → Even s → Asks Settled (step p.program p.sat s)
  step-asks s k e =
      subst (λ (test : List Con → Bool). Asks Settled (step p.program test s)) (sym same)
      (step-settled p.program s e (unowned s k e.kinds) s.work (front-tested p.program s.made s.covers s.bound (length s.covers) s.work k.owning.front))

  reachable : (s : State) → ComesPlainly p q s → IsReachable p q s
  reachable _ at_start = itself
  reachable _ (goes_on t u c e i) = after t u (reachable t c) i

  pub settled : (s : State) → ComesPlainly p q s → Settled s
  settled _ at_start = begun.settled
  settled _ (goes_on t u c e i) = each-state Settled ((search_for p q).next t) u (step-asks t (known p q fits t (reachable t c)) (record { kinds = tame-from t e; settled = settled t c })).states i

  pub asked-sorted : (s : State) → ComesPlainly p q s → has_universal_made s ≡ false → Each Sorted (asked_next p s)
  asked-sorted s c e = (step-asks s (known p q fits s (reachable s c)) (record { kinds = tame-from s e; settled = settled s c })).asked

  pub asked-decided : (s : State) → ComesPlainly p q s → has_universal_made s ≡ false → Each (λ cs. p.sat cs ≡ true ↔ Sat cs) (asked_next p s)
  asked-decided s c e =
      Each-map Sorted (λ cs. p.sat cs ≡ true ↔ Sat cs) (λ cs h. subst (λ (test : List Con → Bool). test cs ≡ true ↔ Sat cs) (sym same) (sat-sorted cs h)) (asked_next p s) (asked-sorted s c e)

  -- ---- without a negated literal

  module _ (positive : is_positive p q ≡ true) where
    even-there : (s : State) → IsReachable p q s → Even s
    even-there _ itself = begun
    even-there _ (after t u f i) =
        each-state Even ((search_for p q).next t) u
        (subst (λ (test : List Con → Bool). Asks Even (step p.program test t)) (sym same)
        (step-even p.program t (even-there t f) (unowned t k (even-there t f).kinds) t.work
        (first-plain t.work (front-tested p.program t.made t.covers t.bound (length t.covers) t.work k.owning.front) (follows p q positive t f)))).states i
      where
        k : Known p q fits t
        k = known p q fits t f

    plainly : (s : State) → IsReachable p q s → ComesPlainly p q s
    plainly _ itself = at_start
    plainly _ (after t u f i) = goes_on t u (plainly t f) (tame-none t (even-there t f).kinds) i

    pub comes-plainly : (s : State) → IsReachable p q s → ComesPlainly p q s × (has_universal_made s ≡ false)
    comes-plainly s f = (plainly s f, tame-none s (even-there s f).kinds)
