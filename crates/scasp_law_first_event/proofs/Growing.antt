-- Each way of steps that cost nothing comes to an end, or to a state of more variables and bindings than a number.
use Rattle.std.specs.Prelude.{◌≡◌, ◌⊎◌, ◌≢◌, ℕ, ◌+◌, ◌<◌, ◌≤◌, zero, suc, Bool, true, false, List, [], ◌∷◌, ⊤}
use Rattle.std.specs.List.{Contains}
use Rattle.std.proofs.Common.{inl, inr, refl, arith, subst, ap, ◌∙◌}
use Rattle.scasp_list.specs.Each.{Each}
use Rattle.scasp_list.proofs.MemberLemmas.{Contains-none, Contains-cases}
use Rattle.scasp_search_rules.specs.declared.states.state.State.{State}
use Rattle.scasp_search_rules.specs.declared.states.tasks.Task.{Task}
use Rattle.scasp_search_rules.specs.declared.states.tasks.Task.TheVariants as task
use Rattle.scasp_search_rules.specs.Successors.Falls.{EachState, Falls, makes_more, weighs_less, size, weight, weight_of}
use Rattle.scasp_search_rules.specs.Successors.Problems.{Problem}
use Rattle.scasp_search_rules.specs.Successors.Search.{costs, done, pays_for, search_for, step_at}
use Rattle.scasp_search_rules.proofs.SuccessorsLemmas.FallLemmas.{free_step_falls, close_keeps_work}
use Rattle.scasp_syntax.specs.declared.clause.Query.{Query}
use Rattle.scasp_law_first_event.specs.Events.{HasEvent, ComesTo, IsBeyond}
use Rattle.scasp_law_first_event.proofs.Closing.{closes, free-closes}
use Rattle.scasp_law_first_event.proofs.Settling.{Settles, met, costs as pays_there, goes_on, finds}

each-state : (P : State → Type 0) (ss : List State) (t : State) → EachState P ss → Contains ss t → P t
each-state P [] t h i = absurd (Contains-none t i)
each-state P (s ∷ ss) t h i = elim (Contains-cases s ss t i) [ inl e ↦ subst P e h.0 | inr j ↦ each-state P ss t h.1 j ]

all-true : (ss : List State) → Each (λ _. ⊤) ss
all-true [] = tt
all-true (s ∷ ss) = (tt, all-true ss)

-- ---- the first task

-- it closes a case or not
data Closing (t : Task) : Type 0 where
  is_one : t ≡ task.Close → Closing t
  is_none : t ≢ task.Close → ((ts : List Task) → closes (t ∷ ts) ≡ closes ts) → Closing t

closing : (t : Task) → Closing t
closing task.Close = is_one refl
closing (task.Show i) = is_none (λ e. absurd (cc e)) (λ ts. refl)
closing (task.Equate t u) = is_none (λ e. absurd (cc e)) (λ ts. refl)
closing (task.Assume c) = is_none (λ e. absurd (cc e)) (λ ts. refl)
closing (task.Differ ps aim) = is_none (λ e. absurd (cc e)) (λ ts. refl)
closing (task.Become x t ps aim) = is_none (λ e. absurd (cc e)) (λ ts. refl)
closing (task.Avoid x q ps aim) = is_none (λ e. absurd (cc e)) (λ ts. refl)
closing (task.Shape x f us ps aim) = is_none (λ e. absurd (cc e)) (λ ts. refl)
closing (task.Cover a k) = is_none (λ e. absurd (cc e)) (λ ts. refl)
closing (task.Check k checks_head) = is_none (λ e. absurd (cc e)) (λ ts. refl)
closing (task.Begin k first checks_head) = is_none (λ e. absurd (cc e)) (λ ts. refl)
closing task.Void = is_none (λ e. absurd (cc e)) (λ ts. refl)
closing task.Leave = is_none (λ e. absurd (cc e)) (λ ts. refl)

-- what it costs does not depend on those behind it
costs-same : (s : State) (ts : List Task) (t : Task) → costs (record s { work = ts }) t ≡ costs s t
costs-same s ts (task.Show i) = refl
costs-same s ts (task.Equate t u) = refl
costs-same s ts (task.Assume c) = refl
costs-same s ts (task.Differ ps aim) = refl
costs-same s ts (task.Become x t ps aim) = refl
costs-same s ts (task.Avoid x q ps aim) = refl
costs-same s ts (task.Shape x f us ps aim) = refl
costs-same s ts (task.Cover a k) = refl
costs-same s ts (task.Check k checks_head) = refl
costs-same s ts (task.Begin k first checks_head) = refl
costs-same s ts task.Void = refl
costs-same s ts task.Leave = refl
costs-same s ts task.Close = refl

-- ---- the measure

module _ (p : Problem) (q : Query) (n : ℕ) where
  abbrev Ends : State → Type 0
  Ends s = Settles (search_for p q) (IsBeyond n) s

  -- each state settles that has fewer cases to close than c, less weight than w, and more than n with k variables and bindings more
  abbrev Bounded : ℕ → ℕ → ℕ → Type 0
  Bounded c k w = (s : State) → closes s.work < c → n < size s + k → weight s.work < w → Ends s

  after-free : (d j v : ℕ) → ((k w : ℕ) → Bounded d k w) → ((w : ℕ) → Bounded (suc d) j w) → Bounded (suc d) (suc j) v
      → (s : State) (t : Task) (ts : List Task) → closes (t ∷ ts) < suc d → n < size s + suc j → weight (t ∷ ts) < suc v
      → costs s t ≡ false → (r : State) → Contains (done p.program p.sat (record s { work = ts }) t).states r → Ends r
  after-free d j v fewer closer lighter s t ts hc hk hw room r i = by (closing t)
    where
      rest : State
      rest = record s { work = ts }

      free : costs rest t ≡ false
      free = costs-same s ts t ∙ room

      falls : closes (t ∷ ts) ≡ closes ts → closes r.work ≡ closes ts → Falls (weight_of t) rest r → Ends r
      falls e f (makes_more h) = closer (suc (weight r.work)) r (omega (arith, e, f, hc)) (omega (arith, h, hk)) (omega arith)
      falls e f (weighs_less h k) = lighter r (omega (arith, e, f, hc)) (omega (arith, h, hk)) (omega (arith, k, hw))

      closed : closes (task.Close ∷ ts) < suc d → r.work ≡ ts → Ends r
      closed c e =
          let same : closes r.work ≡ closes ts = ap closes e in
          fewer (suc n) (suc (weight r.work)) r (omega (arith, c, same)) (omega arith) (omega arith)

      by : Closing t → Ends r
      by (is_one e) =
          let f : costs rest task.Close ≡ false = subst (λ (u : Task). costs rest u ≡ false) e free in
          let k : Contains (done p.program p.sat rest task.Close).states r = subst (λ (u : Task). Contains (done p.program p.sat rest u).states r) e i in
          closed (subst (λ (u : Task). closes (u ∷ ts) < suc d) e hc)
          (each-state (λ (u : State). u.work ≡ ts) (done p.program p.sat rest task.Close).states r (close_keeps_work p.program p.sat rest f) k)
      by (is_none e same) =
          let a = each-state (Falls (weight_of t) rest) (done p.program p.sat rest t).states r (free_step_falls p.program p.sat rest t free e) i in
          let b = each-state (λ (u : State). closes u.work ≡ closes ts) (done p.program p.sat rest t).states r (free-closes p.program p.sat rest t free e) i in
          falls (same ts) b a

  one : (d j v : ℕ) → ((k w : ℕ) → Bounded d k w) → ((w : ℕ) → Bounded (suc d) j w) → Bounded (suc d) (suc j) v
      → (s : State) (work : List Task) → s.work ≡ work → closes work < suc d → n < size s + suc j → weight work < suc v → Ends s
  one d j v fewer closer lighter s [] e hc hk hw =
      goes_on s (λ r i. absurd (Contains-none r (subst (λ (ts : List Task). Contains (step_at p.program p.sat s ts).states r) e i)))
  one d j v fewer closer lighter s (t ∷ ts) e hc hk hw = by (costs s t) refl
    where
      by : (b : Bool) → costs s t ≡ b → Ends s
      by true c = pays_there s (ap (pays_for s) e ∙ c)
      by false c =
          goes_on s
          (λ r i. after-free d j v fewer closer lighter s t ts hc hk hw c r (subst (λ (us : List Task). Contains (step_at p.program p.sat s us).states r) e i))

  by-weight : (d j : ℕ) → ((k w : ℕ) → Bounded d k w) → ((w : ℕ) → Bounded (suc d) j w) → (w : ℕ) → Bounded (suc d) (suc j) w
  by-weight d j fewer closer zero s hc hk hw = absurd (omega (arith, hw))
  by-weight d j fewer closer (suc v) s hc hk hw =
      one d j v fewer closer (by-weight d j fewer closer v) s s.work refl hc hk hw

  by-size : (d : ℕ) → ((k w : ℕ) → Bounded d k w) → (k w : ℕ) → Bounded (suc d) k w
  by-size d fewer zero w s hc hk hw = met s (let e : size s + 0 ≡ size s = omega arith in omega (arith, hk, e))
  by-size d fewer (suc j) w s hc hk hw = by-weight d j fewer (λ v. by-size d fewer j v) w s hc hk hw

  by-closes : (c k w : ℕ) → Bounded c k w
  by-closes zero k w s hc hk hw = absurd (omega (arith, hc))
  by-closes (suc d) k w s hc hk hw = by-size d (λ j v. by-closes d j v) k w s hc hk hw

  settles : (s : State) → Ends s
  settles s = by-closes (suc (closes s.work)) (suc n) (suc (weight s.work)) s (omega arith) (omega arith) (omega arith)

  pub finds-or-grows : (budget calls : ℕ) (states : List State) → calls ≤ budget → HasEvent (search_for p q) budget states calls ⊎ ComesTo (IsBeyond n) (search_for p q) budget states calls
  finds-or-grows budget calls states l =
      finds (search_for p q) (IsBeyond n) (λ _. ⊤) (λ s _. inr (all-true ((search_for p q).next s))) (λ s _. settles s) budget calls l states (all-true states)
