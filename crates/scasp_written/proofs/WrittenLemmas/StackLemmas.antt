-- The last state of a stack is the next one, and the measure of a stack with one more.
use Rattle.std.specs.Prelude.{◌≡◌, ℕ, ◌+◌, ◌-◌, ◌*◌, ◌^◌, ◌<◌, ◌≤◌, List, [], ◌∷◌, ◌++◌, map, reverse, length, refl}
use Rattle.std.proofs.Common.{append_assoc, arith, ap, length-append, subst, sym, ◌∙◌}
use Rattle.std.proofs.lemmas.List.{reverse-append, map-append}
use Rattle.scasp_written.proofs.WrittenLemmas.TowerLemmas.{tower-over, tower-times}
use Rattle.scasp_written.specs.Written.Inside.Heights.{IsBelow, height, total, tower}
use Rattle.scasp_written.specs.Written.Inside.Stacks.{states_of}
use Rattle.scasp_written.specs.declared.written.stack.Waiting.{Waiting}
use Rattle.scasp_search_rules.specs.declared.states.state.State.{State}
use Rattle.scasp_search_rules.specs.declared.states.tasks.Task.{Task}
use Rattle.scasp_search_rules.specs.declared.states.tasks.Task.TheVariants as task
use Rattle.scasp_search_rules.specs.Successors.Falls.{EachState, packed, size, weight, weight_of}
use Rattle.scasp_syntax.specs.declared.clause.FlatItem.TheVariants as flat

pub states_push : (ws : List Waiting) (w : Waiting) → states_of (ws ++ w ∷ []) ≡ w.state ∷ states_of ws
states_push ws w = ap reverse (map-append (λ w. w.state) ws (w ∷ [])) ∙ reverse-append (map (λ w. w.state) ws) (w.state ∷ [])

pub total_push : (ws : List Waiting) (w : Waiting) → total (ws ++ w ∷ []) ≡ total ws + height w
total_push [] w = omega arith
total_push (v ∷ vs) w = omega (arith, total_push vs w)

pub each_last : (P : State → Type 0) (ss : List State) (s : State) → EachState P (ss ++ s ∷ []) → EachState P ss × P s
each_last P [] s h = (tt, h.0)
each_last P (t ∷ ts) s h = let rest = each_last P ts s h.1 in ((h.0, rest.0), rest.1)

-- the height of a state that is put on the stack
pub height_below : (made before p : ℕ) (s : State) → made + (size s - before) ≤ 2 ^ 64 → weight s.work < 2 ^ 67 → IsBelow before made p s
    → 2 ^ 64 * tower (packed (made + (size s - before)) (weight s.work)) ≤ tower p
height_below made before p s fits light below = tower-over (packed (made + (size s - before)) (weight s.work)) p (below fits light)

-- the state that is taken from a stack was the next one
pub states_popped : (ws rest : List Waiting) (w : Waiting) → ws ≡ rest ++ w ∷ [] → states_of ws ≡ w.state ∷ states_of rest
states_popped ws rest w is = ap states_of is ∙ states_push rest w

pub total_popped : (ws rest : List Waiting) (w : Waiting) → ws ≡ rest ++ w ∷ [] → total ws ≡ total rest + height w
total_popped ws rest w is = ap total is ∙ total_push rest w

weight-of_task : (t : Task) → weight_of t ≤ 6
weight-of_task (task.Show (flat.Call l)) = omega arith
weight-of_task (task.Show (flat.Test c)) = omega arith
weight-of_task (task.Equate t u) = omega arith
weight-of_task (task.Assume c) = omega arith
weight-of_task (task.Differ ps aim) = omega arith
weight-of_task (task.Become x t ps aim) = omega arith
weight-of_task (task.Avoid x q ps aim) = omega arith
weight-of_task (task.Shape x f ts ps aim) = omega arith
weight-of_task (task.Cover a k) = omega arith
weight-of_task (task.Check k b) = omega arith
weight-of_task (task.Begin k first b) = omega arith
weight-of_task task.Void = omega arith
weight-of_task task.Leave = omega arith
weight-of_task task.Close = omega arith

weight-bound : (ts : List Task) → weight ts ≤ 6 * length ts
weight-bound [] = omega arith
weight-bound (t ∷ ts) = omega (arith, weight-of_task t, weight-bound ts)

-- a stack with one state more
pub height_pushed : (ws new : List Waiting) (w : Waiting) (before made p : ℕ) → new ≡ ws ++ w ∷ [] → w.made ≡ made + (size w.state - before) → w.made < 2 ^ 64 → length w.state.work < 2 ^ 64
    → IsBelow before made p w.state → 2 ^ 64 * total new ≤ 2 ^ 64 * total ws + tower p
height_pushed ws new w before made p is grown fits few below =
    let e : total new ≡ total ws + height w = ap total is ∙ total_push ws w in
    let light : weight w.state.work < 2 ^ 67 = omega (arith, weight-bound w.state.work, few) in
    let small : made + (size w.state - before) ≤ 2 ^ 64 = omega (arith, grown, fits) in
    let h : 2 ^ 64 * tower (packed (made + (size w.state - before)) (weight w.state.work)) ≤ tower p = height_below made before p w.state small light below in
    let k : height w ≡ tower (packed (made + (size w.state - before)) (weight w.state.work)) = ap (λ m. tower (packed m (weight w.state.work))) grown in
    by (total new) (total ws) (height w) _ (tower p) e h k
  where
    by : (n o w t q : ℕ) → n ≡ o + w → 2 ^ 64 * t ≤ q → w ≡ t → 2 ^ 64 * n ≤ 2 ^ 64 * o + q
    by n o w t q e h k = omega (arith, e, h, k)

-- with fewer than 2 ^ 64 states more, each below the one that they stand for
pub height_freed : (old new : List Waiting) (w : Waiting) (count : ℕ) → count < 2 ^ 64
    → 2 ^ 64 * total new ≤ 2 ^ 64 * total old + count * tower (packed w.made (weight w.state.work)) → total new < total old + height w
height_freed old new w count few h = by (total new) (total old) (height w) (count * height w) h (tower-times count (packed w.made (weight w.state.work)) few)
  where
    by : (n o t k : ℕ) → 2 ^ 64 * n ≤ 2 ^ 64 * o + k → k < 2 ^ 64 * t → n < o + t
    by n o t k h g = omega (arith, h, g)

-- one of the states that are to be put on the stack is put on it
pub height_left : (left old new all t : ℕ) → 2 ^ 64 * old + (left + 1) * t ≤ all → 2 ^ 64 * new ≤ 2 ^ 64 * old + t → 2 ^ 64 * new + left * t ≤ all
height_left left old new all t h g = let e : (left + 1) * t ≡ left * t + t = omega arith in omega (arith, h, g, e)

pub height_next : (before made p : ℕ) (rest left : List State) (s : State) (old new : List Waiting) (all : ℕ) → rest ≡ left ++ s ∷ []
    → EachState (IsBelow before made p) rest × (2 ^ 64 * total old + length rest * tower p ≤ all)
    → (IsBelow before made p s → 2 ^ 64 * total new ≤ 2 ^ 64 * total old + tower p)
    → EachState (IsBelow before made p) left × (2 ^ 64 * total new + length left * tower p ≤ all)
height_next before made p rest left s old new all is h put =
    let each : EachState (IsBelow before made p) left × IsBelow before made p s = each_last (IsBelow before made p) left s (subst (λ ss. EachState (IsBelow before made p) ss) is h.0) in
    let one : length rest ≡ length left + 1 = ap length is ∙ length-append left (s ∷ []) in
    let room : 2 ^ 64 * total old + (length left + 1) * tower p ≤ all = subst (λ n. 2 ^ 64 * total old + n * tower p ≤ all) one h.1 in
    (each.0, height_left (length left) (total old) (total new) all (tower p) room (put each.1))

pub states_next : (rest left : List State) (s : State) (old new all : List State) → rest ≡ left ++ s ∷ [] → new ≡ s ∷ old → rest ++ old ≡ all → left ++ new ≡ all
states_next rest left s old new all is put h =
    ap (λ ss. left ++ ss) put ∙ sym (append_assoc left (s ∷ []) old) ∙ ap (λ ss. ss ++ old) (sym is) ∙ h
