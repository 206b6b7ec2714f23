-- At a step that costs nothing the measure of each state falls.
use Rattle.std.specs.Prelude.{◌≡◌, ◌≢◌, ℕ, ◌+◌, ◌-◌, ◌*◌, ◌^◌, ◌<◌, ◌≤◌, Bool, false, List, [], ◌∷◌, refl}
use Rattle.std.proofs.Common.{arith, inl, inr, ◌⊎◌}
use Rattle.scasp_written.specs.Written.Inside.Heights.{IsBelow}
use Rattle.scasp_search_rules.specs.declared.states.state.State.{State}
use Rattle.scasp_search_rules.specs.declared.states.tasks.Task.{Task}
use Rattle.scasp_search_rules.specs.declared.states.tasks.Task.TheVariants as task
use Rattle.scasp_search_rules.proofs.SuccessorsLemmas.FallLemmas.{close_keeps_work, free_step_falls, lighter_is_less, more_is_less}
use Rattle.scasp_search_rules.specs.Successors.Falls.{EachState, Falls, makes_more, weighs_less, packed, size, weight, weight_of}
use Rattle.scasp_search_rules.specs.Successors.Search.{costs, done, pays, step}
use Rattle.scasp_syntax.specs.declared.con.Con.{Con}
use Rattle.scasp_syntax.specs.declared.program.Program.{Program}

each : (P Q : State → Type 0) → ((s : State) → P s → Q s) → (ss : List State) → EachState P ss → EachState Q ss
each P Q f [] h = tt
each P Q f (s ∷ ss) h = (f s h.0, each P Q f ss h.1)

less : (made more work other : ℕ) → made ≤ more → more ≤ 2 ^ 64 → other < 2 ^ 67 → (made < more) ⊎ (other < work) → packed more other < packed made work
less made more work other m f l (inl h) = more_is_less made more work other h f l
less made more work other m f l (inr h) = by (nat_cases made more m)
  where
    nat_cases : (a b : ℕ) → a ≤ b → (a < b) ⊎ (a ≡ b)
    nat_cases a b h = grind arith

    by : (made < more) ⊎ (made ≡ more) → packed more other < packed made work
    by (inl g) = more_is_less made more work other g f l
    by (inr g) = rw g (lighter_is_less more work other h)

from_falls : (n made : ℕ) (s t : State) → Falls n s t → IsBelow (size s) made (packed made (n + weight s.work)) t
from_falls n made s t (makes_more m) fits light =
    less made (made + (size t - size s)) (n + weight s.work) (weight t.work) (omega arith) fits light (inl (omega (arith, m)))
from_falls n made s t (weighs_less m w) fits light =
    less made (made + (size t - size s)) (n + weight s.work) (weight t.work) (omega arith) fits light (inr w)

from_close : (made : ℕ) (s t : State) → t.work ≡ s.work → IsBelow (size s) made (packed made (1 + weight s.work)) t
from_close made s t e fits light =
    less made (made + (size t - size s)) (1 + weight s.work) (weight t.work) (omega arith) fits light (inr (rw e (omega arith)))

of_task : (p : Program) (sat : List Con → Bool) (s : State) (t : Task) (made : ℕ) → costs s t ≡ false
    → EachState (IsBelow (size s) made (packed made (weight_of t + weight s.work))) (done p sat s t).states
of_task p sat s t made free = by t free
  where
    falls : (u : Task) → costs s u ≡ false → u ≢ task.Close → EachState (IsBelow (size s) made (packed made (weight_of u + weight s.work))) (done p sat s u).states
    falls u f other = each _ _ (from_falls (weight_of u) made s) (done p sat s u).states (free_step_falls p sat s u f other)

    by : (u : Task) → costs s u ≡ false → EachState (IsBelow (size s) made (packed made (weight_of u + weight s.work))) (done p sat s u).states
    by (task.Show i) f = falls (task.Show i) f (λ e. cc e)
    by (task.Equate a b) f = falls (task.Equate a b) f (λ e. cc e)
    by (task.Assume c) f = falls (task.Assume c) f (λ e. cc e)
    by (task.Differ ps aim) f = falls (task.Differ ps aim) f (λ e. cc e)
    by (task.Become x a ps aim) f = falls (task.Become x a ps aim) f (λ e. cc e)
    by (task.Avoid x q ps aim) f = falls (task.Avoid x q ps aim) f (λ e. cc e)
    by (task.Shape x g ts ps aim) f = falls (task.Shape x g ts ps aim) f (λ e. cc e)
    by (task.Cover a k) f = falls (task.Cover a k) f (λ e. cc e)
    by (task.Check k b) f = falls (task.Check k b) f (λ e. cc e)
    by (task.Begin k first b) f = falls (task.Begin k first b) f (λ e. cc e)
    by task.Void f = falls task.Void f (λ e. cc e)
    by task.Leave f = falls task.Leave f (λ e. cc e)
    by task.Close f = each _ _ (from_close made s) (done p sat s task.Close).states (close_keeps_work p sat s f)

-- of each state that comes after this one
pub all_below : (p : Program) (sat : List Con → Bool) (s : State) (made : ℕ) → pays s ≡ false
    → EachState (IsBelow (size s) made (packed made (weight s.work))) (step p sat s).states
all_below p sat s made free = by s.work refl free
  where
    by : (work : List Task) → s.work ≡ work → pays s ≡ false → EachState (IsBelow (size s) made (packed made (weight s.work))) (step p sat s).states
    by [] e f = rw e tt
    by (t ∷ ts) e f = rw e (of_task p sat (record s { work = ts }) t made (rw e at f))
