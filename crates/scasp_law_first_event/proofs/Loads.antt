-- Tasks that do not equate terms or tell them apart: what is left to do grows less.
use Rattle.std.specs.Prelude.{◌≡◌, ℕ, ◌+◌, ◌<◌, ◌≤◌, Bool, true, false, ◌&&◌, if◌then◌else◌, List, [], ◌∷◌, ◌++◌, length, map}
use Rattle.std.specs.List.{fold}
use Rattle.std.proofs.Common.{refl, arith, ap, ◌∙◌, inl, inr}
use Rattle.scasp_num.specs.Number.{Number}
use Rattle.scasp_search_rules.specs.declared.states.lines.Line.TheVariants as line
use Rattle.scasp_search_rules.specs.declared.states.outcomes.Status.{Status}
use Rattle.scasp_search_rules.specs.declared.states.outcomes.Status.TheVariants.{Entailed, Impossible, Added, Parts}
use Rattle.scasp_search_rules.specs.declared.states.state.Literal.{Literal}
use Rattle.scasp_search_rules.specs.declared.states.state.State.{State}
use Rattle.scasp_search_rules.specs.declared.states.tasks.Aim.{Aim}
use Rattle.scasp_search_rules.specs.declared.states.tasks.Aim.TheVariants as aims
use Rattle.scasp_search_rules.specs.declared.states.tasks.Pair.{Pair}
use Rattle.scasp_search_rules.specs.declared.states.tasks.Task.{Task}
use Rattle.scasp_search_rules.specs.declared.states.tasks.Task.TheVariants as task
use Rattle.scasp_syntax.specs.Tm.{Tm, Tms, var, num, app, items}
use Rattle.scasp_syntax.specs.View.{tm_of}
use Rattle.scasp_syntax.specs.declared.clause.FlatItem.TheVariants as flat
use Rattle.scasp_syntax.specs.declared.con.Con.{Con}
use Rattle.scasp_syntax.specs.declared.con.Con.TheVariants as con
use Rattle.scasp_syntax.specs.declared.program.Program.{Program}
use Rattle.scasp_syntax.specs.declared.term.Term.TheVariants.{Var}
use Rattle.scasp_unify.specs.Negations.{new_parts}
use Rattle.scasp_unify.specs.SimpleForm.{differ, term_with}
use Rattle.scasp_search_rules.specs.Successors.Assumptions.{performed, as_read, status, assume, assume_all}
use Rattle.scasp_search_rules.specs.Successors.Calls.{marked, moved, left, at_number, finished, ancestors}
use Rattle.scasp_search_rules.specs.Successors.Differences.{when_apart, alternatives, differ_value, same_value, same_shape}
use Rattle.scasp_search_rules.specs.Successors.Equations.{becomes_shape, equated, equations_of}
use Rattle.scasp_search_rules.specs.Successors.Falls.{EachState}
use Rattle.scasp_search_rules.specs.Successors.Items.{test_item, number_tests, with_line}
use Rattle.scasp_search_rules.specs.Successors.Pairs.{pairs}
use Rattle.scasp_search_rules.specs.Successors.Regions.{before, with_given}
use Rattle.scasp_search_rules.specs.Successors.Search.{done, costs}
use Rattle.scasp_search_rules.specs.Successors.Splits.{split_at, split_by, owner, numbered_to, is_number_by}
use Rattle.scasp_search_rules.specs.Successors.Steps.{goes}
use Rattle.scasp_search_rules.specs.Successors.Variables.{universals_of, is_empty, depth_of, next_variable, is_universal}
use Rattle.scasp_search_rules.proofs.SuccessorsLemmas.FallLemmas.{close_keeps_work}
use Rattle.scasp_law_first_event.proofs.EachStates.{each_followed, each_map, each_weaker}
use Rattle.scasp_law_first_event.proofs.Moves.{Puts, After, equated-states, shape-puts}

-- How much a task may still bring about beside equations. What it leads to weighs less, but for what is equated or told apart.
abbrev pub load_of : Task → ℕ
load_of (task.Show i) = 4
load_of (task.Equate t u) = 0
load_of (task.Assume c) = 1
load_of (task.Differ ps aim) = 3
load_of (task.Become x t ps aim) = 4
load_of (task.Avoid x q ps aim) = 5
load_of (task.Shape x f ts ps aim) = 4
load_of (task.Cover a k) = 4
load_of (task.Check k checks_head) = 0
load_of (task.Begin k first checks_head) = 0
load_of task.Void = 1
load_of task.Leave = 1
load_of task.Close = 1

abbrev pub load : List Task → ℕ
load [] = 0
load (t ∷ ts) = load_of t + load ts

pub equations-load : (ps : List Pair) (ts : List Task) → load (equations_of ps ++ ts) ≡ load ts
equations-load [] ts = refl
equations-load (p ∷ ps) ts = let e = equations-load ps ts in omega (arith, e)

pub apart-load : (aim : Aim) (ts : List Task) → load (when_apart aim ++ ts) ≤ 1 + load ts
apart-load aims.Test ts = omega arith
apart-load (aims.Head k first) ts = omega arith

-- ---- assuming leaves the work

numbered-same : (d : ℕ) (s : State) (x : ℕ) → (numbered_to d s x).work ≡ s.work
numbered-same d s x = by (is_number_by s d x) (is_universal s x)
  where
    by : (known owned : Bool) → (if known then s else (if owned then split_at s (depth_of s x) (con.Num (Var x)) else with_given s (con.Num (Var x)))).work ≡ s.work
    by true owned = refl
    by false true = refl
    by false false = refl

all-numbered-same : (d : ℕ) (s : State) (xs : List ℕ) → (fold (numbered_to d) s xs).work ≡ s.work
all-numbered-same d s [] = refl
all-numbered-same d s (x ∷ xs) = all-numbered-same d (numbered_to d s x) xs ∙ numbered-same d s x

split-same : (s : State) (d : ℕ) (c : Con) → (split_by s d c).work ≡ s.work
split-same s d (con.Row r) = all-numbered-same d s (map (λ k. k.x) r.coeffs)
split-same s d (con.Eq t u) = refl
split-same s d (con.Neq t u) = refl
split-same s d (con.NotShape x f n) = refl
split-same s d (con.Num t) = refl
split-same s d (con.NotNum t) = refl

performed-same : (s : State) (c : Con) (a : Status) → EachState (λ r. r.work ≡ s.work) (performed s c a)
performed-same s c Entailed = (refl, tt)
performed-same s c Impossible = tt
performed-same s c Added = (refl, tt)
performed-same s c Parts = (split-same s (owner s c) c, tt)

pub assume-same : (sat : List Con → Bool) (s : State) (c : Con) → EachState (λ r. r.work ≡ s.work) (assume sat s c).states
assume-same sat s c = performed-same s (as_read s c) (status sat s c)

pub all-assumed-same : (sat : List Con → Bool) (s r : State) (cs : List Con) → r.work ≡ s.work → EachState (λ t. t.work ≡ s.work) (assume_all sat cs r).states
all-assumed-same sat s r [] h = (h, tt)
all-assumed-same sat s r (c ∷ cs) h =
    each_followed (λ t. t.work ≡ r.work) (λ t. t.work ≡ s.work) (assume_all sat cs) (assume sat r c).states (assume-same sat r c)
    (λ t k. all-assumed-same sat s t cs (k ∙ h))

-- ---- less is left

-- less by n than this
abbrev pub Less : ℕ → State → State → Type 0
Less n s r = load r.work < n + load s.work

less : (n : ℕ) (s r : State) → 0 < n → r.work ≡ s.work → Less n s r
less n s r l e = let k : load r.work ≡ load s.work = ap load e in omega (arith, l, k)

all-less : (n : ℕ) (s : State) (ss : List State) → 0 < n → EachState (λ r. r.work ≡ s.work) ss → EachState (Less n s) ss
all-less n s ss l h = each_weaker (λ r. r.work ≡ s.work) (Less n s) ss (λ r e. less n s r l e) h

test-less : (sat : List Con → Bool) (s : State) (c : Con) → EachState (Less 4 s) (test_item sat s c).states
test-less sat s (con.Eq t u) = (omega arith, tt)
test-less sat s (con.Neq t u) = by (is_empty (universals_of s (con.Neq t u)))
  where
    by : (b : Bool) → EachState (Less 4 s) (if b then assume sat s (con.Neq t u) else goes (before (task.Differ (record { left = t; right = u } ∷ []) aims.Test ∷ []) s)).states
    by true = all-less 4 s (assume sat s (con.Neq t u)).states (omega arith) (assume-same sat s (con.Neq t u))
    by false = (omega arith, tt)
test-less sat s (con.NotShape x f n) = all-less 4 s (assume sat s (con.NotShape x f n)).states (omega arith) (assume-same sat s (con.NotShape x f n))
test-less sat s (con.Num t) = all-less 4 s (assume sat s (con.Num t)).states (omega arith) (assume-same sat s (con.Num t))
test-less sat s (con.NotNum t) = all-less 4 s (assume sat s (con.NotNum t)).states (omega arith) (assume-same sat s (con.NotNum t))
test-less sat s (con.Row r) = by (is_empty (universals_of s (con.Row r)))
  where
    by : (b : Bool) → EachState (Less 4 s) (if b then assume_all sat (number_tests r ++ con.Row r ∷ []) s else assume sat s (con.Row r)).states
    by true = all-less 4 s (assume_all sat (number_tests r ++ con.Row r ∷ []) s).states (omega arith) (all-assumed-same sat s s (number_tests r ++ con.Row r ∷ []) refl)
    by false = all-less 4 s (assume sat s (con.Row r)).states (omega arith) (assume-same sat s (con.Row r))

-- equating leaves equations in front of the work
after-load : (s : State) (x : ℕ) (t : Tm) (r : State) → After s equations_of x t r → load r.work ≡ load s.work
after-load s x (var y) r (inl p) = ap load p.work_is
after-load s x (var y) r (inr p) = ap load p.work_is
after-load s x (num q) r p = ap load p.work_is
after-load s x (app f ts) r p = ap load p.0.work_is ∙ equations-load (pairs (new_parts (next_variable s) (length (items ts))) ts) s.work

become-less : (sat : List Con → Bool) (s : State) (x : ℕ) (t : Tm) (ps : List Pair) (aim : Aim) → EachState (Less 4 s) (same_value sat s x t ps aim).states
become-less sat s x t ps aim =
    each_map (λ r. load r.work ≡ load s.work) (Less 4 s) (before (task.Differ ps aim ∷ [])) (equated sat s (var x) t).states
    (equated-states (λ r. load r.work ≡ load s.work) sat s (var x) t (λ y e r a. after-load s y t r a) (λ y e r a. after-load s y (var x) r a))
    (λ r e. omega (arith, e))

avoid-less : (sat : List Con → Bool) (s : State) (x : ℕ) (q : Number) (ps : List Pair) (aim : Aim) → EachState (Less 5 s) (differ_value sat s x q ps aim).states
avoid-less sat s x q ps aim = by (status sat s (differ (var x) (num q)))
  where
    by : (a : Status) → EachState (Less 5 s) (alternatives s (task.Assume (differ (var x) (num q)) ∷ when_apart aim) (task.Become x (term_with (num q)) ps aim ∷ []) a)
    by Entailed = (omega (arith, apart-load aim s.work), (omega arith, tt))
    by Impossible = (omega arith, tt)
    by Added = (omega (arith, apart-load aim s.work), (omega arith, tt))
    by Parts = (omega (arith, apart-load aim s.work), tt)

shape-less : (sat : List Con → Bool) (s : State) (x f : ℕ) (ts : Tms) (ps : List Pair) (aim : Aim) → EachState (Less 4 s) (same_shape sat s x f ts ps aim).states
shape-less sat s x f ts ps aim =
    each_map (Puts s x (app f (new_parts (next_variable s) (length (items ts)))) (length (items ts)) s.work) (Less 4 s)
    (before (task.Differ (pairs (new_parts (next_variable s) (length (items ts))) ts ++ ps) aim ∷ [])) (becomes_shape sat s x f (length (items ts))).states
    (shape-puts sat s x f (length (items ts))) (λ r p. let e : load r.work ≡ load s.work = ap load p.work_is in omega (arith, e))

pub marked-same : (as_open : List Literal) (s : State) → (marked as_open s).work ≡ s.work
marked-same [] s = refl
marked-same (a ∷ rest) s = refl

moved-same : (a : Literal) (rest : List Literal) (s : State) → (moved a rest s).work ≡ s.work
moved-same a [] s = refl
moved-same a (b ∷ bs) s = by (a.loops && a.lit.positive && b.lit.positive)
  where
    by : (c : Bool) → (if c then marked (b ∷ bs) s else s).work ≡ s.work
    by true = marked-same (b ∷ bs) s
    by false = refl

pub left-same : (open_ones : List Literal) (s : State) → (left open_ones s).work ≡ s.work
left-same [] s = refl
left-same (a ∷ rest) s = moved-same a rest (record s { literals = at_number a.number finished s.literals })

-- equating and telling apart are the others
abbrev pub is_pairing : Task → Bool
is_pairing (task.Equate t u) = true
is_pairing (task.Differ ps aim) = true
is_pairing (task.Show i) = false
is_pairing (task.Assume c) = false
is_pairing (task.Become x t ps aim) = false
is_pairing (task.Avoid x q ps aim) = false
is_pairing (task.Shape x f ts ps aim) = false
is_pairing (task.Cover a k) = false
is_pairing (task.Check k checks_head) = false
is_pairing (task.Begin k first checks_head) = false
is_pairing task.Void = false
is_pairing task.Leave = false
is_pairing task.Close = false

pub free-less : (p : Program) (sat : List Con → Bool) (s : State) (t : Task) → costs s t ≡ false → is_pairing t ≡ false → EachState (Less (load_of t) s) (done p sat s t).states
free-less p sat s (task.Show (flat.Call l)) e o = absurd (cc e)
free-less p sat s (task.Show (flat.Test c)) e o = test-less sat (with_line s (line.Test c)) c
free-less p sat s (task.Equate t u) e o = absurd (cc o)
free-less p sat s (task.Assume c) e o = all-less 1 s (assume sat s c).states (omega arith) (assume-same sat s c)
free-less p sat s (task.Differ ps aim) e o = absurd (cc o)
free-less p sat s (task.Become x t ps aim) e o = become-less sat s x (tm_of t) ps aim
free-less p sat s (task.Avoid x q ps aim) e o = avoid-less sat s x q ps aim
free-less p sat s (task.Shape x f ts ps aim) e o = shape-less sat s x f ts ps aim
free-less p sat s (task.Cover a k) e o = (omega arith, tt)
free-less p sat s (task.Check k head) e o = absurd (cc e)
free-less p sat s (task.Begin k first head) e o = absurd (cc e)
free-less p sat s task.Void e o = (omega arith, tt)
free-less p sat s task.Leave e o = (less 1 s (left (ancestors s) s) (omega arith) (left-same (ancestors s) s), tt)
free-less p sat s task.Close e o = all-less 1 s (done p sat s task.Close).states (omega arith) (close_keeps_work p sat s e)
