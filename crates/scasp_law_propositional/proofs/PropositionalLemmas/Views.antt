-- What of a state its answer is made of, and how a step over literals without arguments changes it.
use Rattle.std.specs.Prelude.{◌≡◌, ℕ, suc, ◌<◌, Bool, true, false, ◌&&◌, not, if◌then◌else◌, Some, List, [], ◌∷◌, ◌++◌, map, filter, reverse, length, Contains}
use Rattle.std.specs.List.{list_any}
use Rattle.scasp_search_rules.specs.declared.states.covers.Cover.{Cover}
use Rattle.scasp_search_rules.specs.declared.states.lines.Line.{Line}
use Rattle.scasp_search_rules.specs.declared.states.lines.Line.TheVariants as line
use Rattle.scasp_search_rules.specs.declared.states.state.Literal.{Literal}
use Rattle.scasp_search_rules.specs.declared.states.state.State.{State}
use Rattle.scasp_search_rules.specs.declared.states.tasks.Aim.TheVariants as aims
use Rattle.scasp_search_rules.specs.declared.states.tasks.Task.{Task}
use Rattle.scasp_search_rules.specs.declared.states.tasks.Task.TheVariants as task
use Rattle.scasp_syntax.specs.Flat.{flat_body}
use Rattle.scasp_syntax.specs.Programs.{numbered, rules_from, pred_of}
use Rattle.scasp_syntax.specs.Tm.{nil}
use Rattle.scasp_syntax.specs.declared.atom.Atom.{Atom}
use Rattle.scasp_syntax.specs.declared.atom.Lit.{Lit}
use Rattle.scasp_syntax.specs.declared.clause.Clause.{Clause}
use Rattle.scasp_syntax.specs.declared.clause.FlatItem.{FlatItem}
use Rattle.scasp_syntax.specs.declared.clause.FlatItem.TheVariants as flat
use Rattle.scasp_search_rules.specs.Successors.Calls.{is_firm, looping, finished}
use Rattle.scasp_search_rules.specs.Successors.Cases.{failing_at}

-- All lines so far, the literals, the last first, and what is left to do.
pub record View : Type 0 where
  pub lines : List Line
  pub literals : List Literal
  pub work : List Task

-- the lines before the innermost case, the outermost first
abbrev pub lines_before : List Cover → List Line
lines_before [] = []
lines_before (c ∷ cs) = lines_before cs ++ c.before

abbrev pub view : State → View
view s = record { lines = lines_before s.covers ++ s.lines; literals = reverse s.literals; work = s.work }

-- ---- literals

abbrev pub is_open : Literal → Bool
is_open a = not a.is_done

-- the literals that are open, the innermost first
abbrev pub opens : List Literal → List Literal
opens ls = filter is_open ls

-- the innermost open literal changed
abbrev pub first_with : (Literal → Literal) → List Literal → List Literal
first_with f [] = []
first_with f (a ∷ lits) = if a.is_done then a ∷ first_with f lits else f a ∷ lits

-- numbered down from below n, without a gap
abbrev pub Numbered : ℕ → List Literal → Type 0
Numbered n [] = n ≡ 0
Numbered n (a ∷ lits) = (n ≡ suc a.number) × Numbered a.number lits

abbrev pub is_negative : Literal → Bool
is_negative a = not a.lit.positive

-- the mark of the literal moves on to the one around it
abbrev pub moves_mark : Literal → List Literal → Bool
moves_mark a [] = false
moves_mark a (b ∷ bs) = a.loops && a.lit.positive && b.lit.positive

-- the literals where the innermost of those that are open ends
abbrev pub left_by : List Literal → List Literal → List Literal
left_by [] lits = lits
left_by (a ∷ rest) lits = if moves_mark a rest then first_with looping (first_with finished lits) else first_with finished lits

-- ---- steps

abbrev pub shows : List FlatItem → List Task
shows is = map task.Show is

-- one more line
abbrev pub adds : View → Line → List Literal → List Task → View
adds v l lits work = record { lines = v.lines ++ l ∷ []; literals = lits; work = work }

-- the literal repeats one that is open
pub record Repeats (v w : View) : Type 0 where
  pub lit : Lit
  pub behind : List Task
  pub work : v.work ≡ task.Show (flat.Call lit) ∷ behind
  pub no_argument : lit.atom.args ≡ nil
  pub inner : List Literal
  pub one : Literal
  pub outer : List Literal
  pub among : opens v.literals ≡ inner ++ one ∷ outer
  pub same : one.lit ≡ lit
  pub crosses : lit.positive ≡ true → list_any is_negative inner ≡ true
  pub next : w ≡ adds v (line.Loop lit one.number) (if lit.positive then first_with looping v.literals else v.literals) behind

-- the literal repeats one that is done
pub record Sees (v w : View) : Type 0 where
  pub lit : Lit
  pub behind : List Task
  pub work : v.work ≡ task.Show (flat.Call lit) ∷ behind
  pub no_argument : lit.atom.args ≡ nil
  pub one : Literal
  pub among : Contains v.literals one
  pub done : one.is_done ≡ true
  pub firm : is_firm one ≡ true
  pub same : one.lit ≡ lit
  pub next : w ≡ adds v (line.Seen lit one.number) v.literals behind

-- it is a new open literal
pub record IsNew (v : View) (lit : Lit) (one : Literal) : Type 0 where
  pub number : one.number ≡ length v.literals
  pub of : one.lit ≡ lit
  pub open_yet : one.is_done ≡ false

-- the literal holds by a rule
pub record GoesIn (cs : List Clause) (v w : View) : Type 0 where
  pub lit : Lit
  pub behind : List Task
  pub work : v.work ≡ task.Show (flat.Call lit) ∷ behind
  pub no_argument : lit.atom.args ≡ nil
  pub positive : lit.positive ≡ true
  pub rule : ℕ
  pub clause : Clause
  pub named : numbered cs rule ≡ Some clause
  pub head : clause.head ≡ Some lit.atom
  pub one : Literal
  pub new : IsNew v lit one
  pub next : w ≡ adds v (line.Pos lit.atom rule nil (length (flat_body clause.body))) (one ∷ v.literals) (shows (flat_body clause.body) ++ task.Leave ∷ behind)

-- no rule is to give the literal's atom
pub record Negates (cs : List Clause) (v w : View) : Type 0 where
  pub lit : Lit
  pub behind : List Task
  pub work : v.work ≡ task.Show (flat.Call lit) ∷ behind
  pub no_argument : lit.atom.args ≡ nil
  pub negative : lit.positive ≡ false
  pub one : Literal
  pub new : IsNew v lit one
  pub next : w ≡ adds v (line.Neg lit.atom (length (rules_from 1 cs (pred_of lit.atom)))) (one ∷ v.literals)
      (map (task.Cover lit.atom) (rules_from 1 cs (pred_of lit.atom)) ++ task.Leave ∷ behind)

-- a rule is covered, and its head matches
pub record TakesRule (v w : View) : Type 0 where
  pub atom : Atom
  pub rule : ℕ
  pub first : ℕ
  pub behind : List Task
  pub work : v.work ≡ task.Cover atom rule ∷ behind
  pub next : w ≡ adds v (line.Rule atom rule first) v.literals (task.Differ [] (aims.Head rule first) ∷ behind)

pub record Matches (v w : View) : Type 0 where
  pub rule : ℕ
  pub first : ℕ
  pub behind : List Task
  pub work : v.work ≡ task.Differ [] (aims.Head rule first) ∷ behind
  pub next : w ≡ record v { work = task.Begin rule first false ∷ behind }

-- This is the line of a case of the clause, and these are its items: the items before one and that one false; or in a check
-- all items and the head.
abbrev pub IsCaseOf : Bool → Clause → Line → List FlatItem → Type 0
IsCaseOf checks c (line.Leaf n) is =
    (k : ℕ) × (n ≡ suc k) × (k < length (flat_body c.body)) × (is ≡ failing_at k (flat_body c.body))
IsCaseOf checks c (line.Head n) is =
    (h : Atom) × (checks ≡ true) × (c.head ≡ Some h) × (n ≡ suc (length (flat_body c.body)))
    × (is ≡ flat_body c.body ++ flat.Call (record { positive = true; atom = h }) ∷ [])
IsCaseOf checks c l is = ⊥

-- the case of a rule begins
pub record Begins (cs : List Clause) (v w : View) : Type 0 where
  pub rule : ℕ
  pub first : ℕ
  pub behind : List Task
  pub work : v.work ≡ task.Begin rule first false ∷ behind
  pub clause : Clause
  pub named : numbered cs rule ≡ Some clause
  pub case : Line
  pub items : List FlatItem
  pub is_case : IsCaseOf false clause case items
  pub next : w ≡ adds v case v.literals (shows items ++ task.Close ∷ behind)

-- a clause is checked, and its case begins
pub record Checks (cs : List Clause) (v w : View) : Type 0 where
  pub rule : ℕ
  pub checks_head : Bool
  pub first : ℕ
  pub behind : List Task
  pub work : v.work ≡ task.Check rule checks_head ∷ behind
  pub clause : Clause
  pub named : numbered cs rule ≡ Some clause
  pub case : Line
  pub items : List FlatItem
  pub is_case : IsCaseOf true clause case items
  pub next : w ≡ adds (adds v (line.Check rule first) v.literals behind) case v.literals (shows items ++ task.Close ∷ behind)

-- the innermost literal ends
pub record Leaves (v w : View) : Type 0 where
  pub behind : List Task
  pub work : v.work ≡ task.Leave ∷ behind
  pub next : w ≡ record { lines = v.lines; literals = left_by (opens v.literals) v.literals; work = behind }

-- the innermost case ends
pub record Closes (v w : View) : Type 0 where
  pub behind : List Task
  pub work : v.work ≡ task.Close ∷ behind
  pub next : w ≡ record v { work = behind }

pub data Move (cs : List Clause) (v w : View) : Type 0 where
  repeats : Repeats v w → Move cs v w
  sees : Sees v w → Move cs v w
  goes_in : GoesIn cs v w → Move cs v w
  negates : Negates cs v w → Move cs v w
  takes_rule : TakesRule v w → Move cs v w
  matches : Matches v w → Move cs v w
  begins : Begins cs v w → Move cs v w
  checks_clause : Checks cs v w → Move cs v w
  leaves : Leaves v w → Move cs v w
  closes : Closes v w → Move cs v w

-- From the start moves have led here.
pub data Trail (cs : List Clause) (start : View) : View → Type 0 where
  stays : Trail cs start start
  follows : (v w : View) → Trail cs start v → Move cs v w → Trail cs start w
