-- What of a state its answer is made of, as its terms read in the certificate, and how a step changes it.
use Rattle.std.specs.Prelude.{◌≡◌, ◌⊎◌, ℕ, suc, ◌+◌, ◌<◌, ◌≤◌, Bool, true, false, ◌&&◌, not, if◌then◌else◌, Option, Some, List, [], ◌∷◌, ◌++◌, map, filter, length, drop, Contains}
use Rattle.std.specs.List.{list_all, list_any}
use Rattle.scasp_lines.specs.Dues.{Due, goal, fact}
use Rattle.scasp_list.specs.Each.{Each}
use Rattle.scasp_search_rules.specs.Successors.Calls.{finished, is_firm, looping, vars_of_clause}
use Rattle.scasp_search_rules.specs.Successors.Cases.{failing_at, head_call}
use Rattle.scasp_search_rules.specs.Successors.Items.{body_of}
use Rattle.scasp_search_rules.specs.Successors.Reading.{among}
use Rattle.scasp_search_rules.specs.Successors.Splits.{is_bound_in}
use Rattle.scasp_search_rules.specs.Successors.Variables.{meaning}
use Rattle.scasp_search_rules.specs.declared.states.lines.Line.{Line}
use Rattle.scasp_search_rules.specs.declared.states.lines.Line.TheVariants as line
use Rattle.scasp_search_rules.specs.declared.states.state.Literal.{Literal}
use Rattle.scasp_search_rules.specs.declared.states.state.State.{State}
use Rattle.scasp_search_rules.specs.declared.states.tasks.Pair.{Pair}
use Rattle.scasp_syntax.specs.Constraints.{Meets}
use Rattle.scasp_syntax.specs.Instances.{atom_under}
use Rattle.scasp_syntax.specs.Programs.{is_rule_of, numbered, pred_of, rules_of}
use Rattle.scasp_syntax.specs.Values.{Sub, Valuation, all_under}
use Rattle.scasp_syntax.specs.declared.atom.Atom.{Atom}
use Rattle.scasp_syntax.specs.declared.atom.Lit.{Lit}
use Rattle.scasp_syntax.specs.declared.clause.Clause.{Clause}
use Rattle.scasp_syntax.specs.declared.clause.FlatItem.TheVariants as flat
use Rattle.scasp_syntax.specs.declared.con.Con.{Con}
use Rattle.scasp_syntax.specs.declared.program.Program.{Program}
use Rattle.scasp_unify.specs.Negations.{new_parts}
use Rattle.scasp_unify.specs.declared.bindings.Binding.{Binding}
use Rattle.scasp_law_headed_steps.proofs.Joining.{PairEqual}
use Rattle.scasp_law_headed_steps.specs.Calm.{holds_of}
use Rattle.scasp_law_headed.specs.Reading.{Misses, Reads, body_dues, case_lines, cases_of, dues_read, is_plain_rule, reading}

-- ---- what is wanted

-- What is left to do: a node that is due, a rule that is to fail, a head that is matched, a void case that is to be told, a check, and the
-- ends of a literal and of a case. A head is matched where these bindings hold, and these pairs are left of it.
pub data Want : Type 0 where
  want_node : Due → Want
  want_rule : Atom → ℕ → Want
  want_match : List Binding → List Pair → ℕ → ℕ → Want
  want_void : Want
  want_check : ℕ → Bool → Want
  want_leave : Want
  want_close : Want

-- an open case: its number, and whether it is plain
pub record Case : Type 0 where
  pub number : ℕ
  pub plain : Bool

-- All lines so far, the literals, the last first, the cases that are open, the innermost first, and what is left to do.
pub record View : Type 0 where
  pub lines : List Line
  pub literals : List Literal
  pub cases : List Case
  pub wants : List Want

-- ---- literals

abbrev pub is_open : Literal → Bool
is_open a = not a.is_done

-- the literals that are open, the innermost first
abbrev pub opens : List Literal → List Literal
opens ls = filter is_open ls

-- the innermost open literal changed
abbrev pub first_with : (Literal → Literal) → List Literal → List Literal
first_with f [] = []
first_with f (a ∷ lits) = if a.is_done then a ∷ first_with f lits else f a ∷ lits

-- numbered down from below n, without a gap
abbrev pub Numbered : ℕ → List Literal → Type 0
Numbered n [] = n ≡ 0
Numbered n (a ∷ lits) = (n ≡ suc a.number) × Numbered a.number lits

abbrev pub is_negative : Literal → Bool
is_negative a = not a.lit.positive

-- the mark of the literal moves on to the one around it
abbrev pub moves_mark : Literal → List Literal → Bool
moves_mark a [] = false
moves_mark a (b ∷ bs) = a.loops && a.lit.positive && b.lit.positive

-- the literals where the innermost of those that are open ends
abbrev pub left_by : List Literal → List Literal → List Literal
left_by [] lits = lits
left_by (a ∷ rest) lits = if moves_mark a rest then first_with looping (first_with finished lits) else first_with finished lits

-- ---- cases

-- the numbers of the cases that are not plain
abbrev pub apart_cases : List Case → List ℕ
apart_cases cs = map (λ c. c.number) (filter (λ c. not c.plain) cs)

abbrev pub case_numbers : List Case → List ℕ
case_numbers cs = map (λ c. c.number) cs

-- ---- steps

abbrev pub wanted : List Due → List Want
wanted ds = map want_node ds

-- one more line
abbrev pub adds : View → Line → List Literal → List Case → List Want → View
adds v l lits cases wants = record { lines = v.lines ++ l ∷ []; literals = lits; cases = cases; wants = wants }

-- By the program p and the finished state f, whose variables stand in the certificate at the places v.
module _ (p : Program) (f : State) (v : Sub) where
  abbrev r : Sub
  r = reading f v

  abbrev pub Same : List Pair → Type 0
  Same ps = Each (PairEqual (meaning f)) ps

  -- the variable is none of so many from the first on
  abbrev pub Outside : ℕ → ℕ → ℕ → Type 0
  Outside first n x = (x < first) ⊎ (first + n ≤ x)

  -- No values that meet what holds, but for variables of the head that these bindings do not bind, make the pairs equal.
  abbrev pub Miss : List Binding → ℕ → ℕ → List Pair → Type 0
  Miss bs k first ps =
      (w : Valuation) → Meets w.of (holds_of f) → (u : Sub) → ((x : ℕ) → Outside first (vars_of_clause p k) x ⊎ (is_bound_in bs x ≡ true) → u x ≡ w.of x)
      → Each (PairEqual u) ps → ⊥

  -- the literal repeats one that is open
  pub record Repeats (a b : View) : Type 0 where
    pub lit : Lit
    pub behind : List Want
    pub wants : a.wants ≡ want_node (goal lit) ∷ behind
    pub inner : List Literal
    pub one : Literal
    pub outer : List Literal
    pub among : opens a.literals ≡ inner ++ one ∷ outer
    pub same : one.lit ≡ lit
    pub crosses : lit.positive ≡ true → list_any is_negative inner ≡ true
    pub next : b ≡ adds a (line.Loop lit one.number) (if lit.positive then first_with looping a.literals else a.literals) a.cases behind

  -- the literal repeats one that is done, and each case around that one, which is not plain, is open
  pub record Sees (a b : View) : Type 0 where
    pub lit : Lit
    pub behind : List Want
    pub wants : a.wants ≡ want_node (goal lit) ∷ behind
    pub one : Literal
    pub told : Contains a.literals one
    pub done : one.is_done ≡ true
    pub firm : is_firm one ≡ true
    pub same : one.lit ≡ lit
    pub scope : list_all (λ k. among k (case_numbers a.cases)) (cases_of p f v one.number) ≡ true
    pub next : b ≡ adds a (line.Seen lit one.number) a.literals a.cases behind

  -- it is a new open literal
  pub record IsNew (a : View) (lit : Lit) (one : Literal) : Type 0 where
    pub number : one.number ≡ length a.literals
    pub of : one.lit ≡ lit
    pub open_yet : one.is_done ≡ false
    pub cases : cases_of p f v one.number ≡ apart_cases a.cases

  -- the literal holds by a rule, whose variables are those from the first on
  pub record GoesIn (a b : View) : Type 0 where
    pub lit : Lit
    pub behind : List Want
    pub wants : a.wants ≡ want_node (goal lit) ∷ behind
    pub positive : lit.positive ≡ true
    pub rule : ℕ
    pub clause : Clause
    pub named : numbered p.clauses rule ≡ Some clause
    pub is_rule : is_rule_of (pred_of lit.atom) clause ≡ true
    pub first : ℕ
    pub head : Reads p f v rule first lit.atom
    pub one : Literal
    pub new : IsNew a lit one
    pub next : b ≡ adds a (line.Pos lit.atom rule (all_under r (new_parts first (vars_of_clause p rule))) (length (body_of p rule first))) (one ∷ a.literals) a.cases
        (wanted (body_dues p f v rule first) ++ want_leave ∷ behind)

  -- no rule is to give the literal's atom
  pub record Negates (a b : View) : Type 0 where
    pub lit : Lit
    pub behind : List Want
    pub wants : a.wants ≡ want_node (goal lit) ∷ behind
    pub negative : lit.positive ≡ false
    pub one : Literal
    pub new : IsNew a lit one
    pub next : b ≡ adds a (line.Neg lit.atom (length (rules_of p (pred_of lit.atom)))) (one ∷ a.literals) a.cases
        (map (want_rule lit.atom) (rules_of p (pred_of lit.atom)) ++ want_leave ∷ behind)

  -- a test is told
  pub record TellsTest (a b : View) : Type 0 where
    pub due : Option Con
    pub test : Con
    pub due_is : due ≡ Some test
    pub behind : List Want
    pub wants : a.wants ≡ want_node (fact due) ∷ behind
    pub next : b ≡ adds a (line.Test test) a.literals a.cases behind

  -- a rule is covered, and its head is matched
  pub record TakesRule (a b : View) : Type 0 where
    pub atom : Atom
    pub rule : ℕ
    pub first : ℕ
    pub bound : List Binding
    pub pairs : List Pair
    pub behind : List Want
    pub wants : a.wants ≡ want_rule atom rule ∷ behind
    pub same : Same pairs → Reads p f v rule first atom
    pub missed : Miss bound rule first pairs → Misses p f v rule atom
    pub next : b ≡ adds a (line.Rule atom rule first) a.literals a.cases (want_match bound pairs rule first ∷ behind)

  -- other pairs are left of the head
  pub record Rematches (a b : View) : Type 0 where
    pub rule : ℕ
    pub first : ℕ
    pub bound : List Binding
    pub pairs : List Pair
    pub more_bound : List Binding
    pub other : List Pair
    pub behind : List Want
    pub wants : a.wants ≡ want_match bound pairs rule first ∷ behind
    pub same : Same other → Same pairs
    pub missed : Miss more_bound rule first other → Miss bound rule first pairs
    pub next : b ≡ record a { wants = want_match more_bound other rule first ∷ behind }

  -- the head is missed
  pub record GivesUp (a b : View) : Type 0 where
    pub rule : ℕ
    pub first : ℕ
    pub bound : List Binding
    pub pairs : List Pair
    pub behind : List Want
    pub wants : a.wants ≡ want_match bound pairs rule first ∷ behind
    pub missed : Miss bound rule first pairs
    pub next : b ≡ record a { wants = want_void ∷ behind }

  pub record TellsVoid (a b : View) : Type 0 where
    pub behind : List Want
    pub wants : a.wants ≡ want_void ∷ behind
    pub next : b ≡ adds a line.Void a.literals a.cases behind

  -- This is the line of a case of the clause, and these are its dues: the items before one and that one false; or in a check all items and the
  -- head.
  abbrev pub IsCaseOf : Bool → ℕ → ℕ → Line → List Due → Type 0
  IsCaseOf checks k first (line.Leaf n) ds =
      (j : ℕ) × (n ≡ suc j) × (j < length (body_of p k first)) × (ds ≡ dues_read r (failing_at j (body_of p k first)))
  IsCaseOf checks k first (line.Head n) ds =
      (h : Atom) × (checks ≡ true) × (head_call (numbered p.clauses k) first ≡ flat.Call (record { positive = true; atom = h }) ∷ [])
      × (n ≡ suc (length (body_of p k first))) × (ds ≡ body_dues p f v k first ++ goal (record { positive = true; atom = atom_under r h }) ∷ [])
  IsCaseOf checks k first l ds = ⊥

  -- a new open case of the clause
  pub record IsNewCase (ls : List Line) (k : ℕ) (one : Case) : Type 0 where
    pub number : one.number ≡ length (case_lines 1 ls)
    pub plain : one.plain ≡ is_plain_rule p f v k

  -- the case of a rule begins
  pub record Begins (a b : View) : Type 0 where
    pub rule : ℕ
    pub first : ℕ
    pub bound : List Binding
    pub pairs : List Pair
    pub behind : List Want
    pub wants : a.wants ≡ want_match bound pairs rule first ∷ behind
    pub same : Same pairs
    pub case : Line
    pub dues : List Due
    pub is_case : IsCaseOf false rule first case dues
    pub one : Case
    pub new : IsNewCase a.lines rule one
    pub next : b ≡ adds a case a.literals (one ∷ a.cases) (wanted dues ++ want_close ∷ behind)

  -- a clause is checked, and its case begins
  pub record Checks (a b : View) : Type 0 where
    pub rule : ℕ
    pub checks_head : Bool
    pub first : ℕ
    pub behind : List Want
    pub wants : a.wants ≡ want_check rule checks_head ∷ behind
    pub case : Line
    pub dues : List Due
    pub is_case : IsCaseOf true rule first case dues
    pub one : Case
    pub new : IsNewCase a.lines rule one
    pub next : b ≡ adds (adds a (line.Check rule first) a.literals a.cases behind) case a.literals (one ∷ a.cases) (wanted dues ++ want_close ∷ behind)

  -- the innermost literal ends
  pub record Leaves (a b : View) : Type 0 where
    pub behind : List Want
    pub wants : a.wants ≡ want_leave ∷ behind
    pub next : b ≡ record { lines = a.lines; literals = left_by (opens a.literals) a.literals; cases = a.cases; wants = behind }

  -- the innermost case ends
  pub record Closes (a b : View) : Type 0 where
    pub behind : List Want
    pub wants : a.wants ≡ want_close ∷ behind
    pub next : b ≡ record { lines = a.lines; literals = a.literals; cases = drop 1 a.cases; wants = behind }

  pub data Move (a b : View) : Type 0 where
    rests : a ≡ b → Move a b
    repeats : Repeats a b → Move a b
    sees : Sees a b → Move a b
    goes_in : GoesIn a b → Move a b
    negates : Negates a b → Move a b
    tells_test : TellsTest a b → Move a b
    takes_rule : TakesRule a b → Move a b
    rematches : Rematches a b → Move a b
    gives_up : GivesUp a b → Move a b
    tells_void : TellsVoid a b → Move a b
    begins : Begins a b → Move a b
    checks_clause : Checks a b → Move a b
    leaves : Leaves a b → Move a b
    closes : Closes a b → Move a b

  -- From the start moves have led here.
  pub data Trail (start : View) : View → Type 0 where
    stays : Trail start start
    follows : (a b : View) → Trail start a → Move a b → Trail start b
