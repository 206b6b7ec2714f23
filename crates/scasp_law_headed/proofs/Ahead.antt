-- States on the way to a finished one: their views, what the finished one makes of what is left to do, and what a step has to show.
use Rattle.std.specs.Prelude.{◌≡◌, ⊤, ℕ, zero, suc, ◌+◌, Bool, false, if◌then◌else◌, Some, List, [], ◌∷◌, ◌++◌, map, reverse, slice_get, length}
use Rattle.std.specs.List.{flat_map}
use Rattle.std.proofs.Common.{◌∙◌, refl, ap, sym, subst, append_assoc}
use Rattle.std.proofs.lemmas.Grind.{flat_map-append}
use Rattle.std.proofs.lemmas.List.{append-nil, map-append}
use Rattle.scasp_law_first_event.proofs.Firmness.{ArgsFirm, Firm, Onto}
use Rattle.scasp_law_first_event.proofs.Terms.{all-weaker}
use Rattle.scasp_law_headed_steps.proofs.Tasks.{meets-before}
use Rattle.scasp_law_headed_steps.specs.Calm.{IsLater, holds_of}
use Rattle.scasp_law_no_circle.proofs.Tasks.{Waiting, behind as next_depth}
use Rattle.scasp_law_parts.proofs.TriangularLemmas.{solved-self}
use Rattle.scasp_law_parts.specs.Bound.{Triangular}
use Rattle.scasp_list.proofs.EachLemmas.{Each-append, Each-left, Each-map, Each-right}
use Rattle.scasp_list.specs.Each.{Each}
use Rattle.scasp_search_rules.specs.Successors.Equations.{equations_of}
use Rattle.scasp_search_rules.specs.Successors.Regions.{equation}
use Rattle.scasp_search_rules.specs.Successors.Variables.{meaning}
use Rattle.scasp_search_rules.specs.declared.states.covers.Cover.{Cover}
use Rattle.scasp_search_rules.specs.declared.states.lines.Line.{Line}
use Rattle.scasp_search_rules.specs.declared.states.lines.Line.TheVariants as line
use Rattle.scasp_search_rules.specs.declared.states.state.Literal.{Literal}
use Rattle.scasp_search_rules.specs.declared.states.state.State.{State}
use Rattle.scasp_search_rules.specs.declared.states.tasks.Aim.{Aim}
use Rattle.scasp_search_rules.specs.declared.states.tasks.Aim.TheVariants as aims
use Rattle.scasp_search_rules.specs.declared.states.tasks.Pair.{Pair}
use Rattle.scasp_search_rules.specs.declared.states.tasks.Task.{Task}
use Rattle.scasp_search_rules.specs.declared.states.tasks.Task.TheVariants as task
use Rattle.scasp_syntax.specs.Constraints.{Entails}
use Rattle.scasp_syntax.specs.Instances.{atom_under}
use Rattle.scasp_syntax.specs.Values.{Sub, under}
use Rattle.scasp_syntax.specs.View.{tm_of}
use Rattle.scasp_syntax.specs.declared.con.Con.{Con}
use Rattle.scasp_syntax.specs.declared.program.Program.{Program}
use Rattle.scasp_syntax.specs.declared.term.Term.TheVariants.{App, Num, Var}
use Rattle.scasp_unify.specs.Resolver.{Equal}
use Rattle.scasp_unify.specs.declared.bindings.Binding.{Binding}
use Rattle.scasp_law_headed.proofs.Counting.{cases-append}
use Rattle.scasp_law_headed.proofs.Literals.{literals_read}
use Rattle.scasp_law_headed.proofs.Readings.{PlainItem, PlainLine}
use Rattle.scasp_law_headed.proofs.Views.{Case, Move, Numbered, View, Want, want_check, want_close, want_leave, want_match, want_node, want_rule, want_void}
use Rattle.scasp_law_headed.specs.Reading.{case_lines, cases_of, due_read, is_case_line, line_read, reading}

-- ---- views

-- the lines before the innermost case, the outermost first
abbrev pub lines_before : List Cover → List Line
lines_before [] = []
lines_before (c ∷ cs) = lines_before cs ++ c.before

abbrev pub all_lines : State → List Line
all_lines s = lines_before s.covers ++ s.lines

abbrev pub case_read : Cover → Case
case_read c = record { number = c.case; plain = c.plain }

abbrev pub match_of : List Binding → List Pair → Aim → List Want
match_of bs ps aims.Test = []
match_of bs ps (aims.Head k first) = want_match bs ps k first ∷ []

abbrev pub want_of : Sub → List Binding → Task → List Want
want_of r bs (task.Show i) = want_node (due_read r i) ∷ []
want_of r bs (task.Equate t u) = []
want_of r bs (task.Assume c) = []
want_of r bs (task.Differ ps aim) = match_of bs ps aim
want_of r bs (task.Become x t ps aim) = match_of bs (record { left = Var x; right = t } ∷ ps) aim
want_of r bs (task.Avoid x q ps aim) = match_of bs (record { left = Var x; right = Num q } ∷ ps) aim
want_of r bs (task.Shape x f us ps aim) = match_of bs (record { left = Var x; right = App f us } ∷ ps) aim
want_of r bs (task.Cover a k) = want_rule (atom_under r a) k ∷ []
want_of r bs (task.Check k checks_head) = want_check k checks_head ∷ []
want_of r bs (task.Begin k first checks_head) = want_match bs [] k first ∷ []
want_of r bs task.Void = want_void ∷ []
want_of r bs task.Leave = want_leave ∷ []
want_of r bs task.Close = want_close ∷ []

abbrev pub wants_of : Sub → List Binding → List Task → List Want
wants_of r bs ts = flat_map (want_of r bs) ts

pub wants-append : (r : Sub) (bs : List Binding) (ts us : List Task) → wants_of r bs (ts ++ us) ≡ wants_of r bs ts ++ wants_of r bs us
wants-append r bs ts us = flat_map-append (want_of r bs) ts us

pub wants-equations : (r : Sub) (bs : List Binding) (ps : List Pair) → wants_of r bs (equations_of ps) ≡ []
wants-equations r bs [] = refl
wants-equations r bs (o ∷ ps) = wants-equations r bs ps

-- tasks that wait match no head, whatever is bound
pub wants-waiting : (G : ℕ → ℕ → Type 0) (r : Sub) (bs cs : List Binding) (n : ℕ) (ts : List Task) → Waiting G n ts → wants_of r bs ts ≡ wants_of r cs ts
wants-waiting G r bs cs n [] w = refl
wants-waiting G r bs cs n (task.Show i ∷ ts) w = ap (λ (z : List Want). want_node (due_read r i) ∷ z) (wants-waiting G r bs cs (next_depth (task.Show i) n) ts w.1)
wants-waiting G r bs cs n (task.Equate t u ∷ ts) w = wants-waiting G r bs cs (next_depth (task.Equate t u) n) ts w.1
wants-waiting G r bs cs n (task.Cover a k ∷ ts) w = ap (λ (z : List Want). want_rule (atom_under r a) k ∷ z) (wants-waiting G r bs cs (next_depth (task.Cover a k) n) ts w.1)
wants-waiting G r bs cs n (task.Check k h ∷ ts) w = ap (λ (z : List Want). want_check k h ∷ z) (wants-waiting G r bs cs (next_depth (task.Check k h) n) ts w.1)
wants-waiting G r bs cs n (task.Void ∷ ts) w = ap (λ (z : List Want). want_void ∷ z) (wants-waiting G r bs cs (next_depth task.Void n) ts w.1)
wants-waiting G r bs cs n (task.Leave ∷ ts) w = ap (λ (z : List Want). want_leave ∷ z) (wants-waiting G r bs cs (next_depth task.Leave n) ts w.1)
wants-waiting G r bs cs n (task.Close ∷ ts) w = ap (λ (z : List Want). want_close ∷ z) (wants-waiting G r bs cs (next_depth task.Close n) ts w.1)
wants-waiting G r bs cs n (task.Assume c ∷ ts) w = absurd w.0
wants-waiting G r bs cs n (task.Differ ps aim ∷ ts) w = absurd w.0
wants-waiting G r bs cs n (task.Become x t ps aim ∷ ts) w = absurd w.0
wants-waiting G r bs cs n (task.Avoid x q ps aim ∷ ts) w = absurd w.0
wants-waiting G r bs cs n (task.Shape x f us ps aim ∷ ts) w = absurd w.0
wants-waiting G r bs cs n (task.Begin k first h ∷ ts) w = absurd w.0

-- ---- forward

abbrev pub IsHeadAim : Aim → Type 0
IsHeadAim aims.Test = ⊥
IsHeadAim (aims.Head k first) = ⊤

abbrev pub TaskFine : Task → Type 0
TaskFine (task.Show i) = PlainItem i
TaskFine (task.Equate t u) = ⊤
TaskFine (task.Assume c) = ⊤
TaskFine (task.Differ ps aim) = IsHeadAim aim
TaskFine (task.Become x t ps aim) = IsHeadAim aim
TaskFine (task.Avoid x q ps aim) = IsHeadAim aim
TaskFine (task.Shape x f us ps aim) = IsHeadAim aim
TaskFine (task.Cover a k) = ⊤
TaskFine (task.Check k checks_head) = ⊤
TaskFine (task.Begin k first checks_head) = checks_head ≡ false
TaskFine task.Void = ⊤
TaskFine task.Leave = ⊤
TaskFine task.Close = ⊤

-- the terms of a literal's line are of no head that is being matched
abbrev pub TermsFirm : State → Line → Type 0
TermsFirm s (line.Pos a k ts n) = ArgsFirm s ts
TermsFirm s (line.Neg a n) = ⊤
TermsFirm s (line.Loop l at) = ⊤
TermsFirm s (line.Seen l at) = ⊤
TermsFirm s (line.Test c) = ⊤
TermsFirm s (line.Rule a k first) = ⊤
TermsFirm s (line.Check k first) = ⊤
TermsFirm s (line.Split c parts) = ⊤
TermsFirm s line.Void = ⊤
TermsFirm s (line.Leaf k) = ⊤
TermsFirm s (line.Head n) = ⊤

abbrev pub LineFine : State → Line → Type 0
LineFine s l = PlainLine l × TermsFirm s l

pub fine-onto : (s t : State) → Onto s t → (l : Line) → LineFine s l → LineFine t l
fine-onto s t o (line.Pos a k ts n) h = (h.0, all-weaker (Firm s) (Firm t) o.firm ts h.1)
fine-onto s t o (line.Neg a n) h = h
fine-onto s t o (line.Loop l at) h = h
fine-onto s t o (line.Seen l at) h = h
fine-onto s t o (line.Test c) h = h
fine-onto s t o (line.Rule a k first) h = h
fine-onto s t o (line.Check k first) h = h
fine-onto s t o (line.Split c parts) h = h
fine-onto s t o line.Void h = h
fine-onto s t o (line.Leaf k) h = h
fine-onto s t o (line.Head n) h = h

pub fine-lines : (s t : State) → Onto s t → (ls : List Line) → Each (LineFine s) ls → Each (LineFine t) ls
fine-lines s t o ls h = Each-map (LineFine s) (LineFine t) (fine-onto s t o) ls h

pub fine-covers : (s t : State) → Onto s t → (cs : List Cover) → Each (λ c. Each (LineFine s) c.before) cs → Each (λ c. Each (LineFine t) c.before) cs
fine-covers s t o cs h = Each-map (λ (c : Cover). Each (LineFine s) c.before) (λ c. Each (LineFine t) c.before) (λ c k. fine-lines s t o c.before k) cs h

pub record Fine (s : State) : Type 0 where
  pub tasks : Each TaskFine s.work
  pub lines : Each (LineFine s) s.lines
  pub before : Each (λ c. Each (LineFine s) c.before) s.covers
  pub cases : s.cases ≡ length (case_lines 1 (all_lines s))

-- ---- literals keep their cases

-- each literal stands at its place, with its cases
abbrev pub Grows : List Literal → List Literal → Type 0
Grows xs ys = (n : ℕ) (a : Literal) → slice_get xs n ≡ Some a → (b : Literal) × (slice_get ys n ≡ Some b) × (b.cases ≡ a.cases)

pub grows-same : (xs : List Literal) → Grows xs xs
grows-same xs n a e = (a, e, refl)

pub grows-push : (xs ys : List Literal) → Grows xs (xs ++ ys)
grows-push [] ys n a e = absurd (cc e)
grows-push (x ∷ xs) ys zero a e = (a, e, refl)
grows-push (x ∷ xs) ys (suc n) a e = grows-push xs ys n a e

pub grows-map : (g : Literal → Literal) → ((a : Literal) → (g a).cases ≡ a.cases) → (xs : List Literal) → Grows xs (map g xs)
grows-map g k [] n a e = absurd (cc e)
grows-map g k (x ∷ xs) zero a e = let same : x ≡ a = cc e in (g x, refl, k x ∙ ap (λ (z : Literal). z.cases) same)
grows-map g k (x ∷ xs) (suc n) a e = grows-map g k xs n a e

pub grows-then : (xs ys zs : List Literal) → Grows xs ys → Grows ys zs → Grows xs zs
grows-then xs ys zs h k n a e =
    let q = h n a e in
    let o = k n q.0 q.1 in (o.0, o.1, o.2 ∙ q.2)

-- ---- toward the finished state

module _ (p : Program) (f : State) (v : Sub) where
  abbrev pub view : State → View
  view s = record {
    lines = map (line_read (reading f v)) (all_lines s);
    literals = literals_read (reading f v) (reverse s.literals);
    cases = map case_read s.covers;
    wants = wants_of (reading f v) s.bound s.work;
  }

  -- what the finished state makes of the task
  abbrev pub Ends : Task → Type 0
  Ends (task.Equate t u) = under (meaning f) (tm_of t) ≡ under (meaning f) (tm_of u)
  Ends (task.Assume c) = Entails (holds_of f) c
  Ends (task.Show i) = ⊤
  Ends (task.Differ ps aim) = ⊤
  Ends (task.Become x t ps aim) = ⊤
  Ends (task.Avoid x q ps aim) = ⊤
  Ends (task.Shape x g us ps aim) = ⊤
  Ends (task.Cover a k) = ⊤
  Ends (task.Check k checks_head) = ⊤
  Ends (task.Begin k first checks_head) = ⊤
  Ends task.Void = ⊤
  Ends task.Leave = ⊤
  Ends task.Close = ⊤

  -- each literal has its cases in the finished state
  abbrev pub KeepsCases : List Literal → Type 0
  KeepsCases xs = (n : ℕ) (a : Literal) → slice_get xs n ≡ Some a → cases_of p f v n ≡ a.cases

  pub keeps-back : (xs ys : List Literal) → Grows xs ys → KeepsCases ys → KeepsCases xs
  keeps-back xs ys g h n a e = let q = g n a e in h n q.0 q.1 ∙ q.2

  pub record Ahead (s : State) : Type 0 where
    pub later : IsLater s f
    pub ends : Each Ends s.work
    pub cases : KeepsCases s.literals
    pub firm : (z : ℕ) → Firm s z → Firm f z

  -- what a step shows
  pub record Out (s t : State) : Type 0 where
    pub onto : Onto s t
    pub fine : Fine t
    pub grows : Grows s.literals t.literals
    pub ends : IsLater t f → Each Ends t.work → Each Ends s.work
    pub move : IsLater s f → Numbered (length s.literals) (reverse s.literals) → Ahead t → Move p f v (view s) (view t)

  -- ---- steps that open and close no case, from the task t, where the work of s is the rest

  pub record Step (s : State) (t : Task) (r : State) : Type 0 where
    pub onto : Onto s r
    pub covers : r.covers ≡ s.covers
    pub cases : r.cases ≡ s.cases
    pub grows : Grows s.literals r.literals
    pub tasks : List Task
    pub work : r.work ≡ tasks ++ s.work
    pub tasks_fine : Each TaskFine tasks
    pub more_lines : List Line
    pub lines : r.lines ≡ s.lines ++ more_lines
    pub lines_fine : Each (LineFine r) more_lines
    pub no_case : Each (λ l. is_case_line l ≡ false) more_lines
    pub ends : IsLater r f → Each Ends tasks → Ends t
    pub move : IsLater s f → Numbered (length s.literals) (reverse s.literals) → Ahead r → Each Ends tasks → Move p f v (view (record s { work = t ∷ s.work })) (view r)

  no-cases : (n : ℕ) (ls : List Line) → Each (λ l. is_case_line l ≡ false) ls → case_lines n ls ≡ []
  no-cases n [] h = refl
  no-cases n (l ∷ ls) h = ap (λ (b : Bool). if b then n ∷ case_lines (suc n) ls else case_lines (suc n) ls) h.0 ∙ no-cases (suc n) ls h.1

  pub step-out : (s : State) (t : Task) (rest : List Task) (r : State) → s.work ≡ t ∷ rest → Fine s → Step (record s { work = rest }) t r → Out s r
  step-out s t rest r e h k = record {
    onto = record { more = k.onto.more; kinded = k.onto.kinded; firm = k.onto.firm };
    fine = record {
      tasks = subst (Each TaskFine) (sym k.work) (Each-append TaskFine k.tasks rest k.tasks_fine (subst (Each TaskFine) e h.tasks).1);
      lines = subst (Each (LineFine r)) (sym k.lines) (Each-append (LineFine r) s.lines k.more_lines (fine-lines s r onto s.lines h.lines) k.lines_fine);
      before = subst (Each (λ c. Each (LineFine r) c.before)) (sym k.covers) (fine-covers s r onto s.covers h.before);
      cases = k.cases ∙ h.cases ∙ sym counted;
    };
    grows = k.grows;
    ends = λ l x. subst (Each Ends) (sym e) (k.ends l (Each-left Ends k.tasks rest (subst (Each Ends) k.work x)), Each-right Ends k.tasks rest (subst (Each Ends) k.work x));
    move = λ l n a. subst (λ (ws : List Task). Move p f v (view (record s { work = ws })) (view r)) (sym e) (k.move (record { more_bound = l.more_bound; bound = l.bound; more_given = l.more_given; given = l.given; reads = l.reads }) n a (Each-left Ends k.tasks rest (subst (Each Ends) k.work a.ends)));
  }
    where
      onto : Onto s r
      onto = record { more = k.onto.more; kinded = k.onto.kinded; firm = k.onto.firm }

      counted : length (case_lines 1 (all_lines r)) ≡ length (case_lines 1 (all_lines s))
      counted =
          ap (λ (z : List Line). length (case_lines 1 z)) (ap (λ (cs : List Cover). lines_before cs ++ r.lines) k.covers ∙ ap (λ (ls : List Line). lines_before s.covers ++ ls) k.lines ∙ sym (append_assoc (lines_before s.covers) s.lines k.more_lines))
          ∙ ap length (cases-append 1 (all_lines s) k.more_lines)
          ∙ ap (λ (z : List ℕ). length (case_lines 1 (all_lines s) ++ z)) (no-cases (1 + length (all_lines s)) k.more_lines k.no_case)
          ∙ ap length (append-nil (case_lines 1 (all_lines s)))

  -- the same but for what is left to do
  pub view-same : (s r : State) (ws : List Want) → r.covers ≡ s.covers → r.literals ≡ s.literals → r.lines ≡ s.lines → wants_of (reading f v) r.bound r.work ≡ ws → view r ≡ record (view s) { wants = ws }
  view-same s r ws c l x w = λ i. record {
    lines = map (line_read (reading f v)) (lines_before (c i) ++ x i);
    literals = literals_read (reading f v) (reverse (l i));
    cases = map case_read (c i);
    wants = w i;
  }

  -- with more lines
  pub view-lines : (s : State) (l : Line) → map (line_read (reading f v)) (lines_before s.covers ++ (s.lines ++ l ∷ [])) ≡ map (line_read (reading f v)) (all_lines s) ++ line_read (reading f v) l ∷ []
  view-lines s l = ap (map (line_read (reading f v))) (sym (append_assoc (lines_before s.covers) s.lines (l ∷ []))) ∙ map-append (line_read (reading f v)) (all_lines s) (l ∷ [])

  -- what holds at an earlier state holds at the finished one
  pub entails-later : (s : State) (c : Con) → IsLater s f → Entails (holds_of s) c → Entails (holds_of f) c
  entails-later s c l h w m = h w (meets-before s f l.more_bound l.more_given l.bound l.given w.of m)

  -- the finished bindings make those of an earlier state equal
  pub bound-equal : Triangular f.bound → (s : State) → IsLater s f → Each (Equal (meaning f)) (map equation s.bound)
  bound-equal tri s l =
      Each-left (Equal (meaning f)) (map equation s.bound) (map equation l.more_bound)
      (subst (Each (Equal (meaning f))) (ap (map equation) l.bound ∙ map-append equation s.bound l.more_bound) (solved-self f.bound tri))
