-- Calls of literals and their ends, as moves.
use Rattle.std.specs.Prelude.{◌≡◌, ⊤, ℕ, zero, suc, ◌+◌, nat_eq, Bool, true, false, ◌&&◌, not, if◌then◌else◌, Option, None, Some, List, [], ◌∷◌, ◌++◌, map, reverse, slice_get, drop, length, Contains}
use Rattle.std.specs.List.{filter, list_all}
use Rattle.std.proofs.Common.{◌∙◌, ap, append_assoc, arith, inl, inr, refl, subst, sym}
use Rattle.std.proofs.lemmas.Bool.{and_parts}
use Rattle.std.proofs.lemmas.List.{append-nil, reverse-append}
use Rattle.scasp_checker_rules.proofs.NodeLemmas.{all_under-length}
use Rattle.scasp_hint.specs.Satisfying.{sat}
use Rattle.scasp_law_first_event.proofs.Bindings.{Solved}
use Rattle.scasp_law_first_event.proofs.EachStates.{each_followed}
use Rattle.scasp_law_first_event.proofs.Firming.{Makes, new-makes, new-onto}
use Rattle.scasp_law_first_event.proofs.Firmness.{ArgsFirm, BindingFirm, Firm, LiteralFirm, Onto, TermFirm, as-many, kinded-firm}
use Rattle.scasp_law_first_event.proofs.Moves.{new-length}
use Rattle.scasp_law_first_event.proofs.Raising.{Each-mapped}
use Rattle.scasp_law_first_event.proofs.Firming.{parts-each}
use Rattle.scasp_law_headed_steps.proofs.Assuming.{Kept, assume-each}
use Rattle.scasp_law_headed_steps.proofs.Forms.{ConAll}
use Rattle.scasp_law_headed_steps.proofs.Heads.{Covers, headed-covers}
use Rattle.scasp_law_headed_steps.proofs.Joining.{PairEqual, args-equal}
use Rattle.scasp_law_headed_steps.specs.Calm.{IsLater}
use Rattle.scasp_law_headed_steps.specs.Headed.{is_headed}
use Rattle.scasp_law_no_circle.proofs.Tasks.{NoRow}
use Rattle.scasp_list.proofs.EachLemmas.{Each-append, Each-filter, Each-left, Each-map}
use Rattle.scasp_list.proofs.MemberLemmas.{Contains-cases, Contains-from_filter, Contains-here, Contains-none, Contains-there}
use Rattle.scasp_list.specs.Each.{Each}
use Rattle.scasp_search_rules.specs.Successors.Assumptions.{assume_all}
use Rattle.scasp_search_rules.specs.Successors.Calls.{at_number, by_no_rule, by_rule, call, can_be_seen, differing, entered, finished, head_args, is_firm, is_free, is_in_scope, is_opposite, is_same, judged, leave_literal, left, lit_under, looped, looping, marked, nearest, open_cases, opposites, unrepeated, vars_of_clause}
use Rattle.scasp_search_rules.specs.Successors.Equations.{equations_of}
use Rattle.scasp_search_rules.specs.Successors.Falls.{EachState}
use Rattle.scasp_search_rules.specs.Successors.Items.{body_of, with_line}
use Rattle.scasp_search_rules.specs.Successors.Numbering.{lit_renamed}
use Rattle.scasp_search_rules.specs.Successors.Pairs.{pairs}
use Rattle.scasp_search_rules.specs.Successors.Reading.{among}
use Rattle.scasp_search_rules.specs.Successors.Steps.{gives}
use Rattle.scasp_search_rules.specs.Successors.Variables.{meaning, with_new}
use Rattle.scasp_search_rules.specs.declared.states.covers.Cover.{Cover}
use Rattle.scasp_search_rules.specs.declared.states.lines.Line.{Line}
use Rattle.scasp_search_rules.specs.declared.states.lines.Line.TheVariants as line
use Rattle.scasp_search_rules.specs.declared.states.outcomes.Repeated.{Repeated}
use Rattle.scasp_search_rules.specs.declared.states.state.Kind.TheVariants.{Existential}
use Rattle.scasp_search_rules.specs.declared.states.state.Literal.{Literal}
use Rattle.scasp_search_rules.specs.declared.states.state.State.{State}
use Rattle.scasp_search_rules.specs.declared.states.tasks.Pair.{Pair}
use Rattle.scasp_search_rules.specs.declared.states.tasks.Task.TheVariants as task
use Rattle.scasp_syntax.proofs.SameLemmas.{lit_decided}
use Rattle.scasp_syntax.proofs.ValueLemmas.{under-under}
use Rattle.scasp_syntax.specs.Instances.{atom_under}
use Rattle.scasp_syntax.specs.Programs.{is_rule_of, numbered, pred_of, rules_from, rules_of}
use Rattle.scasp_syntax.specs.Same.{same_lit}
use Rattle.scasp_syntax.specs.Tm.{Tm, Tms, app, cons, items, nil, num, var}
use Rattle.scasp_syntax.specs.Values.{Sub, all_under}
use Rattle.scasp_syntax.specs.declared.atom.Atom.{Atom}
use Rattle.scasp_syntax.specs.declared.atom.Lit.{Lit}
use Rattle.scasp_syntax.specs.declared.atom.Pred.{Pred}
use Rattle.scasp_syntax.specs.declared.clause.Clause.{Clause}
use Rattle.scasp_syntax.specs.declared.clause.FlatItem.{FlatItem}
use Rattle.scasp_syntax.specs.declared.clause.FlatItem.TheVariants as flat
use Rattle.scasp_syntax.specs.declared.con.Con.{Con}
use Rattle.scasp_syntax.specs.declared.program.Program.{Program}
use Rattle.scasp_unify.proofs.SimpleLemmas.{viewed}
use Rattle.scasp_unify.specs.Negations.{new_parts}
use Rattle.scasp_unify.specs.SimpleForm.{list_term}
use Rattle.scasp_law_headed.proofs.Ahead.{Ahead, Ends, Grows, KeepsCases, Step, TaskFine, all_lines, case_read, grows-push, grows-same, grows-then, view, view-lines, wants-append, wants-equations, wants_of}
use Rattle.scasp_law_headed.proofs.Literals.{IsNearest, at_first, contains-reverse, first-read, first-reversed, left-read, length-reversed, literal_read, literals_read, long-read, looping-read, marked-is, nearest-is, number-first, number-reverse, opens-read, reverse-one}
use Rattle.scasp_law_headed.proofs.Backing.{opens-finished}
use Rattle.scasp_law_headed.proofs.Counting.{first_with-numbered}
use Rattle.scasp_law_headed.proofs.Readings.{Absorbing, PlainItem, lit-absorbed, reading-absorbs}
use Rattle.scasp_law_headed.proofs.Views.{Case, IsNew, Move, Numbered, Want, apart_cases, case_numbers, first_with, goes_in, leaves, left_by, negates, opens, repeats, sees, want_leave, want_node, want_rule, wanted}
use Rattle.scasp_law_headed.specs.Reading.{cases_of, due_read, dues_read, line_read, reading}

-- ---- lists

each-of-with : {A : Type 0} (Q : A → Type 0) (P : State → Type 0) (g : A → State) → ((x : A) → Q x → P (g x)) → (xs : List A) → Each Q xs → EachState P (map g xs)
each-of-with Q P g k [] h = tt
each-of-with Q P g k (x ∷ xs) h = (k x h.0, each-of-with Q P g k xs h.1)

pub each-member : {A : Type 0} (P : A → Type 0) (xs : List A) (x : A) → Contains xs x → Each P xs → P x
each-member P [] x c h = absurd (Contains-none x c)
each-member P (y ∷ xs) x c h = elim (Contains-cases y xs x c) [
  | inl e ↦ subst P e h.0
  | inr k ↦ each-member P xs x k h.1
]

member-mapped : {A B : Type 0} (g : A → B) (xs : List A) (x : A) → Contains xs x → Contains (map g xs) (g x)
member-mapped g [] x c = absurd (Contains-none x c)
member-mapped g (y ∷ xs) x c = elim (Contains-cases y xs x c) [
  | inl e ↦ subst (λ z. Contains (g y ∷ map g xs) (g z)) e (Contains-here (g y) (map g xs))
  | inr k ↦ there (member-mapped g xs x k)
]
  where
    there : Contains (map g xs) (g x) → Contains (g y ∷ map g xs) (g x)
    there k = Contains-there (g y) (map g xs) (g x) k

get-push : {A : Type 0} (xs : List A) (y : A) → slice_get (xs ++ y ∷ []) (length xs) ≡ Some y
get-push [] y = refl
get-push (x ∷ xs) y = get-push xs y

-- ---- literals stand at their numbers

-- numbered from n down to m
abbrev Down : ℕ → ℕ → List Literal → Type 0
Down n m [] = n ≡ m
Down n m (a ∷ lits) = (n ≡ suc a.number) × Down a.number m lits

abbrev Up : ℕ → List Literal → Type 0
Up m [] = ⊤
Up m (a ∷ lits) = (a.number ≡ m) × Up (suc m) lits

numbered-down : (n : ℕ) (xs : List Literal) → Numbered n xs → Down n 0 xs
numbered-down n [] h = h
numbered-down n (a ∷ xs) h = (h.0, numbered-down a.number xs h.1)

down-split : (n m : ℕ) (xs ys : List Literal) → Down n m (xs ++ ys) → (k : ℕ) × Down n k xs × Down k m ys
down-split n m [] ys h = (n, refl, h)
down-split n m (a ∷ xs) ys h = let q = down-split a.number m xs ys h.1 in (q.0, (h.0, q.1), q.2)

up-from : (n m : ℕ) (xs : List Literal) → Down n m (reverse xs) → Up m xs
up-from n m [] h = tt
up-from n m (a ∷ xs) h =
    let q = down-split n m (reverse xs) (a ∷ []) (subst (Down n m) (reverse-append (a ∷ []) xs) h) in
    let here : q.0 ≡ suc a.number = q.2.0 in
    let last : a.number ≡ m = q.2.1 in
    (last, subst (λ (k : ℕ). Up k xs) (here ∙ ap suc last) (up-from n q.0 xs q.1))

up-get : (m : ℕ) (xs : List Literal) (a : Literal) → Up m xs → Contains xs a → (i : ℕ) × (a.number ≡ m + i) × (slice_get xs i ≡ Some a)
up-get m [] a h c = absurd (Contains-none a c)
up-get m (x ∷ xs) a h c = elim (Contains-cases x xs a c) [
  | inl e ↦ (
      let same : x.number ≡ a.number = ap (λ (z : Literal). z.number) e in
      let first = h.0 in
      (0, omega (arith, same, first), ap Some e)
      )
  | inr k ↦ (
      let q = up-get (suc m) xs a h.1 k in
      let number = q.1 in
      (suc q.0, omega (arith, number), q.2)
      )
]

pub stands-at : (n : ℕ) (xs : List Literal) (a : Literal) → Numbered n (reverse xs) → Contains xs a → slice_get xs a.number ≡ Some a
stands-at n xs a h c =
    let q = up-get 0 xs a (up-from n 0 xs (numbered-down n (reverse xs) h)) c in
    let same : a.number ≡ q.0 = (let e = q.1 in omega (arith, e)) in
    ap (slice_get xs) same ∙ q.2

grows-number : (n : ℕ) (g : Literal → Literal) → ((a : Literal) → (g a).cases ≡ a.cases) → (xs : List Literal) → Grows xs (at_number n g xs)
grows-number n g k [] i a e = absurd (cc e)
grows-number n g k (x ∷ xs) zero a e = by (nat_eq x.number n)
  where
    same : x ≡ a
    same = cc e

    by : (c : Bool) → (b : Literal) × (Some (if c then g x else x) ≡ Some b) × (b.cases ≡ a.cases)
    by true = (g x, refl, k x ∙ ap (λ (z : Literal). z.cases) same)
    by false = (x, refl, ap (λ (z : Literal). z.cases) same)
grows-number n g k (x ∷ xs) (suc i) a e = grows-number n g k xs i a e

grows-first : (os : List Literal) (g : Literal → Literal) → ((a : Literal) → (g a).cases ≡ a.cases) → (xs : List Literal) → Grows xs (at_first os g xs)
grows-first [] g k xs = grows-same xs
grows-first (a ∷ os) g k xs = grows-number a.number g k xs

-- ---- cases of covers

numbers-read : (cs : List Cover) → map (λ (c : Cover). c.case) cs ≡ case_numbers (map case_read cs)
numbers-read [] = refl
numbers-read (c ∷ cs) = ap (λ (z : List ℕ). c.case ∷ z) (numbers-read cs)

apart-read : (cs : List Cover) → map (λ (c : Cover). c.case) (filter (λ c. not c.plain) cs) ≡ apart_cases (map case_read cs)
apart-read [] = refl
apart-read (c ∷ cs) = by c.plain (apart-read cs)
  where
    by : (b : Bool) → map (λ (c : Cover). c.case) (filter (λ c. not c.plain) cs) ≡ apart_cases (map case_read cs)
        → map (λ (c : Cover). c.case) (if not b then c ∷ filter (λ c. not c.plain) cs else filter (λ c. not c.plain) cs)
        ≡ map (λ (d : Case). d.number) (if not b then case_read c ∷ filter (λ d. not d.plain) (map case_read cs) else filter (λ d. not d.plain) (map case_read cs))
    by true k = k
    by false k = ap (λ (z : List ℕ). c.case ∷ z) k

-- ---- rules

-- the clause of this number is a rule of the predicate
record IsRule (cs : List Clause) (p : Pred) (k : ℕ) : Type 0 where
  clause : Clause
  named : numbered cs k ≡ Some clause
  rule : is_rule_of p clause ≡ true

rules-from : (cs : List Clause) (p : Pred) (n : ℕ) (ds : List Clause) → ((k : ℕ) (c : Clause) → slice_get ds k ≡ Some c → numbered cs (n + k) ≡ Some c)
    → Each (IsRule cs p) (rules_from n ds p)
rules-from cs p n [] h = tt
rules-from cs p n (c ∷ ds) h =
    by (is_rule_of p c) refl (rules-from cs p (n + 1) ds (λ k d e. subst (λ (m : ℕ). numbered cs m ≡ Some d) (omega arith) (h (suc k) d e)))
  where
    here : numbered cs n ≡ Some c
    here = subst (λ (m : ℕ). numbered cs m ≡ Some c) (omega arith) (h 0 c refl)

    by : (b : Bool) → is_rule_of p c ≡ b → Each (IsRule cs p) (rules_from (n + 1) ds p)
        → Each (IsRule cs p) (if b then n ∷ rules_from (n + 1) ds p else rules_from (n + 1) ds p)
    by true e k = (record { clause = c; named = here; rule = e }, k)
    by false e k = k

all-rules : (cs : List Clause) (p : Pred) → Each (IsRule cs p) (rules_from 1 cs p)
all-rules cs p = rules-from cs p 1 cs (λ k c e. (
    let next : suc k ≡ 1 + k = omega arith in subst (λ (m : ℕ). numbered cs m ≡ Some c) next e
    ))

pub pred-read : (r : Sub) (a : Atom) → pred_of (atom_under r a) ≡ pred_of a
pred-read r a = ap (λ (n : ℕ). record { minus = a.minus; name = a.name; arity = n }) (all_under-length r a.args)

-- ---- tasks

wants-shows : (r : Sub) (bs : _) (is : List FlatItem) → wants_of r bs (map task.Show is) ≡ wanted (dues_read r is)
wants-shows r bs [] = refl
wants-shows r bs (i ∷ is) = ap (λ (z : List Want). want_node (due_read r i) ∷ z) (wants-shows r bs is)

wants-rules : (r : Sub) (bs : _) (a : Atom) (ks : List ℕ) → wants_of r bs (map (task.Cover a) ks) ≡ map (want_rule (atom_under r a)) ks
wants-rules r bs a [] = refl
wants-rules r bs a (k ∷ ks) = ap (λ (z : List Want). want_rule (atom_under r a) k ∷ z) (wants-rules r bs a ks)

equations-fine : (ps : List Pair) → Each TaskFine (equations_of ps)
equations-fine [] = tt
equations-fine (o ∷ ps) = (tt, equations-fine ps)

rules-fine : (a : Atom) (ks : List ℕ) → Each TaskFine (map (task.Cover a) ks)
rules-fine a [] = tt
rules-fine a (k ∷ ks) = (tt, rules-fine a ks)

abbrev args_of : Tm → Tms
args_of (var x) = nil
args_of (num q) = nil
args_of (app g ts) = ts

module _ (p : Program) (headed : list_all is_headed p.clauses ≡ true) (plain : (k first : ℕ) → Each PlainItem (body_of p k first)) (f : State) (v : Sub) (s : State) (solved : Solved (length s.made) s.bound) (bindings : Each (BindingFirm s) s.bound)
    (literals : Each (LiteralFirm s) s.literals) (h : Kept s) where
  abbrev Numbers : Type 0
  Numbers = Numbered (length s.literals) (reverse s.literals)

  abbrev r : Sub
  r = reading f v

  abbrev ws : List Want
  ws = wants_of (reading f v) s.bound s.work

  equations-end : (ps : List Pair) → Each (Ends p f v) (equations_of ps) → Each (PairEqual (meaning f)) ps
  equations-end [] e = tt
  equations-end (o ∷ ps) e = (e.0, equations-end ps e.1)

  -- what two lists read to in the finished state they read to in the certificate
  read-args : (ts us : Tms) → all_under (meaning f) ts ≡ all_under (meaning f) us → all_under (reading f v) ts ≡ all_under (reading f v) us
  read-args ts us e = sym (twice ts) ∙ ap (all_under v) e ∙ twice us
    where
      twice : (us : Tms) → all_under v (all_under (meaning f) us) ≡ all_under (reading f v) us
      twice us = ap args_of (under-under v (meaning f) (app 0 us))

  module _ (l : Lit) (firm : ArgsFirm s l.atom.args) where
    same-read : IsLater s f → (a : Literal) → is_same s l a ≡ true → lit_renamed (reading f v) a.lit ≡ lit_renamed (reading f v) l
    same-read later a e =
        let q = and_parts (not a.is_general) (same_lit (lit_under s a.lit) (lit_under s l)) e in
        let same : lit_renamed (meaning s) a.lit ≡ lit_renamed (meaning s) l = (lit_decided (lit_under s a.lit) (lit_under s l)).0 q.1 in
        let absorbs : Absorbing (reading f v) (meaning s) = reading-absorbs s f later v in
        sym (lit-absorbed (reading f v) (meaning s) absorbs a.lit) ∙ ap (lit_renamed (reading f v)) same ∙ lit-absorbed (reading f v) (meaning s) absorbs l

    -- ---- the literal repeats one that is open

    abbrev Shows : State → Type 0
    Shows = Step p f v s (task.Show (flat.Call l))

    -- one line more, and the innermost of these changed
    looped-step : (n : Repeated) (os : List Literal) (t : State) → t ≡ record s { literals = at_first os looping s.literals; lines = s.lines ++ line.Loop l n.number ∷ [] }
        → (IsLater s f → Numbers → Ahead p f v t → Move p f v (view p f v (record s { work = task.Show (flat.Call l) ∷ s.work })) (view p f v t)) → Shows t
    looped-step n os t e move = record {
      onto = subst (Onto s) (sym e) (record { more = as-many (length s.made); kinded = (λ z g. g); firm = (λ z g. g) });
      covers = ap (λ (z : State). z.covers) e;
      cases = ap (λ (z : State). z.cases) e;
      grows = subst (λ (z : State). Grows s.literals z.literals) (sym e) (grows-first os looping (λ a. refl) s.literals);
      tasks = [];
      work = ap (λ (z : State). z.work) e;
      tasks_fine = tt;
      more_lines = line.Loop l n.number ∷ [];
      lines = ap (λ (z : State). z.lines) e;
      lines_fine = ((tt, tt), tt);
      no_case = (refl, tt);
      ends = λ o i. tt;
      move = λ o n i j. move o n i;
    }

    looped-steps : (n : Repeated) → nearest s l false (opens (reverse s.literals)) ≡ Some n → EachState Shows (looped s l n)
    looped-steps n e = by l.positive n.is_behind_negation refl refl
      where
        near : IsLater s f → IsNearest (reading f v) l false (opens (reverse s.literals)) n
        near later = nearest-is (reading f v) s l (same-read later) false (opens (reverse s.literals)) n e

        turned : Numbers → literals_read (reading f v) (reverse (at_first (opens (reverse s.literals)) looping s.literals)) ≡ first_with looping (literals_read (reading f v) (reverse s.literals))
        turned numbers =
            ap (literals_read (reading f v)) (first-reversed looping s.literals (opens (reverse s.literals)) (length s.literals) numbers refl)
            ∙ sym (first-read (reading f v) looping (looping-read (reading f v)) (reverse s.literals))

        by : (b c : Bool) → l.positive ≡ b → n.is_behind_negation ≡ c
            → EachState Shows (if not b then with_line s (line.Loop l n.number) ∷ [] else (if c then marked (opens (reverse s.literals)) (with_line s (line.Loop l n.number)) ∷ [] else []))
        by false c eb ec = (
          looped-step n [] (with_line s (line.Loop l n.number)) refl
              (λ later numbers a.
              let m = near later in
              repeats (record {
                lit = lit_renamed (reading f v) l;
                behind = ws;
                wants = refl;
                inner = m.inner;
                one = m.one;
                outer = m.outer;
                among = opens-read (reading f v) (reverse s.literals) ∙ m.among;
                same = m.same;
                crosses = λ q. absurd (cc (q, eb));
                next = λ i. record {
                  lines = (view-lines p f v s (line.Loop l n.number) ∙ ap (λ (k : ℕ). map (line_read (reading f v)) (all_lines s) ++ line.Loop (lit_renamed (reading f v) l) k ∷ []) m.number) i;
                  literals = if sym eb i then first_with looping (literals_read (reading f v) (reverse s.literals)) else literals_read (reading f v) (reverse s.literals);
                  cases = map case_read s.covers;
                  wants = ws;
                };
              })),
          tt,
        )
        by true true eb ec = (
          looped-step n (opens (reverse s.literals)) (marked (opens (reverse s.literals)) (with_line s (line.Loop l n.number))) (marked-is (opens (reverse s.literals)) (with_line s (line.Loop l n.number)))
              (λ later numbers a.
              let m = near later in
              repeats (record {
                lit = lit_renamed (reading f v) l;
                behind = ws;
                wants = refl;
                inner = m.inner;
                one = m.one;
                outer = m.outer;
                among = opens-read (reading f v) (reverse s.literals) ∙ m.among;
                same = m.same;
                crosses = λ q. sym m.crosses ∙ ec;
                next = ap (view p f v) (marked-is (opens (reverse s.literals)) (with_line s (line.Loop l n.number)))
                    ∙ (λ i. record {
                      lines = (view-lines p f v s (line.Loop l n.number) ∙ ap (λ (k : ℕ). map (line_read (reading f v)) (all_lines s) ++ line.Loop (lit_renamed (reading f v) l) k ∷ []) m.number) i;
                      literals = turned numbers i;
                      cases = map case_read s.covers;
                      wants = ws;
                    })
                    ∙ (λ i. record {
                      lines = map (line_read (reading f v)) (all_lines s) ++ line.Loop (lit_renamed (reading f v) l) m.one.number ∷ [];
                      literals = if sym eb i then first_with looping (literals_read (reading f v) (reverse s.literals)) else literals_read (reading f v) (reverse s.literals);
                      cases = map case_read s.covers;
                      wants = ws;
                    });
              })),
          tt,
        )
        by true false eb ec = tt

    -- ---- the literal repeats one that is done

    seen-step : (a : Literal) → Contains s.literals a → can_be_seen s l a ≡ true → Shows (with_line s (line.Seen l a.number))
    seen-step a c q =
        let x = and_parts (a.is_done && is_firm a && is_in_scope s a) (is_same s l a) q in
        let y = and_parts (a.is_done && is_firm a) (is_in_scope s a) x.0 in
        let z = and_parts a.is_done (is_firm a) y.0 in
        record {
          onto = record { more = as-many (length s.made); kinded = (λ z g. g); firm = (λ z g. g) };
          covers = refl;
          cases = refl;
          grows = grows-same s.literals;
          tasks = [];
          work = refl;
          tasks_fine = tt;
          more_lines = line.Seen l a.number ∷ [];
          lines = refl;
          lines_fine = ((tt, tt), tt);
          no_case = (refl, tt);
          ends = λ o i. tt;
          move = λ later numbers ahead i. sees (record {
            lit = lit_renamed (reading f v) l;
            behind = ws;
            wants = refl;
            one = literal_read (reading f v) a;
            told = member-mapped (literal_read (reading f v)) (reverse s.literals) a (contains-reverse s.literals a c);
            done = z.0;
            firm = z.1;
            same = same-read later a x.1;
            scope = scoped (ahead.cases a.number a (stands-at (length s.literals) s.literals a numbers c)) y.1;
            next = λ i. record {
              lines = view-lines p f v s (line.Seen l a.number) i;
              literals = literals_read (reading f v) (reverse s.literals);
              cases = map case_read s.covers;
              wants = ws;
            };
          });
        }
      where
        scoped : cases_of p f v a.number ≡ a.cases → list_all (λ k. among k (open_cases s)) a.cases ≡ true → list_all (λ k. among k (case_numbers (map case_read s.covers))) (cases_of p f v a.number) ≡ true
        scoped e g =
            ap (list_all (λ k. among k (case_numbers (map case_read s.covers)))) e
            ∙ ap (λ (ns : List ℕ). list_all (λ k. among k ns) a.cases) (sym (numbers-read s.covers)) ∙ g

    -- ---- a literal that is gone into

    module _ (gs : List Con) where
      abbrev u : State
      u = record s { given = s.given ++ gs }

      new_one : Literal
      new_one = record {
        number = length s.literals;
        lit = l;
        cases = map (λ (c : Cover). c.case) (filter (λ c. not c.plain) s.covers);
        is_done = false;
        loops = false;
        is_general = false;
      }

      -- the new literal in the view
      is-new : KeepsCases p f v (s.literals ++ new_one ∷ []) → IsNew p f v (view p f v (record s { work = task.Show (flat.Call l) ∷ s.work })) (lit_renamed (reading f v) l) (literal_read (reading f v) new_one)
      unfolding new_one
      is-new keeps = record {
        number = sym (long-read (reading f v) (reverse s.literals) ∙ length-reversed s.literals);
        of = refl;
        open_yet = refl;
        cases = keeps (length s.literals) new_one (get-push s.literals new_one) ∙ apart-read s.covers;
      }

      more-literals : literals_read (reading f v) (reverse (s.literals ++ new_one ∷ [])) ≡ literal_read (reading f v) new_one ∷ literals_read (reading f v) (reverse s.literals)
      more-literals = ap (literals_read (reading f v)) (reverse-one s.literals new_one)

      rule-step : l.positive ≡ true → (k : ℕ) → Covers p l.atom k → IsRule p.clauses (pred_of l.atom) k → Shows (by_rule p (record s { given = s.given ++ gs }) l k)
      unfolding new_one
      rule-step positive k cover rule = record {
        onto = record { more = o.more; kinded = o.kinded; firm = o.firm };
        covers = refl;
        cases = refl;
        grows = grows-push s.literals (new_one ∷ []);
        tasks = equations_of (pairs l.atom.args (head_args p k n)) ++ map task.Show (body_of p k n) ++ task.Leave ∷ [];
        work = refl;
        tasks_fine =
            Each-append TaskFine (equations_of (pairs l.atom.args (head_args p k n)) ++ map task.Show (body_of p k n)) (task.Leave ∷ [])
            (Each-append TaskFine (equations_of (pairs l.atom.args (head_args p k n))) (map task.Show (body_of p k n)) (equations-fine (pairs l.atom.args (head_args p k n)))
            (Each-mapped TaskFine task.Show (body_of p k n) (plain k n))) (tt, tt);
        more_lines = told ∷ [];
        lines = refl;
        lines_fine = ((tt, parts-each (Firm (by_rule p u l k)) n n (vars_of_clause p k) (omega arith) (λ z a b. kinded-firm fresh z (new.fresh z a (omega (arith, b, long))))), tt);
        no_case = (refl, tt);
        ends = λ x y. tt;
        move = λ later numbers ahead e. goes_in (record {
          lit = lit_renamed (reading f v) l;
          behind = ws;
          wants = refl;
          positive = positive;
          rule = k;
          clause = rule.clause;
          named = rule.named;
          is_rule = ap (λ (q : Pred). is_rule_of q rule.clause) (pred-read (reading f v) l.atom) ∙ rule.rule;
          first = n;
          head = heads e;
          one = literal_read (reading f v) new_one;
          new = is-new ahead.cases;
          next = λ i. record {
            lines = view-lines p f v s told i;
            literals = more-literals i;
            cases = map case_read s.covers;
            wants = all-wants i;
          };
        });
      }
        where
          n : ℕ
          n = length s.made

          told : Line
          told = line.Pos l.atom k (new_parts n (vars_of_clause p k)) (length (body_of p k n))

          fresh : State
          fresh = with_new u Existential (length s.covers) (vars_of_clause p k)

          new : Makes u (with_new u Existential (length s.covers) (vars_of_clause p k))
          new = new-makes u Existential (length s.covers) (vars_of_clause p k) refl

          o : Onto u (with_new u Existential (length s.covers) (vars_of_clause p k))
          o = new-onto u Existential (length s.covers) (vars_of_clause p k)

          long : length (with_new u Existential (length s.covers) (vars_of_clause p k)).made ≡ length s.made + vars_of_clause p k
          long = new-length u Existential (length s.covers) (vars_of_clause p k)

          heads : Each (Ends p f v) (equations_of (pairs l.atom.args (head_args p k n)) ++ map task.Show (body_of p k n) ++ task.Leave ∷ [])
              → all_under (reading f v) (head_args p k n) ≡ all_under (reading f v) l.atom.args
          heads e =
              read-args (head_args p k n) l.atom.args
              (sym (args-equal (meaning f) l.atom.args (head_args p k n) (cover.many n)
              (equations-end (pairs l.atom.args (head_args p k n))
              (Each-left (Ends p f v) (equations_of (pairs l.atom.args (head_args p k n))) (map task.Show (body_of p k n))
              (Each-left (Ends p f v) (equations_of (pairs l.atom.args (head_args p k n)) ++ map task.Show (body_of p k n)) (task.Leave ∷ []) e)))))

          all-wants : wants_of (reading f v) s.bound ((equations_of (pairs l.atom.args (head_args p k n)) ++ map task.Show (body_of p k n) ++ task.Leave ∷ []) ++ s.work)
              ≡ wanted (dues_read (reading f v) (body_of p k n)) ++ want_leave ∷ ws
          all-wants =
              wants-append (reading f v) s.bound (equations_of (pairs l.atom.args (head_args p k n)) ++ map task.Show (body_of p k n) ++ task.Leave ∷ []) s.work
              ∙ ap (λ (z : List Want). z ++ ws)
              (wants-append (reading f v) s.bound (equations_of (pairs l.atom.args (head_args p k n)) ++ map task.Show (body_of p k n)) (task.Leave ∷ [])
              ∙ ap (λ (z : List Want). z ++ want_leave ∷ [])
              (wants-append (reading f v) s.bound (equations_of (pairs l.atom.args (head_args p k n))) (map task.Show (body_of p k n))
              ∙ ap (λ (z : List Want). z ++ wants_of (reading f v) s.bound (map task.Show (body_of p k n))) (wants-equations (reading f v) s.bound (pairs l.atom.args (head_args p k n)))
              ∙ wants-shows (reading f v) s.bound (body_of p k n)))
              ∙ append_assoc (wanted (dues_read (reading f v) (body_of p k n))) (want_leave ∷ []) ws

      no-rule-step : l.positive ≡ false → Shows (by_no_rule p (record s { given = s.given ++ gs }) l)
      unfolding new_one
      no-rule-step negative = record {
        onto = record { more = as-many (length s.made); kinded = (λ z g. g); firm = (λ z g. g) };
        covers = refl;
        cases = refl;
        grows = grows-push s.literals (new_one ∷ []);
        tasks = map (task.Cover l.atom) rules ++ task.Leave ∷ [];
        work = refl;
        tasks_fine = Each-append TaskFine (map (task.Cover l.atom) rules) (task.Leave ∷ []) (rules-fine l.atom rules) (tt, tt);
        more_lines = line.Neg l.atom (length rules) ∷ [];
        lines = refl;
        lines_fine = ((tt, tt), tt);
        no_case = (refl, tt);
        ends = λ x y. tt;
        move = λ later numbers ahead e. negates (record {
          lit = lit_renamed (reading f v) l;
          behind = ws;
          wants = refl;
          negative = negative;
          one = literal_read (reading f v) new_one;
          new = is-new ahead.cases;
          next = (λ i. record {
            lines = view-lines p f v s (line.Neg l.atom (length rules)) i;
            literals = more-literals i;
            cases = map case_read s.covers;
            wants = all-wants i;
          })
              ∙ (λ i. record {
                lines = map (line_read (reading f v)) (all_lines s) ++ line.Neg (atom_under (reading f v) l.atom) (length (same-rules i)) ∷ [];
                literals = literal_read (reading f v) new_one ∷ literals_read (reading f v) (reverse s.literals);
                cases = map case_read s.covers;
                wants = map (want_rule (atom_under (reading f v) l.atom)) (same-rules i) ++ want_leave ∷ ws;
              });
        });
      }
        where
          rules : List ℕ
          rules = rules_of p (pred_of l.atom)

          same-rules : rules_of p (pred_of l.atom) ≡ rules_of p (pred_of (atom_under (reading f v) l.atom))
          same-rules = ap (rules_of p) (sym (pred-read (reading f v) l.atom))

          all-wants : wants_of (reading f v) s.bound ((map (task.Cover l.atom) (rules_of p (pred_of l.atom)) ++ task.Leave ∷ []) ++ s.work)
              ≡ map (want_rule (atom_under (reading f v) l.atom)) (rules_of p (pred_of l.atom)) ++ want_leave ∷ ws
          all-wants =
              wants-append (reading f v) s.bound (map (task.Cover l.atom) (rules_of p (pred_of l.atom)) ++ task.Leave ∷ []) s.work
              ∙ ap (λ (z : List Want). z ++ ws)
              (wants-append (reading f v) s.bound (map (task.Cover l.atom) (rules_of p (pred_of l.atom))) (task.Leave ∷ [])
              ∙ ap (λ (z : List Want). z ++ want_leave ∷ []) (wants-rules (reading f v) s.bound l.atom (rules_of p (pred_of l.atom))))
              ∙ append_assoc (map (want_rule (atom_under (reading f v) l.atom)) (rules_of p (pred_of l.atom))) (want_leave ∷ []) ws

      entered-steps : EachState Shows (entered p (record s { given = s.given ++ gs }) l)
      entered-steps = by l.positive refl
        where
          both : (ks : List ℕ) → Each (Covers p l.atom) ks → Each (IsRule p.clauses (pred_of l.atom)) ks → Each (λ k. Covers p l.atom k × IsRule p.clauses (pred_of l.atom) k) ks
          both [] c i = tt
          both (k ∷ ks) c i = ((c.0, i.0), both ks c.1 i.1)

          by : (b : Bool) → l.positive ≡ b
              → EachState Shows (if b then map (by_rule p (record s { given = s.given ++ gs }) l) (rules_of p (pred_of l.atom)) else by_no_rule p (record s { given = s.given ++ gs }) l ∷ [])
          by true q =
              each-of-with (λ k. Covers p l.atom k × IsRule p.clauses (pred_of l.atom) k) Shows (by_rule p (record s { given = s.given ++ gs }) l) (λ k c. rule-step q k c.0 c.1) (rules_of p (pred_of l.atom))
              (both (rules_of p (pred_of l.atom)) (headed-covers p l.atom headed) (all-rules p.clauses (pred_of l.atom)))
          by false q = (no-rule-step q, tt)

    -- ---- a call

    list-firm : (ts : Tms) → ArgsFirm s ts → TermFirm s (list_term (items ts))
    list-firm nil a = tt
    list-firm (cons t ts) a = (a.0, (list-firm ts a.1, tt))

    differing-firm : (a : Literal) → LiteralFirm s a → ConAll (Firm s) (differing l a)
    differing-firm a k = (
      subst (TermFirm s) (sym (viewed (list_term (items l.atom.args)))) (list-firm l.atom.args firm),
      subst (TermFirm s) (sym (viewed (list_term (items a.lit.atom.args)))) (list-firm a.lit.atom.args k),
    )

    opposites-firm : Each (LiteralFirm s) (opposites s l)
    opposites-firm = by (is_free s l)
      where
        by : (b : Bool) → Each (LiteralFirm s) (if b then filter (is_opposite s l) s.literals else [])
        by true = Each-filter (LiteralFirm s) (is_opposite s l) s.literals literals
        by false = tt

    no-rows : (xs : List Literal) → Each NoRow (map (differing l) xs)
    no-rows [] = tt
    no-rows (a ∷ xs) = (tt, no-rows xs)

    fresh-steps : (xs : List Literal) → filter (can_be_seen s l) s.literals ≡ xs → EachState Shows (unrepeated p sat s l xs).states
    fresh-steps [] e =
        each_followed (λ t. EachState Shows (entered p t l)) Shows (λ t. gives (entered p t l)) (assume_all sat (map (differing l) (opposites s l)) s).states
        (assume-each (map (differing l) (opposites s l)) (no-rows (opposites s l)) s solved bindings h
        (Each-mapped (ConAll (Firm s)) (differing l) (opposites s l) (Each-map (LiteralFirm s) (λ a. ConAll (Firm s) (differing l a)) differing-firm (opposites s l) opposites-firm))
        (λ t. EachState Shows (entered p t l)) (λ gs kept e. entered-steps gs)) (λ t k. k)
    fresh-steps (a ∷ xs) e =
        let among : Contains (filter (can_be_seen s l) s.literals) a = subst (λ (z : List Literal). Contains z a) (sym e) (Contains-here a xs) in
        let c = Contains-from_filter (can_be_seen s l) s.literals a among in
        (seen-step a c.0 c.1, tt)

    pub call-steps : EachState Shows (call p sat s l).states
    call-steps = by (nearest s l false (opens (reverse s.literals))) refl
      where
        by : (o : Option Repeated) → nearest s l false (opens (reverse s.literals)) ≡ o → EachState Shows (judged p sat s l o).states
        by (Some n) e = looped-steps n e
        by None e = fresh-steps (filter (can_be_seen s l) s.literals) refl

  -- ---- the end of a literal

  ended-step : (xs : List Literal) → Grows s.literals xs → (t : State) → t ≡ record s { literals = xs }
      → (Numbers → literals_read (reading f v) (reverse xs) ≡ left_by (opens (literals_read (reading f v) (reverse s.literals))) (literals_read (reading f v) (reverse s.literals))) → Step p f v s task.Leave t
  ended-step xs grows t e turned = record {
    onto = subst (Onto s) (sym e) (record { more = as-many (length s.made); kinded = (λ z g. g); firm = (λ z g. g) });
    covers = ap (λ (z : State). z.covers) e;
    cases = ap (λ (z : State). z.cases) e;
    grows = subst (λ (z : State). Grows s.literals z.literals) (sym e) grows;
    tasks = [];
    work = ap (λ (z : State). z.work) e;
    tasks_fine = tt;
    more_lines = [];
    lines = ap (λ (z : State). z.lines) e ∙ sym (append-nil s.lines);
    lines_fine = tt;
    no_case = tt;
    ends = λ o i. tt;
    move = λ later numbers ahead i. leaves (record {
      behind = ws;
      wants = refl;
      next = ap (view p f v) e ∙ (λ i. record {
        lines = map (line_read (reading f v)) (all_lines s);
        literals = turned numbers i;
        cases = map case_read s.covers;
        wants = ws;
      });
    });
  }

  -- the literals that are left read as those of the view that are
  left-turned : (os xs : List Literal) → opens (reverse s.literals) ≡ os → reverse xs ≡ left_by os (reverse s.literals)
      → literals_read (reading f v) (reverse xs) ≡ left_by (opens (literals_read (reading f v) (reverse s.literals))) (literals_read (reading f v) (reverse s.literals))
  left-turned os xs o e =
      ap (literals_read (reading f v)) (e ∙ ap (λ (z : List Literal). left_by z (reverse s.literals)) (sym o)) ∙ sym (left-read (reading f v) (opens (reverse s.literals)) (reverse s.literals))
      ∙ ap (λ (z : List Literal). left_by z (literals_read (reading f v) (reverse s.literals))) (sym (opens-read (reading f v) (reverse s.literals)))

  pub leave-step : Step p f v s task.Leave (leave_literal s)
  leave-step = by (opens (reverse s.literals)) refl
    where
      done : (a : Literal) → Grows s.literals (at_number a.number finished s.literals)
      done a = grows-number a.number finished (λ x. refl) s.literals

      ended : Numbers → (a : Literal) (rest : List Literal) → opens (reverse s.literals) ≡ a ∷ rest → reverse (at_number a.number finished s.literals) ≡ first_with finished (reverse s.literals)
      ended numbers a rest q = number-reverse a.number finished s.literals ∙ number-first finished (length s.literals) (reverse s.literals) a rest numbers q

      by : (os : List Literal) → opens (reverse s.literals) ≡ os → Step p f v s task.Leave (left os s)
      by [] q = ended-step s.literals (grows-same s.literals) s refl (λ numbers. left-turned [] s.literals q refl)
      by (a ∷ []) q = ended-step (at_number a.number finished s.literals) (done a) (record s { literals = at_number a.number finished s.literals }) refl (λ numbers. left-turned (a ∷ []) (at_number a.number finished s.literals) q (ended numbers a [] q))
      by (a ∷ b ∷ rest) q = moves (a.loops && a.lit.positive && b.lit.positive) refl
        where
          now : List Literal
          now = at_number a.number finished s.literals

          moves : (c : Bool) → (a.loops && a.lit.positive && b.lit.positive) ≡ c
              → Step p f v s task.Leave (if c then marked (b ∷ rest) (record s { literals = at_number a.number finished s.literals }) else record s { literals = at_number a.number finished s.literals })
          moves true m =
              ended-step (at_number b.number looping (at_number a.number finished s.literals))
              (grows-then s.literals (at_number a.number finished s.literals) (at_number b.number looping (at_number a.number finished s.literals)) (done a)
              (grows-number b.number looping (λ z. refl) (at_number a.number finished s.literals)))
              (record s { literals = at_number b.number looping (at_number a.number finished s.literals) }) refl
              (λ numbers.
              let back : reverse (at_number a.number finished s.literals) ≡ first_with finished (reverse s.literals) = ended numbers a (b ∷ rest) q in
              let open_now : opens (reverse (at_number a.number finished s.literals)) ≡ b ∷ rest = ap opens back ∙ opens-finished (reverse s.literals) ∙ ap (drop 1) q in
              let numbers_now : Numbered (length s.literals) (reverse (at_number a.number finished s.literals)) =
              subst (Numbered (length s.literals)) (sym back) (first_with-numbered finished (λ z. refl) (length s.literals) (reverse s.literals) numbers) in
              left-turned (a ∷ b ∷ rest) (at_number b.number looping (at_number a.number finished s.literals)) q
              (number-reverse b.number looping (at_number a.number finished s.literals)
              ∙ number-first looping (length s.literals) (reverse (at_number a.number finished s.literals)) b rest numbers_now open_now ∙ ap (first_with looping) back
              ∙ sym (ap (λ (z : Bool). if z then first_with looping (first_with finished (reverse s.literals)) else first_with finished (reverse s.literals)) m)))
          moves false m =
              ended-step (at_number a.number finished s.literals) (done a) (record s { literals = at_number a.number finished s.literals }) refl
              (λ numbers. left-turned (a ∷ b ∷ rest) (at_number a.number finished s.literals) q
              (ended numbers a (b ∷ rest) q ∙ sym (ap (λ (z : Bool). if z then first_with looping (first_with finished (reverse s.literals)) else first_with finished (reverse s.literals)) m)))
