-- Each step of the search from a plain state is a move, and leads to a plain state.
use Rattle.std.specs.Prelude.{◌≡◌, ℕ, Bool, true, false, ◌&&◌, not, if◌then◌else◌, Option, Some, None, List, [], ◌∷◌, ◌++◌, map, filter, reverse, drop, length, Contains}
use Rattle.std.specs.List.{flat_map}
use Rattle.std.proofs.Common.{◌∙◌, refl, ap, sym, subst, append_assoc, inl, inr}
use Rattle.std.proofs.lemmas.Bool.{and_parts}
use Rattle.scasp_hint.specs.Satisfying.{sat}
use Rattle.scasp_list.specs.Each.{Each}
use Rattle.scasp_list.proofs.EachLemmas.{Each-append, Each-filter}
use Rattle.scasp_list.proofs.MemberLemmas.{Contains-none, Contains-cases, Contains-from_filter, Contains-here}
use Rattle.scasp_rows.specs.PlainRows.{is_met}
use Rattle.scasp_search_rules.specs.declared.states.covers.Cover.{Cover}
use Rattle.scasp_search_rules.specs.declared.states.lines.Line.{Line}
use Rattle.scasp_search_rules.specs.declared.states.lines.Line.TheVariants as line
use Rattle.scasp_search_rules.specs.declared.states.outcomes.Repeated.{Repeated}
use Rattle.scasp_search_rules.specs.declared.states.state.Kind.TheVariants.{Existential, Matched}
use Rattle.scasp_search_rules.specs.declared.states.state.Literal.{Literal}
use Rattle.scasp_search_rules.specs.declared.states.state.State.{State}
use Rattle.scasp_search_rules.specs.declared.states.tasks.Aim.TheVariants as aims
use Rattle.scasp_search_rules.specs.declared.states.tasks.Task.{Task}
use Rattle.scasp_search_rules.specs.declared.states.tasks.Task.TheVariants as task
use Rattle.scasp_search_rules.specs.Successors.Assumptions.{assume, assume_all}
use Rattle.scasp_search_rules.specs.Successors.Calls.{nearest, is_firm, is_in_scope, is_same, is_free, can_be_seen, opposites, is_opposite, differing, at_number, looping, marked, looped, with_literal, vars_in, vars_of_clause, head_args, by_rule, by_no_rule, entered, unrepeated, judged, call, covered, finished, left, leave_literal}
use Rattle.scasp_search_rules.specs.Successors.Equations.{equations}
use Rattle.scasp_search_rules.specs.Successors.Items.{items_of, body_of, with_line}
use Rattle.scasp_search_rules.specs.Successors.Pairs.{pairs}
use Rattle.scasp_search_rules.specs.Successors.Regions.{before}
use Rattle.scasp_search_rules.specs.Successors.Variables.{with_new}
use Rattle.scasp_syntax.specs.Flat.{flat_body}
use Rattle.scasp_syntax.specs.Programs.{numbered, pred_of, rules_of, rules_from, is_rule_of}
use Rattle.scasp_syntax.specs.Tm.{Tms, nil, items}
use Rattle.scasp_syntax.specs.declared.atom.Atom.{Atom}
use Rattle.scasp_syntax.specs.declared.atom.Lit.{Lit}
use Rattle.scasp_syntax.specs.declared.clause.Clause.{Clause}
use Rattle.scasp_syntax.specs.declared.clause.FlatItem.{FlatItem}
use Rattle.scasp_syntax.specs.declared.clause.FlatItem.TheVariants as flat
use Rattle.scasp_syntax.specs.declared.con.Con.{Con}
use Rattle.scasp_syntax.specs.declared.program.Program.{Program}
use Rattle.scasp_unify.specs.Negations.{new_parts}
use Rattle.scasp_unify.specs.SimpleForm.{differ, list_term}
use Rattle.scasp_unify.specs.Unification.{unifier}
use Rattle.scasp_law_propositional.proofs.PropositionalLemmas.Backing.{opens-finished}
use Rattle.scasp_law_propositional.proofs.PropositionalLemmas.Counting.{first_with-numbered}
use Rattle.scasp_law_propositional.proofs.PropositionalLemmas.Plains.{IsPlain, PlainClause}
use Rattle.scasp_law_propositional.proofs.PropositionalLemmas.States.{PlainLine, PlainLiteral, PlainTask, PlainParts, bare, Plain, same-head, IsRule, all-rules, IsNearest, nearest-is, same-literal, items-kept, number-reverse, number-first, number-plain, looping-plain, finished-plain, each-reverse, contains-reverse, length-reversed, reverse-one}
use Rattle.scasp_law_propositional.proofs.PropositionalLemmas.Views.{lines_before, view, is_open, opens, first_with, Numbered, left_by, shows, Move, repeats, sees, goes_in, negates, takes_rule, leaves}

-- ---- a move to a plain state

pub record Next (cs : List Clause) (s t : State) : Type 0 where
  pub plain : Plain cs t
  pub move : Move cs (view s) (view t)

pub more-lines : (before ls : List Line) (l : Line) → before ++ (ls ++ l ∷ []) ≡ (before ++ ls) ++ l ∷ []
more-lines before ls l = sym (append_assoc before ls (l ∷ []))

each-of : {A B : Type 0} (Q : A → Type 0) (P : B → Type 0) (f : A → B) → ((x : A) → Q x → P (f x)) → (xs : List A) → Each Q xs → Each P (map f xs)
each-of Q P f k [] h = tt
each-of Q P f k (x ∷ xs) h = (k x h.0, each-of Q P f k xs h.1)

each-member : {A : Type 0} (P : A → Type 0) (xs : List A) (x : A) → Contains xs x → Each P xs → P x
each-member P [] x c h = absurd (Contains-none x c)
each-member P (y ∷ xs) x c h = elim (Contains-cases y xs x c) [
  | inl e ↦ subst P e h.0
  | inr k ↦ each-member P xs x k h.1
]

pub with-line : (cs : List Clause) (covers : List Cover) (lits : List Literal) (ls : List Line) (work : List Task) (l : Line) → PlainLine l
    → PlainParts cs covers lits ls work → PlainParts cs covers lits (ls ++ l ∷ []) work
with-line cs covers lits ls work l k h =
    record { covers = h.covers; literals = h.literals; lines = Each-append PlainLine ls (l ∷ []) h.lines (k, tt); work = h.work }

-- ---- the innermost literal of a list

at_first : List Literal → (Literal → Literal) → List Literal → List Literal
at_first [] f lits = lits
at_first (a ∷ rest) f lits = at_number a.number f lits

marked-is : (os : List Literal) (s : State) → marked os s ≡ record s { literals = at_first os looping s.literals }
unfolding at_first
marked-is [] s = refl
marked-is (a ∷ rest) s = refl

none-first : (f : Literal → Literal) (lits : List Literal) → opens lits ≡ [] → first_with f lits ≡ lits
none-first f [] e = refl
none-first f (a ∷ lits) e = by a.is_done refl (λ o. none-first f lits o)
  where
    by : (b : Bool) → a.is_done ≡ b → (opens lits ≡ [] → first_with f lits ≡ lits) → (if b then a ∷ first_with f lits else f a ∷ lits) ≡ a ∷ lits
    by true d k = ap (λ (z : List Literal). a ∷ z) (k (sym (ap (λ (z : Bool). if not z then a ∷ opens lits else opens lits) d) ∙ e))
    by false d k = absurd (cc (sym (ap (λ (z : Bool). if not z then a ∷ opens lits else opens lits) d) ∙ e))

first-reversed : (f : Literal → Literal) (lits os : List Literal) (n : ℕ) → Numbered n (reverse lits) → opens (reverse lits) ≡ os
    → reverse (at_first os f lits) ≡ first_with f (reverse lits)
unfolding at_first
first-reversed f lits [] n h e = sym (none-first f (reverse lits) e)
first-reversed f lits (a ∷ rest) n h e = number-reverse a.number f lits ∙ number-first f n (reverse lits) a rest h e

first-plain : (f : Literal → Literal) → ((a : Literal) → PlainLiteral a → PlainLiteral (f a)) → (os lits : List Literal) → Each PlainLiteral lits
    → Each PlainLiteral (at_first os f lits)
unfolding at_first
first-plain f k [] lits h = h
first-plain f k (a ∷ rest) lits h = number-plain a.number f k lits h

-- ---- steps of a program whose clauses are plain
module _ (p : Program) (plain : (k : ℕ) (c : Clause) → numbered p.clauses k ≡ Some c → PlainClause c) where
  abbrev cs : List Clause
  cs = p.clauses

  -- ---- a literal that repeats another one

  next-looped : (covers : List Cover) (cases : ℕ) (lits : List Literal) (ls : List Line) (ts : List Task) (l : Lit) (r : Repeated)
      → PlainParts cs covers lits ls ts → l.atom.args ≡ nil → (n : ℕ) → Numbered n (reverse lits) → IsNearest l false (opens (reverse lits)) r
      → Each (Next cs (bare covers cases lits ls (task.Show (flat.Call l) ∷ ts))) (looped (bare covers cases lits ls ts) l r)
  next-looped covers cases lits ls ts l r h e n numbers near = by l.positive r.is_behind_negation refl refl
    where
      s : State
      s = bare covers cases lits ls ts

      one : Line
      one = line.Loop l r.number

      lines : lines_before covers ++ (ls ++ line.Loop l r.number ∷ []) ≡ (lines_before covers ++ ls) ++ line.Loop l near.one.number ∷ []
      lines = more-lines (lines_before covers) ls (line.Loop l r.number) ∙ ap (λ (k : ℕ). (lines_before covers ++ ls) ++ line.Loop l k ∷ []) near.number

      by : (b c : Bool) → l.positive ≡ b → r.is_behind_negation ≡ c
          → Each (Next cs (bare covers cases lits ls (task.Show (flat.Call l) ∷ ts)))
          (if not b then with_line (bare covers cases lits ls ts) (line.Loop l r.number) ∷ []
          else (if c then marked (opens (reverse lits)) (with_line (bare covers cases lits ls ts) (line.Loop l r.number)) ∷ [] else []))
      by false c eb ec = (
        record {
          plain = record { is_bare = refl; parts = with-line cs covers lits ls ts (line.Loop l r.number) e h };
          move = repeats (record {
            lit = l;
            behind = ts;
            work = refl;
            no_argument = e;
            inner = near.inner;
            one = near.one;
            outer = near.outer;
            among = near.among;
            same = near.same;
            crosses = λ q. absurd (cc (q, eb));
            next = λ i. record {
              lines = lines i;
              literals = if sym eb i then first_with looping (reverse lits) else reverse lits;
              work = ts;
            };
          });
        },
        tt,
      )
      by true true eb ec =
          let marks : List Literal = at_first (opens (reverse lits)) looping lits in
          let t : State = bare covers cases marks (ls ++ line.Loop l r.number ∷ []) ts in
          let same : marked (opens (reverse lits)) (with_line (bare covers cases lits ls ts) (line.Loop l r.number)) ≡ t =
          marked-is (opens (reverse lits)) (with_line (bare covers cases lits ls ts) (line.Loop l r.number)) in
          let turned : reverse marks ≡ first_with looping (reverse lits) = first-reversed looping lits (opens (reverse lits)) n numbers refl in
          let parts = with-line cs covers lits ls ts (line.Loop l r.number) e h in
          let now : Next cs (bare covers cases lits ls (task.Show (flat.Call l) ∷ ts)) t =
          record {
            plain = record {
              is_bare = refl;
              parts = record {
                covers = parts.covers;
                literals = first-plain looping looping-plain (opens (reverse lits)) lits h.literals;
                lines = parts.lines;
                work = parts.work;
              };
            };
            move = repeats (record {
              lit = l;
              behind = ts;
              work = refl;
              no_argument = e;
              inner = near.inner;
              one = near.one;
              outer = near.outer;
              among = near.among;
              same = near.same;
              crosses = λ q. sym near.crosses ∙ ec;
              next = (λ i. record { lines = lines i; literals = turned i; work = ts })
                  ∙ (λ i. record {
                    lines = (lines_before covers ++ ls) ++ line.Loop l near.one.number ∷ [];
                    literals = if sym eb i then first_with looping (reverse lits) else reverse lits;
                    work = ts;
                  });
            });
          } in
          (subst (Next cs (bare covers cases lits ls (task.Show (flat.Call l) ∷ ts))) (sym same) now, tt)
      by true false eb ec = tt

  -- ---- a literal that is done

  next-seen : (covers : List Cover) (cases : ℕ) (lits : List Literal) (ls : List Line) (ts : List Task) (l : Lit) (a : Literal)
      → PlainParts cs covers lits ls ts → l.atom.args ≡ nil → Contains lits a → PlainLiteral a → can_be_seen (bare covers cases lits ls ts) l a ≡ true
      → Next cs (bare covers cases lits ls (task.Show (flat.Call l) ∷ ts)) (with_line (bare covers cases lits ls ts) (line.Seen l a.number))
  next-seen covers cases lits ls ts l a h e c k q =
      let s : State = bare covers cases lits ls ts in
      let x = and_parts (a.is_done && is_firm a && is_in_scope s a) (is_same s l a) q in
      let y = and_parts (a.is_done && is_firm a) (is_in_scope s a) x.0 in
      let z = and_parts a.is_done (is_firm a) y.0 in
      record {
        plain = record { is_bare = refl; parts = with-line cs covers lits ls ts (line.Seen l a.number) e h };
        move = sees (record {
          lit = l;
          behind = ts;
          work = refl;
          no_argument = e;
          one = a;
          among = contains-reverse lits a c;
          done = z.0;
          firm = z.1;
          same = same-literal s l a e k x.1;
          next = λ i. record { lines = more-lines (lines_before covers) ls (line.Seen l a.number) i; literals = reverse lits; work = ts };
        });
      }

  -- ---- a literal that is gone into

  new_one : List Cover → List Literal → Lit → Literal
  new_one covers lits l =
      record {
        number = length lits;
        lit = l;
        cases = map (λ (c : Cover). c.case) (filter (λ (c : Cover). not c.plain) covers);
        is_done = false;
        loops = false;
        is_general = false;
      }

  new-literals : (covers : List Cover) (lits : List Literal) (l : Lit) → l.atom.args ≡ nil → Each PlainLiteral lits → Each PlainLiteral (lits ++ new_one covers lits l ∷ [])
  unfolding new_one
  new-literals covers lits l e h = Each-append PlainLiteral lits (new_one covers lits l ∷ []) h (record { no_argument = e; special = refl }, tt)

  -- the state that a rule gives, by how many variables it has, the arguments and the body
  ruled : State → Lit → ℕ → ℕ → Tms → Tms → List FlatItem → State
  ruled s l k n args heads body =
      before (equations args heads ++ map task.Show body ++ task.Leave ∷ [])
      (with_literal (with_line (with_new s Existential (length s.covers) n) (line.Pos l.atom k (new_parts 0 n) (length body))) l)

  pub show-work : (body : List FlatItem) (ts : List Task) → Each IsPlain body → Each (PlainTask cs) ts → (t : Task) → PlainTask cs t
      → Each (PlainTask cs) ((shows body ++ t ∷ []) ++ ts)
  show-work body ts h k t e =
      Each-append (PlainTask cs) (shows body ++ t ∷ []) ts
      (Each-append (PlainTask cs) (shows body) (t ∷ []) (each-of IsPlain (PlainTask cs) task.Show (λ i d. d) body h) (e, tt)) k

  next-ruled : (covers : List Cover) (cases : ℕ) (lits : List Literal) (ls : List Line) (ts : List Task) (l : Lit) (k : ℕ) (heads : Tms) (c : Clause)
      → PlainParts cs covers lits ls ts → l.atom.args ≡ nil → l.positive ≡ true → numbered cs k ≡ Some c → c.head ≡ Some l.atom
      → Next cs (bare covers cases lits ls (task.Show (flat.Call l) ∷ ts)) (ruled (bare covers cases lits ls ts) l k 0 nil heads (flat_body c.body))
  unfolding ruled new_one
  next-ruled covers cases lits ls ts l k heads c h e sign named has =
      let body : List FlatItem = flat_body c.body in
      let one : Line = line.Pos l.atom k nil (length body) in
      let new : Literal = new_one covers lits l in
      record {
        plain = record {
          is_bare = refl;
          parts = record {
            covers = h.covers;
            literals = new-literals covers lits l e h.literals;
            lines = Each-append PlainLine ls (one ∷ []) h.lines ((e, refl), tt);
            work = show-work body ts (plain k c named).body h.work task.Leave tt;
          };
        };
        move = goes_in (record {
          lit = l;
          behind = ts;
          work = refl;
          no_argument = e;
          positive = sign;
          rule = k;
          clause = c;
          named = named;
          head = has;
          one = new;
          new = record { number = sym (length-reversed lits); of = refl; open_yet = refl };
          next = λ i. record {
            lines = more-lines (lines_before covers) ls one i;
            literals = reverse-one lits new i;
            work = append_assoc (shows body) (task.Leave ∷ []) ts i;
          };
        });
      }

  next-rule : (covers : List Cover) (cases : ℕ) (lits : List Literal) (ls : List Line) (ts : List Task) (l : Lit) (k : ℕ)
      → PlainParts cs covers lits ls ts → l.atom.args ≡ nil → l.positive ≡ true → IsRule cs (pred_of l.atom) k
      → Next cs (bare covers cases lits ls (task.Show (flat.Call l) ∷ ts)) (by_rule p (bare covers cases lits ls ts) l k)
  unfolding ruled
  next-rule covers cases lits ls ts l k h e sign rule =
      let c : Clause = rule.clause in
      let s : State = bare covers cases lits ls ts in
      let has : c.head ≡ Some l.atom = by c.head (plain k c rule.named).head rule.rule in
      let vars : vars_of_clause p k ≡ 0 = ap vars_in rule.named ∙ (plain k c rule.named).vars in
      let body : body_of p k 0 ≡ flat_body c.body = ap (λ (o : Option Clause). items_of o 0) rule.named ∙ items-kept 0 (flat_body c.body) (plain k c rule.named).body in
      let same : by_rule p s l k ≡ ruled s l k 0 nil (head_args p k 0) (flat_body c.body) =
      λ i. ruled s l k (vars i) (e i) (head_args p k 0) (body i) in
      subst (Next cs (bare covers cases lits ls (task.Show (flat.Call l) ∷ ts))) (sym same) (next-ruled covers cases lits ls ts l k (head_args p k 0) c h e sign rule.named has)
    where
      by : (o : Option Atom) → ((a : Atom) → o ≡ Some a → a.args ≡ nil) → is_rule_of (pred_of l.atom) (record { head = o; body = rule.clause.body; vars = rule.clause.vars }) ≡ true
          → o ≡ Some l.atom
      by None n q = absurd (cc q)
      by (Some a) n q = ap Some (same-head l.atom a e (n a refl) q)

  next-no-rule : (covers : List Cover) (cases : ℕ) (lits : List Literal) (ls : List Line) (ts : List Task) (l : Lit)
      → PlainParts cs covers lits ls ts → l.atom.args ≡ nil → l.positive ≡ false
      → Next cs (bare covers cases lits ls (task.Show (flat.Call l) ∷ ts)) (by_no_rule p (bare covers cases lits ls ts) l)
  unfolding new_one
  next-no-rule covers cases lits ls ts l h e sign =
      let rules : List ℕ = rules_from 1 cs (pred_of l.atom) in
      let one : Line = line.Neg l.atom (length rules) in
      let new : Literal = new_one covers lits l in
      let work : List Task = map (task.Cover l.atom) rules in
      record {
        plain = record {
          is_bare = refl;
          parts = record {
            covers = h.covers;
            literals = new-literals covers lits l e h.literals;
            lines = Each-append PlainLine ls (one ∷ []) h.lines (e, tt);
            work = Each-append (PlainTask cs) (work ++ task.Leave ∷ []) ts
                (Each-append (PlainTask cs) work (task.Leave ∷ [])
                (each-of (IsRule cs (pred_of l.atom)) (PlainTask cs) (task.Cover l.atom) (λ k r. (e, (r.clause, r.named))) rules (all-rules cs (pred_of l.atom))) (tt, tt)) h.work;
          };
        };
        move = negates (record {
          lit = l;
          behind = ts;
          work = refl;
          no_argument = e;
          negative = sign;
          one = new;
          new = record { number = sym (length-reversed lits); of = refl; open_yet = refl };
          next = λ i. record {
            lines = more-lines (lines_before covers) ls one i;
            literals = reverse-one lits new i;
            work = append_assoc work (task.Leave ∷ []) ts i;
          };
        });
      }

  next-entered : (covers : List Cover) (cases : ℕ) (lits : List Literal) (ls : List Line) (ts : List Task) (l : Lit)
      → PlainParts cs covers lits ls ts → l.atom.args ≡ nil
      → Each (Next cs (bare covers cases lits ls (task.Show (flat.Call l) ∷ ts))) (entered p (bare covers cases lits ls ts) l)
  next-entered covers cases lits ls ts l h e = by l.positive refl
    where
      by : (b : Bool) → l.positive ≡ b
          → Each (Next cs (bare covers cases lits ls (task.Show (flat.Call l) ∷ ts)))
          (if b then map (by_rule p (bare covers cases lits ls ts) l) (rules_of p (pred_of l.atom)) else by_no_rule p (bare covers cases lits ls ts) l ∷ [])
      by true q =
          each-of (IsRule cs (pred_of l.atom)) (Next cs (bare covers cases lits ls (task.Show (flat.Call l) ∷ ts))) (by_rule p (bare covers cases lits ls ts) l)
          (λ k r. next-rule covers cases lits ls ts l k h e q r) (rules_of p (pred_of l.atom)) (all-rules cs (pred_of l.atom))
      by false q = (next-no-rule covers cases lits ls ts l h e q, tt)

  -- ---- a call

  -- an earlier literal of the other sign has the same atom, so that the arguments cannot differ
  clash : Con
  clash = differ (list_term []) (list_term [])

  clash-none : (covers : List Cover) (cases : ℕ) (lits : List Literal) (ls : List Line) (ts : List Task)
      → (assume sat (bare covers cases lits ls ts) clash).states ≡ []
  unfolding clash is_met unifier
  clash-none covers cases lits ls ts = refl

  differing-clash : (l : Lit) (a : Literal) → l.atom.args ≡ nil → a.lit.atom.args ≡ nil → differing l a ≡ clash
  unfolding clash
  differing-clash l a e f = λ i. differ (list_term (items (e i))) (list_term (items (f i)))

  next-unrepeated : (covers : List Cover) (cases : ℕ) (lits : List Literal) (ls : List Line) (ts : List Task) (l : Lit)
      → PlainParts cs covers lits ls ts → l.atom.args ≡ nil
      → (found : List Literal) → filter (can_be_seen (bare covers cases lits ls ts) l) lits ≡ found
      → Each (Next cs (bare covers cases lits ls (task.Show (flat.Call l) ∷ ts))) (unrepeated p sat (bare covers cases lits ls ts) l found).states
  next-unrepeated covers cases lits ls ts l h e [] q =
      by (opposites (bare covers cases lits ls ts) l) (each-opposites (is_free (bare covers cases lits ls ts) l))
    where
      each-opposites : (b : Bool) → Each PlainLiteral (if b then filter (is_opposite (bare covers cases lits ls ts) l) lits else [])
      each-opposites true = Each-filter PlainLiteral (is_opposite (bare covers cases lits ls ts) l) lits h.literals
      each-opposites false = tt

      by : (os : List Literal) → Each PlainLiteral os
          → Each (Next cs (bare covers cases lits ls (task.Show (flat.Call l) ∷ ts)))
          (flat_map (λ (t : State). entered p t l) (assume_all sat (map (differing l) os) (bare covers cases lits ls ts)).states)
      by [] k = Each-append (Next cs (bare covers cases lits ls (task.Show (flat.Call l) ∷ ts))) (entered p (bare covers cases lits ls ts) l) [] (next-entered covers cases lits ls ts l h e) tt
      by (o ∷ os) k =
          let none : (assume sat (bare covers cases lits ls ts) (differing l o)).states ≡ [] =
          ap (λ (c : Con). (assume sat (bare covers cases lits ls ts) c).states) (differing-clash l o e k.0.no_argument) ∙ clash-none covers cases lits ls ts in
          subst (λ (z : List State). Each (Next cs (bare covers cases lits ls (task.Show (flat.Call l) ∷ ts)))
          (flat_map (λ (t : State). entered p t l) (flat_map (λ (t : State). (assume_all sat (map (differing l) os) t).states) z))) (sym none) tt
  next-unrepeated covers cases lits ls ts l h e (a ∷ found) q =
      let among : Contains (filter (can_be_seen (bare covers cases lits ls ts) l) lits) a = subst (λ (z : List Literal). Contains z a) (sym q) (Contains-here a found) in
      let c = Contains-from_filter (can_be_seen (bare covers cases lits ls ts) l) lits a among in
      (next-seen covers cases lits ls ts l a h e c.0 (each-member PlainLiteral lits a c.0 h.literals) c.1, tt)

  pub next-call : (covers : List Cover) (cases : ℕ) (lits : List Literal) (ls : List Line) (ts : List Task) (l : Lit)
      → PlainParts cs covers lits ls ts → l.atom.args ≡ nil → (n : ℕ) → Numbered n (reverse lits)
      → Each (Next cs (bare covers cases lits ls (task.Show (flat.Call l) ∷ ts))) (call p sat (bare covers cases lits ls ts) l).states
  next-call covers cases lits ls ts l h e n numbers = by (nearest (bare covers cases lits ls ts) l false (opens (reverse lits))) refl
    where
      by : (o : Option Repeated) → nearest (bare covers cases lits ls ts) l false (opens (reverse lits)) ≡ o
          → Each (Next cs (bare covers cases lits ls (task.Show (flat.Call l) ∷ ts))) (judged p sat (bare covers cases lits ls ts) l o).states
      by (Some r) q =
          next-looped covers cases lits ls ts l r h e n numbers
          (nearest-is (bare covers cases lits ls ts) l e false (opens (reverse lits)) (Each-filter PlainLiteral is_open (reverse lits) (each-reverse PlainLiteral lits h.literals)) r q)
      by None q = next-unrepeated covers cases lits ls ts l h e (filter (can_be_seen (bare covers cases lits ls ts) l) lits) refl

  -- ---- a rule is covered

  cover_by : State → Atom → ℕ → ℕ → Tms → Tms → State
  cover_by s a k n args heads =
      before (task.Differ (pairs args heads) (aims.Head k 0) ∷ []) (with_line (with_new s Matched 0 n) (line.Rule a k 0))

  pub next-covered : (covers : List Cover) (cases : ℕ) (lits : List Literal) (ls : List Line) (ts : List Task) (a : Atom) (k : ℕ) (c : Clause)
      → PlainParts cs covers lits ls ts → a.args ≡ nil → numbered cs k ≡ Some c
      → Next cs (bare covers cases lits ls (task.Cover a k ∷ ts)) (covered p (bare covers cases lits ls ts) a k)
  unfolding cover_by
  next-covered covers cases lits ls ts a k c h e named =
      let s : State = bare covers cases lits ls ts in
      let one : Line = line.Rule a k 0 in
      let vars : vars_of_clause p k ≡ 0 = ap vars_in named ∙ (plain k c named).vars in
      let same : covered p s a k ≡ cover_by s a k 0 nil (head_args p k 0) = λ i. cover_by s a k (vars i) (e i) (head_args p k 0) in
      let now : Next cs (bare covers cases lits ls (task.Cover a k ∷ ts)) (cover_by s a k 0 nil (head_args p k 0)) =
      record {
        plain = record {
          is_bare = refl;
          parts = record {
            covers = h.covers;
            literals = h.literals;
            lines = Each-append PlainLine ls (one ∷ []) h.lines (e, tt);
            work = ((refl, (c, named)), h.work);
          };
        };
        move = takes_rule (record {
          atom = a;
          rule = k;
          first = 0;
          behind = ts;
          work = refl;
          next = λ i. record {
            lines = more-lines (lines_before covers) ls one i;
            literals = reverse lits;
            work = task.Differ [] (aims.Head k 0) ∷ ts;
          };
        });
      } in
      subst (Next cs (bare covers cases lits ls (task.Cover a k ∷ ts))) (sym same) now

  -- ---- the innermost literal ends

  pub next-left : (covers : List Cover) (cases : ℕ) (lits : List Literal) (ls : List Line) (ts : List Task)
      → PlainParts cs covers lits ls ts → (n : ℕ) → Numbered n (reverse lits)
      → Next cs (bare covers cases lits ls (task.Leave ∷ ts)) (leave_literal (bare covers cases lits ls ts))
  next-left covers cases lits ls ts h n numbers = by (opens (reverse lits)) refl
    where
      -- the state with these literals
      with_literals : (os more : List Literal) → Each PlainLiteral more → opens (reverse lits) ≡ os → reverse more ≡ left_by os (reverse lits)
          → Next cs (bare covers cases lits ls (task.Leave ∷ ts)) (bare covers cases more ls ts)
      with_literals os more k q turned = record {
        plain = record { is_bare = refl; parts = record { covers = h.covers; literals = k; lines = h.lines; work = h.work } };
        move = leaves (record {
          behind = ts;
          work = refl;
          next = λ i. record {
            lines = lines_before covers ++ ls;
            literals = (turned ∙ ap (λ (z : List Literal). left_by z (reverse lits)) (sym q)) i;
            work = ts;
          };
        });
      }

      ended : Literal → List Literal
      ended a = at_number a.number finished lits

      turned : (a : Literal) (rest : List Literal) → opens (reverse lits) ≡ a ∷ rest → reverse (at_number a.number finished lits) ≡ first_with finished (reverse lits)
      turned a rest q = number-reverse a.number finished lits ∙ number-first finished n (reverse lits) a rest numbers q

      done : (a : Literal) → Each PlainLiteral (at_number a.number finished lits)
      done a = number-plain a.number finished finished-plain lits h.literals

      by : (os : List Literal) → opens (reverse lits) ≡ os → Next cs (bare covers cases lits ls (task.Leave ∷ ts)) (left os (bare covers cases lits ls ts))
      by [] q = with_literals [] lits h.literals q refl
      by (a ∷ []) q = with_literals (a ∷ []) (at_number a.number finished lits) (done a) q (turned a [] q)
      by (a ∷ b ∷ rest) q = moves (a.loops && a.lit.positive && b.lit.positive) refl
        where
          moves : (c : Bool) → (a.loops && a.lit.positive && b.lit.positive) ≡ c
              → Next cs (bare covers cases lits ls (task.Leave ∷ ts))
              (if c then marked (b ∷ rest) (bare covers cases (at_number a.number finished lits) ls ts) else bare covers cases (at_number a.number finished lits) ls ts)
          moves true m =
              let lits_done : List Literal = at_number a.number finished lits in
              let back : reverse lits_done ≡ first_with finished (reverse lits) = turned a (b ∷ rest) q in
              let open_now : opens (reverse lits_done) ≡ b ∷ rest =
              ap opens back ∙ opens-finished (reverse lits) ∙ ap (drop 1) q in
              let numbers_now : Numbered n (reverse lits_done) =
              subst (Numbered n) (sym back) (first_with-numbered finished (λ z. refl) n (reverse lits) numbers) in
              with_literals (a ∷ b ∷ rest) (at_number b.number looping lits_done) (number-plain b.number looping looping-plain lits_done (done a)) q
              (number-reverse b.number looping lits_done ∙ number-first looping n (reverse lits_done) b rest numbers_now open_now
              ∙ ap (first_with looping) back
              ∙ sym (ap (λ (z : Bool). if z then first_with looping (first_with finished (reverse lits)) else first_with finished (reverse lits)) m))
          moves false m =
              with_literals (a ∷ b ∷ rest) (at_number a.number finished lits) (done a) q
              (turned a (b ∷ rest) q ∙ sym (ap (λ (z : Bool). if z then first_with looping (first_with finished (reverse lits)) else first_with finished (reverse lits)) m))
