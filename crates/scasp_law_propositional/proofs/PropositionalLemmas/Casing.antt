-- Cases of plain clauses begin and end by moves.
use Rattle.std.specs.Prelude.{◌≡◌, ℕ, zero, suc, ◌+◌, ◌<◌, nat_eq, Bool, true, false, ◌&&◌, if◌then◌else◌, Option, Some, None, List, [], ◌∷◌, ◌++◌, map, reverse, length}
use Rattle.std.proofs.Common.{◌∙◌, refl, ap, sym, subst, arith, append_assoc}
use Rattle.scasp_hint.specs.Satisfying.{sat}
use Rattle.scasp_list.specs.Each.{Each}
use Rattle.scasp_list.proofs.EachLemmas.{Each-append}
use Rattle.scasp_rows.specs.PlainRows.{is_met}
use Rattle.scasp_search_rules.specs.declared.states.covers.Cover.{Cover}
use Rattle.scasp_search_rules.specs.declared.states.covers.Remainder.{Remainder}
use Rattle.scasp_search_rules.specs.declared.states.lines.Line.{Line}
use Rattle.scasp_search_rules.specs.declared.states.lines.Line.TheVariants as line
use Rattle.scasp_search_rules.specs.declared.states.state.Kind.TheVariants.{Matched}
use Rattle.scasp_search_rules.specs.declared.states.state.Literal.{Literal}
use Rattle.scasp_search_rules.specs.declared.states.state.State.{State}
use Rattle.scasp_search_rules.specs.declared.states.tasks.Aim.TheVariants as aims
use Rattle.scasp_search_rules.specs.declared.states.tasks.Pair.{Pair}
use Rattle.scasp_search_rules.specs.declared.states.tasks.Task.{Task}
use Rattle.scasp_search_rules.specs.declared.states.tasks.Task.TheVariants as task
use Rattle.scasp_search_rules.specs.Successors.Calls.{vars_in, args_in, vars_of_clause, head_args}
use Rattle.scasp_search_rules.specs.Successors.Cases.{failing_at, with_items, leaf_at, head_call, with_head, leaves, cases_where, cover_for, unbound_of, begin_cover, begin_cases, check_clause, line_under, kept_literal, ended_case, after_case, close_case}
use Rattle.scasp_search_rules.specs.Successors.Items.{items_of, body_of, with_line}
use Rattle.scasp_search_rules.specs.Successors.Reading.{count_from}
use Rattle.scasp_search_rules.specs.Successors.Regions.{context, asked_with}
use Rattle.scasp_search_rules.specs.Successors.Search.{done, step_at, step}
use Rattle.scasp_search_rules.specs.Successors.Variables.{with_new}
use Rattle.scasp_syntax.specs.Flat.{flat_body}
use Rattle.scasp_syntax.specs.Instances.{atom_under}
use Rattle.scasp_syntax.specs.Programs.{numbered}
use Rattle.scasp_syntax.specs.Tm.{Tms, nil, items}
use Rattle.scasp_syntax.specs.Values.{raised, all_under}
use Rattle.scasp_syntax.specs.declared.atom.Atom.{Atom}
use Rattle.scasp_syntax.specs.declared.clause.Clause.{Clause}
use Rattle.scasp_syntax.specs.declared.clause.FlatItem.{FlatItem}
use Rattle.scasp_syntax.specs.declared.clause.FlatItem.TheVariants as flat
use Rattle.scasp_syntax.specs.declared.clause.Item.{Item}
use Rattle.scasp_syntax.specs.declared.program.Program.{Program}
use Rattle.scasp_unify.specs.Unification.{unifier}
use Rattle.scasp_law_propositional.proofs.PropositionalLemmas.Plains.{IsPlain, atom-kept, PlainClause, failing-plain}
use Rattle.scasp_law_propositional.proofs.PropositionalLemmas.States.{PlainLine, PlainCover, PlainTask, PlainParts, bare, Plain, items-kept, lines-kept, literals-kept, regions-none}
use Rattle.scasp_law_propositional.proofs.PropositionalLemmas.Steps.{Next, more-lines, show-work, next-call, next-covered, next-left}
use Rattle.scasp_law_propositional.proofs.PropositionalLemmas.Views.{lines_before, Numbered, shows, IsCaseOf, matches, begins, checks_clause, closes}

-- the list without constraints has a valuation
pub nothing-asked : sat [] ≡ true
unfolding is_met unifier
nothing-asked = refl

-- so many numbers from m on
counted : (P : ℕ → Type 0) (m n : ℕ) → ((j : ℕ) → j < m + n → P j) → Each P (count_from m n)
counted P m zero h = tt
counted P m (suc n) h = (h m (omega arith), counted P (suc m) n (λ j e. h j (omega (arith, e))))

each-mapped : {A B : Type 0} (P : B → Type 0) (f : A → B) (xs : List A) → Each (λ (x : A). P (f x)) xs → Each P (map f xs)
each-mapped P f [] h = tt
each-mapped P f (x ∷ xs) h = (h.0, each-mapped P f xs h.1)

-- the cover of a plain clause
cover_of : List Cover → ℕ → List Line → ℕ → ℕ → Bool → Cover
cover_of covers cases ls k first h = record {
  clause = k;
  first = first;
  checks_head = h;
  plain = true;
  depth = suc (length covers);
  case = cases;
  universals = [];
  region = [];
  waiting = [];
  before = ls;
}

-- the state in which a case of this line and these items has begun
begun : List Cover → ℕ → List Literal → List Line → List Task → ℕ → ℕ → Bool → Line → List FlatItem → State
begun covers cases lits ls ts k first h l is =
    bare (cover_of covers cases ls k first h ∷ covers) (suc cases) lits (l ∷ []) ((shows is ++ task.Close ∷ []) ++ ts)

head-kept : (o : Option Atom) (first : ℕ) → ((a : Atom) → o ≡ Some a → a.args ≡ nil) → (a : Atom) → o ≡ Some a → atom_under (raised first) a ≡ a
head-kept o first h a e = atom-kept (raised first) a (h a e)

module _ (p : Program) (plain : (k : ℕ) (c : Clause) → numbered p.clauses k ≡ Some c → PlainClause c) where
  abbrev cs : List Clause
  cs = p.clauses

  -- the alternatives of a case, in the state with its cover
  begin-leaves : (covers : List Cover) (cases : ℕ) (lits : List Literal) (ls : List Line) (ts : List Task) (k first : ℕ) (h : Bool) (c : Clause) (P : State → Type 0)
      → numbered cs k ≡ Some c
      → ((l : Line) (is : List FlatItem) → IsCaseOf h c l is → P (begun covers cases lits ls ts k first h l is))
      → Each P (leaves p (bare (cover_of covers cases ls k first h ∷ covers) (suc cases) lits [] ts) (cover_of covers cases ls k first h))
  unfolding begun cover_of
  begin-leaves covers cases lits ls ts k first h c P named each =
      let body : body_of p k first ≡ flat_body c.body = ap (λ (o : Option Clause). items_of o first) named ∙ items-kept first (flat_body c.body) (plain k c named).body in
      let s : State = bare (cover_of covers cases ls k first h ∷ covers) (suc cases) lits [] ts in
      let Q : List FlatItem → Type 0 = λ is. Each P (map (leaf_at s is) (count_from 0 (length is))) in
      let R : List FlatItem → Type 0 = λ is. Each P (if h then with_head s is (head_call (numbered cs k) first) else []) in
      let H : Option Clause → Type 0 = λ o. Each P (if h then with_head s (flat_body c.body) (head_call o first) else []) in
      Each-append P (map (leaf_at s (body_of p k first)) (count_from 0 (length (body_of p k first)))) (if h then with_head s (body_of p k first) (head_call (numbered cs k) first) else [])
      (subst Q (sym body) (each-mapped P (leaf_at s (flat_body c.body)) (count_from 0 (length (flat_body c.body)))
      (counted (λ j. P (leaf_at s (flat_body c.body) j)) 0 (length (flat_body c.body))
      (λ j less. (let within : j < length (flat_body c.body) = omega (arith, less) in each (line.Leaf (suc j)) (failing_at j (flat_body c.body)) (j, refl, within, refl))))))
      (subst R (sym body) (subst H (sym named) (heads h c.head refl (plain k c named).head each)))
    where
      heads : (b : Bool) (o : Option Atom) → c.head ≡ o → ((a : Atom) → c.head ≡ Some a → a.args ≡ nil)
          → ((l : Line) (is : List FlatItem) → IsCaseOf b c l is → P (begun covers cases lits ls ts k first h l is))
          → Each P (if b then with_head (bare (cover_of covers cases ls k first h ∷ covers) (suc cases) lits [] ts) (flat_body c.body)
          (head_call (Some (record { head = o; body = c.body; vars = c.vars })) first) else [])
      heads false o e n each = tt
      heads true None e n each = tt
      heads true (Some a) e n each =
          let same : atom_under (raised first) a ≡ a = head-kept c.head first n a e in
          let s : State = bare (cover_of covers cases ls k first h ∷ covers) (suc cases) lits [] ts in
          let S : Atom → Type 0 = λ b. P (with_items s (line.Head (suc (length (flat_body c.body)))) (flat_body c.body ++ flat.Call (record { positive = true; atom = b }) ∷ [])) in
          (subst S (sym same) (each (line.Head (suc (length (flat_body c.body)))) (flat_body c.body ++ flat.Call (record { positive = true; atom = a }) ∷ []) (a, refl, e, refl, refl)), tt)

  -- the cover that begins, by how many variables the clause has, its head's arguments and the universals
  cover_by : State → ℕ → ℕ → Bool → ℕ → Tms → List ℕ → Cover
  cover_by s k first h n heads xs = record {
    clause = k;
    first = first;
    checks_head = h;
    plain = nat_eq n 0 && nat_eq (length (items heads)) 0;
    depth = suc (length s.covers);
    case = s.cases;
    universals = xs;
    region = [];
    waiting = [];
    before = s.lines;
  }

  args-none : (o : Option Atom) → ((a : Atom) → o ≡ Some a → a.args ≡ nil) → (b : List Item) (v : ℕ) → args_in (Some (record { head = o; body = b; vars = v })) ≡ nil
  args-none None h b v = refl
  args-none (Some a) h b v = h a refl

  begin-each : (covers : List Cover) (cases : ℕ) (lits : List Literal) (ls : List Line) (ts : List Task) (k first : ℕ) (h : Bool) (c : Clause) (P : State → Type 0)
      → Each PlainCover covers → Each PlainLine ls → numbered cs k ≡ Some c
      → ((l : Line) (is : List FlatItem) → IsCaseOf h c l is → P (begun covers cases lits ls ts k first h l is))
      → Each P (begin_cases p sat (bare covers cases lits ls ts) k first h).states
  unfolding cover_by cover_of
  begin-each covers cases lits ls ts k first h c P cover lines named each =
      let s : State = bare covers cases lits ls ts in
      let vars : vars_of_clause p k ≡ 0 = ap vars_in named ∙ (plain k c named).vars in
      let heads : head_args p k first ≡ nil =
      ap (λ (o : Option Clause). all_under (raised first) (args_in o)) named ∙ ap (all_under (raised first)) (args-none c.head (plain k c named).head c.body c.vars) in
      let xs : unbound_of s first (vars_of_clause p k) ≡ [] = ap (unbound_of s first) vars in
      let same : cover_for p s k first h (unbound_of s first (vars_of_clause p k)) ≡ cover_of covers cases ls k first h =
      λ i. cover_by s k first h (vars i) (heads i) (xs i) in
      let d : Cover = cover_of covers cases ls k first h in
      let t : State = bare (d ∷ covers) (suc cases) lits [] ts in
      let none : asked_with t (context t) ≡ [] = regions-none (d ∷ covers) (record { region = refl; waiting = refl; universals = refl; before = lines }, cover) in
      let yes : sat (asked_with t (context t)) ≡ true = ap sat none ∙ nothing-asked in
      subst (λ (z : Cover). Each P (begin_cover p sat s z).states) (sym same)
      (subst (λ (b : Bool). Each P (cases_where b p t d)) (sym yes) (begin-leaves covers cases lits ls ts k first h c P named each))

  -- ---- the moves

  begun-parts : (covers : List Cover) (cases : ℕ) (lits : List Literal) (ls : List Line) (ts : List Task) (k first : ℕ) (h : Bool) (c : Clause) (l : Line) (is : List FlatItem)
      → PlainParts cs covers lits ls ts → numbered cs k ≡ Some c → IsCaseOf h c l is → Plain cs (begun covers cases lits ls ts k first h l is)
  unfolding begun cover_of
  begun-parts covers cases lits ls ts k first h c l is parts named case = record {
    is_bare = refl;
    parts = record {
      covers = (record { region = refl; waiting = refl; universals = refl; before = parts.lines }, parts.covers);
      literals = parts.literals;
      lines = (case-line h c l is case, tt);
      work = show-work p plain is ts (case-items h l is case) parts.work task.Close tt;
    };
  }
    where
      case-line : (b : Bool) (d : Clause) (m : Line) (js : List FlatItem) → IsCaseOf b d m js → PlainLine m
      case-line b d (line.Leaf n) js q = tt
      case-line b d (line.Head n) js q = tt
      case-line b d m js q = absurd q

      case-items : (b : Bool) (m : Line) (js : List FlatItem) → IsCaseOf b c m js → Each IsPlain js
      case-items b (line.Leaf n) js q = subst (Each IsPlain) (sym q.3) (failing-plain q.0 (flat_body c.body) (plain k c named).body)
      case-items b (line.Head n) js q =
          let one : FlatItem = flat.Call (record { positive = true; atom = q.0 }) in
          subst (Each IsPlain) (sym q.4) (Each-append IsPlain (flat_body c.body) (one ∷ []) (plain k c named).body ((plain k c named).head q.0 q.2, tt))
      case-items b m js q = absurd q

  next-begun : (covers : List Cover) (cases : ℕ) (lits : List Literal) (ls : List Line) (ts : List Task) (k first : ℕ) (c : Clause)
      → PlainParts cs covers lits ls ts → numbered cs k ≡ Some c
      → Each (Next cs (bare covers cases lits ls (task.Begin k first false ∷ ts))) (begin_cases p sat (bare covers cases lits ls ts) k first false).states
  unfolding begun cover_of
  next-begun covers cases lits ls ts k first c h named =
      begin-each covers cases lits ls ts k first false c (Next cs (bare covers cases lits ls (task.Begin k first false ∷ ts))) h.covers h.lines named
      (λ l is case. record {
        plain = begun-parts covers cases lits ls ts k first false c l is h named case;
        move = begins (record {
          rule = k;
          first = first;
          behind = ts;
          work = refl;
          clause = c;
          named = named;
          case = l;
          items = is;
          is_case = case;
          next = λ i. record {
            lines = (lines_before covers ++ ls) ++ l ∷ [];
            literals = reverse lits;
            work = append_assoc (shows is) (task.Close ∷ []) ts i;
          };
        });
      })

  check_by : State → ℕ → Bool → ℕ → List State
  check_by s k h n = (begin_cases p sat (with_line (with_new s Matched 0 n) (line.Check k 0)) k 0 h).states

  next-checked : (covers : List Cover) (cases : ℕ) (lits : List Literal) (ls : List Line) (ts : List Task) (k : ℕ) (h : Bool) (c : Clause)
      → PlainParts cs covers lits ls ts → numbered cs k ≡ Some c
      → Each (Next cs (bare covers cases lits ls (task.Check k h ∷ ts))) (check_clause p sat (bare covers cases lits ls ts) k h).states
  unfolding begun cover_of check_by
  next-checked covers cases lits ls ts k h c parts named =
      let s : State = bare covers cases lits ls ts in
      let one : Line = line.Check k 0 in
      let vars : vars_of_clause p k ≡ 0 = ap vars_in named ∙ (plain k c named).vars in
      let same : (check_clause p sat s k h).states ≡ check_by s k h 0 = ap (check_by s k h) vars in
      let lines : Each PlainLine (ls ++ one ∷ []) = Each-append PlainLine ls (one ∷ []) parts.lines (tt, tt) in
      let more : PlainParts cs covers lits (ls ++ one ∷ []) ts = record { covers = parts.covers; literals = parts.literals; lines = lines; work = parts.work } in
      subst (Each (Next cs (bare covers cases lits ls (task.Check k h ∷ ts)))) (sym same)
      (begin-each covers cases lits (ls ++ one ∷ []) ts k 0 h c (Next cs (bare covers cases lits ls (task.Check k h ∷ ts))) parts.covers lines named
      (λ l is case. record {
        plain = begun-parts covers cases lits (ls ++ one ∷ []) ts k 0 h c l is more named case;
        move = checks_clause (record {
          rule = k;
          checks_head = h;
          first = 0;
          behind = ts;
          work = refl;
          clause = c;
          named = named;
          case = l;
          items = is;
          is_case = for-check h l is case;
          next = λ i. record {
            lines = more-lines (lines_before covers) ls one i ++ l ∷ [];
            literals = reverse lits;
            work = append_assoc (shows is) (task.Close ∷ []) ts i;
          };
        });
      }))
    where
      for-check : (b : Bool) (l : Line) (is : List FlatItem) → IsCaseOf b c l is → IsCaseOf true c l is
      for-check b (line.Leaf n) is q = q
      for-check b (line.Head n) is q = (q.0, refl, q.2, q.3, q.4)
      for-check b l is q = absurd q

  next-closed : (covers : List Cover) (cases : ℕ) (lits : List Literal) (ls : List Line) (ts : List Task)
      → PlainParts cs covers lits ls ts
      → Each (Next cs (bare covers cases lits ls (task.Close ∷ ts))) (close_case p sat (bare covers cases lits ls ts) covers).states
  next-closed [] cases lits ls ts h = tt
  next-closed (d ∷ covers) cases lits ls ts h =
      let s : State = bare (d ∷ covers) cases lits ls ts in
      let c = h.covers.0 in
      let kept : map (kept_literal s d.universals) lits ≡ lits = literals-kept s d.universals lits h.literals in
      let lines : map (line_under s) ls ≡ ls = lines-kept s ls h.lines in
      let t : State = bare covers cases lits (d.before ++ ls) ts in
      let same : record (ended_case s d []) { covers = covers } ≡ t =
      λ i. record { made = []; bound = []; given = []; covers = covers; cases = cases; literals = kept i; lines = d.before ++ lines i; work = ts } in
      subst (λ (z : List Remainder). Each (Next cs (bare (d ∷ covers) cases lits ls (task.Close ∷ ts))) (after_case p sat s d covers z).states) (sym c.waiting) (
        subst (Next cs (bare (d ∷ covers) cases lits ls (task.Close ∷ ts))) (sym same) (record {
          plain = record {
            is_bare = refl;
            parts = record { covers = h.covers.1; literals = h.literals; lines = Each-append PlainLine d.before ls c.before h.lines; work = h.work };
          };
          move = closes (record {
            behind = ts;
            work = refl;
            next = λ i. record { lines = sym (append_assoc (lines_before covers) d.before ls) i; literals = reverse lits; work = ts };
          });
        }),
        tt,
      )

  done-next : (covers : List Cover) (cases : ℕ) (lits : List Literal) (ls : List Line) (ts : List Task) (t : Task) → PlainTask cs t → PlainParts cs covers lits ls ts
      → (n : ℕ) → Numbered n (reverse lits)
      → Each (Next cs (bare covers cases lits ls (t ∷ ts))) (done p sat (bare covers cases lits ls ts) t).states
  done-next covers cases lits ls ts (task.Show (flat.Call l)) e h n k = next-call p plain covers cases lits ls ts l h e n k
  done-next covers cases lits ls ts (task.Show (flat.Test c)) e h n k = absurd e
  done-next covers cases lits ls ts (task.Cover a r) e h n k = (next-covered p plain covers cases lits ls ts a r e.1.0 h e.0 e.1.1, tt)
  done-next covers cases lits ls ts (task.Differ ps (aims.Head r first)) e h n k =
      subst (λ (z : List Pair). Each (Next cs (bare covers cases lits ls (task.Differ z (aims.Head r first) ∷ ts)))
      (done p sat (bare covers cases lits ls ts) (task.Differ z (aims.Head r first))).states) (sym e.0) (
        record {
          plain = record {
            is_bare = refl;
            parts = record { covers = h.covers; literals = h.literals; lines = h.lines; work = ((refl, e.1), h.work) };
          };
          move = matches (record { rule = r; first = first; behind = ts; work = refl; next = refl });
        },
        tt,
      )
  done-next covers cases lits ls ts (task.Begin r first b) e h n k =
      subst (λ (z : Bool). Each (Next cs (bare covers cases lits ls (task.Begin r first z ∷ ts)))
      (done p sat (bare covers cases lits ls ts) (task.Begin r first z)).states) (sym e.0) (next-begun covers cases lits ls ts r first e.1.0 h e.1.1)
  done-next covers cases lits ls ts (task.Check r b) e h n k = next-checked covers cases lits ls ts r b e.0 h e.1
  done-next covers cases lits ls ts task.Leave e h n k = (next-left p plain covers cases lits ls ts h n k, tt)
  done-next covers cases lits ls ts task.Close e h n k = next-closed covers cases lits ls ts h
  done-next covers cases lits ls ts t e h n k = absurd e

  step-bare : (covers : List Cover) (cases : ℕ) (lits : List Literal) (ls : List Line) (ts : List Task) → PlainParts cs covers lits ls ts
      → (n : ℕ) → Numbered n (reverse lits) → Each (Next cs (bare covers cases lits ls ts)) (step_at p sat (bare covers cases lits ls ts) ts).states
  step-bare covers cases lits ls [] h n k = tt
  step-bare covers cases lits ls (t ∷ ts) h n k =
      done-next covers cases lits ls ts t h.work.0 (record { covers = h.covers; literals = h.literals; lines = h.lines; work = h.work.1 }) n k

  -- each state behind a plain one is plain, and comes by a move
  pub step-next : (s : State) → Plain cs s → (n : ℕ) → Numbered n (reverse s.literals) → Each (Next cs s) (step p sat s).states
  step-next s h n k =
      let t : State = bare s.covers s.cases s.literals s.lines s.work in
      subst (λ (z : State). Each (Next cs z) (step p sat z).states) (sym h.is_bare) (step-bare s.covers s.cases s.literals s.lines s.work h.parts n k)
