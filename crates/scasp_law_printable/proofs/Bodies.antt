-- Bodies of clauses, lines and literals of states keep within the table.
use Rattle.std.specs.Prelude.{◌≡◌, ℕ, zero, suc, ◌<◌, nat_eq, nat_lt, Bool, true, false, ◌&&◌, if◌then◌else◌, Option, Some, None, List, [], ◌∷◌, ◌++◌, map}
use Rattle.std.proofs.Common.{arith, refl, sym}
use Rattle.std.proofs.lemmas.Bool.{ltb-true}
use Rattle.scasp_checker_rules.specs.PairLists.{con_raised, raised_from}
use Rattle.scasp_checker_rules.proofs.RenamedRows.{renamed-normal}
use Rattle.scasp_list.specs.Each.{Each}
use Rattle.scasp_list.proofs.EachLemmas.{Each-append, Each-at}
use Rattle.scasp_search_rules.specs.declared.states.lines.Line.{Line}
use Rattle.scasp_search_rules.specs.declared.states.lines.Line.TheVariants as line
use Rattle.scasp_search_rules.specs.declared.states.state.Literal.{Literal}
use Rattle.scasp_search_rules.specs.declared.states.state.State.{State}
use Rattle.scasp_search_rules.specs.declared.states.tasks.Task.TheVariants as task
use Rattle.scasp_search_rules.specs.Successors.Calls.{args_in, at_number, finished, left, looping, marked, moved}
use Rattle.scasp_search_rules.specs.Successors.Cases.{failing_at, head_call, kept_literal, line_under}
use Rattle.scasp_search_rules.specs.Successors.Items.{item_raised, items_of, opposite_item}
use Rattle.scasp_search_rules.specs.Successors.Variables.{meaning}
use Rattle.scasp_syntax.specs.Flat.{flat_after, flat_body, number_test, unseen}
use Rattle.scasp_syntax.specs.Instances.{atom_under}
use Rattle.scasp_syntax.specs.Programs.{numbered}
use Rattle.scasp_syntax.specs.Tm.{Tms, var, app, nil, cons, items}
use Rattle.scasp_syntax.specs.Values.{Sub, raised}
use Rattle.scasp_syntax.specs.View.{tm_of}
use Rattle.scasp_syntax.specs.declared.atom.Atom.{Atom}
use Rattle.scasp_syntax.specs.declared.clause.Clause.{Clause}
use Rattle.scasp_syntax.specs.declared.clause.FlatItem.{FlatItem}
use Rattle.scasp_syntax.specs.declared.clause.FlatItem.TheVariants as flat
use Rattle.scasp_syntax.specs.declared.clause.Item.{Item}
use Rattle.scasp_syntax.specs.declared.clause.Item.TheVariants as item
use Rattle.scasp_syntax.specs.declared.con.Con.{Con}
use Rattle.scasp_syntax.specs.declared.con.Con.TheVariants as con
use Rattle.scasp_law_printable.specs.Within.{Within, AllWithin, AtomWithin, ClauseWithin, ConWithin, HeadWithin, ItemWithin}
use Rattle.scasp_law_printable.proofs.Standing.{FlatWithin, Held, LineWithin, LiteralWithin, TaskWithin, reads}
use Rattle.scasp_law_printable.proofs.Terms.{all-under-within, negated-within, read-within, seen, under-within}

none-below : (x : ℕ) → nat_lt x 0 ≡ false
none-below x = by (nat_lt x 0) refl
  where
    by : (b : Bool) → nat_lt x 0 ≡ b → nat_lt x 0 ≡ false
    by true e = let l = ltb-true x 0 e in absurd (omega (arith, l))
    by false e = e

raised-less : (first x y : ℕ) → x < y → raised_from 0 first x < raised_from 0 first y
raised-less first x y l = rw (none-below x, none-below y) (omega (arith, l))

module _ (count : ℕ) where
  -- ---- tasks

  pub shows-within : (is : List FlatItem) → Each (FlatWithin count) is → Each (TaskWithin count) (map task.Show is)
  shows-within [] h = tt
  shows-within (i ∷ is) h = (h.0, shows-within is h.1)

  pub covers-within : (a : Atom) → AtomWithin count a → (ks : List ℕ) → Each (TaskWithin count) (map (task.Cover a) ks)
  covers-within a h [] = tt
  covers-within a h (k ∷ ks) = (h, covers-within a h ks)

  -- ---- bodies

  tests-within : (xs : List ℕ) → Each (FlatWithin count) (map number_test xs)
  tests-within [] = tt
  tests-within (x ∷ xs) = (tt, tests-within xs)

  pub flat-within : (known : List ℕ) (is : List Item) → Each (ItemWithin count) is → Each (FlatWithin count) (flat_after known is)
  flat-within known [] e = tt
  flat-within known (item.Call l ∷ is) e = (e.0, flat-within known is e.1)
  flat-within known (item.Equal t u ∷ is) e = (e.0, flat-within known is e.1)
  flat-within known (item.Differ t u ∷ is) e = (e.0, flat-within known is e.1)
  flat-within known (item.Linear l ∷ is) e =
      Each-append (FlatWithin count) (map number_test (unseen known l.vars)) (flat.Test (con.Row l.row) ∷ flat_after (known ++ l.vars) is)
      (tests-within (unseen known l.vars)) (e.0, flat-within (known ++ l.vars) is e.1)

  pub atom-under-within : (v : Sub) → ((x : ℕ) → Within count (v x)) → (a : Atom) → AtomWithin count a → AtomWithin count (atom_under v a)
  atom-under-within v k a h = under-within count v k (app a.name a.args) h

  con-raised-within : (first : ℕ) (c : Con) → ConWithin count c → ConWithin count (con_raised 0 first c)
  con-raised-within first (con.Eq t u) h = (seen count _ (under-within count (λ x. var (raised_from 0 first x)) (λ x. tt) (tm_of t) h.0), seen count _ (under-within count (λ x. var (raised_from 0 first x)) (λ x. tt) (tm_of u) h.1))
  con-raised-within first (con.Neq t u) h = (seen count _ (under-within count (λ x. var (raised_from 0 first x)) (λ x. tt) (tm_of t) h.0), seen count _ (under-within count (λ x. var (raised_from 0 first x)) (λ x. tt) (tm_of u) h.1))
  con-raised-within first (con.NotShape x f n) h = h
  con-raised-within first (con.Num t) h = seen count _ (under-within count (λ x. var (raised_from 0 first x)) (λ x. tt) (tm_of t) h)
  con-raised-within first (con.NotNum t) h = seen count _ (under-within count (λ x. var (raised_from 0 first x)) (λ x. tt) (tm_of t) h)
  con-raised-within first (con.Row r) h = renamed-normal (raised_from 0 first) (raised-less first) r h

  raised-within : (first : ℕ) (is : List FlatItem) → Each (FlatWithin count) is → Each (FlatWithin count) (map (item_raised first) is)
  raised-within first [] h = tt
  raised-within first (flat.Call l ∷ is) h = (atom-under-within (raised first) (λ x. tt) l.atom h.0, raised-within first is h.1)
  raised-within first (flat.Test c ∷ is) h = (con-raised-within first c h.0, raised-within first is h.1)

  opposite-within : (i : FlatItem) → FlatWithin count i → FlatWithin count (opposite_item i)
  opposite-within (flat.Call l) h = h
  opposite-within (flat.Test c) h = negated-within count 0 c h

  pub failing-within : (k : ℕ) (is : List FlatItem) → Each (FlatWithin count) is → Each (FlatWithin count) (failing_at k is)
  failing-within k [] h = tt
  failing-within zero (i ∷ is) h = (opposite-within i h.0, tt)
  failing-within (suc k) (i ∷ is) h = (h.0, failing-within k is h.1)

  pub numbered-within : (cs : List Clause) → Each (ClauseWithin count) cs → (k : ℕ) (c : Clause) → numbered cs k ≡ Some c → ClauseWithin count c
  numbered-within cs h zero c e = absurd (cc e)
  numbered-within cs h (suc n) c e = Each-at (ClauseWithin count) cs n c h (sym e)

  pub items-within : (o : Option Clause) (first : ℕ) → ((c : Clause) → o ≡ Some c → ClauseWithin count c) → Each (FlatWithin count) (items_of o first)
  items-within None first h = tt
  items-within (Some c) first h = raised-within first (flat_body c.body) (flat-within [] c.body (h c refl).1)

  call-within : (h : Option Atom) (c : Clause) (first : ℕ) → HeadWithin count h → Each (FlatWithin count) (head_call (Some (record c { head = h })) first)
  call-within None c first h = tt
  call-within (Some a) c first h = (atom-under-within (raised first) (λ x. tt) a h, tt)

  pub head-within : (o : Option Clause) (first : ℕ) → ((c : Clause) → o ≡ Some c → ClauseWithin count c) → Each (FlatWithin count) (head_call o first)
  head-within None first h = tt
  head-within (Some c) first h = call-within c.head c first (h c refl).0

  args-in-within : (h : Option Atom) (c : Clause) → HeadWithin count h → AllWithin count (args_in (Some (record c { head = h })))
  args-in-within None c h = tt
  args-in-within (Some a) c h = h.2

  pub args-within : (o : Option Clause) → ((c : Clause) → o ≡ Some c → ClauseWithin count c) → AllWithin count (args_in o)
  args-within None h = tt
  args-within (Some c) h = args-in-within c.head c (h c refl).0

  pub terms-of : (ts : Tms) → AllWithin count ts → Each (Within count) (items ts)
  terms-of nil h = tt
  terms-of (cons t ts) h = (h.0, terms-of ts h.1)

  -- ---- lines

  line-under-within : (s : State) → Held count s → (l : Line) → LineWithin count l → LineWithin count (line_under s l)
  line-under-within s e (line.Test c) h = read-within count (meaning s) (reads count s e) c h
  line-under-within s e (line.Split c parts) h = read-within count (meaning s) (reads count s e) c h
  line-under-within s e (line.Pos a k ts n) h = (atom-under-within (meaning s) (reads count s e) a h.0, all-under-within count (meaning s) (reads count s e) ts h.1)
  line-under-within s e (line.Neg a n) h = atom-under-within (meaning s) (reads count s e) a h
  line-under-within s e (line.Loop l at) h = atom-under-within (meaning s) (reads count s e) l.atom h
  line-under-within s e (line.Seen l at) h = atom-under-within (meaning s) (reads count s e) l.atom h
  line-under-within s e (line.Rule a k first) h = tt
  line-under-within s e (line.Check k first) h = tt
  line-under-within s e line.Void h = tt
  line-under-within s e (line.Leaf k) h = tt
  line-under-within s e (line.Head n) h = tt

  pub lines-under-within : (s : State) → Held count s → (ls : List Line) → Each (LineWithin count) ls → Each (LineWithin count) (map (line_under s) ls)
  lines-under-within s e [] h = tt
  lines-under-within s e (l ∷ ls) h = (line-under-within s e l h.0, lines-under-within s e ls h.1)

  -- ---- literals

  numbers-within : (n : ℕ) (f : Literal → Literal) → ((a : Literal) → LiteralWithin count a → LiteralWithin count (f a)) → (lits : List Literal) → Each (LiteralWithin count) lits → Each (LiteralWithin count) (at_number n f lits)
  numbers-within n f k [] h = tt
  numbers-within n f k (a ∷ lits) h = (by (nat_eq a.number n), numbers-within n f k lits h.1)
    where
      by : (b : Bool) → LiteralWithin count (if b then f a else a)
      by true = k a h.0
      by false = h.0

  pub kept-within : (s : State) → Held count s → (universals : List ℕ) (lits : List Literal) → Each (LiteralWithin count) lits → Each (LiteralWithin count) (map (kept_literal s universals) lits)
  kept-within s e universals [] h = tt
  kept-within s e universals (a ∷ lits) h = (atom-under-within (meaning s) (reads count s e) a.lit.atom h.0, kept-within s e universals lits h.1)

  with-literals : (lits : List Literal) → Each (LiteralWithin count) lits → (s : State) → Held count s → Held count (record s { literals = lits })
  with-literals lits h s e = record { bound = e.bound; given = e.given; covers = e.covers; literals = h; work = e.work; lines = e.lines }

  pub marked-held : (lits : List Literal) (s : State) → Held count s → Held count (marked lits s)
  marked-held [] s e = e
  marked-held (a ∷ rest) s e = with-literals (at_number a.number looping s.literals) (numbers-within a.number looping (λ b h. h) s.literals e.literals) s e

  moved-held : (a : Literal) (bs : List Literal) (s : State) → Held count s → Held count (moved a bs s)
  moved-held a [] s e = e
  moved-held a (b ∷ bs) s e = by (a.loops && a.lit.positive && b.lit.positive)
    where
      by : (d : Bool) → Held count (if d then marked (b ∷ bs) s else s)
      by true = marked-held (b ∷ bs) s e
      by false = e

  pub left-held : (lits : List Literal) (s : State) → Held count s → Held count (left lits s)
  left-held [] s e = e
  left-held (a ∷ rest) s e =
      moved-held a rest (record s { literals = at_number a.number finished s.literals })
      (with-literals (at_number a.number finished s.literals) (numbers-within a.number finished (λ b h. h) s.literals e.literals) s e)
