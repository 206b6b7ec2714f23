-- States within a table: all terms, constraints and literals of which they speak. What is assumed, and what a case is parted by, keeps this.
use Rattle.std.specs.Prelude.{◌≡◌, ℕ, zero, suc, ◌<◌, ◌^◌, nat_eq, Bool, true, false, if◌then◌else◌, Option, Some, None, List, [], ◌∷◌, ◌++◌, map, ⊤}
use Rattle.std.specs.List.{fold}
use Rattle.scasp_list.specs.Each.{Each}
use Rattle.scasp_list.proofs.EachLemmas.{Each-append}
use Rattle.scasp_law_program_text.specs.CompoundReadback.Fitting.{number_fits}
use Rattle.scasp_num.proofs.NormalForms.{negation-IsNormal}
use Rattle.scasp_search_rules.specs.declared.states.covers.Cover.{Cover}
use Rattle.scasp_search_rules.specs.declared.states.covers.Remainder.{Remainder}
use Rattle.scasp_search_rules.specs.declared.states.lines.Line.{Line}
use Rattle.scasp_search_rules.specs.declared.states.lines.Line.TheVariants as line
use Rattle.scasp_search_rules.specs.declared.states.outcomes.Parting.{Parting}
use Rattle.scasp_search_rules.specs.declared.states.outcomes.Status.{Status}
use Rattle.scasp_search_rules.specs.declared.states.outcomes.Status.TheVariants.{Entailed, Impossible, Added, Parts}
use Rattle.scasp_search_rules.specs.declared.states.state.Literal.{Literal}
use Rattle.scasp_search_rules.specs.declared.states.state.State.{State}
use Rattle.scasp_search_rules.specs.declared.states.tasks.Task.{Task}
use Rattle.scasp_search_rules.specs.declared.states.tasks.Task.TheVariants as task
use Rattle.scasp_search_rules.specs.Successors.Assumptions.{as_read, assume, assume_all, performed, status}
use Rattle.scasp_search_rules.specs.Successors.Reading.{con_under}
use Rattle.scasp_search_rules.specs.Successors.Splits.{at_depth, bound_by, cover_parted, equation_parting, is_number_by, numbered_to, owner, parted, replacement, replacement_by, shape_line, split_at, split_by}
use Rattle.scasp_search_rules.specs.Successors.Variables.{depth_of, is_universal, meaning, next_variable}
use Rattle.scasp_syntax.specs.Tm.{app}
use Rattle.scasp_syntax.specs.View.{tm_of}
use Rattle.scasp_syntax.specs.declared.clause.FlatItem.{FlatItem}
use Rattle.scasp_syntax.specs.declared.clause.FlatItem.TheVariants as flat
use Rattle.scasp_syntax.specs.declared.con.Con.{Con}
use Rattle.scasp_syntax.specs.declared.con.Con.TheVariants as con
use Rattle.scasp_syntax.specs.declared.term.Term.{Term}
use Rattle.scasp_syntax.specs.declared.term.Term.TheVariants.{Var, Num, App}
use Rattle.scasp_unify.specs.Negations.{new_parts}
use Rattle.scasp_unify.specs.declared.bindings.Binding.{Binding}
use Rattle.scasp_law_outcomes.proofs.Standing.{each-followed}
use Rattle.scasp_law_printable.specs.Within.{Within, AllWithin, AtomWithin, ConWithin}
use Rattle.scasp_law_printable.proofs.Terms.{BindingWithin, PairWithin, bindings-within, read-within, shape-within, simple-within}

-- ---- states

abbrev pub LineWithin : ℕ → Line → Type 0
LineWithin count (line.Pos a k ts n) = AtomWithin count a × AllWithin count ts
LineWithin count (line.Neg a n) = AtomWithin count a
LineWithin count (line.Loop l at) = AtomWithin count l.atom
LineWithin count (line.Seen l at) = AtomWithin count l.atom
LineWithin count (line.Test c) = ConWithin count c
LineWithin count (line.Split c parts) = ConWithin count c
LineWithin count (line.Rule a k first) = ⊤
LineWithin count (line.Check k first) = ⊤
LineWithin count line.Void = ⊤
LineWithin count (line.Leaf k) = ⊤
LineWithin count (line.Head n) = ⊤

abbrev pub EquationWithin : ℕ → Option Binding → Type 0
EquationWithin count None = ⊤
EquationWithin count (Some b) = Within count (tm_of b.term)

abbrev pub RemainderWithin : ℕ → Remainder → Type 0
RemainderWithin count r = Each (ConWithin count) r.region × EquationWithin count r.equation

abbrev pub CoverWithin : ℕ → Cover → Type 0
CoverWithin count c = Each (ConWithin count) c.region × Each (RemainderWithin count) c.waiting × Each (LineWithin count) c.before

abbrev pub LiteralWithin : ℕ → Literal → Type 0
LiteralWithin count a = AtomWithin count a.lit.atom

abbrev pub FlatWithin : ℕ → FlatItem → Type 0
FlatWithin count (flat.Call l) = AtomWithin count l.atom
FlatWithin count (flat.Test c) = ConWithin count c

abbrev pub TaskWithin : ℕ → Task → Type 0
TaskWithin count (task.Show i) = FlatWithin count i
TaskWithin count (task.Equate t u) = Within count (tm_of t) × Within count (tm_of u)
TaskWithin count (task.Assume c) = ConWithin count c
TaskWithin count (task.Differ ps aim) = Each (PairWithin count) ps
TaskWithin count (task.Become x t ps aim) = Within count (tm_of t) × Each (PairWithin count) ps
TaskWithin count (task.Avoid x q ps aim) = (number_fits q ≡ true) × Each (PairWithin count) ps
TaskWithin count (task.Shape x f ts ps aim) = Within count (app f ts) × Each (PairWithin count) ps
TaskWithin count (task.Cover a k) = AtomWithin count a
TaskWithin count (task.Check k checks_head) = ⊤
TaskWithin count (task.Begin k first checks_head) = ⊤
TaskWithin count task.Void = ⊤
TaskWithin count task.Leave = ⊤
TaskWithin count task.Close = ⊤

pub record HeldAt (count : ℕ) (bs : List Binding) (gs : List Con) (cs : List Cover) (lits : List Literal) (ws : List Task) (ls : List Line) : Type 0 where
  pub bound : Each (BindingWithin count) bs
  pub given : Each (ConWithin count) gs
  pub covers : Each (CoverWithin count) cs
  pub literals : Each (LiteralWithin count) lits
  pub work : Each (TaskWithin count) ws
  pub lines : Each (LineWithin count) ls

-- all that the state speaks of
abbrev pub Held : ℕ → State → Type 0
Held count s = HeldAt count s.bound s.given s.covers s.literals s.work s.lines

module _ (count : ℕ) where
  pub front : (ts : List Task) → Each (TaskWithin count) ts → (bs : List Binding) (gs : List Con) (cs : List Cover) (lits : List Literal) (ws : List Task) (ls : List Line)
      → HeldAt count bs gs cs lits ws ls → HeldAt count bs gs cs lits (ts ++ ws) ls
  front ts h bs gs cs lits ws ls e = record { bound = e.bound; given = e.given; covers = e.covers; literals = e.literals; work = Each-append (TaskWithin count) ts ws h e.work; lines = e.lines }

  pub lined : (l : Line) → LineWithin count l → (bs : List Binding) (gs : List Con) (cs : List Cover) (lits : List Literal) (ws : List Task) (ls : List Line)
      → HeldAt count bs gs cs lits ws ls → HeldAt count bs gs cs lits ws (ls ++ l ∷ [])
  lined l h bs gs cs lits ws ls e = record { bound = e.bound; given = e.given; covers = e.covers; literals = e.literals; work = e.work; lines = Each-append (LineWithin count) ls (l ∷ []) e.lines (h, tt) }

  pub bound-one : (b : Binding) → BindingWithin count b → (bs : List Binding) (gs : List Con) (cs : List Cover) (lits : List Literal) (ws : List Task) (ls : List Line)
      → HeldAt count bs gs cs lits ws ls → HeldAt count (bs ++ b ∷ []) gs cs lits ws ls
  bound-one b h bs gs cs lits ws ls e = record { bound = Each-append (BindingWithin count) bs (b ∷ []) e.bound (h, tt); given = e.given; covers = e.covers; literals = e.literals; work = e.work; lines = e.lines }

  given-one : (c : Con) → ConWithin count c → (s : State) → Held count s → Held count (record s { given = s.given ++ c ∷ [] })
  given-one c h s e = record { bound = e.bound; given = Each-append (ConWithin count) s.given (c ∷ []) e.given (h, tt); covers = e.covers; literals = e.literals; work = e.work; lines = e.lines }

  -- what the variables stand for
  pub reads : (s : State) → Held count s → (x : ℕ) → Within count (meaning s x)
  reads s e = bindings-within count s.bound e.bound

  -- ---- splits

  abbrev PartingWithin : Parting → Type 0
  PartingWithin p = ConWithin count p.here × ConWithin count p.there × ConWithin count p.line

  equation-parted : (t u : Term) → Within count (tm_of t) → Within count (tm_of u) → PartingWithin (equation_parting t u)
  equation-parted (Var x) (App f ts) h k = ((tt, k), (k.0, k.1), (tt, k))
  equation-parted (Var x) (Var y) h k = ((tt, tt), (tt, tt), (tt, tt))
  equation-parted (Var x) (Num q) h k = ((tt, k), (tt, k), (tt, k))
  equation-parted (Num q) t h k = ((h, k), (h, k), (h, k))
  equation-parted (App f ts) t h k = ((h, k), (h, k), (h, k))

  shape-lined : (x f k n : ℕ) → f < count → n < 2 ^ 64 → ConWithin count (shape_line x f n (new_parts k n))
  shape-lined x f k zero h l = (h, l)
  shape-lined x f k (suc n) h l = (tt, shape-within count f k (suc n) h l)

  parted-within : (k : ℕ) (c : Con) → ConWithin count c → PartingWithin (parted k c)
  parted-within k (con.Row r) n = (n, negation-IsNormal r n, n)
  parted-within k (con.Eq t u) n = equation-parted t u n.0 n.1
  parted-within k (con.NotShape x f j) n = (n, (tt, shape-within count f k j n.0 n.1), shape-lined x f k j n.0 n.1)
  parted-within k (con.Neq t u) n = (n, n, n)
  parted-within k (con.Num t) n = (n, n, n)
  parted-within k (con.NotNum t) n = (n, n, n)

  replaced-term : (t u : Term) → Within count (tm_of u) → EquationWithin count (replacement_by t u)
  replaced-term (Var x) u h = h
  replaced-term (Num q) u h = tt
  replaced-term (App f ts) u h = tt

  replaced-within : (c : Con) → ConWithin count c → EquationWithin count (replacement c)
  replaced-within (con.Eq t u) h = replaced-term t u h.1
  replaced-within (con.Neq t u) h = tt
  replaced-within (con.NotShape x f n) h = tt
  replaced-within (con.Num t) h = tt
  replaced-within (con.NotNum t) h = tt
  replaced-within (con.Row r) h = tt

  bound-within : (o : Option Binding) → EquationWithin count o → Each (BindingWithin count) (bound_by o)
  bound-within None h = tt
  bound-within (Some b) h = (h, tt)

  parted-covers : (p : Parting) → PartingWithin p → (bound : List Binding) (d : ℕ) (cs : List Cover) → Each (CoverWithin count) cs → Each (CoverWithin count) (at_depth d (cover_parted p bound) cs)
  parted-covers p n bound d [] h = tt
  parted-covers p n bound d (c ∷ cs) h = (by (nat_eq c.depth d), parted-covers p n bound d cs h.1)
    where
      by : (b : Bool) → CoverWithin count (if b then cover_parted p bound c else c)
      by true = (
        Each-append (ConWithin count) c.region (p.here ∷ []) h.0.0 (n.0, tt),
        ((Each-append (ConWithin count) c.region (p.there ∷ []) h.0.0 (n.1, tt), replaced-within p.there n.1), h.0.1),
        Each-append (LineWithin count) c.before (line.Split p.line (p.parts_here ++ p.parts_there) ∷ []) h.0.2 (n.2, tt),
      )
      by false = h.0

  pub split-at-held : (s : State) (d : ℕ) (c : Con) → ConWithin count c → Held count s → Held count (split_at s d c)
  split-at-held s d c n e = record {
    bound = Each-append (BindingWithin count) s.bound (bound_by (replacement c)) e.bound (bound-within (replacement c) (replaced-within c n));
    given = e.given;
    covers = parted-covers (parted (next_variable s) c) (parted-within (next_variable s) c n) s.bound d s.covers e.covers;
    literals = e.literals;
    work = e.work;
    lines = e.lines;
  }

  numbered-held : (d : ℕ) (s : State) (x : ℕ) → Held count s → Held count (numbered_to d s x)
  numbered-held d s x e = by (is_number_by s d x) (is_universal s x)
    where
      by : (known owned : Bool) → Held count (if known then s else (if owned then split_at s (depth_of s x) (con.Num (Var x)) else record s { given = s.given ++ con.Num (Var x) ∷ [] }))
      by true owned = e
      by false true = split-at-held s (depth_of s x) (con.Num (Var x)) tt e
      by false false = given-one (con.Num (Var x)) tt s e

  all-numbered-held : (d : ℕ) (xs : List ℕ) (s : State) → Held count s → Held count (fold (numbered_to d) s xs)
  all-numbered-held d [] s e = e
  all-numbered-held d (x ∷ xs) s e = all-numbered-held d xs (numbered_to d s x) (numbered-held d s x e)

  split-by-held : (s : State) (d : ℕ) (c : Con) → ConWithin count c → Held count s → Held count (split_by s d c)
  split-by-held s d (con.Row r) n e =
      let xs : List ℕ = map (λ k. k.x) r.coeffs in
      split-at-held (fold (numbered_to d) s xs) d (con.Row r) n (all-numbered-held d xs s e)
  split-by-held s d (con.Eq t u) n e = split-at-held s d (con.Eq t u) n e
  split-by-held s d (con.Neq t u) n e = split-at-held s d (con.Neq t u) n e
  split-by-held s d (con.NotShape x f k) n e = split-at-held s d (con.NotShape x f k) n e
  split-by-held s d (con.Num t) n e = split-at-held s d (con.Num t) n e
  split-by-held s d (con.NotNum t) n e = split-at-held s d (con.NotNum t) n e

-- ---- assuming

module _ (count : ℕ) (two : 1 < count) where
  pub as-read-within : (s : State) → Held count s → (c : Con) → ConWithin count c → ConWithin count (as_read s c)
  as-read-within s e c n = simple-within count two (con_under (meaning s) c) (read-within count (meaning s) (reads count s e) c n)

  performed-held : (s : State) → Held count s → (c : Con) → ConWithin count c → (o : Status) → Each (Held count) (performed s c o)
  performed-held s e c n Entailed = (e, tt)
  performed-held s e c n Impossible = tt
  performed-held s e c n Added = (given-one count c n s e, tt)
  performed-held s e c n Parts = (split-by-held count s (owner s c) c n e, tt)

  pub assumed-held : (sat : List Con → Bool) (s : State) → Held count s → (c : Con) → ConWithin count c → Each (Held count) (assume sat s c).states
  assumed-held sat s e c n = performed-held s e (as_read s c) (as-read-within s e c n) (status sat s c)

  pub all-assumed-held : (sat : List Con → Bool) (cs : List Con) → Each (ConWithin count) cs → (s : State) → Held count s → Each (Held count) (assume_all sat cs s).states
  all-assumed-held sat [] n s e = (e, tt)
  all-assumed-held sat (c ∷ cs) n s e =
      each-followed (Held count) (assume_all sat cs) (λ r k. all-assumed-held sat cs n.1 r k) (assume sat s c).states (assumed-held sat s e c n.0)
