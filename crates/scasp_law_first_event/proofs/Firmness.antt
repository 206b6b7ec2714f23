-- Variables that are of a kind, and variables that are bound. Terms of a state speak of these alone, but for the heads that are being matched.
use Rattle.std.specs.Prelude.{◌≡◌, ◌⊎◌, ◌≢◌, ℕ, ◌+◌, ◌<◌, ◌≤◌, Bool, true, false, Option, Some, None, List, length, slice_get, ⊤}
use Rattle.std.proofs.Common.{arith, sym, ◌∙◌, inl, inr}
use Rattle.std.proofs.lemmas.Bool.{true≢false}
use Rattle.scasp_list.specs.Each.{Each}
use Rattle.scasp_list.proofs.EachLemmas.{Each-map}
use Rattle.scasp_search_rules.specs.declared.states.covers.Cover.{Cover}
use Rattle.scasp_search_rules.specs.declared.states.covers.Remainder.{Remainder}
use Rattle.scasp_search_rules.specs.declared.states.state.Literal.{Literal}
use Rattle.scasp_search_rules.specs.declared.states.state.Made.{Made}
use Rattle.scasp_search_rules.specs.declared.states.state.State.{State}
use Rattle.scasp_search_rules.specs.declared.states.tasks.Aim.{Aim}
use Rattle.scasp_search_rules.specs.declared.states.tasks.Pair.{Pair}
use Rattle.scasp_search_rules.specs.declared.states.tasks.Task.{Task}
use Rattle.scasp_search_rules.specs.declared.states.tasks.Task.TheVariants as task
use Rattle.scasp_search_rules.specs.Successors.Calls.{vars_of_clause}
use Rattle.scasp_search_rules.specs.Successors.Splits.{is_bound_in}
use Rattle.scasp_search_rules.specs.Successors.Variables.{made_or, meaning, is_kind_matched}
use Rattle.scasp_syntax.specs.Tm.{Tm, Tms}
use Rattle.scasp_syntax.specs.Values.{under}
use Rattle.scasp_syntax.specs.View.{tm_of}
use Rattle.scasp_syntax.specs.declared.clause.FlatItem.{FlatItem}
use Rattle.scasp_syntax.specs.declared.clause.FlatItem.TheVariants as flat
use Rattle.scasp_syntax.specs.declared.con.Con.{Con}
use Rattle.scasp_syntax.specs.declared.con.Con.TheVariants as con
use Rattle.scasp_syntax.specs.declared.program.Program.{Program}
use Rattle.scasp_syntax.specs.declared.term.Term.{Term}
use Rattle.scasp_syntax.specs.declared.term.Term.TheVariants.{Var, Num, App}
use Rattle.scasp_unify.specs.declared.bindings.Binding.{Binding}
use Rattle.scasp_law_first_event.proofs.Bindings.{Solved, Free, read-keeps, read-free}
use Rattle.scasp_law_first_event.proofs.Fitting.{TermBelow, ArgsBelow, AimBelow, ConEach, ItemEach, aim-more, test-weaker}
use Rattle.scasp_law_first_event.proofs.Terms.{EachVar, EachVars, each-weaker, each-both, all-weaker}

-- a variable of a rule whose head is being matched, or was
abbrev pub loose_in : List Made → ℕ → Bool
loose_in made z = is_kind_matched (made_or (slice_get made z)).kind

abbrev pub is_loose : State → ℕ → Bool
is_loose s z = loose_in s.made z

-- the variable was made, and is existential or universal
abbrev pub KindedIn : List Made → ℕ → Type 0
KindedIn made z = (z < length made) × (loose_in made z ≡ false)

abbrev pub Kinded : State → ℕ → Type 0
Kinded s = KindedIn s.made

-- or it is bound
abbrev pub FirmIn : List Made → List Binding → ℕ → Type 0
FirmIn made bound z = (z < length made) × ((loose_in made z ≡ false) ⊎ (is_bound_in bound z ≡ true))

abbrev pub Firm : State → ℕ → Type 0
Firm s = FirmIn s.made s.bound

pub kinded-firm : (s : State) (z : ℕ) → Kinded s z → Firm s z
kinded-firm s z k = (k.0, inl k.1)

abbrev pub TermFirm : State → Tm → Type 0
TermFirm s = EachVar (Firm s)

abbrev pub ArgsFirm : State → Tms → Type 0
ArgsFirm s = EachVars (Firm s)

-- ---- what a state speaks of

abbrev pub ConFirm : State → Con → Type 0
ConFirm s = ConEach (Firm s)

-- equations are made, and not assumed
abbrev pub AssumedEach : (ℕ → Type 0) → Con → Type 0
AssumedEach G (con.Eq t u) = ⊥
AssumedEach G (con.Neq t u) = EachVar G (tm_of t) × EachVar G (tm_of u)
AssumedEach G (con.NotShape x f k) = G x
AssumedEach G (con.Num t) = ⊤
AssumedEach G (con.NotNum t) = ⊤
AssumedEach G (con.Row r) = ⊤

abbrev pub AssumedFirm : State → Con → Type 0
AssumedFirm s = AssumedEach (Firm s)

abbrev pub ItemFirm : State → FlatItem → Type 0
ItemFirm s = ItemEach (Firm s)

-- the first side; the second one may be of the head
abbrev pub PairIn : List Made → List Binding → Pair → Type 0
PairIn made bound o = EachVar (FirmIn made bound) (tm_of o.left) × TermBelow (length made) (tm_of o.right)

abbrev pub PairsIn : List Made → List Binding → List Pair → Type 0
PairsIn made bound ps = Each (PairIn made bound) ps

abbrev pub PairFirm : State → Pair → Type 0
PairFirm s = PairIn s.made s.bound

abbrev pub PairsFirm : State → List Pair → Type 0
PairsFirm s = PairsIn s.made s.bound

abbrev pub EquationEach : (ℕ → Type 0) → Option Binding → Type 0
EquationEach G None = ⊤
EquationEach G (Some b) = EachVar G (tm_of b.term)

abbrev pub EquationFirm : State → Option Binding → Type 0
EquationFirm s = EquationEach (Firm s)

abbrev pub LiteralIn : List Made → List Binding → Literal → Type 0
LiteralIn made bound a = EachVars (FirmIn made bound) a.lit.atom.args

abbrev pub LiteralFirm : State → Literal → Type 0
LiteralFirm s = LiteralIn s.made s.bound

abbrev pub BindingIn : List Made → Binding → Type 0
BindingIn made b = EachVar (KindedIn made) (tm_of b.term)

abbrev pub BindingFirm : State → Binding → Type 0
BindingFirm s = BindingIn s.made

abbrev pub RemainderIn : List Made → List Binding → Remainder → Type 0
RemainderIn made bound r = Each (KindedIn made) r.universals × EquationEach (FirmIn made bound) r.equation

abbrev pub RemainderFirm : State → Remainder → Type 0
RemainderFirm s = RemainderIn s.made s.bound

-- what a variable is to become
abbrev pub Becomes : (ℕ → Type 0) → ℕ → Term → Type 0
Becomes K x (Var y) = K x × K y × (x ≢ y)
Becomes K x (Num q) = ⊤
Becomes K x (App f ts) = ⊥

module _ (p : Program) where
  -- the variables of the clause, from this one on
  abbrev pub ClauseIn : List Made → List Binding → ℕ → ℕ → Type 0
  ClauseIn made bound k first = (z : ℕ) → first ≤ z → z < first + vars_of_clause p k → FirmIn made bound z

  abbrev pub ClauseFirm : State → ℕ → ℕ → Type 0
  ClauseFirm s = ClauseIn s.made s.bound

  abbrev pub CoverIn : List Made → List Binding → Cover → Type 0
  CoverIn made bound c = Each (KindedIn made) c.universals × ClauseIn made bound c.clause c.first × Each (RemainderIn made bound) c.waiting

  abbrev pub CoverFirm : State → Cover → Type 0
  CoverFirm s = CoverIn s.made s.bound

  -- what a task speaks of, where so many variables were made
  abbrev pub TaskIn : List Made → List Binding → Task → Type 0
  TaskIn made bound (task.Show i) = ItemEach (FirmIn made bound) i
  TaskIn made bound (task.Equate t u) = EachVar (FirmIn made bound) (tm_of t) × EachVar (FirmIn made bound) (tm_of u)
  TaskIn made bound (task.Assume c) = AssumedEach (FirmIn made bound) c
  TaskIn made bound (task.Differ ps aim) = PairsIn made bound ps × AimBelow p (length made) aim
  TaskIn made bound (task.Become x t ps aim) = Becomes (KindedIn made) x t × PairsIn made bound ps × AimBelow p (length made) aim
  TaskIn made bound (task.Avoid x q ps aim) = FirmIn made bound x × PairsIn made bound ps × AimBelow p (length made) aim
  TaskIn made bound (task.Shape x f us ps aim) = (x < length made) × ArgsBelow (length made) us × PairsIn made bound ps × AimBelow p (length made) aim
  TaskIn made bound (task.Cover a k) = EachVars (FirmIn made bound) a.args
  TaskIn made bound (task.Check k checks_head) = ⊤
  TaskIn made bound (task.Begin k first checks_head) = first + vars_of_clause p k ≤ length made
  TaskIn made bound task.Void = ⊤
  TaskIn made bound task.Leave = ⊤
  TaskIn made bound task.Close = ⊤

  abbrev pub TaskFirm : State → Task → Type 0
  TaskFirm s = TaskIn s.made s.bound

pub record Clear (p : Program) (s : State) : Type 0 where
  pub bindings : Each (BindingFirm s) s.bound
  pub covers : Each (CoverFirm p s) s.covers
  pub literals : Each (LiteralFirm s) s.literals

-- ---- later states

pub as-many : (n : ℕ) → n ≤ n
as-many n = omega arith

-- what was kinded or firm stays so, and more may be made
pub record Onto (s r : State) : Type 0 where
  pub more : length s.made ≤ length r.made
  pub kinded : (z : ℕ) → Kinded s z → Kinded r z
  pub firm : (z : ℕ) → Firm s z → Firm r z

pub onto-itself : (s : State) → Onto s s
onto-itself s = record { more = as-many (length s.made); kinded = (λ z k. k); firm = (λ z k. k) }

pub onto-then : (s r t : State) → Onto s r → Onto r t → Onto s t
onto-then s r t a b = record {
  more = (let k = a.more in let l = b.more in omega (arith, k, l));
  kinded = (λ z k. b.kinded z (a.kinded z k));
  firm = (λ z k. b.firm z (a.firm z k));
}

module _ (s r : State) (o : Onto s r) where
  pub term-onto : (t : Tm) → TermFirm s t → TermFirm r t
  term-onto t h = each-weaker (Firm s) (Firm r) o.firm t h

  pub args-onto : (ts : Tms) → ArgsFirm s ts → ArgsFirm r ts
  args-onto ts h = all-weaker (Firm s) (Firm r) o.firm ts h

  pub below-onto : (t : Tm) → TermBelow (length s.made) t → TermBelow (length r.made) t
  below-onto t h = each-weaker (λ y. y < length s.made) (λ y. y < length r.made) (λ y k. let m = o.more in omega (arith, k, m)) t h

  pub args-below-onto : (ts : Tms) → ArgsBelow (length s.made) ts → ArgsBelow (length r.made) ts
  args-below-onto ts h = all-weaker (λ y. y < length s.made) (λ y. y < length r.made) (λ y k. let m = o.more in omega (arith, k, m)) ts h

  pub con-onto : (c : Con) → ConFirm s c → ConFirm r c
  con-onto (con.Eq t u) h = (term-onto (tm_of t) h.0, term-onto (tm_of u) h.1)
  con-onto (con.Neq t u) h = (term-onto (tm_of t) h.0, term-onto (tm_of u) h.1)
  con-onto (con.NotShape x f k) h = o.firm x h
  con-onto (con.Num t) h = tt
  con-onto (con.NotNum t) h = tt
  con-onto (con.Row q) h = tt

  pub assumed-onto : (c : Con) → AssumedFirm s c → AssumedFirm r c
  assumed-onto (con.Eq t u) h = absurd h
  assumed-onto (con.Neq t u) h = (term-onto (tm_of t) h.0, term-onto (tm_of u) h.1)
  assumed-onto (con.NotShape x f k) h = o.firm x h
  assumed-onto (con.Num t) h = tt
  assumed-onto (con.NotNum t) h = tt
  assumed-onto (con.Row q) h = tt

  pub item-onto : (i : FlatItem) → ItemFirm s i → ItemFirm r i
  item-onto (flat.Call l) h = args-onto l.atom.args h
  item-onto (flat.Test c) h = (con-onto c h.0, test-weaker (Firm s) (Firm r) o.firm c h.1)

  pub pairs-onto : (ps : List Pair) → PairsFirm s ps → PairsFirm r ps
  pairs-onto ps h = Each-map (PairFirm s) (PairFirm r) (λ q k. (term-onto (tm_of q.left) k.0, below-onto (tm_of q.right) k.1)) ps h

  pub equation-onto : (e : Option Binding) → EquationFirm s e → EquationFirm r e
  equation-onto None h = tt
  equation-onto (Some b) h = term-onto (tm_of b.term) h

  pub bindings-onto : (bs : List Binding) → Each (BindingFirm s) bs → Each (BindingFirm r) bs
  bindings-onto bs h = Each-map (BindingFirm s) (BindingFirm r) (λ b k. each-weaker (Kinded s) (Kinded r) o.kinded (tm_of b.term) k) bs h

  pub literals-onto : (xs : List Literal) → Each (LiteralFirm s) xs → Each (LiteralFirm r) xs
  literals-onto xs h = Each-map (LiteralFirm s) (LiteralFirm r) (λ a k. args-onto a.lit.atom.args k) xs h

  pub universals-onto : (xs : List ℕ) → Each (Kinded s) xs → Each (Kinded r) xs
  universals-onto xs h = Each-map (Kinded s) (Kinded r) o.kinded xs h

  pub remainder-onto : (q : Remainder) → RemainderFirm s q → RemainderFirm r q
  remainder-onto q h = (universals-onto q.universals h.0, equation-onto q.equation h.1)

  module _ (p : Program) where
    pub cover-onto : (c : Cover) → CoverFirm p s c → CoverFirm p r c
    cover-onto c h = (universals-onto c.universals h.0, (λ z l k. o.firm z (h.1 z l k)), Each-map (RemainderFirm s) (RemainderFirm r) remainder-onto c.waiting h.2)

    pub covers-onto : (cs : List Cover) → Each (CoverFirm p s) cs → Each (CoverFirm p r) cs
    covers-onto cs h = Each-map (CoverFirm p s) (CoverFirm p r) cover-onto cs h

    become-onto : (x : ℕ) (t : Term) → Becomes (Kinded s) x t → Becomes (Kinded r) x t
    become-onto x (Var y) h = (o.kinded x h.0, o.kinded y h.1, h.2)
    become-onto x (Num q) h = tt
    become-onto x (App f ts) h = absurd h

    pub aim-onto : (a : Aim) → AimBelow p (length s.made) a → AimBelow p (length r.made) a
    aim-onto a h = aim-more p (length s.made) (length r.made) o.more a h

    pub task-onto : (t : Task) → TaskFirm p s t → TaskFirm p r t
    task-onto (task.Show i) h = item-onto i h
    task-onto (task.Equate t u) h = (term-onto (tm_of t) h.0, term-onto (tm_of u) h.1)
    task-onto (task.Assume c) h = assumed-onto c h
    task-onto (task.Differ ps aim) h = (pairs-onto ps h.0, aim-onto aim h.1)
    task-onto (task.Become x t ps aim) h = (become-onto x t h.0, pairs-onto ps h.1, aim-onto aim h.2)
    task-onto (task.Avoid x q ps aim) h = (o.firm x h.0, pairs-onto ps h.1, aim-onto aim h.2)
    task-onto (task.Shape x f us ps aim) h = (omega (arith, h.0, o.more), args-below-onto us h.1, pairs-onto ps h.2, aim-onto aim h.3)
    task-onto (task.Cover a k) h = args-onto a.args h
    task-onto (task.Check k checks_head) h = tt
    task-onto (task.Begin k first checks_head) h = omega (arith, h, o.more)
    task-onto task.Void h = tt
    task-onto task.Leave h = tt
    task-onto task.Close h = tt

    pub work-onto : (ts : List Task) → Each (TaskFirm p s) ts → Each (TaskFirm p r) ts
    work-onto ts h = Each-map (TaskFirm p s) (TaskFirm p r) task-onto ts h

-- ---- reading

-- what is read is of a kind, and not bound
pub read-kinded : (s : State) → Solved (length s.made) s.bound → Each (BindingFirm s) s.bound → (t : Tm) → TermFirm s t → EachVar (Kinded s) (under (meaning s) t)
read-kinded s solved h t k =
    each-weaker (λ z. Firm s z × Free (length s.made) s.bound z) (Kinded s) one (under (meaning s) t)
    (each-both (Firm s) (Free (length s.made) s.bound) (under (meaning s) t)
    (read-keeps (Firm s) s.bound (Each-map (BindingFirm s) (λ b. TermFirm s (tm_of b.term)) (λ b l. each-weaker (Kinded s) (Firm s) (kinded-firm s) (tm_of b.term) l) s.bound h) t k)
    (read-free (length s.made) s.bound solved t (each-weaker (Firm s) (λ z. z < length s.made) (λ z l. l.0) t k)))
  where
    of-kind : (z : ℕ) → (is_loose s z ≡ false) ⊎ (is_bound_in s.bound z ≡ true) → is_bound_in s.bound z ≡ false → is_loose s z ≡ false
    of-kind z (inl e) f = e
    of-kind z (inr e) f = absurd (true≢false (sym e ∙ f))

    one : (z : ℕ) → Firm s z × Free (length s.made) s.bound z → Kinded s z
    one z h = (h.0.0, of-kind z h.0.1 h.1.0)

pub kinded-term : (s : State) (t : Tm) → EachVar (Kinded s) t → TermFirm s t
kinded-term s t h = each-weaker (Kinded s) (Firm s) (kinded-firm s) t h
