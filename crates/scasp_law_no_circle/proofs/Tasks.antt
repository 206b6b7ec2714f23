-- What tasks speak of is in scope at their depth: a task behind the end of a case is one less deep.
use Rattle.std.specs.Prelude.{◌≡◌, ◌≢◌, ◌⊎◌, ℕ, ◌+◌, ◌-◌, ◌<◌, ◌≤◌, Bool, true, false, if◌then◌else◌, List, [], ◌∷◌, ◌++◌, length, map, ⊤}
use Rattle.std.proofs.Common.{refl, arith, sym, subst, inl, inr}
use Rattle.scasp_list.specs.Each.{Each}
use Rattle.scasp_list.proofs.EachLemmas.{Each-map}
use Rattle.scasp_num.specs.Number.{Number}
use Rattle.scasp_search_rules.specs.declared.states.covers.Cover.{Cover}
use Rattle.scasp_search_rules.specs.declared.states.state.Kind.TheVariants.{Matched}
use Rattle.scasp_search_rules.specs.declared.states.state.Made.{Made}
use Rattle.scasp_search_rules.specs.declared.states.state.State.{State}
use Rattle.scasp_search_rules.specs.declared.states.tasks.Aim.{Aim}
use Rattle.scasp_search_rules.specs.declared.states.tasks.Aim.TheVariants as aims
use Rattle.scasp_search_rules.specs.declared.states.tasks.Pair.{Pair}
use Rattle.scasp_search_rules.specs.declared.states.tasks.Task.{Task}
use Rattle.scasp_search_rules.specs.declared.states.tasks.Task.TheVariants as task
use Rattle.scasp_search_rules.specs.Successors.Calls.{vars_of_clause}
use Rattle.scasp_search_rules.specs.Successors.Replacing.{is_close}
use Rattle.scasp_search_rules.specs.Successors.Splits.{is_bound_in}
use Rattle.scasp_search_rules.specs.Successors.Variables.{is_kind_universal}
use Rattle.scasp_syntax.specs.Tm.{Tm, Tms}
use Rattle.scasp_syntax.specs.View.{tm_of}
use Rattle.scasp_syntax.specs.declared.clause.FlatItem.{FlatItem}
use Rattle.scasp_syntax.specs.declared.con.Con.{Con}
use Rattle.scasp_syntax.specs.declared.con.Con.TheVariants as con
use Rattle.scasp_syntax.specs.declared.program.Program.{Program}
use Rattle.scasp_syntax.specs.declared.term.Term.{Term}
use Rattle.scasp_syntax.specs.declared.term.Term.TheVariants.{Var, Num, App}
use Rattle.scasp_unify.specs.declared.bindings.Binding.{Binding}
use Rattle.scasp_law_first_event.proofs.Fitting.{ItemEach}
use Rattle.scasp_law_first_event.proofs.Raising.{item-weaker}
use Rattle.scasp_law_first_event.proofs.Terms.{EachVar, EachVars, each-weaker, all-weaker}
use Rattle.scasp_law_no_circle.proofs.Places.{entry}
use Rattle.scasp_law_no_circle.proofs.Scope.{Scoped, Sound, Scopes}

-- ---- tasks that may wait

abbrev pub Plain : (ℕ → Type 0) → Task → Type 0
Plain G (task.Show i) = ItemEach G i
Plain G (task.Equate t u) = EachVar G (tm_of t) × EachVar G (tm_of u)
Plain G (task.Assume c) = ⊥
Plain G (task.Differ ps aim) = ⊥
Plain G (task.Become x t ps aim) = ⊥
Plain G (task.Avoid x q ps aim) = ⊥
Plain G (task.Shape x f ts ps aim) = ⊥
Plain G (task.Cover a k) = EachVars G a.args
Plain G (task.Check k checks_head) = ⊤
Plain G (task.Begin k first checks_head) = ⊥
Plain G task.Void = ⊤
Plain G task.Leave = ⊤
Plain G task.Close = ⊤

abbrev pub behind : Task → ℕ → ℕ
behind t k = if is_close t then k - 1 else k

-- G k holds of the variables at depth k
abbrev pub Waiting : (ℕ → ℕ → Type 0) → ℕ → List Task → Type 0
Waiting G k [] = ⊤
Waiting G k (t ∷ ts) = Plain (G k) t × Waiting G (behind t k) ts

plain-more : (G H : ℕ → Type 0) → ((z : ℕ) → G z → H z) → (t : Task) → Plain G t → Plain H t
plain-more G H f (task.Show i) h = item-weaker G H f i h
plain-more G H f (task.Equate t u) h = (each-weaker G H f (tm_of t) h.0, each-weaker G H f (tm_of u) h.1)
plain-more G H f (task.Assume c) h = absurd h
plain-more G H f (task.Differ ps aim) h = absurd h
plain-more G H f (task.Become x t ps aim) h = absurd h
plain-more G H f (task.Avoid x q ps aim) h = absurd h
plain-more G H f (task.Shape x g ts ps aim) h = absurd h
plain-more G H f (task.Cover a k) h = all-weaker G H f a.args h
plain-more G H f (task.Check k checks_head) h = tt
plain-more G H f (task.Begin k first checks_head) h = absurd h
plain-more G H f task.Void h = tt
plain-more G H f task.Leave h = tt
plain-more G H f task.Close h = tt

pub waiting-more : (G H : ℕ → ℕ → Type 0) (n : ℕ) → ((k z : ℕ) → k ≤ n → G k z → H k z) → (k : ℕ) → k ≤ n → (ts : List Task) → Waiting G k ts → Waiting H k ts
waiting-more G H n f k l [] h = tt
waiting-more G H n f k l (t ∷ ts) h = (plain-more (G k) (H k) (λ z g. f k z l g) t h.0, waiting-more G H n f (behind t k) (low (is_close t)) ts h.1)
  where
    low : (b : Bool) → (if b then k - 1 else k) ≤ n
    low true = omega (arith, l)
    low false = l

-- tasks of one depth, none of which ends a case
abbrev pub Level : (ℕ → Type 0) → List Task → Type 0
Level G ts = Each (λ t. Plain G t × (is_close t ≡ false)) ts

pub level-before : (G : ℕ → ℕ → Type 0) (k : ℕ) (ts us : List Task) → Level (G k) ts → Waiting G k us → Waiting G k (ts ++ us)
level-before G k [] us h w = w
level-before G k (t ∷ ts) us h w =
    (h.0.0, subst (λ (b : Bool). Waiting G (if b then k - 1 else k) (ts ++ us)) (sym h.0.1) (level-before G k ts us h.1 w))

pub shows-level : (G : ℕ → Type 0) (is : List FlatItem) → Each (ItemEach G) is → Level G (map task.Show is)
shows-level G [] h = tt
shows-level G (i ∷ is) h = ((h.0, refl), shows-level G is h.1)

-- the items of a case, and its end
pub case-before : (G : ℕ → ℕ → Type 0) (k : ℕ) (is : List FlatItem) (us : List Task) → Each (ItemEach (G k)) is → Waiting G (k - 1) us → Waiting G k ((map task.Show is ++ task.Close ∷ []) ++ us)
case-before G k [] us h w = (tt, w)
case-before G k (i ∷ is) us h w = (h.0, case-before G k is us h.1 w)

-- ---- the first task

-- of a head that is being matched, and not bound; or in scope
abbrev pub Either : List Made → List Cover → List Binding → ℕ → ℕ → Type 0
Either made cs bs n z = ((z < length made) × ((entry made z).kind ≡ Matched) × (is_bound_in bs z ≡ false)) ⊎ Scoped made cs bs n z

abbrev pub PairScoped : List Made → List Cover → List Binding → ℕ → Pair → Type 0
PairScoped made cs bs n o = EachVar (Scoped made cs bs n) (tm_of o.left) × EachVar (Either made cs bs n) (tm_of o.right)

-- what a variable that is to be apart needs: it is free
abbrev pub Frees : List Made → List Cover → List Binding → ℕ → ℕ → Type 0
Frees made cs bs n z = Scoped made cs bs n z × (is_bound_in bs z ≡ false)

-- x stands first: y is not universal, or both are, and y is not deeper
abbrev pub StandsFirst : List Made → ℕ → ℕ → Type 0
StandsFirst made x y = (is_kind_universal (entry made y).kind ≡ false) ⊎ ((is_kind_universal (entry made x).kind ≡ true) × ((entry made y).depth ≤ (entry made x).depth))

abbrev pub AssumedSides : List Made → List Cover → List Binding → ℕ → Term → Term → Type 0
AssumedSides made cs bs n (Var x) (Var y) = Frees made cs bs n x × Frees made cs bs n y × (y ≢ x) × StandsFirst made x y
AssumedSides made cs bs n (Var x) (Num q) = Scoped made cs bs n x
AssumedSides made cs bs n (Var x) (App f ts) = ⊥
AssumedSides made cs bs n (Num q) t = ⊥
AssumedSides made cs bs n (App f ts) t = ⊥

abbrev pub Assumed : List Made → List Cover → List Binding → ℕ → Con → Type 0
Assumed made cs bs n (con.Eq t u) = ⊥
Assumed made cs bs n (con.Neq t u) = AssumedSides made cs bs n t u
Assumed made cs bs n (con.NotShape x f k) = Scoped made cs bs n x
Assumed made cs bs n (con.Num t) = ⊤
Assumed made cs bs n (con.NotNum t) = ⊤
Assumed made cs bs n (con.Row r) = ⊤

-- a part that is to be apart: a disequation, a shape or no number
abbrev pub PartScoped : List Made → List Cover → List Binding → ℕ → Con → Type 0
PartScoped made cs bs n (con.Neq t u) = ⊤
PartScoped made cs bs n (con.NotShape x f k) = ⊤
PartScoped made cs bs n (con.NotNum t) = EachVar (Scoped made cs bs n) (tm_of t)
PartScoped made cs bs n (con.Eq t u) = ⊥
PartScoped made cs bs n (con.Num t) = ⊥
PartScoped made cs bs n (con.Row r) = ⊥

-- no row
abbrev pub NoRow : Con → Type 0
NoRow (con.Row r) = ⊥
NoRow (con.Eq t u) = ⊤
NoRow (con.Neq t u) = ⊤
NoRow (con.NotShape x f k) = ⊤
NoRow (con.Num t) = ⊤
NoRow (con.NotNum t) = ⊤

pub part-no_row : (made : List Made) (cs : List Cover) (bs : List Binding) (n : ℕ) (c : Con) → PartScoped made cs bs n c → NoRow c
part-no_row made cs bs n (con.Neq t u) h = tt
part-no_row made cs bs n (con.NotShape x f k) h = tt
part-no_row made cs bs n (con.NotNum t) h = tt
part-no_row made cs bs n (con.Eq t u) h = absurd h
part-no_row made cs bs n (con.Num t) h = absurd h
part-no_row made cs bs n (con.Row r) h = absurd h

module _ (p : Program) (made : List Made) (cs : List Cover) (bs : List Binding) (n : ℕ) where
  -- the variables of the head's clause
  abbrev pub Heads : ℕ → ℕ → Type 0
  Heads k first = (z : ℕ) → first ≤ z → z < first + vars_of_clause p k → (z < length made) × ((entry made z).kind ≡ Matched) × Either made cs bs n z

  abbrev pub AimScoped : Aim → Type 0
  AimScoped aims.Test = ⊤
  AimScoped (aims.Head k first) = Heads k first

-- what x is to become
abbrev pub BecomesScoped : List Made → List Cover → List Binding → ℕ → ℕ → Term → Type 0
BecomesScoped made cs bs n x (Var y) = Frees made cs bs n y × (x ≢ y)
BecomesScoped made cs bs n x (Num q) = ⊤
BecomesScoped made cs bs n x (App f ts) = ⊥

abbrev pub First : List Made → List Cover → List Binding → ℕ → List Task → Type 0
First made cs bs n ts = Waiting (Scoped made cs bs) n ts

pub data Front (p : Program) (made : List Made) (cs : List Cover) (bs : List Binding) (n : ℕ) : List Task → Type 0 where
  plain : (ts : List Task) → First made cs bs n ts → Front p made cs bs n ts
  assumes : (c : Con) (ts : List Task) → PartScoped made cs bs n c → Assumed made cs bs n c → First made cs bs n ts → Front p made cs bs n (task.Assume c ∷ ts)
  numbers : (x : ℕ) (q : Number) (ps : List Pair) (aim : Aim) (ts : List Task) → Frees made cs bs n x → Each (PairScoped made cs bs n) ps → AimScoped p made cs bs n aim → First made cs bs n ts
      → Front p made cs bs n (task.Assume (con.Num (Var x)) ∷ task.Avoid x q ps aim ∷ ts)
  differs : (ps : List Pair) (aim : Aim) (ts : List Task) → Each (PairScoped made cs bs n) ps → AimScoped p made cs bs n aim → First made cs bs n ts → Front p made cs bs n (task.Differ ps aim ∷ ts)
  becomes : (x : ℕ) (t : Term) (ps : List Pair) (aim : Aim) (ts : List Task) → Frees made cs bs n x → BecomesScoped made cs bs n x t → Each (PairScoped made cs bs n) ps → AimScoped p made cs bs n aim → First made cs bs n ts
      → Front p made cs bs n (task.Become x t ps aim ∷ ts)
  avoids : (x : ℕ) (q : Number) (ps : List Pair) (aim : Aim) (ts : List Task) → Frees made cs bs n x → Each (PairScoped made cs bs n) ps → AimScoped p made cs bs n aim → First made cs bs n ts
      → Front p made cs bs n (task.Avoid x q ps aim ∷ ts)
  shapes : (x f : ℕ) (us : Tms) (ps : List Pair) (aim : Aim) (ts : List Task) → Frees made cs bs n x → EachVars (Either made cs bs n) us → Each (PairScoped made cs bs n) ps → AimScoped p made cs bs n aim
      → First made cs bs n ts → Front p made cs bs n (task.Shape x f us ps aim ∷ ts)
  begins : (k first : ℕ) (checks_head : Bool) (ts : List Task) → Heads p made cs bs n k first → First made cs bs n ts → Front p made cs bs n (task.Begin k first checks_head ∷ ts)

-- the state holds what this crate proves of states: its covers own what it speaks of
pub record Owning (p : Program) (s : State) : Type 0 where
  pub sound : Sound p s.made s.covers s.bound
  pub front : Front p s.made s.covers s.bound (length s.covers) s.work

-- ---- what steps keep

module _ (p : Program) (made more : List Made) (cs ds : List Cover) (bs es : List Binding) (h : Scopes p made more cs ds bs es) where
  pub scoped-kept : (z : ℕ) → Scoped made cs bs (length cs) z → Scoped more ds es (length ds) z
  scoped-kept z m = subst (λ (k : ℕ). Scoped more ds es k z) (sym h.many) (h.carries (length cs) z (omega arith) m)

  pub either-kept : (z : ℕ) → Either made cs bs (length cs) z → Either more ds es (length ds) z
  either-kept z (inl e) = let o = h.kinds z e.0 e.1 in inl (o.0, o.1, h.loose z e.0 e.1 e.2)
  either-kept z (inr m) = inr (scoped-kept z m)

  pub term-kept : (t : Tm) → EachVar (Scoped made cs bs (length cs)) t → EachVar (Scoped more ds es (length ds)) t
  term-kept t k = each-weaker (Scoped made cs bs (length cs)) (Scoped more ds es (length ds)) scoped-kept t k

  pub pairs-kept : (ps : List Pair) → Each (PairScoped made cs bs (length cs)) ps → Each (PairScoped more ds es (length ds)) ps
  pairs-kept ps k =
      Each-map (PairScoped made cs bs (length cs)) (PairScoped more ds es (length ds))
      (λ o l. (term-kept (tm_of o.left) l.0, each-weaker (Either made cs bs (length cs)) (Either more ds es (length ds)) either-kept (tm_of o.right) l.1)) ps k

  heads-kept : (k first : ℕ) → Heads p made cs bs (length cs) k first → Heads p more ds es (length ds) k first
  heads-kept k first g z a b = let e = g z a b in let o = h.kinds z e.0 e.1 in (o.0, o.1, either-kept z e.2)

  pub aim-kept : (aim : Aim) → AimScoped p made cs bs (length cs) aim → AimScoped p more ds es (length ds) aim
  aim-kept aims.Test k = tt
  aim-kept (aims.Head k first) g = heads-kept k first g

  pub work-kept : (ts : List Task) → First made cs bs (length cs) ts → First more ds es (length ds) ts
  work-kept ts k =
      subst (λ (n : ℕ). Waiting (Scoped more ds es) n ts) (sym h.many)
      (waiting-more (Scoped made cs bs) (Scoped more ds es) (length cs) h.carries (length cs) (omega arith) ts k)
