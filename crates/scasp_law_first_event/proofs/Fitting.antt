-- States whose variables were made: what their tasks, covers and literals speak of.
use Rattle.std.specs.Prelude.{ℕ, zero, suc, ◌+◌, ◌<◌, ◌≤◌, nat_eq, Bool, true, false, if◌then◌else◌, Option, Some, None, List, [], ◌∷◌, ⊤}
use Rattle.std.proofs.Common.{arith, sym, subst}
use Rattle.scasp_list.specs.Each.{Each}
use Rattle.scasp_list.proofs.EachLemmas.{Each-map, Each-append}
use Rattle.scasp_num.specs.declared.linear.Coeff.{Coeff}
use Rattle.scasp_search_rules.specs.declared.states.covers.Cover.{Cover}
use Rattle.scasp_search_rules.specs.declared.states.covers.Remainder.{Remainder}
use Rattle.scasp_search_rules.specs.declared.states.state.Literal.{Literal}
use Rattle.scasp_search_rules.specs.declared.states.tasks.Aim.{Aim}
use Rattle.scasp_search_rules.specs.declared.states.tasks.Aim.TheVariants as aims
use Rattle.scasp_search_rules.specs.declared.states.tasks.Pair.{Pair}
use Rattle.scasp_search_rules.specs.declared.states.tasks.Task.{Task}
use Rattle.scasp_search_rules.specs.declared.states.tasks.Task.TheVariants as task
use Rattle.scasp_search_rules.specs.Successors.Calls.{vars_of_clause}
use Rattle.scasp_search_rules.specs.Successors.Equations.{equations_of}
use Rattle.scasp_search_rules.specs.Successors.Pairs.{pairs}
use Rattle.scasp_syntax.specs.Same.{same_number}
use Rattle.scasp_syntax.specs.Tm.{Tm, Tms, var, num, app, nil, cons}
use Rattle.scasp_syntax.specs.View.{tm_of}
use Rattle.scasp_syntax.specs.declared.clause.FlatItem.{FlatItem}
use Rattle.scasp_syntax.specs.declared.clause.FlatItem.TheVariants as flat
use Rattle.scasp_syntax.specs.declared.con.Con.{Con}
use Rattle.scasp_syntax.specs.declared.con.Con.TheVariants as con
use Rattle.scasp_syntax.specs.declared.program.Program.{Program}
use Rattle.scasp_syntax.specs.declared.term.Term.{Term}
use Rattle.scasp_syntax.specs.declared.term.Term.TheVariants.{Var, Num, App}
use Rattle.scasp_unify.specs.Negations.{new_parts}
use Rattle.scasp_unify.specs.Parts.{Part, occurs, part_if, both_parts, parts, parts_each, left_side, right_side}
use Rattle.scasp_unify.specs.SimpleForm.{term_with, one_part, by_parts}
use Rattle.scasp_unify.specs.declared.bindings.Binding.{Binding}
use Rattle.scasp_unify.proofs.SimpleLemmas.{viewed}
use Rattle.scasp_law_first_event.proofs.Bindings.{Free}
use Rattle.scasp_law_first_event.proofs.Terms.{EachVar, EachVars, each-weaker, all-weaker}

-- each variable is below n
abbrev pub TermBelow : ℕ → Tm → Type 0
TermBelow n t = EachVar (λ y. y < n) t

abbrev pub ArgsBelow : ℕ → Tms → Type 0
ArgsBelow n ts = EachVars (λ y. y < n) ts

-- the variables that an equation, a disequation or a shape has; no other constraint binds one
abbrev pub ConEach : (ℕ → Type 0) → Con → Type 0
ConEach G (con.Eq t u) = EachVar G (tm_of t) × EachVar G (tm_of u)
ConEach G (con.Neq t u) = EachVar G (tm_of t) × EachVar G (tm_of u)
ConEach G (con.NotShape x f k) = G x
ConEach G (con.Num t) = ⊤
ConEach G (con.NotNum t) = ⊤
ConEach G (con.Row r) = ⊤

abbrev pub ConBelow : ℕ → Con → Type 0
ConBelow n c = ConEach (λ y. y < n) c

-- those that a number test or a row has
abbrev pub TestEach : (ℕ → Type 0) → Con → Type 0
TestEach G (con.Num t) = EachVar G (tm_of t)
TestEach G (con.NotNum t) = EachVar G (tm_of t)
TestEach G (con.Row r) = Each (λ k. G k.x) r.coeffs
TestEach G (con.Eq t u) = ⊤
TestEach G (con.Neq t u) = ⊤
TestEach G (con.NotShape x f k) = ⊤

pub test-weaker : (G H : ℕ → Type 0) → ((z : ℕ) → G z → H z) → (c : Con) → TestEach G c → TestEach H c
test-weaker G H f (con.Num t) h = each-weaker G H f (tm_of t) h
test-weaker G H f (con.NotNum t) h = each-weaker G H f (tm_of t) h
test-weaker G H f (con.Row r) h = Each-map (λ (k : Coeff). G k.x) (λ k. H k.x) (λ k g. f k.x g) r.coeffs h
test-weaker G H f (con.Eq t u) h = tt
test-weaker G H f (con.Neq t u) h = tt
test-weaker G H f (con.NotShape x g k) h = tt

abbrev pub ItemEach : (ℕ → Type 0) → FlatItem → Type 0
ItemEach G (flat.Call l) = EachVars G l.atom.args
ItemEach G (flat.Test c) = ConEach G c × TestEach G c

abbrev pub ItemBelow : ℕ → FlatItem → Type 0
ItemBelow n i = ItemEach (λ y. y < n) i

abbrev pub PairsBelow : ℕ → List Pair → Type 0
PairsBelow n ps = Each (λ o. TermBelow n (tm_of o.left) × TermBelow n (tm_of o.right)) ps

abbrev pub EquationBelow : ℕ → Option Binding → Type 0
EquationBelow n None = ⊤
EquationBelow n (Some b) = (b.x < n) × TermBelow n (tm_of b.term)

abbrev pub LiteralBelow : ℕ → Literal → Type 0
LiteralBelow n a = ArgsBelow n a.lit.atom.args

abbrev pub IsNumber : Term → Type 0
IsNumber (Num q) = ⊤
IsNumber (Var x) = ⊥
IsNumber (App f ts) = ⊥

-- ---- tasks

module _ (p : Program) where
  -- the variables of the clause, from this one on, are below n
  abbrev pub ClauseBelow : ℕ → ℕ → ℕ → Type 0
  ClauseBelow n clause first = first + vars_of_clause p clause ≤ n

  abbrev pub CoverBelow : ℕ → Cover → Type 0
  CoverBelow n c = ClauseBelow n c.clause c.first × Each (λ r. EquationBelow n r.equation) c.waiting

  abbrev pub AimBelow : ℕ → Aim → Type 0
  AimBelow n aims.Test = ⊤
  AimBelow n (aims.Head k first) = ClauseBelow n k first

  -- a task that is not the first; a variable that is to become another stands in front alone
  abbrev pub Later : ℕ → Task → Type 0
  Later n (task.Show i) = ItemBelow n i
  Later n (task.Equate t u) = TermBelow n (tm_of t) × TermBelow n (tm_of u)
  Later n (task.Assume c) = ConBelow n c
  Later n (task.Differ ps aim) = PairsBelow n ps × AimBelow n aim
  Later n (task.Become x t ps aim) = (x < n) × IsNumber t × PairsBelow n ps × AimBelow n aim
  Later n (task.Avoid x q ps aim) = (x < n) × PairsBelow n ps × AimBelow n aim
  Later n (task.Shape x f us ps aim) = (x < n) × ArgsBelow n us × PairsBelow n ps × AimBelow n aim
  Later n (task.Cover a k) = ArgsBelow n a.args
  Later n (task.Check k checks_head) = ⊤
  Later n (task.Begin k first checks_head) = ClauseBelow n k first
  Later n task.Void = ⊤
  Later n task.Leave = ⊤
  Later n task.Close = ⊤

  -- ---- more variables

  pub term-more : (n m : ℕ) → n ≤ m → (t : Tm) → TermBelow n t → TermBelow m t
  term-more n m l t h = each-weaker (λ y. y < n) (λ y. y < m) (λ y k. omega (arith, k, l)) t h

  pub args-more : (n m : ℕ) → n ≤ m → (ts : Tms) → ArgsBelow n ts → ArgsBelow m ts
  args-more n m l ts h = all-weaker (λ y. y < n) (λ y. y < m) (λ y k. omega (arith, k, l)) ts h

  pub con-more : (n m : ℕ) → n ≤ m → (c : Con) → ConBelow n c → ConBelow m c
  con-more n m l (con.Eq t u) h = (term-more n m l (tm_of t) h.0, term-more n m l (tm_of u) h.1)
  con-more n m l (con.Neq t u) h = (term-more n m l (tm_of t) h.0, term-more n m l (tm_of u) h.1)
  con-more n m l (con.NotShape x f k) h = omega (arith, h, l)
  con-more n m l (con.Num t) h = tt
  con-more n m l (con.NotNum t) h = tt
  con-more n m l (con.Row r) h = tt

  pub item-more : (n m : ℕ) → n ≤ m → (i : FlatItem) → ItemBelow n i → ItemBelow m i
  item-more n m l (flat.Call c) h = args-more n m l c.atom.args h
  item-more n m l (flat.Test c) h = (con-more n m l c h.0, test-weaker (λ y. y < n) (λ y. y < m) (λ y k. omega (arith, k, l)) c h.1)

  pub pairs-more : (n m : ℕ) → n ≤ m → (ps : List Pair) → PairsBelow n ps → PairsBelow m ps
  pairs-more n m l ps h =
      Each-map (λ (o : Pair). TermBelow n (tm_of o.left) × TermBelow n (tm_of o.right)) (λ o. TermBelow m (tm_of o.left) × TermBelow m (tm_of o.right))
      (λ o k. (term-more n m l (tm_of o.left) k.0, term-more n m l (tm_of o.right) k.1)) ps h

  pub equation-more : (n m : ℕ) → n ≤ m → (o : Option Binding) → EquationBelow n o → EquationBelow m o
  equation-more n m l None h = tt
  equation-more n m l (Some b) h = (omega (arith, h.0, l), term-more n m l (tm_of b.term) h.1)

  pub cover-more : (n m : ℕ) → n ≤ m → (c : Cover) → CoverBelow n c → CoverBelow m c
  cover-more n m l c h =
      (omega (arith, h.0, l), Each-map (λ (r : Remainder). EquationBelow n r.equation) (λ r. EquationBelow m r.equation) (λ r k. equation-more n m l r.equation k) c.waiting h.1)

  pub aim-more : (n m : ℕ) → n ≤ m → (a : Aim) → AimBelow n a → AimBelow m a
  aim-more n m l aims.Test h = tt
  aim-more n m l (aims.Head k first) h = omega (arith, h, l)

  pub later-more : (n m : ℕ) → n ≤ m → (t : Task) → Later n t → Later m t
  later-more n m l (task.Show i) h = item-more n m l i h
  later-more n m l (task.Equate t u) h = (term-more n m l (tm_of t) h.0, term-more n m l (tm_of u) h.1)
  later-more n m l (task.Assume c) h = con-more n m l c h
  later-more n m l (task.Differ ps aim) h = (pairs-more n m l ps h.0, aim-more n m l aim h.1)
  later-more n m l (task.Become x t ps aim) h = (omega (arith, h.0, l), h.1, pairs-more n m l ps h.2, aim-more n m l aim h.3)
  later-more n m l (task.Avoid x q ps aim) h = (omega (arith, h.0, l), pairs-more n m l ps h.1, aim-more n m l aim h.2)
  later-more n m l (task.Shape x f us ps aim) h = (omega (arith, h.0, l), args-more n m l us h.1, pairs-more n m l ps h.2, aim-more n m l aim h.3)
  later-more n m l (task.Cover a k) h = args-more n m l a.args h
  later-more n m l (task.Check k checks_head) h = tt
  later-more n m l (task.Begin k first checks_head) h = omega (arith, h, l)
  later-more n m l task.Void h = tt
  later-more n m l task.Leave h = tt
  later-more n m l task.Close h = tt

  pub all-later-more : (n m : ℕ) → n ≤ m → (ts : List Task) → Each (Later n) ts → Each (Later m) ts
  all-later-more n m l ts h = Each-map (Later n) (Later m) (λ t k. later-more n m l t k) ts h

  -- ---- equations

  pub equations-later : (n : ℕ) (ps : List Pair) → PairsBelow n ps → Each (Later n) (equations_of ps)
  equations-later n [] h = tt
  equations-later n (o ∷ ps) h = (h.0, equations-later n ps h.1)

-- a variable that is to become another stands in front alone, and both are free
pub data Front (p : Program) (n : ℕ) (bs : List Binding) : List Task → Type 0 where
  later : (ts : List Task) → Each (Later p n) ts → Front p n bs ts
  becomes : (x y : ℕ) (ps : List Pair) (aim : Aim) (ts : List Task) → Free n bs x → Free n bs y → PairsBelow n ps → AimBelow p n aim → Each (Later p n) ts
      → Front p n bs (task.Become x (Var y) ps aim ∷ ts)

pub pairs-below : (n : ℕ) (ts us : Tms) → ArgsBelow n ts → ArgsBelow n us → PairsBelow n (pairs ts us)
pairs-below n nil us h k = tt
pairs-below n (cons t ts) nil h k = tt
pairs-below n (cons t ts) (cons u us) h k =
    ((subst (TermBelow n) (sym (viewed t)) h.0, subst (TermBelow n) (sym (viewed u)) k.0), pairs-below n ts us h.1 k.1)

pub parts-below : (n k m : ℕ) → k + m ≤ n → ArgsBelow n (new_parts k m)
parts-below n k zero l = tt
parts-below n k (suc m) l = (omega (arith, l), parts-below n (suc k) m (omega (arith, l)))

-- ---- parts

abbrev pub EachPart : (ℕ → Type 0) → Option (List Part) → Type 0
EachPart P None = ⊤
EachPart P (Some ps) = Each (λ o. P o.at × EachVar P o.term) ps

part-one : (P : ℕ → Type 0) (x : ℕ) (t : Tm) (turned : Bool) → P x → EachVar P t → EachPart P (part_if x t turned)
part-one P x t turned h k = by (occurs x t)
  where
    by : (b : Bool) → EachPart P (if b then None else Some (record { at = x; term = t; turned = turned } ∷ []))
    by true = tt
    by false = ((h, k), tt)

part-both : (P : ℕ → Type 0) (o q : Option (List Part)) → EachPart P o → EachPart P q → EachPart P (both_parts o q)
part-both P None q h k = tt
part-both P (Some ps) None h k = tt
part-both P (Some ps) (Some qs) h k = Each-append (λ (o : Part). P o.at × EachVar P o.term) ps qs h k

part-if : (P : ℕ → Type 0) (b : Bool) (o q : Option (List Part)) → EachPart P o → EachPart P q → EachPart P (if b then o else q)
part-if P true o q h k = h
part-if P false o q h k = k

mutual
  pub parts-keep : (P : ℕ → Type 0) (t u : Tm) → EachVar P t → EachVar P u → EachPart P (parts t u)
  parts-keep P (var x) (var y) h k = part-if P (nat_eq x y) (Some []) (Some (record { at = x; term = var y; turned = false } ∷ [])) tt ((h, k), tt)
  parts-keep P (var x) (num r) h k = part-one P x (num r) false h k
  parts-keep P (var x) (app g us) h k = part-one P x (app g us) false h k
  parts-keep P (num q) (var y) h k = part-one P y (num q) true k h
  parts-keep P (num q) (num r) h k = part-if P (same_number q r) (Some []) None tt tt
  parts-keep P (num q) (app g us) h k = tt
  parts-keep P (app f ts) (var y) h k = part-one P y (app f ts) true k h
  parts-keep P (app f ts) (num r) h k = tt
  parts-keep P (app f ts) (app g us) h k = part-if P (nat_eq f g) (parts_each ts us) None (all-parts-keep P ts us h k) tt

  all-parts-keep : (P : ℕ → Type 0) (ts us : Tms) → EachVars P ts → EachVars P us → EachPart P (parts_each ts us)
  all-parts-keep P nil nil h k = tt
  all-parts-keep P nil (cons u us) h k = tt
  all-parts-keep P (cons t ts) nil h k = tt
  all-parts-keep P (cons t ts) (cons u us) h k = part-both P (parts t u) (parts_each ts us) (parts-keep P t u h.0 k.0) (all-parts-keep P ts us h.1 k.1)

-- ---- what a split may bind

-- The variable of an equation, and its term, are free; that of a disequation or of a shape is below n.
abbrev pub FitsEquation : ℕ → List Binding → Term → Term → Type 0
FitsEquation n bs (Var x) u = Free n bs x × EachVar (Free n bs) (tm_of u)
FitsEquation n bs (Num q) u = ⊤
FitsEquation n bs (App f ts) u = ⊤

abbrev pub FitsOther : ℕ → Term → Term → Type 0
FitsOther n (Var x) u = (x < n) × TermBelow n (tm_of u)
FitsOther n (Num q) u = ⊤
FitsOther n (App f ts) u = ⊤

abbrev pub Fits : ℕ → List Binding → Con → Type 0
Fits n bs (con.Eq t u) = FitsEquation n bs t u
Fits n bs (con.Neq t u) = FitsOther n t u
Fits n bs (con.NotShape x f k) = x < n
Fits n bs (con.Num t) = ⊤
Fits n bs (con.NotNum t) = ⊤
Fits n bs (con.Row r) = ⊤

pub equation-fits : (n : ℕ) (bs : List Binding) (a b : Tm) → EachVar (Free n bs) a → EachVar (Free n bs) b → FitsEquation n bs (term_with a) (term_with b)
equation-fits n bs (var x) b h k = (h, subst (EachVar (Free n bs)) (sym (viewed b)) k)
equation-fits n bs (num q) b h k = tt
equation-fits n bs (app f ts) b h k = tt

pub other-fits : (n : ℕ) (a b : Tm) → TermBelow n a → TermBelow n b → FitsOther n (term_with a) (term_with b)
other-fits n (var x) b h k = (h, subst (TermBelow n) (sym (viewed b)) k)
other-fits n (num q) b h k = tt
other-fits n (app f ts) b h k = tt

left-below : (n : ℕ) (o : Part) → (o.at < n) × TermBelow n o.term → TermBelow n (left_side o)
left-below n o h = by o.turned
  where
    by : (b : Bool) → TermBelow n (if b then o.term else var o.at)
    by true = h.1
    by false = h.0

right-below : (n : ℕ) (o : Part) → (o.at < n) × TermBelow n o.term → TermBelow n (right_side o)
right-below n o h = by o.turned
  where
    by : (b : Bool) → TermBelow n (if b then var o.at else o.term)
    by true = h.0
    by false = h.1

one-fits : (n : ℕ) (bs : List Binding) (o : Part) (t : Tm) → (o.at < n) × TermBelow n o.term → Fits n bs (one_part o t)
one-fits n bs o (app f nil) h = h.0
one-fits n bs o (app f (cons t ts)) h = other-fits n (left_side o) (right_side o) (left-below n o h) (right-below n o h)
one-fits n bs o (num q) h = other-fits n (left_side o) (right_side o) (left-below n o h) (right-below n o h)
one-fits n bs o (var y) h = other-fits n (left_side o) (right_side o) (left-below n o h) (right-below n o h)

pub parts-fit : (n : ℕ) (bs : List Binding) (c : Con) (o : Option (List Part)) → Fits n bs c → EachPart (λ y. y < n) o → Fits n bs (by_parts c o)
parts-fit n bs c None h k = h
parts-fit n bs c (Some []) h k = h
parts-fit n bs c (Some (o ∷ [])) h k = one-fits n bs o o.term k.0
parts-fit n bs c (Some (o ∷ r ∷ ps)) h k = tt
