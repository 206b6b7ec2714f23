-- What binding, splits and assumptions keep of the kinds of variables.
use Rattle.std.specs.Prelude.{◌≡◌, ◌⊎◌, ℕ, zero, suc, ◌+◌, ◌-◌, ◌<◌, ◌≤◌, nat_eq, nat_le, max, min, Bool, true, false, ◌&&◌, not, if◌then◌else◌, Option, Some, None, List, [], ◌∷◌, ◌++◌, length, map, replicate, ⊤}
use Rattle.std.specs.List.{fold}
use Rattle.std.proofs.Common.{refl, arith, sym, subst, ◌∙◌, inl, inr}
use Rattle.std.proofs.lemmas.Bool.{cases_lt, or_left}
use Rattle.std.proofs.lemmas.List.{append-nil}
use Rattle.scasp_list.specs.Each.{Each}
use Rattle.scasp_list.proofs.EachLemmas.{Each-append}
use Rattle.scasp_num.specs.Number.{Number}
use Rattle.scasp_search_rules.specs.declared.states.covers.Cover.{Cover}
use Rattle.scasp_search_rules.specs.declared.states.outcomes.Parting.{Parting}
use Rattle.scasp_search_rules.specs.declared.states.outcomes.Status.{Status}
use Rattle.scasp_search_rules.specs.declared.states.outcomes.Status.TheVariants.{Entailed, Impossible, Added, Parts}
use Rattle.scasp_search_rules.specs.declared.states.state.Kind.{Kind}
use Rattle.scasp_search_rules.specs.declared.states.state.Kind.TheVariants.{Existential, Universal}
use Rattle.scasp_search_rules.specs.declared.states.state.State.{State}
use Rattle.scasp_search_rules.specs.declared.states.tasks.Task.{Task}
use Rattle.scasp_search_rules.specs.Successors.Assumptions.{performed, as_read, status, assume}
use Rattle.scasp_search_rules.specs.Successors.Equations.{replaced_if, bound_if, mixed, two_variables, is_inside, becomes_number, variable_number, becomes_shape, variable_app, equated, equations}
use Rattle.scasp_search_rules.specs.Successors.Falls.{EachState}
use Rattle.scasp_search_rules.specs.Successors.Reading.{con_vars, count_from, not_shaped}
use Rattle.scasp_search_rules.specs.Successors.Regions.{before, with_given, context, asked_with, is_constrained}
use Rattle.scasp_search_rules.specs.Successors.Splits.{split_at, split_by, owner, numbered_to, is_number_by, parted, replacement, bound_by, is_bound_in, cover_parted, at_depth}
use Rattle.scasp_search_rules.specs.Successors.Steps.{fails, goes, each}
use Rattle.scasp_search_rules.specs.Successors.Variables.{bind, binding, with_new, lowered, depth_of, meaning, next_variable, is_universal, is_kind_matched}
use Rattle.scasp_syntax.specs.Constraints.{has_shape}
use Rattle.scasp_syntax.specs.Tm.{Tm, Tms, var, num, app, nil, cons, items}
use Rattle.scasp_syntax.specs.Values.{under}
use Rattle.scasp_syntax.specs.View.{tm_of}
use Rattle.scasp_syntax.specs.declared.con.Con.{Con}
use Rattle.scasp_syntax.specs.declared.con.Con.TheVariants as con
use Rattle.scasp_syntax.specs.declared.program.Program.{Program}
use Rattle.scasp_syntax.specs.declared.term.Term.TheVariants.{Var, Num, App}
use Rattle.scasp_unify.specs.Negations.{new_parts}
use Rattle.scasp_unify.specs.Parts.{Part, parts, left_side, right_side, occurs_among}
use Rattle.scasp_unify.specs.SimpleForm.{term_with, simple, by_parts, one_part}
use Rattle.scasp_unify.specs.Unification.{term_vars, terms_vars}
use Rattle.scasp_unify.specs.declared.bindings.Binding.{Binding}
use Rattle.scasp_unify.proofs.SimpleLemmas.{viewed}
use Rattle.scasp_law_first_event.proofs.Bindings.{bound-push}
use Rattle.scasp_law_first_event.proofs.EachStates.{each_only_if, each_followed, each_map, each_weaker}
use Rattle.scasp_law_first_event.proofs.Firmness.{is_loose, Kinded, Firm, TermFirm, AssumedFirm, EquationFirm, CoverFirm, Onto, as-many, onto-itself, onto-then, term-onto, cover-onto, covers-onto, read-kinded, kinded-term, kinded-firm, BindingFirm}
use Rattle.scasp_law_first_event.proofs.Fitting.{EachPart, parts-keep}
use Rattle.scasp_law_first_event.proofs.Bindings.{Solved}
use Rattle.scasp_law_first_event.proofs.Keeping.{length-count}
use Rattle.scasp_law_first_event.proofs.Loose.{lowered-loose, loose-left, loose-new}
use Rattle.scasp_law_first_event.proofs.Moves.{lowered-length, new-length}
use Rattle.scasp_law_first_event.proofs.Terms.{EachVars, all-weaker}

-- the second state has made variables of a kind alone, and keeps what covers and literals speak of
pub record Makes (s r : State) : Type 0 where
  pub onto : Onto s r
  pub fresh : (z : ℕ) → length s.made ≤ z → z < length r.made → Kinded r z
  pub covers : (p : Program) → Each (CoverFirm p s) s.covers → Each (CoverFirm p r) r.covers
  pub literals : r.literals ≡ s.literals

pub makes-then : (s r t : State) → Makes s r → Makes r t → Makes s t
makes-then s r t a b = record {
  onto = onto-then s r t a.onto b.onto;
  fresh = (λ z l k. by z l k (cases_lt z (length r.made)));
  covers = (λ p h. b.covers p (a.covers p h));
  literals = b.literals ∙ a.literals;
}
  where
    by : (z : ℕ) → length s.made ≤ z → z < length t.made → (z < length r.made) ⊎ (length r.made ≤ z) → Kinded t z
    by z l k (inl m) = b.onto.kinded z (a.fresh z l m)
    by z l k (inr m) = b.fresh z m k

-- ---- binding

pub onto-by : (s r : State) → length s.made ≤ length r.made → ((z : ℕ) → z < length s.made → is_loose r z ≡ is_loose s z)
    → ((z : ℕ) → is_bound_in s.bound z ≡ true → is_bound_in r.bound z ≡ true) → Onto s r
onto-by s r l same stays = record {
  more = l;
  kinded = (λ z k. (omega (arith, k.0, l), same z k.0 ∙ k.1));
  firm = (λ z k. (omega (arith, k.0, l), by z k.0 k.1));
}
  where
    by : (z : ℕ) → z < length s.made → (is_loose s z ≡ false) ⊎ (is_bound_in s.bound z ≡ true) → (is_loose r z ≡ false) ⊎ (is_bound_in r.bound z ≡ true)
    by z a (inl e) = inl (same z a ∙ e)
    by z a (inr e) = inr (stays z e)

pub still-bound : (bs : List Binding) (b : Binding) (z : ℕ) → is_bound_in bs z ≡ true → is_bound_in (bs ++ b ∷ []) z ≡ true
still-bound bs b z e = bound-push bs b z ∙ or_left (is_bound_in bs z) (nat_eq b.x z) e

pub makes-by : (s r : State) → Onto s r → length r.made ≡ length s.made → r.covers ≡ s.covers → r.literals ≡ s.literals → Makes s r
makes-by s r o e same lits = record {
  onto = o;
  fresh = (λ z l k. absurd (omega (arith, e, l, k)));
  covers = (λ p h. subst (Each (CoverFirm p r)) (sym same) (covers-onto s r o p s.covers h));
  literals = lits;
}

pub makes-itself : (s : State) → Makes s s
makes-itself s = makes-by s s (onto-itself s) refl refl refl

pub bind-makes : (s : State) (x : ℕ) (t : Tm) → Makes s (bind s x t)
bind-makes s x t =
    makes-by s (bind s x t)
    (onto-by s (bind s x t) (omega (arith, long)) (λ z l. lowered-loose (depth_of s x) (term_vars t) s.made z) (λ z e. still-bound s.bound (binding x t) z e)) long refl refl
  where
    long : length (lowered (depth_of s x) (term_vars t) s.made) ≡ length s.made
    long = lowered-length (depth_of s x) (term_vars t) s.made

pub new-onto : (s : State) (kind : Kind) (d n : ℕ) → Onto s (with_new s kind d n)
new-onto s kind d n =
    onto-by s (with_new s kind d n) (let e = new-length s kind d n in omega (arith, e))
    (λ z l. loose-left s.made (replicate n (record { kind = kind; depth = d })) z l) (λ z e. e)

pub new-makes : (s : State) (kind : Kind) (d n : ℕ) → is_kind_matched kind ≡ false → Makes s (with_new s kind d n)
new-makes s kind d n e = record {
  onto = new-onto s kind d n;
  fresh = (λ z l k. (k, loose-new s.made n (record { kind = kind; depth = d }) z l (let m = new-length s kind d n in omega (arith, k, m)) ∙ e));
  covers = (λ p h. covers-onto s (with_new s kind d n) (new-onto s kind d n) p s.covers h);
  literals = refl;
}

-- ---- splits

module _ (s : State) (d : ℕ) (c : Con) where
  split-long : length (split_at s d c).made ≡ length s.made + length (parted (next_variable s) c).parts_there
  split-long =
      lowered-length (d - 1) (con_vars (meaning s) c) (with_new s Universal d (length (parted (next_variable s) c).parts_there)).made
      ∙ new-length s Universal d (length (parted (next_variable s) c).parts_there)

  stays-bound : (o : Option Binding) (z : ℕ) → is_bound_in s.bound z ≡ true → is_bound_in (s.bound ++ bound_by o) z ≡ true
  stays-bound None z e = subst (λ (bs : List Binding). is_bound_in bs z ≡ true) (sym (append-nil s.bound)) e
  stays-bound (Some b) z e = still-bound s.bound b z e

  pub split-onto : Onto s (split_at s d c)
  split-onto =
      onto-by s (split_at s d c) (omega (arith, split-long))
      (λ z l.
      lowered-loose (d - 1) (con_vars (meaning s) c) (with_new s Universal d (length (parted (next_variable s) c).parts_there)).made z
      ∙ loose-left s.made (replicate (length (parted (next_variable s) c).parts_there) (record { kind = Universal; depth = d })) z l)
      (λ z e. stays-bound (replacement c) z e)

  split-fresh : (z : ℕ) → length s.made ≤ z → z < length (split_at s d c).made → Kinded (split_at s d c) z
  split-fresh z l k = (
    k,
    lowered-loose (d - 1) (con_vars (meaning s) c) (with_new s Universal d (length (parted (next_variable s) c).parts_there)).made z
        ∙ loose-new s.made (length (parted (next_variable s) c).parts_there) (record { kind = Universal; depth = d }) z l (omega (arith, k, split-long)),
  )

  -- the covers of a split, where its new parts are kinded, and the other side's equation is firm
  split-covers : (p : Program) → Each (Kinded (split_at s d c)) (parted (next_variable s) c).parts_here → Each (Kinded (split_at s d c)) (parted (next_variable s) c).parts_there
      → EquationFirm (split_at s d c) (replacement (parted (next_variable s) c).there) → (cs : List Cover) → Each (CoverFirm p s) cs
      → Each (CoverFirm p (split_at s d c)) (at_depth d (cover_parted (parted (next_variable s) c) s.bound) cs)
  split-covers p here there e [] h = tt
  split-covers p here there e (a ∷ cs) h = (by (nat_eq a.depth d), split-covers p here there e cs h.1)
    where
      r : State
      r = split_at s d c

      q : Parting
      q = parted (next_variable s) c

      k : CoverFirm p (split_at s d c) a
      k = cover-onto s (split_at s d c) split-onto p a h.0

      by : (b : Bool) → CoverFirm p (split_at s d c) (if b then cover_parted (parted (next_variable s) c) s.bound a else a)
      by true = (
        Each-append (Kinded (split_at s d c)) a.universals (parted (next_variable s) c).parts_here k.0 here,
        k.1,
        ((Each-append (Kinded (split_at s d c)) a.universals (parted (next_variable s) c).parts_there k.0 there, e), k.2),
      )
      by false = k

  pub split-makes : Each (Kinded (split_at s d c)) (parted (next_variable s) c).parts_here → Each (Kinded (split_at s d c)) (parted (next_variable s) c).parts_there
      → EquationFirm (split_at s d c) (replacement (parted (next_variable s) c).there) → Makes s (split_at s d c)
  split-makes here there e = record {
    onto = split-onto;
    fresh = split-fresh;
    covers = (λ p h. split-covers p here there e s.covers h);
    literals = refl;
  }

-- the other side of what reads so: its equation is firm
abbrev pub ReadFirm : State → Con → Type 0
ReadFirm s (con.Eq (Var x) u) = ⊥
ReadFirm s (con.Eq (Num q) u) = ⊤
ReadFirm s (con.Eq (App f ts) u) = ⊤
ReadFirm s (con.Neq (Var x) u) = TermFirm s (tm_of u)
ReadFirm s (con.Neq (Num q) u) = ⊤
ReadFirm s (con.Neq (App f ts) u) = ⊤
ReadFirm s (con.NotShape x f n) = ⊤
ReadFirm s (con.Num t) = ⊤
ReadFirm s (con.NotNum t) = ⊤
ReadFirm s (con.Row r) = ⊤

-- numbers within a span
pub count-each : (P : ℕ → Type 0) (m : ℕ) → (k n : ℕ) → m ≤ k → ((z : ℕ) → m ≤ z → z < k + n → P z) → Each P (count_from k n)
count-each P m k zero l h = tt
count-each P m k (suc n) l h = (h k l (omega arith), count-each P m (suc k) n (omega (arith, l)) (λ z a b. h z a (omega (arith, b))))

pub parts-each : (P : ℕ → Type 0) (m : ℕ) → (k n : ℕ) → m ≤ k → ((z : ℕ) → m ≤ z → z < k + n → P z) → EachVars P (new_parts k n)
parts-each P m k zero l h = tt
parts-each P m k (suc n) l h = (h k l (omega arith), parts-each P m (suc k) n (omega (arith, l)) (λ z a b. h z a (omega (arith, b))))

pub vars-each : (P : ℕ → Type 0) (m : ℕ) → (k n : ℕ) → m ≤ k → ((z : ℕ) → m ≤ z → z < k + n → P z) → Each P (terms_vars (new_parts k n))
vars-each P m k zero l h = tt
vars-each P m k (suc n) l h = (h k l (omega arith), vars-each P m (suc k) n (omega (arith, l)) (λ z a b. h z a (omega (arith, b))))

shape-span : (s : State) (d x f n : ℕ) (z : ℕ) → length s.made ≤ z → z < length s.made + n → Kinded (split_at s d (con.NotShape x f n)) z
shape-span s d x f n z l k =
    split-fresh s d (con.NotShape x f n) z l
    (let long : length (split_at s d (con.NotShape x f n)).made ≡ length s.made + length (count_from (next_variable s) n) = split-long s d (con.NotShape x f n) in
    let many = length-count (next_variable s) n in omega (arith, long, many, k))

pub read-makes : (s : State) (d : ℕ) (c : Con) → ReadFirm s c → Makes s (split_at s d c)
read-makes s d (con.Eq (Var x) u) h = absurd h
read-makes s d (con.Eq (Num q) u) h = split-makes s d (con.Eq (Num q) u) tt tt tt
read-makes s d (con.Eq (App f ts) u) h = split-makes s d (con.Eq (App f ts) u) tt tt tt
read-makes s d (con.Neq (Var x) u) h =
    split-makes s d (con.Neq (Var x) u) tt tt (term-onto s (split_at s d (con.Neq (Var x) u)) (split-onto s d (con.Neq (Var x) u)) (tm_of u) h)
read-makes s d (con.Neq (Num q) u) h = split-makes s d (con.Neq (Num q) u) tt tt tt
read-makes s d (con.Neq (App f ts) u) h = split-makes s d (con.Neq (App f ts) u) tt tt tt
read-makes s d (con.NotShape x f n) h =
    split-makes s d (con.NotShape x f n) tt
    (count-each (Kinded (split_at s d (con.NotShape x f n))) (length s.made) (length s.made) n (omega arith) (shape-span s d x f n))
    (all-weaker (Kinded (split_at s d (con.NotShape x f n))) (Firm (split_at s d (con.NotShape x f n))) (kinded-firm (split_at s d (con.NotShape x f n))) (new_parts (next_variable s) n)
    (parts-each (Kinded (split_at s d (con.NotShape x f n))) (length s.made) (length s.made) n (omega arith) (shape-span s d x f n)))
read-makes s d (con.Num t) h = split-makes s d (con.Num t) tt tt tt
read-makes s d (con.NotNum t) h = split-makes s d (con.NotNum t) tt tt tt
read-makes s d (con.Row r) h = split-makes s d (con.Row r) tt tt tt

-- ---- assuming

-- with the same bindings and the same work
pub record Assumes (s r : State) : Type 0 where
  pub makes : Makes s r
  pub bound : r.bound ≡ s.bound

pub assumes-itself : (s : State) → Assumes s s
assumes-itself s = record { makes = makes-itself s; bound = refl }

pub assumes-then : (s r t : State) → Assumes s r → Assumes r t → Assumes s t
assumes-then s r t a b = record { makes = makes-then s r t a.makes b.makes; bound = b.bound ∙ a.bound }

given-assumes : (s : State) (c : Con) → Assumes s (with_given s c)
given-assumes s c = record { makes = makes-by s (with_given s c) (onto-by s (with_given s c) (as-many (length s.made)) (λ z l. refl) (λ z e. e)) refl refl refl; bound = refl }

-- nothing is bound
read-unbound : (s : State) (c : Con) → ReadFirm s c → s.bound ++ bound_by (replacement c) ≡ s.bound
read-unbound s (con.Eq (Var x) u) h = absurd h
read-unbound s (con.Eq (Num q) u) h = append-nil s.bound
read-unbound s (con.Eq (App f ts) u) h = append-nil s.bound
read-unbound s (con.Neq t u) h = append-nil s.bound
read-unbound s (con.NotShape x f n) h = append-nil s.bound
read-unbound s (con.Num t) h = append-nil s.bound
read-unbound s (con.NotNum t) h = append-nil s.bound
read-unbound s (con.Row r) h = append-nil s.bound

split-assumes : (s : State) (d : ℕ) (c : Con) → ReadFirm s c → Assumes s (split_at s d c)
split-assumes s d c h = record { makes = read-makes s d c h; bound = read-unbound s c h }

numbered-assumes : (d : ℕ) (s : State) (x : ℕ) → Assumes s (numbered_to d s x)
numbered-assumes d s x = by (is_number_by s d x) (is_universal s x)
  where
    by : (known owned : Bool) → Assumes s (if known then s else (if owned then split_at s (depth_of s x) (con.Num (Var x)) else with_given s (con.Num (Var x))))
    by true owned = assumes-itself s
    by false true = split-assumes s (depth_of s x) (con.Num (Var x)) tt
    by false false = given-assumes s (con.Num (Var x))

all-numbered : (d : ℕ) (s : State) (xs : List ℕ) → Assumes s (fold (numbered_to d) s xs)
all-numbered d s [] = assumes-itself s
all-numbered d s (x ∷ xs) = assumes-then s (numbered_to d s x) (fold (numbered_to d) s (x ∷ xs)) (numbered-assumes d s x) (all-numbered d (numbered_to d s x) xs)

by-assumes : (s : State) (d : ℕ) (c : Con) → ReadFirm s c → Assumes s (split_by s d c)
by-assumes s d (con.Row r) h =
    let xs : List ℕ = map (λ k. k.x) r.coeffs in
    assumes-then s (fold (numbered_to d) s xs) (split_by s d (con.Row r)) (all-numbered d s xs) (split-assumes (fold (numbered_to d) s xs) d (con.Row r) tt)
by-assumes s d (con.Eq t u) h = split-assumes s d (con.Eq t u) h
by-assumes s d (con.Neq t u) h = split-assumes s d (con.Neq t u) h
by-assumes s d (con.NotShape x f n) h = split-assumes s d (con.NotShape x f n) h
by-assumes s d (con.Num t) h = split-assumes s d (con.Num t) h
by-assumes s d (con.NotNum t) h = split-assumes s d (con.NotNum t) h

performed-assumes : (s : State) (c : Con) → ReadFirm s c → (a : Status) → EachState (Assumes s) (performed s c a)
performed-assumes s c h Entailed = (assumes-itself s, tt)
performed-assumes s c h Impossible = tt
performed-assumes s c h Added = (given-assumes s c, tt)
performed-assumes s c h Parts = (by-assumes s (owner s c) c h, tt)

-- ---- what is assumed, as it reads

sides-firm : (s : State) (a b : Tm) → TermFirm s b → ReadFirm s (con.Neq (term_with a) (term_with b))
sides-firm s (var x) b h = subst (TermFirm s) (sym (viewed b)) h
sides-firm s (num q) b h = tt
sides-firm s (app f ts) b h = tt

right-firm : (s : State) (o : Part) → Firm s o.at × TermFirm s o.term → TermFirm s (right_side o)
right-firm s o h = by o.turned
  where
    by : (b : Bool) → TermFirm s (if b then var o.at else o.term)
    by true = h.0
    by false = h.1

one-firm : (s : State) (o : Part) (t : Tm) → Firm s o.at × TermFirm s o.term → ReadFirm s (one_part o t)
one-firm s o (app f nil) h = tt
one-firm s o (app f (cons t ts)) h = sides-firm s (left_side o) (right_side o) (right-firm s o h)
one-firm s o (num q) h = sides-firm s (left_side o) (right_side o) (right-firm s o h)
one-firm s o (var y) h = sides-firm s (left_side o) (right_side o) (right-firm s o h)

parts-firm : (s : State) (c : Con) (o : Option (List Part)) → ReadFirm s c → EachPart (Firm s) o → ReadFirm s (by_parts c o)
parts-firm s c None h k = h
parts-firm s c (Some []) h k = h
parts-firm s c (Some (o ∷ [])) h k = one-firm s o o.term k.0
parts-firm s c (Some (o ∷ r ∷ ps)) h k = tt

neq-firm : (s : State) (a b : Tm) → TermFirm s a → TermFirm s b → ReadFirm s (simple (con.Neq (term_with a) (term_with b)))
neq-firm s a b h k =
    parts-firm s (con.Neq (term_with a) (term_with b)) (parts (tm_of (term_with a)) (tm_of (term_with b))) (sides-firm s a b k)
    (parts-keep (Firm s) (tm_of (term_with a)) (tm_of (term_with b)) (subst (TermFirm s) (sym (viewed a)) h) (subst (TermFirm s) (sym (viewed b)) k))

shape-firm : (s : State) (t : Tm) (f k : ℕ) → TermFirm s t → ReadFirm s (simple (not_shaped t f k))
shape-firm s (var x) f k h = tt
shape-firm s (num q) f k h = tt
shape-firm s (app g us) f k h = by (has_shape f k (app g us))
  where
    by : (b : Bool) → ReadFirm s (simple (if b then con.Neq (App g us) (App g us) else con.Eq (App g us) (App g us)))
    by true = neq-firm s (app g us) (app g us) h h
    by false = tt

read-firm : (s : State) → Solved (length s.made) s.bound → Each (BindingFirm s) s.bound → (c : Con) → AssumedFirm s c → ReadFirm s (as_read s c)
read-firm s solved h (con.Eq t u) a = absurd a
read-firm s solved h (con.Neq t u) a =
    neq-firm s (under (meaning s) (tm_of t)) (under (meaning s) (tm_of u)) (kinded-term s (under (meaning s) (tm_of t)) (read-kinded s solved h (tm_of t) a.0))
    (kinded-term s (under (meaning s) (tm_of u)) (read-kinded s solved h (tm_of u) a.1))
read-firm s solved h (con.NotShape x f k) a = shape-firm s (meaning s x) f k (kinded-term s (meaning s x) (read-kinded s solved h (var x) a))
read-firm s solved h (con.Num t) a = tt
read-firm s solved h (con.NotNum t) a = tt
read-firm s solved h (con.Row r) a = tt

pub assume-assumes : (sat : List Con → Bool) (s : State) → Solved (length s.made) s.bound → Each (BindingFirm s) s.bound → (c : Con) → AssumedFirm s c
    → EachState (Assumes s) (assume sat s c).states
assume-assumes sat s solved h c a = performed-assumes s (as_read s c) (read-firm s solved h c a) (status sat s c)

num-assumes : (sat : List Con → Bool) (s : State) (x : ℕ) → EachState (Assumes s) (assume sat s (con.Num (Var x))).states
num-assumes sat s x = performed-assumes s (as_read s (con.Num (Var x))) tt (status sat s (con.Num (Var x)))

-- ---- equating

replaced-makes : (sat : List Con → Bool) (s : State) (u : ℕ) (t : Tm) → Makes s (split_at s (depth_of s u) (con.Eq (Var u) (term_with t)))
    → EachState (Makes s) (replaced_if sat s u t).states
replaced-makes sat s u t h =
    each_only_if (Makes s) (sat (asked_with s (context s ++ con.Eq (Var u) (term_with t) ∷ []))) (split_at s (depth_of s u) (con.Eq (Var u) (term_with t))) h

variable-makes : (sat : List Con → Bool) (s : State) (u v : ℕ) → EachState (Makes s) (replaced_if sat s u (var v)).states
variable-makes sat s u v = replaced-makes sat s u (var v) (split-makes s (depth_of s u) (con.Eq (Var u) (Var v)) tt tt tt)

bound-makes : (sat : List Con → Bool) (s : State) (x : ℕ) (t : Tm) → EachState (Makes s) (bound_if sat (bind s x t)).states
bound-makes sat s x t = each_only_if (Makes s) (sat (asked_with (bind s x t) (bind s x t).given)) (bind s x t) (bind-makes s x t)

mixed-makes : (sat : List Con → Bool) (s : State) (e u : ℕ) → EachState (Makes s) (mixed sat s e u).states
mixed-makes sat s e u = by (nat_le (depth_of s u) (depth_of s e) && not (is_constrained s e))
  where
    by : (b : Bool) → EachState (Makes s) (if b then goes (bind s e (var u)) else replaced_if sat s u (var e)).states
    by true = (bind-makes s e (var u), tt)
    by false = variable-makes sat s u e

two-make : (sat : List Con → Bool) (s : State) (x y : ℕ) (a b : Bool) → EachState (Makes s) (two_variables sat s x y a b).states
two-make sat s x y false false = bound-makes sat s (max x y) (var (min x y))
two-make sat s x y false true = mixed-makes sat s x y
two-make sat s x y true false = mixed-makes sat s y x
two-make sat s x y true true = by (is_inside s x y)
  where
    by : (b : Bool) → EachState (Makes s) (if b then replaced_if sat s x (var y) else replaced_if sat s y (var x)).states
    by true = variable-makes sat s x y
    by false = variable-makes sat s y x

number-makes : (sat : List Con → Bool) (s : State) (x : ℕ) (q : Number) → EachState (Makes s) (variable_number sat s x q).states
number-makes sat s x q =
    each_followed (Assumes s) (Makes s) (becomes_number sat x q) (assume sat s (con.Num (Var x))).states (num-assumes sat s x)
    (λ r k. each_weaker (Makes r) (Makes s) (becomes_number sat x q r).states (λ t l. makes-then s r t k.makes l) (becomes r (is_universal r x)))
  where
    becomes : (r : State) (b : Bool) → EachState (Makes r) (if b then replaced_if sat r x (num q) else bound_if sat (bind r x (num q))).states
    becomes r true = replaced-makes sat r x (num q) (split-makes r (depth_of r x) (con.Eq (Var x) (Num q)) tt tt tt)
    becomes r false = bound-makes sat r x (num q)

pub shape-makes : (sat : List Con → Bool) (s : State) (x f n : ℕ) → EachState (Makes s) (becomes_shape sat s x f n).states
shape-makes sat s x f n = by (is_universal s x)
  where
    t : Tm
    t = app f (new_parts (next_variable s) n)

    by : (b : Bool) → EachState (Makes s) (if b then replaced_if sat (with_new s Universal (depth_of s x) n) x t else bound_if sat (bind (with_new s Existential (depth_of s x) n) x t)).states
    by true =
        let r : State = with_new s Universal (depth_of s x) n in
        let m : Makes s r = new-makes s Universal (depth_of s x) n refl in
        let long : length r.made ≡ length s.made + n = new-length s Universal (depth_of s x) n in
        let c : Con = con.Eq (Var x) (App f (new_parts (next_variable s) n)) in
        each_weaker (Makes r) (Makes s) (replaced_if sat r x t).states (λ o l. makes-then s r o m l)
        (replaced-makes sat r x t
        (split-makes r (depth_of r x) c
        (vars-each (Kinded (split_at r (depth_of r x) c)) (length s.made) (length s.made) n (omega arith)
        (λ z a b. (split-onto r (depth_of r x) c).kinded z (m.fresh z a (omega (arith, b, long))))) tt tt))
    by false =
        let r : State = with_new s Existential (depth_of s x) n in
        each_weaker (Makes r) (Makes s) (bound_if sat (bind r x t)).states (λ o l. makes-then s r o (new-makes s Existential (depth_of s x) n refl) l) (bound-makes sat r x t)

-- other work, lines and given constraints
pub makes-work : (s r : State) (ws : List Task) → Makes s r → Makes s (record r { work = ws })
makes-work s r ws m = record {
  onto = record { more = m.onto.more; kinded = m.onto.kinded; firm = m.onto.firm };
  fresh = m.fresh;
  covers = m.covers;
  literals = m.literals;
}

app-makes : (sat : List Con → Bool) (s : State) (x f : ℕ) (ts : Tms) → EachState (Makes s) (variable_app sat s x f ts).states
app-makes sat s x f ts = by (occurs_among x ts)
  where
    by : (b : Bool) → EachState (Makes s) (if b then fails else each (before (equations (new_parts (next_variable s) (length (items ts))) ts)) (becomes_shape sat s x f (length (items ts)))).states
    by true = tt
    by false =
        each_map (Makes s) (Makes s) (before (equations (new_parts (next_variable s) (length (items ts))) ts)) (becomes_shape sat s x f (length (items ts))).states
        (shape-makes sat s x f (length (items ts)))
        (λ r m. makes-work s r (equations (new_parts (next_variable s) (length (items ts))) ts ++ r.work) m)

pub equated-makes : (sat : List Con → Bool) (s : State) (t u : Tm) → EachState (Makes s) (equated sat s t u).states
equated-makes sat s (var x) (var y) = two-make sat s x y (is_universal s x) (is_universal s y)
equated-makes sat s (var x) (num q) = number-makes sat s x q
equated-makes sat s (var x) (app f ts) = app-makes sat s x f ts
equated-makes sat s (num q) (var y) = number-makes sat s y q
equated-makes sat s (num q) (num r) = tt
equated-makes sat s (num q) (app f ts) = tt
equated-makes sat s (app f ts) (var y) = app-makes sat s y f ts
equated-makes sat s (app f ts) (num r) = tt
equated-makes sat s (app f ts) (app g us) = tt
