-- What each step keeps of bindings in solved form, of covers and of literals, but where a variable is bound to a term in which it stands.
use Rattle.std.specs.Prelude.{◌≡◌, ◌⊎◌, ◌≢◌, ℕ, zero, suc, ◌+◌, ◌-◌, ◌<◌, ◌≤◌, nat_eq, Bool, true, false, ◌||◌, if◌then◌else◌, List, [], ◌∷◌, ◌++◌, length, map, filter}
use Rattle.std.specs.List.{fold}
use Rattle.std.proofs.Common.{refl, arith, ap, sym, subst, ◌∙◌, inl, inr}
use Rattle.std.proofs.lemmas.Bool.{cases_Bool, or_left, or_right, or_parts, eqb-false}
use Rattle.std.proofs.lemmas.List.{append-nil}
use Rattle.std.proofs.lemmas.List.Folds.{list_any-append}
use Rattle.scasp_list.specs.Each.{Each}
use Rattle.scasp_list.proofs.EachLemmas.{Each-map, Each-append, Each-filter}
use Rattle.scasp_search_rules.specs.declared.states.outcomes.Parting.{Parting}
use Rattle.scasp_search_rules.specs.declared.states.outcomes.Status.{Status}
use Rattle.scasp_search_rules.specs.declared.states.outcomes.Status.TheVariants.{Entailed, Impossible, Added, Parts}
use Rattle.scasp_search_rules.specs.declared.states.state.Kind.TheVariants.{Universal}
use Rattle.scasp_search_rules.specs.declared.states.state.Literal.{Literal}
use Rattle.scasp_search_rules.specs.declared.states.state.State.{State}
use Rattle.scasp_search_rules.specs.declared.states.tasks.Task.{Task}
use Rattle.scasp_search_rules.specs.Successors.Assumptions.{performed, as_read, status, assume, assume_all}
use Rattle.scasp_search_rules.specs.Successors.Falls.{EachState}
use Rattle.scasp_search_rules.specs.Successors.Reading.{con_vars, count_from, not_shaped}
use Rattle.scasp_search_rules.specs.Successors.Regions.{with_given}
use Rattle.scasp_search_rules.specs.Successors.Splits.{split_at, split_by, owner, numbered_to, is_number_by, parted, replacement, bound_by, is_bound_in}
use Rattle.scasp_search_rules.specs.Successors.Variables.{binding, meaning, depth_of, next_variable, is_universal, with_new, lowered}
use Rattle.scasp_syntax.specs.Constraints.{has_shape}
use Rattle.scasp_syntax.specs.Tm.{Tm, var, num, app}
use Rattle.scasp_syntax.specs.Values.{under}
use Rattle.scasp_syntax.specs.View.{tm_of}
use Rattle.scasp_syntax.specs.declared.con.Con.{Con}
use Rattle.scasp_syntax.specs.declared.con.Con.TheVariants as con
use Rattle.scasp_syntax.specs.declared.program.Program.{Program}
use Rattle.scasp_syntax.specs.declared.term.Term.TheVariants.{Var, Num, App}
use Rattle.scasp_unify.specs.Parts.{occurs, parts}
use Rattle.scasp_unify.specs.SimpleForm.{term_with, simple}
use Rattle.scasp_unify.specs.declared.bindings.Binding.{Binding}
use Rattle.scasp_unify.proofs.SimpleLemmas.{viewed}
use Rattle.scasp_law_first_event.specs.Events.{IsCircular}
use Rattle.scasp_law_first_event.specs.Solved.{has_circle}
use Rattle.scasp_law_first_event.proofs.Bindings.{Solved, Free, read-free, read-keeps}
use Rattle.scasp_law_first_event.proofs.EachStates.{each_followed}
use Rattle.scasp_law_first_event.proofs.Fitting.{TermBelow, ConBelow, EquationBelow, LiteralBelow, CoverBelow, Front, term-more, con-more, parts-below, parts-keep as parts-part, Fits, equation-fits, other-fits, parts-fit}
use Rattle.scasp_law_first_event.proofs.Moves.{Puts, lowered-length, new-length, covers-parted, split-puts}
use Rattle.scasp_law_first_event.proofs.Terms.{EachVar, each-weaker, all-weaker, absent-each}

-- ---- bindings

pub solved-more : (n m : ℕ) → n ≤ m → (bs : List Binding) → Solved n bs → Solved m bs
solved-more n m l [] h = tt
solved-more n m l (b ∷ bs) h =
    let here : b.x < n = h.0 in
    (omega (arith, here, l), each-weaker (λ y. y < n) (λ y. y < m) (λ y k. omega (arith, k, l)) (tm_of b.term) h.1, h.2, solved-more n m l bs h.3)

unbound-each : (n : ℕ) (b : Binding) (bs : List Binding) (v : Tm) → EachVar (Free n (b ∷ bs)) v → EachVar (λ y. y ≢ b.x) v
unbound-each n b bs v h =
    each-weaker (Free n (b ∷ bs)) (λ y. y ≢ b.x) (λ y f e. eqb-false b.x y (or_parts (nat_eq b.x y) (is_bound_in bs y) f.0).0 (sym e)) v h

-- the bindings without the first leave more free
free-tail : (n : ℕ) (b : Binding) (bs : List Binding) (v : Tm) → EachVar (Free n (b ∷ bs)) v → EachVar (Free n bs) v
free-tail n b bs v h =
    each-weaker (Free n (b ∷ bs)) (Free n bs) (λ y f. ((or_parts (nat_eq b.x y) (is_bound_in bs y) f.0).1, f.1)) v h

pub solved-push : (n : ℕ) (bs : List Binding) (z : ℕ) (v : Tm) → Solved n bs → z < n → EachVar (Free n bs) v → occurs z v ≡ false → Solved n (bs ++ binding z v ∷ [])
solved-push n [] z v h l f o = (
  l,
  subst (TermBelow n) (sym (viewed v)) (each-weaker (Free n []) (λ y. y < n) (λ y k. k.1) v f),
  (subst (EachVar (λ y. y ≢ z)) (sym (viewed v)) (absent-each z v o), tt),
  tt,
)
solved-push n (b ∷ bs) z v h l f o = (
  h.0,
  h.1,
  (h.2.0, Each-append (λ (c : Binding). EachVar (λ y. y ≢ b.x) (tm_of c.term)) bs (binding z v ∷ []) h.2.1 (subst (EachVar (λ y. y ≢ b.x)) (sym (viewed v)) (unbound-each n b bs v f), tt)),
  solved-push n bs z v h.3 l (free-tail n b bs v f) o,
)

pub circle-push : (bs : List Binding) (z : ℕ) (v : Tm) → occurs z v ≡ true → has_circle (bs ++ binding z v ∷ []) ≡ true
circle-push bs z v o =
    list_any-append (λ (b : Binding). occurs b.x (tm_of b.term)) bs (binding z v ∷ [])
    ∙ or_right (has_circle bs) (occurs z (tm_of (term_with v)) || false) (or_left (occurs z (tm_of (term_with v))) false (ap (occurs z) (viewed v) ∙ o))

pub circle-stays : (bs cs : List Binding) → has_circle bs ≡ true → has_circle (bs ++ cs) ≡ true
circle-stays bs cs h = list_any-append (λ (b : Binding). occurs b.x (tm_of b.term)) bs cs ∙ or_left (has_circle bs) (has_circle cs) h

pub solved-filter : (n : ℕ) (test : Binding → Bool) (bs : List Binding) → Solved n bs → Solved n (filter test bs)
solved-filter n test [] h = tt
solved-filter n test (b ∷ bs) h = by (test b) (solved-filter n test bs h.3)
  where
    by : (c : Bool) → Solved n (filter test bs) → Solved n (if c then b ∷ filter test bs else filter test bs)
    by true rest = (h.0, h.1, (h.2.0, Each-filter (λ (d : Binding). EachVar (λ y. y ≢ b.x) (tm_of d.term)) test bs h.2.1), rest)
    by false rest = rest

terms-below : (n : ℕ) (bs : List Binding) → Solved n bs → Each (λ b. TermBelow n (tm_of b.term)) bs
terms-below n [] h = tt
terms-below n (b ∷ bs) h = (h.1, terms-below n bs h.3)

-- ---- states

pub record Held (p : Program) (s : State) : Type 0 where
  pub solved : Solved (length s.made) s.bound
  pub covers : Each (CoverBelow p (length s.made)) s.covers
  pub literals : Each (LiteralBelow (length s.made)) s.literals

-- what holds of each state of a search that has no circle
pub record Orderly (p : Program) (s : State) : Type 0 where
  pub held : Held p s
  pub front : Front p (length s.made) s.bound s.work

-- the second state keeps what is held in the first, or has a circle
pub record Keep (p : Program) (s r : State) : Type 0 where
  pub more : length s.made ≤ length r.made
  pub held : Held p s → Held p r ⊎ IsCircular r
  pub circle : IsCircular s → IsCircular r

pub held-work : (p : Program) (s : State) (ws : List Task) → Held p s → Held p (record s { work = ws })
held-work p s ws h = record { solved = h.solved; covers = h.covers; literals = h.literals }

pub literals-more : (n m : ℕ) → n ≤ m → (xs : List Literal) → Each (LiteralBelow n) xs → Each (LiteralBelow m) xs
literals-more n m l xs h =
    Each-map (LiteralBelow n) (LiteralBelow m) (λ a k. all-weaker (λ y. y < n) (λ y. y < m) (λ y b. omega (arith, b, l)) a.lit.atom.args k) xs h

pub keep-itself : (p : Program) (s : State) → Keep p s s
keep-itself p s = record { more = omega arith; held = (λ h. inl h); circle = (λ c. c) }

pub keep-then : (p : Program) (s r t : State) → Keep p s r → Keep p r t → Keep p s t
keep-then p s r t a b = record {
  more = (let k = a.more in let l = b.more in omega (arith, k, l));
  held = (λ h. elim (a.held h) [ inl k ↦ b.held k | inr c ↦ inr (b.circle c) ]);
  circle = (λ c. b.circle (a.circle c));
}

-- with the same bindings
pub keep-same : (p : Program) (s r : State) → r.bound ≡ s.bound → length s.made ≤ length r.made
    → (Each (CoverBelow p (length s.made)) s.covers → Each (CoverBelow p (length r.made)) r.covers) → r.literals ≡ s.literals → Keep p s r
keep-same p s r e l covers same = record {
  more = l;
  held = (λ h. inl (record {
    solved = solved-more (length s.made) (length r.made) l r.bound (subst (Solved (length s.made)) (sym e) h.solved);
    covers = covers h.covers;
    literals = literals-more (length s.made) (length r.made) l r.literals (subst (Each (LiteralBelow (length s.made))) (sym same) h.literals);
  }));
  circle = (λ c. ap has_circle e ∙ c);
}

-- with one binding more, of a variable to a term without bound variables
pub keep-bound : (p : Program) (s r : State) (z : ℕ) (v : Tm) → r.bound ≡ s.bound ++ binding z v ∷ [] → length s.made ≤ length r.made
    → (Each (CoverBelow p (length s.made)) s.covers → Each (CoverBelow p (length r.made)) r.covers) → r.literals ≡ s.literals
    → (Held p s → (z < length r.made) × EachVar (Free (length r.made) s.bound) v) → Keep p s r
keep-bound p s r z v e l covers same fits = record {
  more = l;
  held = (λ h. by h (cases_Bool (occurs z v)));
  circle = (λ c. ap has_circle e ∙ circle-stays s.bound (binding z v ∷ []) c);
}
  where
    by : Held p s → (occurs z v ≡ true) ⊎ (occurs z v ≡ false) → Held p r ⊎ IsCircular r
    by h (inl o) = inr (ap has_circle e ∙ circle-push s.bound z v o)
    by h (inr o) =
        let f = fits h in
        inl (record {
          solved =
              subst (Solved (length r.made)) (sym e)
              (solved-push (length r.made) s.bound z v (solved-more (length s.made) (length r.made) l s.bound h.solved) f.0 f.1 o);
          covers = covers h.covers;
          literals = literals-more (length s.made) (length r.made) l r.literals (subst (Each (LiteralBelow (length s.made))) (sym same) h.literals);
        })

pub keep-puts : (p : Program) (s : State) (z : ℕ) (v : Tm) (n : ℕ) (ws : List Task) (r : State) → Puts s z v n ws r
    → (Held p s → (z < length s.made) × EachVar (Free (length s.made + n) s.bound) v) → Keep p s r
keep-puts p s z v n ws r h fits =
    let e : length r.made ≡ length s.made + n = h.made in
    keep-bound p s r z v h.bound (omega (arith, e)) (h.covers p) h.literals
    (λ k. let f = fits k in
    let l : z < length s.made = f.0 in
    (omega (arith, e, l), subst (λ (m : ℕ). EachVar (Free m s.bound) v) (sym e) f.1))

-- ---- splits

pub read-below : (p : Program) (s : State) (t : Tm) → Held p s → TermBelow (length s.made) t → TermBelow (length s.made) (under (meaning s) t)
read-below p s t h k = read-keeps (λ y. y < length s.made) s.bound (terms-below (length s.made) s.bound h.solved) t k

pub length-count : (k n : ℕ) → length (count_from k n) ≡ n
length-count k zero = refl
length-count k (suc n) = ap suc (length-count (suc k) n)

split-length : (s : State) (d m : ℕ) (xs : List ℕ) → length (lowered (d - 1) xs (with_new s Universal d m).made) ≡ length s.made + m
split-length s d m xs = lowered-length (d - 1) xs (with_new s Universal d m).made ∙ new-length s Universal d m

-- a split that binds nothing, where the other side's equation speaks of variables that are made
keep-parted : (p : Program) (s : State) (d : ℕ) (c : Con) → s.bound ++ bound_by (replacement c) ≡ s.bound
    → (Held p s → EquationBelow (length (split_at s d c).made) (replacement (parted (next_variable s) c).there)) → Keep p s (split_at s d c)
keep-parted p s d c e k =
    record {
      more = l;
      held = (λ h. (keep-same p s (split_at s d c) e l (λ cs. covers-parted p (length s.made) (length (split_at s d c).made) d (parted (next_variable s) c) s.bound l (k h) s.covers cs) refl).held h);
      circle = (λ o. ap has_circle e ∙ o);
    }
  where
    q : Parting
    q = parted (next_variable s) c

    l : length s.made ≤ length (split_at s d c).made
    l = let same = split-length s d (length (parted (next_variable s) c).parts_there) (con_vars (meaning s) c) in omega (arith, same)

keep-equation : (p : Program) (s : State) (d x : ℕ) (u : Tm) → (Held p s → Free (length s.made) s.bound x × EachVar (Free (length s.made) s.bound) u)
    → Keep p s (split_at s d (con.Eq (Var x) (term_with u)))
keep-equation p s d x u f =
    keep-puts p s x u 0 s.work (split_at s d (con.Eq (Var x) (term_with u))) (split-puts s d x u)
    (λ h. ((f h).0.1, each-weaker (Free (length s.made) s.bound) (Free (length s.made + 0) s.bound) (λ y g. (g.0, let l : y < length s.made = g.1 in omega (arith, l))) u (f h).1))

pub keep-split : (p : Program) (s : State) (d : ℕ) (c : Con) → (Held p s → Fits (length s.made) s.bound c) → Keep p s (split_at s d c)
keep-split p s d (con.Eq (Var x) (Var y)) f = keep-equation p s d x (var y) f
keep-split p s d (con.Eq (Var x) (Num q)) f = keep-equation p s d x (num q) f
keep-split p s d (con.Eq (Var x) (App g ts)) f = keep-equation p s d x (app g ts) f
keep-split p s d (con.Eq (Num q) u) f = keep-parted p s d (con.Eq (Num q) u) (append-nil s.bound) (λ h. tt)
keep-split p s d (con.Eq (App g ts) u) f = keep-parted p s d (con.Eq (App g ts) u) (append-nil s.bound) (λ h. tt)
keep-split p s d (con.Neq (Var x) u) f =
    keep-parted p s d (con.Neq (Var x) u) (append-nil s.bound)
    (λ h. let same = split-length s d 0 (con_vars (meaning s) (con.Neq (Var x) u)) in
    let l : x < length s.made = (f h).0 in
    (omega (arith, same, l), term-more p (length s.made) (length (split_at s d (con.Neq (Var x) u)).made) (omega (arith, same)) (tm_of u) (f h).1))
keep-split p s d (con.Neq (Num q) u) f = keep-parted p s d (con.Neq (Num q) u) (append-nil s.bound) (λ h. tt)
keep-split p s d (con.Neq (App g ts) u) f = keep-parted p s d (con.Neq (App g ts) u) (append-nil s.bound) (λ h. tt)
keep-split p s d (con.NotShape x g n) f =
    keep-parted p s d (con.NotShape x g n) (append-nil s.bound)
    (λ h. let same = split-length s d (length (count_from (next_variable s) n)) (con_vars (meaning s) (con.NotShape x g n)) in
    let many = length-count (next_variable s) n in
    let l : x < length s.made = f h in
    (omega (arith, same, l), parts-below (length (split_at s d (con.NotShape x g n)).made) (length s.made) n (omega (arith, same, many))))
keep-split p s d (con.Num t) f = keep-parted p s d (con.Num t) (append-nil s.bound) (λ h. tt)
keep-split p s d (con.NotNum t) f = keep-parted p s d (con.NotNum t) (append-nil s.bound) (λ h. tt)
keep-split p s d (con.Row r) f = keep-parted p s d (con.Row r) (append-nil s.bound) (λ h. tt)

keep-given : (p : Program) (s : State) (c : Con) → Keep p s (with_given s c)
keep-given p s c = keep-same p s (with_given s c) refl (omega arith) (λ h. h) refl

keep-numbered : (p : Program) (d : ℕ) (s : State) (x : ℕ) → Keep p s (numbered_to d s x)
keep-numbered p d s x = by (is_number_by s d x) (is_universal s x)
  where
    by : (known owned : Bool) → Keep p s (if known then s else (if owned then split_at s (depth_of s x) (con.Num (Var x)) else with_given s (con.Num (Var x))))
    by true owned = keep-itself p s
    by false true = keep-split p s (depth_of s x) (con.Num (Var x)) (λ h. tt)
    by false false = keep-given p s (con.Num (Var x))

keep-all-numbered : (p : Program) (d : ℕ) (s : State) (xs : List ℕ) → Keep p s (fold (numbered_to d) s xs)
keep-all-numbered p d s [] = keep-itself p s
keep-all-numbered p d s (x ∷ xs) = keep-then p s (numbered_to d s x) (fold (numbered_to d) s (x ∷ xs)) (keep-numbered p d s x) (keep-all-numbered p d (numbered_to d s x) xs)

keep-split-by : (p : Program) (s : State) (d : ℕ) (c : Con) → (Held p s → Fits (length s.made) s.bound c) → Keep p s (split_by s d c)
keep-split-by p s d (con.Row r) f =
    let xs : List ℕ = map (λ k. k.x) r.coeffs in
    keep-then p s (fold (numbered_to d) s xs) (split_by s d (con.Row r)) (keep-all-numbered p d s xs) (keep-split p (fold (numbered_to d) s xs) d (con.Row r) (λ h. tt))
keep-split-by p s d (con.Eq t u) f = keep-split p s d (con.Eq t u) f
keep-split-by p s d (con.Neq t u) f = keep-split p s d (con.Neq t u) f
keep-split-by p s d (con.NotShape x g n) f = keep-split p s d (con.NotShape x g n) f
keep-split-by p s d (con.Num t) f = keep-split p s d (con.Num t) f
keep-split-by p s d (con.NotNum t) f = keep-split p s d (con.NotNum t) f

-- ---- assuming

keep-performed : (p : Program) (s : State) (c : Con) → (Held p s → Fits (length s.made) s.bound c) → (a : Status) → EachState (Keep p s) (performed s c a)
keep-performed p s c f Entailed = (keep-itself p s, tt)
keep-performed p s c f Impossible = tt
keep-performed p s c f Added = (keep-given p s c, tt)
keep-performed p s c f Parts = (keep-split-by p s (owner s c) c f, tt)

-- a disequation that reads so
read-other : (n : ℕ) (bs : List Binding) (a b : Tm) → TermBelow n a → TermBelow n b → Fits n bs (simple (con.Neq (term_with a) (term_with b)))
read-other n bs a b h k =
    parts-fit n bs (con.Neq (term_with a) (term_with b)) (parts (tm_of (term_with a)) (tm_of (term_with b))) (other-fits n a b h k)
    (parts-part (λ y. y < n) (tm_of (term_with a)) (tm_of (term_with b)) (subst (TermBelow n) (sym (viewed a)) h) (subst (TermBelow n) (sym (viewed b)) k))

read-shape : (n : ℕ) (bs : List Binding) (t : Tm) (f k : ℕ) → TermBelow n t → Fits n bs (simple (not_shaped t f k))
read-shape n bs (var x) f k h = h
read-shape n bs (num q) f k h = tt
read-shape n bs (app g us) f k h = by (has_shape f k (app g us))
  where
    by : (b : Bool) → Fits n bs (simple (if b then con.Neq (App g us) (App g us) else con.Eq (App g us) (App g us)))
    by true = read-other n bs (app g us) (app g us) h h
    by false = tt

fits-read : (p : Program) (s : State) (c : Con) → ConBelow (length s.made) c → Held p s → Fits (length s.made) s.bound (as_read s c)
fits-read p s (con.Eq t u) b h =
    equation-fits (length s.made) s.bound (under (meaning s) (tm_of t)) (under (meaning s) (tm_of u))
    (read-free (length s.made) s.bound h.solved (tm_of t) b.0) (read-free (length s.made) s.bound h.solved (tm_of u) b.1)
fits-read p s (con.Neq t u) b h =
    read-other (length s.made) s.bound (under (meaning s) (tm_of t)) (under (meaning s) (tm_of u)) (read-below p s (tm_of t) h b.0) (read-below p s (tm_of u) h b.1)
fits-read p s (con.NotShape x f k) b h = read-shape (length s.made) s.bound (meaning s x) f k (read-below p s (var x) h b)
fits-read p s (con.Num t) b h = tt
fits-read p s (con.NotNum t) b h = tt
fits-read p s (con.Row r) b h = tt

pub keep-assumed : (p : Program) (sat : List Con → Bool) (s : State) (c : Con) → ConBelow (length s.made) c → EachState (Keep p s) (assume sat s c).states
keep-assumed p sat s c b = keep-performed p s (as_read s c) (fits-read p s c b) (status sat s c)

pub keep-all-assumed : (p : Program) (sat : List Con → Bool) (s r : State) (cs : List Con) → Keep p s r → Each (ConBelow (length s.made)) cs → EachState (Keep p s) (assume_all sat cs r).states
keep-all-assumed p sat s r [] k b = (k, tt)
keep-all-assumed p sat s r (c ∷ cs) k b =
    each_followed (Keep p r) (Keep p s) (assume_all sat cs) (assume sat r c).states (keep-assumed p sat r c (con-more p (length s.made) (length r.made) k.more c b.0))
    (λ t l. keep-all-assumed p sat s t cs (keep-then p s r t k l) b.1)
