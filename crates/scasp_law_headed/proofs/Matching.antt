-- The matching of a head against a literal: what is left of it, and where it is missed.
use Rattle.std.specs.Prelude.{◌≡◌, ◌⊎◌, ⊤, ℕ, ◌+◌, ◌<◌, ◌≤◌, nat_eq, nat_lt, Bool, true, false, ◌&&◌, not, if◌then◌else◌, List, None, Some, [], ◌∷◌, ◌++◌, map, reverse, length}
use Rattle.std.proofs.Common.{◌∙◌, ◌≢◌, ap, arith, inl, inr, refl, subst, sym}
use Rattle.std.proofs.lemmas.Bool.{and_from, eq-eqb, eqb-true, ltb-false, ltb-true, or_cases, or_left, or_right, true≢false}
use Rattle.std.proofs.lemmas.List.{append-nil}
use Rattle.std.proofs.lemmas.List.Folds.{list_any-append}
use Rattle.scasp_hint.specs.Satisfying.{sat}
use Rattle.scasp_law_first_event.proofs.Apart.{Apart, Both, First}
use Rattle.scasp_law_first_event.proofs.Bindings.{Free, Solved, bound-push, read-free}
use Rattle.scasp_law_first_event.proofs.EachStates.{each_map}
use Rattle.scasp_law_first_event.proofs.Firming.{parts-each, still-bound}
use Rattle.scasp_law_first_event.proofs.Firmness.{BindingFirm, Kinded, PairFirm, PairsFirm, as-many, is_loose}
use Rattle.scasp_law_first_event.proofs.Terms.{EachVar, EachVars, each-weaker}
use Rattle.scasp_law_headed_steps.proofs.Assuming.{Found, Kept, read-found}
use Rattle.scasp_law_headed_steps.proofs.Heads.{first-both}
use Rattle.scasp_law_headed_steps.proofs.Joining.{JoinsAlone, PairEqual, args-equal, last-equal, number-joins, pairs-equal, parts-many, shape-joins, variables-join}
use Rattle.scasp_law_headed_steps.proofs.Tasks.{equal-met, meets-before}
use Rattle.scasp_law_headed_steps.specs.Calm.{IsLater, holds_of}
use Rattle.scasp_law_parts.proofs.BoundLemmas.{absorbed}
use Rattle.scasp_law_parts.specs.Bound.{Triangular}
use Rattle.scasp_list.proofs.EachLemmas.{Each-append, Each-left, Each-map, Each-right}
use Rattle.scasp_list.specs.Each.{Each}
use Rattle.scasp_num.specs.Number.{Number}
use Rattle.scasp_search_rules.specs.Successors.Assumptions.{status}
use Rattle.scasp_search_rules.specs.Successors.Calls.{vars_of_clause}
use Rattle.scasp_search_rules.specs.Successors.Differences.{alternatives, at_part, differ_first, differ_number, differ_pair, differ_pairs, differ_shape, differ_terms, differ_value, differ_variables, is_matched, part_of_variables, same_shape, same_value, stands_first, take_up, when_apart}
use Rattle.scasp_search_rules.specs.Successors.Equations.{becomes_shape, equated, equations_of}
use Rattle.scasp_search_rules.specs.Successors.Falls.{EachState}
use Rattle.scasp_search_rules.specs.Successors.Pairs.{all_pairs_of, from_first, in_front, pair, pairs, pairs_of}
use Rattle.scasp_search_rules.specs.Successors.Regions.{before, equation}
use Rattle.scasp_search_rules.specs.Successors.Splits.{is_bound_in}
use Rattle.scasp_search_rules.specs.Successors.Steps.{goes}
use Rattle.scasp_search_rules.specs.Successors.Variables.{binding, meaning, next_variable, with_binding}
use Rattle.scasp_search_rules.specs.declared.states.outcomes.Status.{Status}
use Rattle.scasp_search_rules.specs.declared.states.outcomes.Status.TheVariants.{Added, Entailed, Impossible, Parts}
use Rattle.scasp_search_rules.specs.declared.states.state.Literal.{Literal}
use Rattle.scasp_search_rules.specs.declared.states.state.State.{State}
use Rattle.scasp_search_rules.specs.declared.states.tasks.Aim.TheVariants as aims
use Rattle.scasp_search_rules.specs.declared.states.tasks.Pair.{Pair}
use Rattle.scasp_search_rules.specs.declared.states.tasks.Task.{Task}
use Rattle.scasp_search_rules.specs.declared.states.tasks.Task.TheVariants as task
use Rattle.scasp_syntax.proofs.SameLemmas.{tm_decided}
use Rattle.scasp_syntax.specs.Constraints.{Meets, has_shape, holds, is_number}
use Rattle.scasp_syntax.specs.Same.{same_number, same_tm}
use Rattle.scasp_syntax.specs.Tm.{Tm, Tms, app, cons, items, nil, num, var}
use Rattle.scasp_syntax.specs.Values.{Sub, Valuation, all_under, under}
use Rattle.scasp_syntax.specs.View.{tm_of}
use Rattle.scasp_syntax.specs.declared.con.Con.{Con}
use Rattle.scasp_syntax.specs.declared.con.Con.TheVariants as con
use Rattle.scasp_syntax.specs.declared.program.Program.{Program}
use Rattle.scasp_syntax.specs.declared.term.Term.{Term}
use Rattle.scasp_syntax.specs.declared.term.Term.TheVariants.{App, Num, Var}
use Rattle.scasp_checker_rules.proofs.NodeLemmas.{all_under-length}
use Rattle.scasp_unify.proofs.SimpleLemmas.{viewed}
use Rattle.scasp_unify.proofs.UnificationLemmas.{Says, parts-say, resolved-twice}
use Rattle.scasp_unify.specs.Negations.{new_parts}
use Rattle.scasp_unify.specs.Parts.{occurs_among}
use Rattle.scasp_unify.specs.Resolver.{Equal}
use Rattle.scasp_unify.specs.SimpleForm.{differ, term_with}
use Rattle.scasp_unify.specs.Unification.{Absorbs}
use Rattle.scasp_unify.specs.declared.bindings.Binding.{Binding}
use Rattle.scasp_law_headed.proofs.Ahead.{Ahead, Ends, Grows, Step, TaskFine, bound-equal, grows-same, view, view-same, want_of, wants-append, wants_of}
use Rattle.scasp_law_headed.proofs.Views.{Miss, Move, Numbered, Outside, Same, Want, gives_up, rematches, want_match, want_void}
use Rattle.scasp_law_headed.specs.Reading.{reading}

-- ---- terms under two substitutions

mutual
  pub under-agree : (u w : Sub) (t : Tm) → EachVar (λ x. u x ≡ w x) t → under u t ≡ under w t
  under-agree u w (var x) h = h
  under-agree u w (num q) h = refl
  under-agree u w (app f ts) h = ap (app f) (all-agree u w ts h)

  pub all-agree : (u w : Sub) (ts : Tms) → EachVars (λ x. u x ≡ w x) ts → all_under u ts ≡ all_under w ts
  all-agree u w nil h = refl
  all-agree u w (cons t ts) h = λ i. cons (under-agree u w t h.0 i) (all-agree u w ts h.1 i)

-- ---- pairs of terms that are equal

pair-of : (u : Sub) (t s : Tm) → under u t ≡ under u s → PairEqual u (pair t s)
pair-of u t s e = ap (under u) (viewed t) ∙ e ∙ sym (ap (under u) (viewed s))

pub args-pairs : (u : Sub) (ts us : Tms) → all_under u ts ≡ all_under u us → Each (PairEqual u) (pairs ts us)
args-pairs u nil us e = tt
args-pairs u (cons t ts) nil e = tt
args-pairs u (cons t ts) (cons s us) e =
    let first : under u t ≡ under u s = cc e in
    let rest : all_under u ts ≡ all_under u us = cc e in
    (pair-of u t s first, args-pairs u ts us rest)

mutual
  pub pairs-split : (u : Sub) (t s : Tm) → under u t ≡ under u s → Each (PairEqual u) (pairs_of t s)
  pairs-split u (var x) (var y) e = by (nat_eq x y)
    where
      by : (b : Bool) → Each (PairEqual u) (if b then [] else pair (var x) (var y) ∷ [])
      by true = tt
      by false = (e, tt)
  pairs-split u (var x) (num q) e = (e, tt)
  pairs-split u (var x) (app f ts) e = (e, tt)
  pairs-split u (num q) (var y) e = (e, tt)
  pairs-split u (num q) (num r) e = by (same_number q r)
    where
      by : (b : Bool) → Each (PairEqual u) (if b then [] else pair (num q) (num r) ∷ [])
      by true = tt
      by false = (e, tt)
  pairs-split u (num q) (app f ts) e = (e, tt)
  pairs-split u (app f ts) (var y) e = (e, tt)
  pairs-split u (app f ts) (num r) e = (e, tt)
  pairs-split u (app f ts) (app g us) e = by (nat_eq f g && nat_eq (length (items ts)) (length (items us))) (all-pairs-split u ts us (let rest : all_under u ts ≡ all_under u us = cc e in rest))
    where
      by : (b : Bool) → Each (PairEqual u) (all_pairs_of ts us) → Each (PairEqual u) (if b then all_pairs_of ts us else pair (app f ts) (app g us) ∷ [])
      by true k = k
      by false k = (e, tt)

  all-pairs-split : (u : Sub) (ts us : Tms) → all_under u ts ≡ all_under u us → Each (PairEqual u) (all_pairs_of ts us)
  all-pairs-split u nil us e = tt
  all-pairs-split u (cons t ts) nil e = tt
  all-pairs-split u (cons t ts) (cons s us) e =
      let first : under u t ≡ under u s = cc e in
      let rest : all_under u ts ≡ all_under u us = cc e in
      Each-append (PairEqual u) (pairs_of t s) (all_pairs_of ts us) (pairs-split u t s first) (all-pairs-split u ts us rest)

-- the pairs from the first on that comes to something
pub first-split : (u w : Sub) → Absorbs u w → (ps : List Pair) → Each (PairEqual u) ps → Each (PairEqual u) (from_first w ps)
first-split u w a [] h = tt
first-split u w a (o ∷ ps) h =
    by (pairs_of (under w (tm_of o.left)) (under w (tm_of o.right))) (first-split u w a ps h.1)
    (pairs-split u (under w (tm_of o.left)) (under w (tm_of o.right)) (resolved-twice u w (tm_of o.left) a ∙ h.0 ∙ sym (resolved-twice u w (tm_of o.right) a)))
  where
    by : (qs : List Pair) → Each (PairEqual u) (from_first w ps) → Each (PairEqual u) qs → Each (PairEqual u) (in_front qs ps (from_first w ps))
    by [] rec k = rec
    by (q ∷ qs) rec k = Each-append (PairEqual u) (q ∷ qs) ps k h.1

pub first-join : (u w : Sub) → Absorbs u w → (ps : List Pair) → Each (PairEqual u) (from_first w ps) → Each (PairEqual u) ps
first-join u w a [] h = tt
first-join u w a (o ∷ ps) h = by (pairs_of (under w (tm_of o.left)) (under w (tm_of o.right))) refl (first-join u w a ps) h
  where
    by : (qs : List Pair) → pairs_of (under w (tm_of o.left)) (under w (tm_of o.right)) ≡ qs → (Each (PairEqual u) (from_first w ps) → Each (PairEqual u) ps) → Each (PairEqual u) (in_front qs ps (from_first w ps)) → Each (PairEqual u) (o ∷ ps)
    by [] e rec k = (
      sym (resolved-twice u w (tm_of o.left) a) ∙ pairs-equal u (under w (tm_of o.left)) (under w (tm_of o.right)) (subst (Each (PairEqual u)) (sym e) tt) ∙ resolved-twice u w (tm_of o.right) a,
      rec k,
    )
    by (q ∷ qs) e rec k = (
      sym (resolved-twice u w (tm_of o.left) a)
          ∙ pairs-equal u (under w (tm_of o.left)) (under w (tm_of o.right)) (subst (Each (PairEqual u)) (sym e) (Each-left (PairEqual u) (q ∷ qs) ps k))
          ∙ resolved-twice u w (tm_of o.right) a,
      Each-right (PairEqual u) (q ∷ qs) ps k,
    )

-- ---- pairs that clash

-- a pair that terms come to: two numbers are not the same, nor are two names with their numbers of arguments
abbrev pub Clash : Tm → Tm → Type 0
Clash (num q) (num r) = same_number q r ≡ false
Clash (num q) (var y) = ⊤
Clash (num q) (app g us) = ⊤
Clash (app f ts) (app g us) = (nat_eq f g && nat_eq (length (items ts)) (length (items us))) ≡ false
Clash (app f ts) (var y) = ⊤
Clash (app f ts) (num r) = ⊤
Clash (var x) u = ⊤

abbrev pub Clashes : Pair → Type 0
Clashes o = Clash (tm_of o.left) (tm_of o.right)

mutual
  pairs-clash : (t s : Tm) → Each Clashes (pairs_of t s)
  pairs-clash (var x) (var y) = by (nat_eq x y)
    where
      by : (b : Bool) → Each Clashes (if b then [] else pair (var x) (var y) ∷ [])
      by true = tt
      by false = (tt, tt)
  pairs-clash (var x) (num q) = (tt, tt)
  pairs-clash (var x) (app f ts) = (tt, tt)
  pairs-clash (num q) (var y) = (tt, tt)
  pairs-clash (num q) (num r) = by (same_number q r) refl
    where
      by : (b : Bool) → same_number q r ≡ b → Each Clashes (if b then [] else pair (num q) (num r) ∷ [])
      by true e = tt
      by false e = (e, tt)
  pairs-clash (num q) (app f ts) = (tt, tt)
  pairs-clash (app f ts) (var y) = (tt, tt)
  pairs-clash (app f ts) (num r) = (tt, tt)
  pairs-clash (app f ts) (app g us) = by (nat_eq f g && nat_eq (length (items ts)) (length (items us))) refl (all-pairs-clash ts us)
    where
      by : (b : Bool) → (nat_eq f g && nat_eq (length (items ts)) (length (items us))) ≡ b → Each Clashes (all_pairs_of ts us) → Each Clashes (if b then all_pairs_of ts us else pair (app f ts) (app g us) ∷ [])
      by true e k = k
      by false e k = (e, tt)

  all-pairs-clash : (ts us : Tms) → Each Clashes (all_pairs_of ts us)
  all-pairs-clash nil us = tt
  all-pairs-clash (cons t ts) nil = tt
  all-pairs-clash (cons t ts) (cons s us) = Each-append Clashes (pairs_of t s) (all_pairs_of ts us) (pairs-clash t s) (all-pairs-clash ts us)

first-clash : (w : Sub) (ps : List Pair) → First Clashes (from_first w ps)
first-clash w [] = tt
first-clash w (o ∷ ps) = by (pairs_of (under w (tm_of o.left)) (under w (tm_of o.right))) (first-clash w ps) (pairs-clash (under w (tm_of o.left)) (under w (tm_of o.right)))
  where
    by : (qs : List Pair) → First Clashes (from_first w ps) → Each Clashes qs → First Clashes (in_front qs ps (from_first w ps))
    by [] rec k = rec
    by (q ∷ qs) rec k = k.0

-- no values make the sides of a clash one
numbers-clash : (q r : Number) → same_number q r ≡ false → num q ≡ num r → ⊥
numbers-clash q r e h = true≢false (sym ((tm_decided (num q) (num r)).1 h) ∙ e)

names-clash : (u : Sub) (f g : ℕ) (ts us : Tms) → (nat_eq f g && nat_eq (length (items ts)) (length (items us))) ≡ false → app f (all_under u ts) ≡ app g (all_under u us) → ⊥
names-clash u f g ts us e h =
    let name : f ≡ g = cc h in
    let args : all_under u ts ≡ all_under u us = cc h in
    let long : length (items ts) ≡ length (items us) = sym (all_under-length u ts) ∙ ap (λ (z : Tms). length (items z)) args ∙ all_under-length u us in
    true≢false (sym (and_from (nat_eq f g) (nat_eq (length (items ts)) (length (items us))) (eq-eqb f g name) (eq-eqb (length (items ts)) (length (items us)) long)) ∙ e)

inside-clash : (u : Sub) (x f : ℕ) (ts : Tms) → occurs_among x ts ≡ true → u x ≡ app f (all_under u ts) → ⊥
inside-clash u x f ts e h = by (occurs_among x ts) e (parts-say u (var x) (app f ts)) h
  where
    by : (b : Bool) → b ≡ true → Says u (if b then None else Some (record { at = x; term = app f ts; turned = false } ∷ [])) (u x ≡ app f (all_under u ts)) → u x ≡ app f (all_under u ts) → ⊥
    by true k says = says
    by false k says = absurd (true≢false (sym k))

-- a variable or a number
abbrev pub IsPlain : Term → Type 0
IsPlain (Var y) = ⊤
IsPlain (Num q) = ⊤
IsPlain (App f ts) = ⊥

-- ---- steps

module _ (p : Program) (f : State) (v : Sub) (tri : Triangular f.bound) (s : State) (solved : Solved (length s.made) s.bound) (bindings : Each (BindingFirm s) s.bound) (h : Kept s)
    (still : (bs : List Binding) → wants_of (reading f v) bs s.work ≡ wants_of (reading f v) s.bound s.work) where
  abbrev ws : List Want
  ws = wants_of (reading f v) s.bound s.work

  -- values that agree with others but for variables of the head that are not bound
  abbrev pub Agrees : ℕ → ℕ → Sub → Sub → Type 0
  Agrees k first u w = (x : ℕ) → Outside p f v first (vars_of_clause p k) x ⊎ (is_bound_in s.bound x ≡ true) → u x ≡ w x

  -- tasks in front, and nothing else
  plainly : (t : Task) (ts : List Task) → Each TaskFine ts → (IsLater (before ts s) f → Each (Ends p f v) ts → Ends p f v t)
      → (IsLater s f → Numbered (length s.literals) (reverse s.literals) → Ahead p f v (before ts s) → Each (Ends p f v) ts → Move p f v (view p f v (record s { work = t ∷ s.work })) (view p f v (before ts s))) → Step p f v s t (before ts s)
  plainly t ts fine ends move = record {
    onto = record { more = as-many (length s.made); kinded = (λ z k. k); firm = (λ z k. k) };
    covers = refl;
    cases = refl;
    grows = grows-same s.literals;
    tasks = ts;
    work = refl;
    tasks_fine = fine;
    more_lines = [];
    lines = sym (append-nil s.lines);
    lines_fine = tt;
    no_case = tt;
    ends = ends;
    move = move;
  }

  module _ (k first : ℕ) (heads : (z : ℕ) → first ≤ z → z < first + vars_of_clause p k → is_loose s z ≡ true) (below : first + vars_of_clause p k ≤ length s.made) where
    -- a variable that is of no head is none of these
    outside : (x : ℕ) → is_loose s x ≡ false → Outside p f v first (vars_of_clause p k) x
    outside x e = by (nat_lt x first) refl (nat_lt x (first + vars_of_clause p k)) refl
      where
        by : (b : Bool) → nat_lt x first ≡ b → (c : Bool) → nat_lt x (first + vars_of_clause p k) ≡ c → Outside p f v first (vars_of_clause p k) x
        by true g c i = inl (ltb-true x first g)
        by false g true i = absurd (true≢false (sym (heads x (ltb-false x first g) (ltb-true x (first + vars_of_clause p k) i)) ∙ e))
        by false g false i = inr (ltb-false x (first + vars_of_clause p k) i)

    module _ (w : Valuation) (later : IsLater s f) (met : Meets w.of (holds_of f)) (u : Sub) (agrees : Agrees k first u w.of) where
      bound-met : Each (Equal w.of) (map equation s.bound)
      bound-met = equal-met s w.of (meets-before s f later.more_bound later.more_given later.bound later.given w.of met)

      kinded-same : (t : Tm) → EachVar (Kinded s) t → under u t ≡ under w.of t
      kinded-same t g = under-agree u w.of t (each-weaker (Kinded s) (λ x. u x ≡ w.of x) (λ x m. agrees x (inl (outside x m.1))) t g)

      -- so they make the bindings equal
      bound-agreed : Each (Equal u) (map equation s.bound)
      bound-agreed = by s.bound (λ x e. e) bindings bound-met
        where
          by : (bs : List Binding) → ((x : ℕ) → is_bound_in bs x ≡ true → is_bound_in s.bound x ≡ true) → Each (BindingFirm s) bs → Each (Equal w.of) (map equation bs) → Each (Equal u) (map equation bs)
          by [] g b e = tt
          by (o ∷ bs) g b e = (
            agrees o.x (inr (g o.x (or_left (nat_eq o.x o.x) (is_bound_in bs o.x) (eq-eqb o.x o.x refl)))) ∙ e.0 ∙ sym (kinded-same (tm_of o.term) b.0),
            by bs (λ x i. g x (or_right (nat_eq o.x x) (is_bound_in bs x) i)) b.1 e.1,
          )

      absorbs-agreed : Absorbs u (meaning s)
      absorbs-agreed = absorbed u s.bound bound-agreed

    -- ---- a task that matches, and what is left of the head

    module _ (t : Task) (ps : List Pair) (wanted_is : want_of (reading f v) s.bound t ≡ want_match s.bound ps k first ∷ []) (ends_is : Ends p f v t) where
      -- more is bound maybe, and other pairs are left
      rematching : (r : State) → r.covers ≡ s.covers → r.literals ≡ s.literals → r.lines ≡ s.lines → (ts : List Task) → r.work ≡ ts ++ s.work → (qs : List Pair)
          → wants_of (reading f v) r.bound ts ≡ want_match r.bound qs k first ∷ [] → (Same p f v qs → Same p f v ps) → (Miss p f v r.bound k first qs → Miss p f v s.bound k first ps)
          → Move p f v (view p f v (record s { work = t ∷ s.work })) (view p f v r)
      rematching r c l x ts work qs wanted same missed = rematches (record {
        rule = k;
        first = first;
        bound = s.bound;
        pairs = ps;
        more_bound = r.bound;
        other = qs;
        behind = ws;
        wants = ap (λ (z : List Want). z ++ ws) wanted_is;
        same = same;
        missed = missed;
        next = view-same p f v (record s { work = t ∷ s.work }) r (want_match r.bound qs k first ∷ ws) c l x
            (ap (wants_of (reading f v) r.bound) work ∙ wants-append (reading f v) r.bound ts s.work ∙ ap (λ (z : List Want). z ++ wants_of (reading f v) r.bound s.work) wanted
            ∙ ap (λ (z : List Want). want_match r.bound qs k first ∷ z) (still r.bound));
      })

      -- nothing more is bound
      again : (ts : List Task) → Each TaskFine ts → (qs : List Pair) → wants_of (reading f v) s.bound ts ≡ want_match s.bound qs k first ∷ []
          → ((u : Sub) → Absorbs u (meaning s) → Each (PairEqual u) qs → Each (PairEqual u) ps) → ((u : Sub) → Absorbs u (meaning s) → Each (PairEqual u) ps → Each (PairEqual u) qs)
          → Step p f v s t (before ts s)
      again ts fine qs wanted to from =
          plainly t ts fine (λ l e. ends_is)
          (λ l n a e. rematching (before ts s) refl refl refl ts refl qs wanted
          (λ o. to (meaning f) (absorbed (meaning f) s.bound (bound-equal p f v tri s l)) o)
          (λ m w met u g o. m w met u g (from u (absorbs-agreed w l met u g) o)))

      -- the head is missed
      giving-up : (ts : List Task) → Each TaskFine ts → wants_of (reading f v) s.bound ts ≡ want_void ∷ []
          → (IsLater s f → Each (Ends p f v) ts → Miss p f v s.bound k first ps) → Step p f v s t (before ts s)
      giving-up ts fine wanted missed =
          plainly t ts fine (λ l e. ends_is)
          (λ l n a e. gives_up (record {
            rule = k;
            first = first;
            bound = s.bound;
            pairs = ps;
            behind = ws;
            wants = ap (λ (z : List Want). z ++ ws) wanted_is;
            missed = missed l e;
            next = view-same p f v (record s { work = t ∷ s.work }) (before ts s) (want_void ∷ ws) refl refl refl
                (wants-append (reading f v) s.bound ts s.work ∙ ap (λ (z : List Want). z ++ ws) wanted);
          }))

      -- ---- the first pair, and those behind it

      module _ (a b : Tm) (rest : List Pair) (join : (u : Sub) → Absorbs u (meaning s) → under u a ≡ under u b → Each (PairEqual u) rest → Each (PairEqual u) ps)
          (split : (u : Sub) → Absorbs u (meaning s) → Each (PairEqual u) ps → (under u a ≡ under u b) × Each (PairEqual u) rest) where
        -- the two clash
        apart-steps : ((u : Sub) → under u a ≡ under u b → ⊥) → EachState (Step p f v s t) (goes (before (when_apart (aims.Head k first)) s)).states
        apart-steps none = (giving-up (task.Void ∷ []) (tt, tt) refl (λ l e w met u g o. none u (split u (absorbs-agreed w l met u g) o).0), tt)

        part-steps : (c : Con) → ((w : Valuation) (u : Sub) → Agrees k first u w.of → holds w.of c ≡ true → under u a ≡ under u b → ⊥) → (other : List Task) → Each TaskFine other → (qs : List Pair)
            → wants_of (reading f v) s.bound other ≡ want_match s.bound qs k first ∷ [] → ((u : Sub) → Each (PairEqual u) qs → (under u a ≡ under u b) × Each (PairEqual u) rest)
            → ((u : Sub) → under u a ≡ under u b → Each (PairEqual u) rest → Each (PairEqual u) qs) → EachState (Step p f v s t) (at_part sat s c (aims.Head k first) other).states
        part-steps c none other fine qs wanted to from = by (status sat s c)
          where
            one : Step p f v s t (before (task.Assume c ∷ task.Void ∷ []) s)
            one = giving-up (task.Assume c ∷ task.Void ∷ []) (tt, (tt, tt)) refl (λ l e w met u g o. none w u g (e.0 w met) (split u (absorbs-agreed w l met u g) o).0)

            two : Step p f v s t (before other s)
            two = again other fine qs wanted (λ u i o. let q = to u o in join u i q.0 q.1) (λ u i o. let q = split u i o in from u q.0 q.1)

            by : (o : Status) → EachState (Step p f v s t) (alternatives s (task.Assume c ∷ when_apart (aims.Head k first)) other o)
            by Entailed = (one, (two, tt))
            by Impossible = (two, tt)
            by Added = (one, (two, tt))
            by Parts = (one, tt)

      not-same : (w u : Sub) (x y : ℕ) → u x ≡ w x → u y ≡ w y → not (same_tm (w x) (w y)) ≡ true → u x ≡ u y → ⊥
      not-same w u x y e g o i = true≢false (sym o ∙ ap not ((tm_decided (w x) (w y)).1 (sym e ∙ i ∙ g)))

      module _ (rest : List Pair) where
        variables-steps : (x y : ℕ) → Found s x → Found s y → ((u : Sub) → Absorbs u (meaning s) → u x ≡ u y → Each (PairEqual u) rest → Each (PairEqual u) ps)
            → ((u : Sub) → Absorbs u (meaning s) → Each (PairEqual u) ps → (u x ≡ u y) × Each (PairEqual u) rest) → EachState (Step p f v s t) (differ_variables sat s x y rest (aims.Head k first)).states
        variables-steps x y a b join split = by (stands_first s x y)
          where
            one : (z w : ℕ) → Found s z → Found s w → ((u : Sub) → Absorbs u (meaning s) → u z ≡ u w → Each (PairEqual u) rest → Each (PairEqual u) ps)
                → ((u : Sub) → Absorbs u (meaning s) → Each (PairEqual u) ps → (u z ≡ u w) × Each (PairEqual u) rest) → EachState (Step p f v s t) (part_of_variables sat s z w rest (aims.Head k first)).states
            one z w c d j i =
                part-steps (var z) (var w) rest j i (differ (var z) (var w)) (λ m u g o q. not-same m.of u z w (g z (inl (outside z c.0.1))) (g w (inl (outside w d.0.1))) o q)
                (task.Become z (Var w) rest (aims.Head k first) ∷ []) (tt, tt) (record { left = Var z; right = Var w } ∷ rest) refl (λ u o. o) (λ u o q. (o, q))

            by : (i : Bool) → EachState (Step p f v s t) (if i then part_of_variables sat s x y rest (aims.Head k first) else part_of_variables sat s y x rest (aims.Head k first)).states
            by true = one x y a b join split
            by false = one y x b a (λ u i o q. join u i (sym o) q) (λ u i o. let q = split u i o in (sym q.0, q.1))

        number-steps : (x : ℕ) (q : Number) → Found s x → ((u : Sub) → Absorbs u (meaning s) → u x ≡ num q → Each (PairEqual u) rest → Each (PairEqual u) ps)
            → ((u : Sub) → Absorbs u (meaning s) → Each (PairEqual u) ps → (u x ≡ num q) × Each (PairEqual u) rest) → EachState (Step p f v s t) (differ_number sat s x q rest (aims.Head k first)).states
        number-steps x q a join split =
            part-steps (var x) (num q) rest join split (con.NotNum (Var x)) (λ m u g o i. true≢false (sym o ∙ ap (λ (z : Tm). not (is_number z)) (sym (g x (inl (outside x a.0.1))) ∙ i)))
            (task.Assume (con.Num (Var x)) ∷ task.Avoid x q rest (aims.Head k first) ∷ []) (tt, (tt, tt)) (record { left = Var x; right = Num q } ∷ rest) refl (λ u o. o) (λ u o i. (o, i))

        shape-steps : (x g : ℕ) (ts : Tms) → Found s x → ((u : Sub) → Absorbs u (meaning s) → u x ≡ app g (all_under u ts) → Each (PairEqual u) rest → Each (PairEqual u) ps)
            → ((u : Sub) → Absorbs u (meaning s) → Each (PairEqual u) ps → (u x ≡ app g (all_under u ts)) × Each (PairEqual u) rest) → EachState (Step p f v s t) (differ_shape sat s x g ts rest (aims.Head k first)).states
        shape-steps x g ts a join split = by (occurs_among x ts) refl
          where
            shaped : (m u : Sub) → u x ≡ m x → holds m (con.NotShape x g (length (items ts))) ≡ true → u x ≡ app g (all_under u ts) → ⊥
            shaped m u e o i =
                let has : has_shape g (length (items ts)) (m x) ≡ true =
                ap (has_shape g (length (items ts))) (sym e ∙ i) ∙ and_from (nat_eq g g) (nat_eq (length (items (all_under u ts))) (length (items ts))) (eq-eqb g g refl) (eq-eqb (length (items (all_under u ts))) (length (items ts)) (all_under-length u ts)) in
                true≢false (sym o ∙ ap not has)

            by : (i : Bool) → occurs_among x ts ≡ i
                → EachState (Step p f v s t) (if i then goes (before (when_apart (aims.Head k first)) s) else at_part sat s (con.NotShape x g (length (items ts))) (aims.Head k first) (task.Shape x g ts rest (aims.Head k first) ∷ [])).states
            by true e = apart-steps (var x) (app g ts) rest join split (λ u o. inside-clash u x g ts e o)
            by false e =
                part-steps (var x) (app g ts) rest join split (con.NotShape x g (length (items ts))) (λ m u i o q. shaped m.of u (i x (inl (outside x a.0.1))) o q)
                (task.Shape x g ts rest (aims.Head k first) ∷ []) (tt, tt) (record { left = Var x; right = App g ts } ∷ rest) refl (λ u o. o) (λ u o i. (o, i))

        -- what is no variable of a head
        pair-steps : (a b : Tm) → EachVar (Found s) a → EachVar (Free (length s.made) s.bound) b → Clash a b → ((y : ℕ) → b ≡ var y → is_loose s y ≡ false)
            → ((u : Sub) → Absorbs u (meaning s) → under u a ≡ under u b → Each (PairEqual u) rest → Each (PairEqual u) ps)
            → ((u : Sub) → Absorbs u (meaning s) → Each (PairEqual u) ps → (under u a ≡ under u b) × Each (PairEqual u) rest) → EachState (Step p f v s t) (differ_pair sat s a b rest (aims.Head k first)).states
        pair-steps (var x) (var y) fa fb n l j i = variables-steps x y fa ((fb.1, l y refl), fb.0) j i
        pair-steps (var x) (num q) fa fb n l j i = number-steps x q fa j i
        pair-steps (var x) (app g ts) fa fb n l j i = shape-steps x g ts fa j i
        pair-steps (num q) (var y) fa fb n l j i = number-steps y q ((fb.1, l y refl), fb.0) (λ u a o e. j u a (sym o) e) (λ u a o. let e = i u a o in (sym e.0, e.1))
        pair-steps (num q) (num r) fa fb n l j i = apart-steps (num q) (num r) rest j i (λ u o. numbers-clash q r n o)
        pair-steps (num q) (app g us) fa fb n l j i = apart-steps (num q) (app g us) rest j i (λ u o. cc o)
        pair-steps (app g ts) (var y) fa fb n l j i = shape-steps y g ts ((fb.1, l y refl), fb.0) (λ u a o e. j u a (sym o) e) (λ u a o. let e = i u a o in (sym e.0, e.1))
        pair-steps (app g ts) (num r) fa fb n l j i = apart-steps (app g ts) (num r) rest j i (λ u o. cc o)
        pair-steps (app g ts) (app c us) fa fb n l j i = apart-steps (app g ts) (app c us) rest j i (λ u o. names-clash u g c ts us n o)

        -- a variable of the head stands for the literal's part
        taken-step : (a : Tm) (y : ℕ) → ((u : Sub) → Absorbs u (meaning s) → under u a ≡ u y → Each (PairEqual u) rest → Each (PairEqual u) ps)
            → ((u : Sub) → Absorbs u (meaning s) → Each (PairEqual u) ps → (under u a ≡ u y) × Each (PairEqual u) rest) → EachVar (Found s) a → Step p f v s t (before (task.Differ rest (aims.Head k first) ∷ []) (with_binding s y a))
        taken-step a y join split found = record {
          onto = record { more = as-many (length s.made); kinded = (λ z g. g); firm = (λ z g. (g.0, firmly z g.1)) };
          covers = refl;
          cases = refl;
          grows = grows-same s.literals;
          tasks = task.Differ rest (aims.Head k first) ∷ [];
          work = refl;
          tasks_fine = (tt, tt);
          more_lines = [];
          lines = sym (append-nil s.lines);
          lines_fine = tt;
          no_case = tt;
          ends = λ l e. ends_is;
          move = λ l n ahead e. rematching (before (task.Differ rest (aims.Head k first) ∷ []) (with_binding s y a)) refl refl refl (task.Differ rest (aims.Head k first) ∷ []) refl rest refl
              (λ o. join (meaning f) (absorbed (meaning f) s.bound (bound-equal p f v tri s l)) (sym (last-equal s.bound y a (meaning f) (bound-equal p f v tri (with_binding s y a) (on-bound ahead.later)))) o)
              (λ m w met u g o.
              let i = split u (absorbs-agreed w l met u g) o in
              m w met u (λ x c. again-agrees w l met u g (on-bound ahead.later) i.0 x c) i.1);
        }
          where
            firmly : (z : ℕ) → (is_loose s z ≡ false) ⊎ (is_bound_in s.bound z ≡ true) → (is_loose s z ≡ false) ⊎ (is_bound_in (s.bound ++ binding y a ∷ []) z ≡ true)
            firmly z (inl e) = inl e
            firmly z (inr e) = inr (still-bound s.bound (binding y a) z e)

            on-bound : IsLater (before (task.Differ rest (aims.Head k first) ∷ []) (with_binding s y a)) f → IsLater (with_binding s y a) f
            on-bound l = record { more_bound = l.more_bound; bound = l.bound; more_given = l.more_given; given = l.given; reads = l.reads }

            again-agrees : (w : Valuation) → IsLater s f → Meets w.of (holds_of f) → (u : Sub) → Agrees k first u w.of → IsLater (with_binding s y a) f → under u a ≡ u y
                → (x : ℕ) → Outside p f v first (vars_of_clause p k) x ⊎ (is_bound_in (s.bound ++ binding y a ∷ []) x ≡ true) → u x ≡ w.of x
            again-agrees w l met u g after i x (inl o) = g x (inl o)
            again-agrees w l met u g after i x (inr o) = by (or_cases (is_bound_in s.bound x) (nat_eq y x) (sym (bound-push s.bound (binding y a) x) ∙ o))
              where
                last : w.of y ≡ under w.of a
                last = last-equal s.bound y a w.of (equal-met (with_binding s y a) w.of (meets-before (with_binding s y a) f after.more_bound after.more_given after.bound after.given w.of met))

                by : (is_bound_in s.bound x ≡ true) ⊎ (nat_eq y x ≡ true) → u x ≡ w.of x
                by (inl e) = g x (inr e)
                by (inr e) =
                    let same : y ≡ x = eqb-true y x e in
                    ap u (sym same) ∙ sym i ∙ kinded-same w l met u g a (each-weaker (Found s) (Kinded s) (λ z m. m.0) a found) ∙ sym last ∙ ap w.of same

        first-steps : (a b : Tm) → EachVar (Found s) a → EachVar (Free (length s.made) s.bound) b → Clash a b
            → ((u : Sub) → Absorbs u (meaning s) → under u a ≡ under u b → Each (PairEqual u) rest → Each (PairEqual u) ps)
            → ((u : Sub) → Absorbs u (meaning s) → Each (PairEqual u) ps → (under u a ≡ under u b) × Each (PairEqual u) rest) → EachState (Step p f v s t) (differ_first sat s a b rest (aims.Head k first)).states
        first-steps a (num q) fa fb n j i = pair-steps a (num q) fa fb n (λ y e. absurd (cc e)) j i
        first-steps a (app g ts) fa fb n j i = pair-steps a (app g ts) fa fb n (λ y e. absurd (cc e)) j i
        first-steps a (var y) fa fb n j i = by (is_matched s (var y)) refl
          where
            same : (z : ℕ) → var y ≡ var z → y ≡ z
            same z e = cc

            by : (c : Bool) → is_loose s y ≡ c
                → EachState (Step p f v s t) (if c then goes (before (task.Differ rest (aims.Head k first) ∷ []) (take_up s a (var y))) else differ_pair sat s a (var y) rest (aims.Head k first)).states
            by true e = (taken-step a y j i fa, tt)
            by false e = pair-steps a (var y) fa fb n (λ z g. ap (is_loose s) (sym (same z g)) ∙ e) j i

    -- ---- the tasks

    pub differ-steps : (ps : List Pair) → PairsFirm s ps → EachState (Step p f v s (task.Differ ps (aims.Head k first))) (differ_terms sat s ps (aims.Head k first)).states
    differ-steps ps firm = by (from_first (meaning s) ps) refl (first-both (Found s) (Free (length s.made) s.bound) (meaning s) ps both) (first-clash (meaning s) ps)
      where
        both : Each (λ o. EachVar (Found s) (under (meaning s) (tm_of o.left)) × EachVar (Free (length s.made) s.bound) (under (meaning s) (tm_of o.right))) ps
        both =
            Each-map (PairFirm s) (λ o. EachVar (Found s) (under (meaning s) (tm_of o.left)) × EachVar (Free (length s.made) s.bound) (under (meaning s) (tm_of o.right)))
            (λ o g. (read-found s solved bindings (tm_of o.left) g.0, read-free (length s.made) s.bound solved (tm_of o.right) g.1)) ps firm

        by : (qs : List Pair) → from_first (meaning s) ps ≡ qs → First (Both (Found s) (Free (length s.made) s.bound)) qs → First Clashes qs
            → EachState (Step p f v s (task.Differ ps (aims.Head k first))) (differ_pairs sat s qs (aims.Head k first)).states
        by [] e b c = (
          again (task.Differ ps (aims.Head k first)) ps refl tt (task.Begin k first false ∷ []) (refl, tt) [] refl
              (λ u a o. first-join u (meaning s) a ps (subst (Each (PairEqual u)) (sym e) o)) (λ u a o. tt),
          tt,
        )
        by (o ∷ qs) e b c =
            first-steps (task.Differ ps (aims.Head k first)) ps refl tt qs (tm_of o.left) (tm_of o.right) b.0 b.1 c
            (λ u a i j. first-join u (meaning s) a ps (subst (Each (PairEqual u)) (sym e) (i, j))) (λ u a i. subst (Each (PairEqual u)) e (first-split u (meaning s) a ps i))

    pub avoid-steps : (x : ℕ) (q : Number) (rest : List Pair) → is_loose s x ≡ false → EachState (Step p f v s (task.Avoid x q rest (aims.Head k first))) (differ_value sat s x q rest (aims.Head k first)).states
    avoid-steps x q rest a =
        part-steps (task.Avoid x q rest (aims.Head k first)) (record { left = Var x; right = Num q } ∷ rest) refl tt (var x) (num q) rest (λ u i o j. (o, j)) (λ u i o. o) (differ (var x) (num q))
        (λ m u g o i. true≢false (sym o ∙ ap not ((tm_decided (m.of x) (num q)).1 (sym (g x (inl (outside x a))) ∙ i))))
        (task.Become x (term_with (num q)) rest (aims.Head k first) ∷ []) (tt, tt) (record { left = Var x; right = Num q } ∷ rest) refl (λ u o. o) (λ u o i. (o, i))

    -- what is joined
    joined-step : (t : Task) (ps : List Pair) → want_of (reading f v) s.bound t ≡ want_match s.bound ps k first ∷ [] → Ends p f v t → (x : ℕ) (b : Tm) → is_loose s x ≡ false → ((y : ℕ) → b ≡ var y → is_loose s y ≡ false)
        → (r : State) → JoinsAlone s (var x) b r → (qs : List Pair)
        → ((u : Sub) → u x ≡ under u b → Each (PairEqual u) qs → Each (PairEqual u) ps)
        → ((w u : Sub) → w x ≡ under w b → ((y : ℕ) → is_loose s y ≡ false ⊎ (length s.made ≤ y) → u y ≡ w y) → Each (PairEqual u) ps → Each (PairEqual u) qs)
        → Step p f v s t (before (task.Differ qs (aims.Head k first) ∷ []) r)
    joined-step t ps wanted_is ends_is x b a c r j qs to from = record {
      onto = record { more = j.0.onto.more; kinded = j.0.onto.kinded; firm = j.0.onto.firm };
      covers = j.0.covers;
      cases = j.0.case_count;
      grows = subst (λ (xs : List Literal). Grows s.literals xs) (sym j.0.literals) (grows-same s.literals);
      tasks = task.Differ qs (aims.Head k first) ∷ [];
      work = ap (λ (xs : List Task). task.Differ qs (aims.Head k first) ∷ xs) (j.0.work ∙ ap (λ (os : List Pair). equations_of os ++ s.work) j.1);
      tasks_fine = (tt, tt);
      more_lines = [];
      lines = j.0.lines ∙ sym (append-nil s.lines);
      lines_fine = tt;
      no_case = tt;
      ends = λ l e. ends_is;
      move = λ l n ahead e. rematching t ps wanted_is ends_is (before (task.Differ qs (aims.Head k first) ∷ []) r) j.0.covers j.0.literals j.0.lines (task.Differ qs (aims.Head k first) ∷ [])
          (ap (λ (xs : List Task). task.Differ qs (aims.Head k first) ∷ xs) (j.0.work ∙ ap (λ (os : List Pair). equations_of os ++ s.work) j.1)) qs refl
          (λ o. to (meaning f) (j.0.same (meaning f) (bound-equal p f v tri r (on-bound ahead.later)) (subst (Each (PairEqual (meaning f))) (sym j.1) tt)) o)
          (λ m w met u g o. m w met u (λ y q. agrees w met u g y q)
          (from w.of u (j.0.same w.of (equal-met r w.of (meets-r w met (on-bound ahead.later))) (subst (Each (PairEqual w.of)) (sym j.1) tt)) (λ y q. fresh-agrees w.of u g y q) o));
    }
      where
        on-bound : IsLater (before (task.Differ qs (aims.Head k first) ∷ []) r) f → IsLater r f
        on-bound l = record { more_bound = l.more_bound; bound = l.bound; more_given = l.more_given; given = l.given; reads = l.reads }

        meets-r : (w : Valuation) → Meets w.of (holds_of f) → IsLater r f → Meets w.of (holds_of r)
        meets-r w met l = meets-before r f l.more_bound l.more_given l.bound l.given w.of met

        -- the variables of the head were made
        fresh-agrees : (w u : Sub) → Agrees k first u w → (y : ℕ) → is_loose s y ≡ false ⊎ (length s.made ≤ y) → u y ≡ w y
        fresh-agrees w u g y (inl e) = g y (inl (outside y e))
        fresh-agrees w u g y (inr e) = g y (inl (inr (omega (arith, e, below))))

        agrees : (w : Valuation) → Meets w.of (holds_of f) → (u : Sub) → Agrees k first u w.of → (y : ℕ) → Outside p f v first (vars_of_clause p k) y ⊎ (is_bound_in r.bound y ≡ true) → u y ≡ w.of y
        agrees w met u g y (inl o) = g y (inl o)
        agrees w met u g y (inr o) =
            by (or_cases (is_bound_in s.bound y) (is_bound_in j.0.more_bound y) (sym (list_any-append (λ (i : Binding). nat_eq i.x y) s.bound j.0.more_bound) ∙ ap (λ (bs : List Binding). is_bound_in bs y) (sym j.0.bound) ∙ o))
          where
            of-pair : (var x ≡ var y) ⊎ (b ≡ var y) → u y ≡ w.of y
            of-pair (inl e) = let same : x ≡ y = cc e in g y (inl (outside y (ap (is_loose s) (sym same) ∙ a)))
            of-pair (inr e) = g y (inl (outside y (c y e)))

            by : (is_bound_in s.bound y ≡ true) ⊎ (is_bound_in j.0.more_bound y ≡ true) → u y ≡ w.of y
            by (inl e) = g y (inr e)
            by (inr e) = of-pair (j.0.binders y e)

    pub become-steps : (x : ℕ) (t : Term) (rest : List Pair) → Found s x → EachVar (Found s) (tm_of t) → Apart (var x) (tm_of t) → IsPlain t
        → EachState (Step p f v s (task.Become x t rest (aims.Head k first))) (same_value sat s x (tm_of t) rest (aims.Head k first)).states
    become-steps x t rest a b n plain =
        each_map (JoinsAlone s (var x) (tm_of t)) (Step p f v s (task.Become x t rest (aims.Head k first))) (before (task.Differ rest (aims.Head k first) ∷ [])) (equated sat s (var x) (tm_of t)).states (by t a b n plain)
        (λ r j. joined-step (task.Become x t rest (aims.Head k first)) (record { left = Var x; right = t } ∷ rest) refl tt x (tm_of t) a.0.1 of-term r j rest (λ u e o. (e, o)) (λ w u e g o. o.1))
      where
        of-term : (y : ℕ) → tm_of t ≡ var y → is_loose s y ≡ false
        of-term y e = (subst (EachVar (Found s)) e b).0.1

        by : (t : Term) → Found s x → EachVar (Found s) (tm_of t) → Apart (var x) (tm_of t) → IsPlain t → EachState (JoinsAlone s (var x) (tm_of t)) (equated sat s (var x) (tm_of t)).states
        by (Var y) a b n i = variables-join s solved bindings h x y a b n
        by (Num q) a b n i = number-joins s solved bindings h x q a
        by (App g ts) a b n i = absurd i

    pub name-steps : (x g : ℕ) (us : Tms) (rest : List Pair) → Found s x → EachState (Step p f v s (task.Shape x g us rest (aims.Head k first))) (same_shape sat s x g us rest (aims.Head k first)).states
    name-steps x g us rest a =
        each_map (JoinsAlone s (var x) (app g new)) (Step p f v s (task.Shape x g us rest (aims.Head k first))) (before (task.Differ (pairs new us ++ rest) (aims.Head k first) ∷ []))
        (becomes_shape sat s x g (length (items us))).states (shape-joins s solved bindings h x g (length (items us)) a)
        (λ r j. joined-step (task.Shape x g us rest (aims.Head k first)) (record { left = Var x; right = App g us } ∷ rest) refl tt x (app g new) a.0.1 (λ y e. absurd (cc e)) r j (pairs new us ++ rest)
        (λ u e o. (
          e ∙ ap (app g) (args-equal u new us (parts-many (next_variable s) (length (items us))) (Each-left (PairEqual u) (pairs new us) rest o)),
          Each-right (PairEqual u) (pairs new us) rest o,
        ))
        (λ w u e c o. Each-append (PairEqual u) (pairs new us) rest (args-pairs u new us (same w u e c o.0)) o.1))
      where
        new : Tms
        new = new_parts (next_variable s) (length (items us))

        same : (w u : Sub) → w x ≡ app g (all_under w (new_parts (next_variable s) (length (items us)))) → ((y : ℕ) → is_loose s y ≡ false ⊎ (length s.made ≤ y) → u y ≡ w y) → u x ≡ app g (all_under u us)
            → all_under u (new_parts (next_variable s) (length (items us))) ≡ all_under u us
        same w u e c o =
            let agree : all_under u (new_parts (next_variable s) (length (items us))) ≡ all_under w (new_parts (next_variable s) (length (items us))) =
            all-agree u w (new_parts (next_variable s) (length (items us))) (parts-each (λ y. u y ≡ w y) (length s.made) (length s.made) (length (items us)) (omega arith) (λ z l m. c z (inr l))) in
            let both : app g (all_under w (new_parts (next_variable s) (length (items us)))) ≡ app g (all_under u us) = sym e ∙ sym (c x (inl a.0.1)) ∙ o in
            let args : all_under w (new_parts (next_variable s) (length (items us))) ≡ all_under u us = cc both in
            agree ∙ args
