-- What is to be apart, and what is matched, keeps what is owned.
use Rattle.std.specs.Prelude.{◌≡◌, ◌≢◌, ◌⊎◌, ℕ, ◌<◌, ◌≤◌, nat_eq, nat_lt, Bool, true, false, ◌&&◌, ◌||◌, not, if◌then◌else◌, List, [], ◌∷◌, ◌++◌, length, ⊤}
use Rattle.std.proofs.Common.{refl, arith, ap, sym, subst, ◌∙◌, inl, inr}
use Rattle.std.proofs.lemmas.Bool.{cases_Bool, and_parts, or_parts, or_cases, eqb-true, eqb-false, ltb-true, ltb-false, not-true, true≢false}
use Rattle.scasp_list.specs.Each.{Each}
use Rattle.scasp_list.proofs.EachLemmas.{Each-append, Each-map}
use Rattle.scasp_num.specs.Number.{Number}
use Rattle.scasp_search_rules.specs.declared.states.outcomes.Status.{Status}
use Rattle.scasp_search_rules.specs.declared.states.outcomes.Status.TheVariants.{Entailed, Impossible, Added, Parts}
use Rattle.scasp_search_rules.specs.declared.states.state.Kind.{Kind}
use Rattle.scasp_search_rules.specs.declared.states.state.Kind.TheVariants.{Existential, Universal, Matched}
use Rattle.scasp_search_rules.specs.declared.states.state.State.{State}
use Rattle.scasp_search_rules.specs.declared.states.tasks.Aim.{Aim}
use Rattle.scasp_search_rules.specs.declared.states.tasks.Aim.TheVariants as aims
use Rattle.scasp_search_rules.specs.declared.states.tasks.Pair.{Pair}
use Rattle.scasp_search_rules.specs.declared.states.tasks.Task.{Task}
use Rattle.scasp_search_rules.specs.declared.states.tasks.Task.TheVariants as task
use Rattle.scasp_search_rules.specs.Successors.Assumptions.{assume, status}
use Rattle.scasp_search_rules.specs.Successors.Differences.{when_apart, alternatives, at_part, part_of_variables, stands_first, differ_variables, differ_number, differ_value, differ_shape, differ_pair, same_value, same_shape, is_matched, take_up, differ_first, differ_pairs, differ_terms}
use Rattle.scasp_search_rules.specs.Successors.Equations.{is_inside, becomes_shape, two_variables, variable_number}
use Rattle.scasp_search_rules.specs.Successors.Falls.{EachState}
use Rattle.scasp_search_rules.specs.Successors.Pairs.{pairs, pairs_of, in_front, from_first}
use Rattle.scasp_search_rules.specs.Successors.Regions.{before}
use Rattle.scasp_search_rules.specs.Successors.Splits.{is_bound_in}
use Rattle.scasp_search_rules.specs.Successors.Steps.{goes}
use Rattle.scasp_search_rules.specs.Successors.Variables.{binding, depth_of, is_universal, is_kind_matched, is_kind_universal, meaning, next_variable, with_binding}
use Rattle.scasp_syntax.specs.Tm.{Tm, Tms, var, num, app, nil, cons, items}
use Rattle.scasp_syntax.specs.Values.{under}
use Rattle.scasp_syntax.specs.View.{tm_of}
use Rattle.scasp_syntax.specs.declared.con.Con.{Con}
use Rattle.scasp_syntax.specs.declared.con.Con.TheVariants as con
use Rattle.scasp_syntax.specs.declared.program.Program.{Program}
use Rattle.scasp_syntax.specs.declared.term.Term.{Term}
use Rattle.scasp_syntax.specs.declared.term.Term.TheVariants.{Var, Num, App}
use Rattle.scasp_unify.specs.Negations.{new_parts}
use Rattle.scasp_unify.specs.Parts.{occurs_among}
use Rattle.scasp_unify.specs.declared.bindings.Binding.{Binding}
use Rattle.scasp_unify.proofs.SimpleLemmas.{viewed}
use Rattle.scasp_law_first_event.proofs.Apart.{Apart, Both, pairs-both}
use Rattle.scasp_law_first_event.proofs.Bindings.{Solved, unbound-self}
use Rattle.scasp_law_first_event.proofs.EachStates.{each_map, each_weaker}
use Rattle.scasp_law_first_event.proofs.Terms.{EachVar, EachVars, each-under, each-weaker, all-weaker}
use Rattle.scasp_law_no_circle.proofs.Assuming.{Assumes, kind-of, assume-assumes}
use Rattle.scasp_law_no_circle.proofs.Equating.{Moves, Puts, variables-move, number-moves, shape-puts, parts-scoped, read-frees}
use Rattle.scasp_law_no_circle.proofs.Growing.{Fits, still-unbound, pushed-sound, pushed-carries, pushed-loose}
use Rattle.scasp_law_no_circle.proofs.Meeting.{met-good, each-occurs}
use Rattle.scasp_law_no_circle.proofs.Places.{entry, owns}
use Rattle.scasp_law_no_circle.proofs.Scope.{Good, Scoped, good-made, Sound}
use Rattle.scasp_law_no_circle.proofs.Tasks.{Either, PairScoped, Frees, StandsFirst, Assumed, PartScoped, AimScoped, BecomesScoped, First, Front, plain, assumes, numbers, differs, becomes, avoids, shapes, begins, Owning, scoped-kept, either-kept, pairs-kept, aim-kept, work-kept, waiting-more}

-- free, and in scope; or of a head, and free
abbrev pub RightFree : State → ℕ → Type 0
RightFree s z = ((z < length s.made) × ((entry s.made z).kind ≡ Matched) × (is_bound_in s.bound z ≡ false)) ⊎ Frees s.made s.covers s.bound (length s.covers) z

right-either : (s : State) (z : ℕ) → RightFree s z → Either s.made s.covers s.bound (length s.covers) z
right-either s z (inl e) = inl e
right-either s z (inr f) = inr f.0

abbrev pub Frees-at : State → ℕ → Type 0
Frees-at s z = Frees s.made s.covers s.bound (length s.covers) z

abbrev pub Pairs-at : State → List Pair → Type 0
Pairs-at s ps = Each (PairScoped s.made s.covers s.bound (length s.covers)) ps

-- the first of the pairs, as it reads
abbrev pub Reads : State → List Pair → Type 0
Reads s [] = ⊤
Reads s (o ∷ ps) = Both (Frees-at s) (RightFree s) o

kind-matched : (k : Kind) → is_kind_matched k ≡ true → k ≡ Matched
kind-matched Existential e = absurd (true≢false (sym e))
kind-matched Universal e = absurd (true≢false (sym e))
kind-matched Matched e = refl

-- the pairs of two lists of arguments
pub pairs-scoped : (G H : ℕ → Type 0) (ts us : Tms) → EachVars G ts → EachVars H us → Each (λ o. EachVar G (tm_of o.left) × EachVar H (tm_of o.right)) (pairs ts us)
pairs-scoped G H nil us h k = tt
pairs-scoped G H (cons t ts) nil h k = tt
pairs-scoped G H (cons t ts) (cons u us) h k = ((subst (EachVar G) (sym (viewed t)) h.0, subst (EachVar H) (sym (viewed u)) k.0), pairs-scoped G H ts us h.1 k.1)

module _ (p : Program) (sat : List Con → Bool) (s : State) (h : Sound p s.made s.covers s.bound) (solved : Solved (length s.made) s.bound) (w : First s.made s.covers s.bound (length s.covers) s.work) where
  -- ---- what is read

  read-right : (t : Tm) → EachVar (Either s.made s.covers s.bound (length s.covers)) t → EachVar (RightFree s) (under (meaning s) t)
  read-right t k = each-under (Either s.made s.covers s.bound (length s.covers)) (RightFree s) (meaning s) one t k
    where
      one : (z : ℕ) → Either s.made s.covers s.bound (length s.covers) z → EachVar (RightFree s) (meaning s z)
      one z (inl e) = subst (EachVar (RightFree s)) (sym (unbound-self s.bound z e.2)) (inl e)
      one z (inr m) = each-weaker (Frees-at s) (RightFree s) (λ y f. inr f) (meaning s z) (read-frees s solved (length s.covers) (var z) m)

  read-both : (o : Pair) → PairScoped s.made s.covers s.bound (length s.covers) o → Each (Both (Frees-at s) (RightFree s)) (pairs_of (under (meaning s) (tm_of o.left)) (under (meaning s) (tm_of o.right)))
  read-both o k =
      pairs-both (Frees-at s) (RightFree s) (under (meaning s) (tm_of o.left)) (under (meaning s) (tm_of o.right)) (read-frees s solved (length s.covers) (tm_of o.left) k.0) (read-right (tm_of o.right) k.1)

  both-scoped : (ps : List Pair) → Each (Both (Frees-at s) (RightFree s)) ps → Pairs-at s ps
  both-scoped ps k =
      Each-map (Both (Frees-at s) (RightFree s)) (PairScoped s.made s.covers s.bound (length s.covers))
      (λ o l. (
        each-weaker (Frees-at s) (Scoped s.made s.covers s.bound (length s.covers)) (λ z f. f.0) (tm_of o.left) l.0,
        each-weaker (RightFree s) (Either s.made s.covers s.bound (length s.covers)) (right-either s) (tm_of o.right) l.1,
      )) ps k

  front-reads : (qs ps later : List Pair) → Each (Both (Frees-at s) (RightFree s)) qs → Reads s later → Reads s (in_front qs ps later)
  front-reads [] ps later k l = l
  front-reads (q ∷ qs) ps later k l = k.0

  front-scoped : (qs ps later : List Pair) → Each (Both (Frees-at s) (RightFree s)) qs → Pairs-at s ps → Pairs-at s later → Pairs-at s (in_front qs ps later)
  front-scoped [] ps later k l m = m
  front-scoped (q ∷ qs) ps later k l m = Each-append (PairScoped s.made s.covers s.bound (length s.covers)) (q ∷ qs) ps (both-scoped (q ∷ qs) k) l

  pub first-reads : (ps : List Pair) → Pairs-at s ps → Reads s (from_first (meaning s) ps)
  first-reads [] k = tt
  first-reads (o ∷ ps) k = front-reads (pairs_of (under (meaning s) (tm_of o.left)) (under (meaning s) (tm_of o.right))) ps (from_first (meaning s) ps) (read-both o k.0) (first-reads ps k.1)

  first-scoped : (ps : List Pair) → Pairs-at s ps → Pairs-at s (from_first (meaning s) ps)
  first-scoped [] k = tt
  first-scoped (o ∷ ps) k =
      front-scoped (pairs_of (under (meaning s) (tm_of o.left)) (under (meaning s) (tm_of o.right))) ps (from_first (meaning s) ps) (read-both o k.0) k.1 (first-scoped ps k.1)

  -- ---- tasks in front

  in-front : (ts : List Task) → Front p s.made s.covers s.bound (length s.covers) (ts ++ s.work) → Owning p (before ts s)
  in-front ts f = record { sound = h; front = f }

  apart-work : (aim : Aim) → First s.made s.covers s.bound (length s.covers) (when_apart aim ++ s.work)
  apart-work aims.Test = w
  apart-work (aims.Head k first) = (tt, w)

  apart-owns : (aim : Aim) → Owning p (before (when_apart aim) s)
  apart-owns aim = in-front (when_apart aim) (plain (when_apart aim ++ s.work) (apart-work aim))

  module _ (rest : List Pair) (aim : Aim) (pf : Pairs-at s rest) (af : AimScoped p s.made s.covers s.bound (length s.covers) aim) where
    part-owns : (c : Con) → PartScoped s.made s.covers s.bound (length s.covers) c → Assumed s.made s.covers s.bound (length s.covers) c → (other : List Task) → Front p s.made s.covers s.bound (length s.covers) (other ++ s.work) → EachState (Owning p) (at_part sat s c aim other).states
    part-owns c n a other f = by (status sat s c)
      where
        one : Owning p (before (task.Assume c ∷ when_apart aim) s)
        one = in-front (task.Assume c ∷ when_apart aim) (assumes c (when_apart aim ++ s.work) n a (apart-work aim))

        two : Owning p (before other s)
        two = in-front other f

        by : (o : Status) → EachState (Owning p) (alternatives s (task.Assume c ∷ when_apart aim) other o)
        by Entailed = (one, (two, tt))
        by Impossible = (two, tt)
        by Added = (one, (two, tt))
        by Parts = (one, tt)

    variables-own : (x y : ℕ) → Frees-at s x → Frees-at s y → x ≢ y → EachState (Owning p) (differ_variables sat s x y rest aim).states
    variables-own x y a b d = by (stands_first s x y) refl
      where
        inside : (nat_lt (depth_of s y) (depth_of s x) ≡ true) ⊎ ((nat_eq (depth_of s x) (depth_of s y) && nat_lt y x) ≡ true) → depth_of s y ≤ depth_of s x
        inside (inl k) = let l : depth_of s y < depth_of s x = ltb-true (depth_of s y) (depth_of s x) k in omega (arith, l)
        inside (inr k) = let l : depth_of s x ≡ depth_of s y = eqb-true (depth_of s x) (depth_of s y) (and_parts (nat_eq (depth_of s x) (depth_of s y)) (nat_lt y x) k).0 in omega (arith, l)

        first : (not (is_universal s y) ≡ true) ⊎ ((is_universal s x && is_inside s x y) ≡ true) → StandsFirst s.made x y
        first (inl k) = inl (not-true (is_universal s y) k)
        first (inr k) =
            let q = and_parts (is_universal s x) (is_inside s x y) k in
            inr (q.0, inside (or_cases (nat_lt (depth_of s y) (depth_of s x)) (nat_eq (depth_of s x) (depth_of s y) && nat_lt y x) q.1))

        second : (i j : Bool) → is_universal s x ≡ i → is_universal s y ≡ j → (not j || (i && is_inside s x y)) ≡ false → StandsFirst s.made y x
        second false j e f k = inl e
        second true true e f k =
            inr (f, ltb-false (depth_of s y) (depth_of s x) (or_parts (nat_lt (depth_of s y) (depth_of s x)) (nat_eq (depth_of s x) (depth_of s y) && nat_lt y x) k).0)
        second true false e f k = absurd (true≢false k)

        by : (c : Bool) → stands_first s x y ≡ c → EachState (Owning p) (if c then part_of_variables sat s x y rest aim else part_of_variables sat s y x rest aim).states
        by true k =
            part-owns (con.Neq (Var x) (Var y)) tt (a, b, (λ e. d (sym e)), first (or_cases (not (is_universal s y)) (is_universal s x && is_inside s x y) k)) (task.Become x (Var y) rest aim ∷ [])
            (becomes x (Var y) rest aim s.work a (b, d) pf af w)
        by false k =
            part-owns (con.Neq (Var y) (Var x)) tt (b, a, d, second (is_universal s x) (is_universal s y) refl refl k) (task.Become y (Var x) rest aim ∷ [])
            (becomes y (Var x) rest aim s.work b (a, (λ e. d (sym e))) pf af w)

    number-owns : (x : ℕ) (v : Number) → Frees-at s x → EachState (Owning p) (differ_number sat s x v rest aim).states
    number-owns x v a = part-owns (con.NotNum (Var x)) a.0 tt (task.Assume (con.Num (Var x)) ∷ task.Avoid x v rest aim ∷ []) (numbers x v rest aim s.work a pf af w)

    shape-owns : (x f : ℕ) (ts : Tms) → Frees-at s x → EachVars (Either s.made s.covers s.bound (length s.covers)) ts → EachState (Owning p) (differ_shape sat s x f ts rest aim).states
    shape-owns x f ts a b = by (occurs_among x ts)
      where
        by : (c : Bool) → EachState (Owning p) (if c then goes (before (when_apart aim) s) else at_part sat s (con.NotShape x f (length (items ts))) aim (task.Shape x f ts rest aim ∷ [])).states
        by true = (apart-owns aim, tt)
        by false = part-owns (con.NotShape x f (length (items ts))) tt a.0 (task.Shape x f ts rest aim ∷ []) (shapes x f ts rest aim s.work a b pf af w)

    frees-either : (ts : Tms) → EachVars (Frees-at s) ts → EachVars (Either s.made s.covers s.bound (length s.covers)) ts
    frees-either ts k = all-weaker (Frees-at s) (Either s.made s.covers s.bound (length s.covers)) (λ z f. inr f.0) ts k

    rights-either : (ts : Tms) → EachVars (RightFree s) ts → EachVars (Either s.made s.covers s.bound (length s.covers)) ts
    rights-either ts k = all-weaker (RightFree s) (Either s.made s.covers s.bound (length s.covers)) (right-either s) ts k

    of-no_head : (y : ℕ) → RightFree s y → is_kind_matched (entry s.made y).kind ≡ false → Frees-at s y
    of-no_head y (inl e) k = absurd (true≢false (sym (ap is_kind_matched e.1) ∙ k))
    of-no_head y (inr f) k = f

    pair-owns : (t u : Tm) → EachVar (Frees-at s) t → EachVar (RightFree s) u → Apart t u → is_matched s u ≡ false → EachState (Owning p) (differ_pair sat s t u rest aim).states
    pair-owns (var x) (var y) a b d k = variables-own x y a (of-no_head y b k) d
    pair-owns (var x) (num v) a b d k = number-owns x v a
    pair-owns (var x) (app f ts) a b d k = shape-owns x f ts a (rights-either ts b)
    pair-owns (num v) (var y) a b d k = number-owns y v (of-no_head y b k)
    pair-owns (num v) (num o) a b d k = (apart-owns aim, tt)
    pair-owns (num v) (app f ts) a b d k = (apart-owns aim, tt)
    pair-owns (app f ts) (var y) a b d k = shape-owns y f ts (of-no_head y b k) (frees-either ts a)
    pair-owns (app f ts) (num o) a b d k = (apart-owns aim, tt)
    pair-owns (app f ts) (app g us) a b d k = (apart-owns aim, tt)

    -- the head's variable stands for the literal's part
    taken-owns : (t : Tm) (y : ℕ) → EachVar (Frees-at s) t → RightFree s y → (entry s.made y).kind ≡ Matched → Owning p (before (task.Differ rest aim ∷ []) (with_binding s y t))
    taken-owns t y a b k = record {
      sound = pushed-sound p s.made s.covers s.bound h y t fits;
      front = differs rest aim s.work pairs-now (aim-now aim af) work-now;
    }
      where
        bs : List Binding
        bs = s.bound ++ binding y t ∷ []

        n : ℕ
        n = length s.covers

        low : RightFree s y → y < length s.made
        low (inl e) = e.0
        low (inr f) = good-made s.made s.covers s.bound (length s.covers) y (met-good (Good s.made s.covers s.bound (length s.covers)) s.bound y f.0)

        free : RightFree s y → is_bound_in s.bound y ≡ false
        free (inl e) = e.2
        free (inr f) = f.1

        fits : Fits s.made s.covers s.bound y t
        fits = record {
          free = free b;
          place = low b;
          owned = (λ e. absurd (true≢false (sym (ap is_kind_universal e) ∙ ap is_kind_universal k)));
          terms = (λ e. absurd (true≢false (sym (ap is_kind_matched k) ∙ e)));
        }

        kinded : (z : ℕ) → Frees-at s z → z ≢ y
        kinded z f e = by (kind-of s (length s.covers) z (met-good (Good s.made s.covers s.bound (length s.covers)) s.bound z f.0) f.1)
          where
            same : (entry s.made z).kind ≡ Matched
            same = ap (λ (x : ℕ). (entry s.made x).kind) e ∙ k

            by : ((entry s.made z).kind ≡ Existential) ⊎ (((entry s.made z).kind ≡ Universal) × (owns s.covers (entry s.made z).depth z ≡ true)) → ⊥
            by (inl g) = true≢false (sym (ap is_kind_matched same) ∙ ap is_kind_matched g)
            by (inr g) = true≢false (sym (ap is_kind_matched same) ∙ ap is_kind_matched g.0)

        itself : Scoped s.made s.covers (s.bound ++ binding y t ∷ []) (length s.covers) y
        itself =
            pushed-loose p s.made s.covers s.bound h y t fits (length s.covers) k
            (λ z o. let f = each-occurs (Frees-at s) t a z o in (met-good (Good s.made s.covers s.bound (length s.covers)) s.bound z f.0, f.1, kinded z f)) (omega arith)

        scoped : (j z : ℕ) → j ≤ length s.covers → Scoped s.made s.covers s.bound j z → Scoped s.made s.covers (s.bound ++ binding y t ∷ []) j z
        scoped = pushed-carries p s.made s.covers s.bound h y t fits

        either : (z : ℕ) → Either s.made s.covers s.bound (length s.covers) z → Either s.made s.covers (s.bound ++ binding y t ∷ []) (length s.covers) z
        either z (inl e) = by (cases_Bool (nat_eq z y))
          where
            by : (nat_eq z y ≡ true) ⊎ (nat_eq z y ≡ false) → Either s.made s.covers (s.bound ++ binding y t ∷ []) (length s.covers) z
            by (inl same) = inr (subst (λ (x : ℕ). Scoped s.made s.covers (s.bound ++ binding y t ∷ []) (length s.covers) x) (sym (eqb-true z y same)) itself)
            by (inr other) = inl (e.0, e.1, still-unbound s.bound (binding y t) z (eqb-false z y other) e.2)
        either z (inr m) = inr (scoped (length s.covers) z (omega arith) m)

        pairs-now : Each (PairScoped s.made s.covers (s.bound ++ binding y t ∷ []) (length s.covers)) rest
        pairs-now =
            Each-map (PairScoped s.made s.covers s.bound (length s.covers)) (PairScoped s.made s.covers (s.bound ++ binding y t ∷ []) (length s.covers))
            (λ o l. (
              each-weaker (Scoped s.made s.covers s.bound (length s.covers)) (Scoped s.made s.covers (s.bound ++ binding y t ∷ []) (length s.covers)) (λ z m. scoped (length s.covers) z (omega arith) m) (tm_of o.left) l.0,
              each-weaker (Either s.made s.covers s.bound (length s.covers)) (Either s.made s.covers (s.bound ++ binding y t ∷ []) (length s.covers)) either (tm_of o.right) l.1,
            )) rest pf

        aim-now : (a : Aim) → AimScoped p s.made s.covers s.bound (length s.covers) a → AimScoped p s.made s.covers (s.bound ++ binding y t ∷ []) (length s.covers) a
        aim-now aims.Test g = tt
        aim-now (aims.Head c first) g = λ z l m. let e = g z l m in (e.0, e.1, either z e.2)

        work-now : First s.made s.covers (s.bound ++ binding y t ∷ []) (length s.covers) s.work
        work-now = waiting-more (Scoped s.made s.covers s.bound) (Scoped s.made s.covers (s.bound ++ binding y t ∷ [])) (length s.covers) (λ j z l m. scoped j z l m) (length s.covers) (omega arith) s.work w

    first-owns : (t u : Tm) → EachVar (Frees-at s) t → EachVar (RightFree s) u → Apart t u → EachState (Owning p) (differ_first sat s t u rest aim).states
    first-owns t (num v) a b d = pair-owns t (num v) a b d refl
    first-owns t (app f ts) a b d = pair-owns t (app f ts) a b d refl
    first-owns t (var y) a b d = by (is_matched s (var y)) refl
      where
        by : (c : Bool) → is_matched s (var y) ≡ c → EachState (Owning p) (if c then goes (before (task.Differ rest aim ∷ []) (take_up s t (var y))) else differ_pair sat s t (var y) rest aim).states
        by true e = (taken-owns t y a b (kind-matched (entry s.made y).kind e), tt)
        by false e = pair-owns t (var y) a b d e

    -- ---- where a part is not apart

    moved-owns : (r : State) → Moves p s r → Owning p (before (task.Differ rest aim ∷ []) r)
    moved-owns r m = record {
      sound = m.scopes.sound;
      front = differs rest aim r.work (pairs-kept p s.made r.made s.covers r.covers s.bound r.bound m.scopes rest pf) (aim-kept p s.made r.made s.covers r.covers s.bound r.bound m.scopes aim af)
          (subst (First r.made r.covers r.bound (length r.covers)) (sym m.work) (work-kept p s.made r.made s.covers r.covers s.bound r.bound m.scopes s.work w));
    }

    pub value-owns : (x : ℕ) (t : Term) → Frees-at s x → BecomesScoped s.made s.covers s.bound (length s.covers) x t → EachState (Owning p) (same_value sat s x (tm_of t) rest aim).states
    value-owns x (Var y) a b =
        each_map (Moves p s) (Owning p) (before (task.Differ rest aim ∷ [])) (two_variables sat s x y (is_universal s x) (is_universal s y)).states
        (variables-move p sat s h solved (length s.covers) x y a b.0 b.1) moved-owns
    value-owns x (Num v) a b =
        each_map (Moves p s) (Owning p) (before (task.Differ rest aim ∷ [])) (variable_number sat s x v).states (number-moves p sat s h solved (length s.covers) x v (omega arith) a) moved-owns
    value-owns x (App f ts) a b = absurd b

    pub avoid-owns : (x : ℕ) (v : Number) → Frees-at s x → EachState (Owning p) (differ_value sat s x v rest aim).states
    avoid-owns x v a = part-owns (con.Neq (Var x) (Num v)) tt a.0 (task.Become x (Num v) rest aim ∷ []) (becomes x (Num v) rest aim s.work a tt pf af w)

    pub name-owns : (x f : ℕ) (us : Tms) → Frees-at s x → EachVars (Either s.made s.covers s.bound (length s.covers)) us → EachState (Owning p) (same_shape sat s x f us rest aim).states
    name-owns x f us a b =
        each_map (Puts p s x (app f (new_parts (length s.made) (length (items us))))) (Owning p) (before (task.Differ (pairs (new_parts (next_variable s) (length (items us))) us ++ rest) aim ∷ []))
        (becomes_shape sat s x f (length (items us))).states (shape-puts p sat s h solved x f (length (items us)) (length s.covers) a) one
      where
        one : (r : State) → Puts p s x (app f (new_parts (length s.made) (length (items us)))) r → Owning p (before (task.Differ (pairs (new_parts (next_variable s) (length (items us))) us ++ rest) aim ∷ []) r)
        one r put = record {
          sound = put.moves.scopes.sound;
          front = differs (pairs (new_parts (length s.made) (length (items us))) us ++ rest) aim r.work
              (Each-append (PairScoped r.made r.covers r.bound (length r.covers)) (pairs (new_parts (length s.made) (length (items us))) us) rest
              (pairs-scoped (Scoped r.made r.covers r.bound (length r.covers)) (Either r.made r.covers r.bound (length r.covers)) (new_parts (length s.made) (length (items us))) us (parts-scoped p s r x f (length (items us)) put a.0)
              (all-weaker (Either s.made s.covers s.bound (length s.covers)) (Either r.made r.covers r.bound (length r.covers)) (either-kept p s.made r.made s.covers r.covers s.bound r.bound put.moves.scopes) us b))
              (pairs-kept p s.made r.made s.covers r.covers s.bound r.bound put.moves.scopes rest pf))
              (aim-kept p s.made r.made s.covers r.covers s.bound r.bound put.moves.scopes aim af)
              (subst (First r.made r.covers r.bound (length r.covers)) (sym put.moves.work) (work-kept p s.made r.made s.covers r.covers s.bound r.bound put.moves.scopes s.work w));
        }

  pairs-own : (ps : List Pair) (aim : Aim) → Pairs-at s ps → Reads s ps → AimScoped p s.made s.covers s.bound (length s.covers) aim → EachState (Owning p) (differ_pairs sat s ps aim).states
  pairs-own [] aims.Test pf f af = tt
  pairs-own [] (aims.Head k first) pf f af = (in-front (task.Begin k first false ∷ []) (begins k first false s.work af w), tt)
  pairs-own (o ∷ ps) aim pf f af = first-owns ps aim pf.1 af (tm_of o.left) (tm_of o.right) f.0 f.1 f.2

  pub differ-owns : (ps : List Pair) (aim : Aim) → Pairs-at s ps → AimScoped p s.made s.covers s.bound (length s.covers) aim → EachState (Owning p) (differ_terms sat s ps aim).states
  differ-owns ps aim pf af = pairs-own (from_first (meaning s) ps) aim (first-scoped ps pf) (first-reads ps pf) af

  -- ---- what is assumed

  pub assumed-owns : (c : Con) → Assumed s.made s.covers s.bound (length s.covers) c → EachState (Owning p) (assume sat s c).states
  assumed-owns c a =
      each_weaker (Assumes p s) (Owning p) (assume sat s c).states
      (λ r k. record {
        sound = k.scopes.sound;
        front = plain r.work (subst (First r.made r.covers r.bound (length r.covers)) (sym k.work) (work-kept p s.made r.made s.covers r.covers s.bound r.bound k.scopes s.work w));
      }) (assume-assumes p sat s h solved (length s.covers) c a)

-- a variable that is a number, and then is to be apart from one
pub numbers-own : (p : Program) (sat : List Con → Bool) (s : State) → Sound p s.made s.covers s.bound → Solved (length s.made) s.bound → (x : ℕ) (v : Number) (ps : List Pair) (aim : Aim) (ts : List Task)
    → s.work ≡ task.Avoid x v ps aim ∷ ts → Frees-at s x → Pairs-at s ps → AimScoped p s.made s.covers s.bound (length s.covers) aim → First s.made s.covers s.bound (length s.covers) ts
    → EachState (Owning p) (assume sat s (con.Num (Var x))).states
numbers-own p sat s h solved x v ps aim ts e a pf af w =
    each_weaker (Assumes p s) (Owning p) (assume sat s (con.Num (Var x))).states
    (λ r k. record {
      sound = k.scopes.sound;
      front = subst (Front p r.made r.covers r.bound (length r.covers)) (sym (k.work ∙ e))
          (avoids x v ps aim ts (scoped-kept p s.made r.made s.covers r.covers s.bound r.bound k.scopes x a.0, ap (λ (bs : List Binding). is_bound_in bs x) k.bound ∙ a.1)
          (pairs-kept p s.made r.made s.covers r.covers s.bound r.bound k.scopes ps pf) (aim-kept p s.made r.made s.covers r.covers s.bound r.bound k.scopes aim af)
          (work-kept p s.made r.made s.covers r.covers s.bound r.bound k.scopes ts w));
    }) (assume-assumes p sat s h solved (length s.covers) (con.Num (Var x)) tt)
