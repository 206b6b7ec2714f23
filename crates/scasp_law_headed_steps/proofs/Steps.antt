-- Steps that equate, tell apart, match a head, or show a test.
use Rattle.std.specs.List.{Contains}
use Rattle.std.specs.Prelude.{Bool, List, [], false, if◌then◌else◌, length, map, nat_eq, true, ℕ, ⊤, ◌++◌, ◌+◌, ◌<◌, ◌||◌, ◌∷◌, ◌≡◌, ◌≤◌, ◌⊎◌}
use Rattle.std.proofs.Common.{ap, append_assoc, inl, inr, refl, subst, sym, ◌∙◌, ◌≢◌}
use Rattle.std.proofs.lemmas.Bool.{and_from, and_parts, eq-eqb, eqb-true, ne_eqb, or_cases, or_left, or_right, true≢false}
use Rattle.std.proofs.lemmas.List.{append-nil, map-append}
use Rattle.scasp_hint.specs.Satisfying.{sat}
use Rattle.scasp_law_first_event.proofs.Apart.{Apart, Both, First, pairs-both}
use Rattle.scasp_law_first_event.proofs.Bindings.{Free, Solved, bound-push, read-free, unbound-self}
use Rattle.scasp_law_first_event.proofs.EachStates.{each_map, each_weaker}
use Rattle.scasp_law_first_event.proofs.Firming.{still-bound}
use Rattle.scasp_law_first_event.proofs.Firmness.{BindingFirm, Firm, PairFirm, PairsFirm, TermFirm, as-many, is_loose, kinded-firm}
use Rattle.scasp_law_first_event.proofs.Terms.{EachVar, each-absent, each-weaker}
use Rattle.scasp_law_no_circle.proofs.Tasks.{NoRow}
use Rattle.scasp_law_parts.proofs.AgreeLemmas.{split-all}
use Rattle.scasp_law_parts.proofs.BoundLemmas.{absorbed}
use Rattle.scasp_law_sorted.proofs.Evenness.{quiet}
use Rattle.scasp_law_sorted.proofs.Numbers.{reads}
use Rattle.scasp_list.proofs.EachLemmas.{Each-left, Each-map, Each-right}
use Rattle.scasp_list.specs.Each.{Each}
use Rattle.scasp_num.specs.Number.{Number}
use Rattle.scasp_num.specs.declared.linear.Coeff.{Coeff}
use Rattle.scasp_search_rules.specs.Successors.Assumptions.{assume, assume_all, status}
use Rattle.scasp_search_rules.specs.Successors.Calls.{vars_of_clause}
use Rattle.scasp_search_rules.specs.Successors.Differences.{alternatives, at_part, differ_first, differ_number, differ_pair, differ_pairs, differ_shape, differ_terms, differ_value, differ_variables, is_matched, part_of_variables, same_shape, same_value, stands_first, take_up, when_apart}
use Rattle.scasp_search_rules.specs.Successors.Equations.{becomes_shape, equate_pairs, equate_terms, equated, equations_of}
use Rattle.scasp_search_rules.specs.Successors.Falls.{EachState}
use Rattle.scasp_search_rules.specs.Successors.Items.{number_tests, test_item, with_line}
use Rattle.scasp_search_rules.specs.Successors.Pairs.{from_first, in_front, pairs, pairs_of}
use Rattle.scasp_search_rules.specs.Successors.Regions.{before, equation}
use Rattle.scasp_search_rules.specs.Successors.Splits.{is_bound_in}
use Rattle.scasp_search_rules.specs.Successors.Steps.{goes}
use Rattle.scasp_search_rules.specs.Successors.Variables.{binding, is_empty, meaning, next_variable, universals_of, with_binding}
use Rattle.scasp_search_rules.specs.declared.states.lines.Line.{Line}
use Rattle.scasp_search_rules.specs.declared.states.lines.Line.TheVariants as line
use Rattle.scasp_search_rules.specs.declared.states.outcomes.Status.{Status}
use Rattle.scasp_search_rules.specs.declared.states.outcomes.Status.TheVariants.{Added, Entailed, Impossible, Parts}
use Rattle.scasp_search_rules.specs.declared.states.state.State.{State}
use Rattle.scasp_search_rules.specs.declared.states.tasks.Aim.{Aim}
use Rattle.scasp_search_rules.specs.declared.states.tasks.Aim.TheVariants as aims
use Rattle.scasp_search_rules.specs.declared.states.tasks.Pair.{Pair}
use Rattle.scasp_search_rules.specs.declared.states.tasks.Task.{Task}
use Rattle.scasp_search_rules.specs.declared.states.tasks.Task.TheVariants as task
use Rattle.scasp_syntax.proofs.SameLemmas.{tm_decided}
use Rattle.scasp_syntax.specs.Constraints.{Entails, Meets, holds, is_number}
use Rattle.scasp_syntax.specs.Same.{same_tm}
use Rattle.scasp_syntax.specs.Tm.{Tm, Tms, app, items, num, var}
use Rattle.scasp_syntax.specs.Values.{Sub, Valuation, all_under, under}
use Rattle.scasp_syntax.specs.View.{tm_of}
use Rattle.scasp_syntax.specs.declared.clause.FlatItem.TheVariants as flat
use Rattle.scasp_syntax.specs.declared.con.Con.{Con}
use Rattle.scasp_syntax.specs.declared.con.Con.TheVariants as con
use Rattle.scasp_syntax.specs.declared.program.Program.{Program}
use Rattle.scasp_syntax.specs.declared.term.Term.{Term}
use Rattle.scasp_syntax.specs.declared.term.Term.TheVariants.{App, Num, Var}
use Rattle.scasp_unify.proofs.UnificationLemmas.{resolved-twice}
use Rattle.scasp_unify.specs.Negations.{new_parts}
use Rattle.scasp_unify.specs.Parts.{occurs, occurs_among}
use Rattle.scasp_unify.specs.SimpleForm.{differ, term_with}
use Rattle.scasp_unify.specs.Unification.{Absorbs}
use Rattle.scasp_unify.specs.declared.bindings.Binding.{Binding}
use Rattle.scasp_law_headed_steps.proofs.Assuming.{Found, Kept, KeptAt, assume-plain, assume-row, read-found}
use Rattle.scasp_law_headed_steps.proofs.Bodies.{TestOf}
use Rattle.scasp_law_headed_steps.proofs.Forms.{ConAll}
use Rattle.scasp_law_headed_steps.proofs.Heads.{first-both, first-rights, in_rights, pairs-right, rights-append}
use Rattle.scasp_law_headed_steps.proofs.Joining.{Joins, JoinsAlone, PairEqual, args-equal, last-equal, number-joins, pairs-equal, parts-many, shape-joins, taken-kept, terms-join, variables-join}
use Rattle.scasp_law_headed_steps.proofs.Tasks.{AimFits, AimReads, Moves, Named, TaskFits, aim-later, aim-narrow, aim-reads, before-moves, bound-more, equal-earlier, equal-met, equations-fit, left-equal, meets-before, settles}
use Rattle.scasp_law_headed_steps.proofs.Truths.{RowReads}
use Rattle.scasp_law_headed_steps.specs.Calm.{holds_of, left_by, left_of}

bound-shown : (s : State) (h : Kept s) (v : Sub) → Meets v (holds_of s) → Absorbs v (meaning s)
bound-shown s h v m = reads s.bound s.given v m

pub found-of : (s : State) (z : ℕ) → Firm s z → is_bound_in s.bound z ≡ false → Found s z
found-of s z (l, inl e) f = ((l, e), f)
found-of s z (l, inr e) f = absurd (true≢false (sym e ∙ f))

-- a variable or a number
abbrev pub IsPlain : Term → Type 0
IsPlain (Var y) = ⊤
IsPlain (Num q) = ⊤
IsPlain (App f ts) = ⊥

-- the pairs are equal where what they come to is
first-equal : (v w : Sub) → Absorbs v w → (ps : List Pair) → Each (PairEqual v) (from_first w ps) → Each (PairEqual v) ps
first-equal v w a [] h = tt
first-equal v w a (o ∷ ps) h = by (pairs_of (under w (tm_of o.left)) (under w (tm_of o.right))) refl h (first-equal v w a ps)
  where
    by : (qs : List Pair) → pairs_of (under w (tm_of o.left)) (under w (tm_of o.right)) ≡ qs → Each (PairEqual v) (in_front qs ps (from_first w ps)) → (Each (PairEqual v) (from_first w ps) → Each (PairEqual v) ps) → Each (PairEqual v) (o ∷ ps)
    by [] e k rec = (one e tt, rec k)
      where
        one : pairs_of (under w (tm_of o.left)) (under w (tm_of o.right)) ≡ [] → Each (PairEqual v) [] → PairEqual v o
        one e k = sym (resolved-twice v w (tm_of o.left) a) ∙ pairs-equal v (under w (tm_of o.left)) (under w (tm_of o.right)) (subst (Each (PairEqual v)) (sym e) k) ∙ resolved-twice v w (tm_of o.right) a
    by (q ∷ qs) e k rec = (
      sym (resolved-twice v w (tm_of o.left) a)
          ∙ pairs-equal v (under w (tm_of o.left)) (under w (tm_of o.right)) (subst (Each (PairEqual v)) (sym e) (Each-left (PairEqual v) (q ∷ qs) ps k))
          ∙ resolved-twice v w (tm_of o.right) a,
      Each-right (PairEqual v) (q ∷ qs) ps k,
    )

module _ (p : Program) (s : State) (solved : Solved (length s.made) s.bound) (bindings : Each (BindingFirm s) s.bound) (h : Kept s) where
  -- ---- equations

  -- where the first pair that they come to is joined, and the others are left
  joined-moves : (t u : Term) (o : Pair) (ps : List Pair) → pairs_of (under (meaning s) (tm_of t)) (under (meaning s) (tm_of u)) ≡ o ∷ ps → (r : State)
      → Joins (before (equations_of ps) s) (tm_of o.left) (tm_of o.right) r → Moves p s (task.Equate t u) r
  joined-moves t u o ps e r j = record {
    onto = record { more = j.onto.more; kinded = j.onto.kinded; firm = j.onto.firm };
    more_bound = j.more_bound;
    bound = j.bound;
    more_given = j.more_given;
    given = j.given;
    kept = j.kept;
    covers = j.covers;
    named = λ k. subst (Each Named) (sym j.literals) k;
    tasks = equations_of (j.left ++ ps);
    work =
        j.work ∙ sym (append_assoc (equations_of j.left) (equations_of ps) s.work)
        ∙ ap (λ (ws : List Task). ws ++ s.work) (sym (map-append (λ (o : Pair). task.Equate o.left o.right) j.left ps));
    fit = equations-fit p r.made r.bound r.lines (j.left ++ ps);
    shows = λ v m. and_from (same_tm (under v.of (tm_of t)) (under v.of (tm_of u))) true ((tm_decided (under v.of (tm_of t)) (under v.of (tm_of u))).1 (equal v m)) refl;
    more_lines = [];
    lines = j.lines ∙ sym (append-nil s.lines);
    told = tt;
  }
    where
      equal : (v : Valuation) → Meets v.of (holds_of r ++ left_of (equations_of (j.left ++ ps))) → under v.of (tm_of t) ≡ under v.of (tm_of u)
      equal v m =
          let q = split-all (holds v.of) (holds_of r) (left_of (equations_of (j.left ++ ps))) m in
          let all : Each (PairEqual v.of) (j.left ++ ps) = left-equal v.of (j.left ++ ps) q.1 in
          let pairs : Each (PairEqual v.of) (o ∷ ps) = (j.same v.of (equal-met r v.of q.0) (Each-left (PairEqual v.of) j.left ps all), Each-right (PairEqual v.of) j.left ps all) in
          let a : Absorbs v.of (meaning s) = bound-shown s h v.of (meets-before s r j.more_bound j.more_given j.bound j.given v.of q.0) in
          sym (resolved-twice v.of (meaning s) (tm_of t) a)
          ∙ pairs-equal v.of (under (meaning s) (tm_of t)) (under (meaning s) (tm_of u)) (subst (Each (PairEqual v.of)) (sym e) pairs)
          ∙ resolved-twice v.of (meaning s) (tm_of u) a

  pub equate-moves : (t u : Term) → TermFirm s (tm_of t) → TermFirm s (tm_of u) → EachState (Moves p s (task.Equate t u)) (equate_terms sat s (tm_of t) (tm_of u)).states
  equate-moves t u a b =
      by (pairs_of (under (meaning s) (tm_of t)) (under (meaning s) (tm_of u))) refl
      (pairs-both (Found s) (Found s) (under (meaning s) (tm_of t)) (under (meaning s) (tm_of u)) (read-found s solved bindings (tm_of t) a) (read-found s solved bindings (tm_of u) b))
    where
      by : (ps : List Pair) → pairs_of (under (meaning s) (tm_of t)) (under (meaning s) (tm_of u)) ≡ ps → Each (Both (Found s) (Found s)) ps → EachState (Moves p s (task.Equate t u)) (equate_pairs sat s ps).states
      by [] e f = (
        settles p s (task.Equate t u) [] s.given (sym (append-nil s.given)) h s.literals (λ k. k) [] s.lines (sym (append-nil s.lines)) [] s.work refl tt
            (λ v m.
            let q = split-all (holds v.of) (holds_of s) [] m in
            let a : Absorbs v.of (meaning s) = bound-shown s h v.of q.0 in
            and_from (same_tm (under v.of (tm_of t)) (under v.of (tm_of u))) true
            ((tm_decided (under v.of (tm_of t)) (under v.of (tm_of u))).1
            (sym (resolved-twice v.of (meaning s) (tm_of t) a)
            ∙ pairs-equal v.of (under (meaning s) (tm_of t)) (under (meaning s) (tm_of u)) (subst (Each (PairEqual v.of)) (sym e) tt)
            ∙ resolved-twice v.of (meaning s) (tm_of u) a)) refl) tt,
        tt,
      )
      by (o ∷ ps) e f =
          each_weaker (Joins (before (equations_of ps) s) (tm_of o.left) (tm_of o.right)) (Moves p s (task.Equate t u)) (equated sat (before (equations_of ps) s) (tm_of o.left) (tm_of o.right)).states
          (joined-moves t u o ps e) (terms-join (before (equations_of ps) s) solved bindings h (tm_of o.left) (tm_of o.right) f.0.0 f.0.1 f.0.2)

  -- ---- telling apart

  module _ (t : Task) (nothing : left_by t ≡ []) where
    apart-fits : (aim : Aim) → Each (TaskFits p s.made s.bound s.lines) (when_apart aim)
    apart-fits aims.Test = tt
    apart-fits (aims.Head k first) = (tt, tt)

    part-moves : (c : Con) → ConAll (Firm s) c → NoRow c → (aim : Aim) (other : List Task) → Each (TaskFits p s.made s.bound s.lines) other → EachState (Moves p s t) (at_part sat s c aim other).states
    part-moves c a n aim other f = by (status sat s c)
      where
        one : Moves p s t (before (task.Assume c ∷ when_apart aim) s)
        one = before-moves p s t nothing h (task.Assume c ∷ when_apart aim) ((a, n), apart-fits aim)

        two : Moves p s t (before other s)
        two = before-moves p s t nothing h other f

        by : (o : Status) → EachState (Moves p s t) (alternatives s (task.Assume c ∷ when_apart aim) other o)
        by Entailed = (one, (two, tt))
        by Impossible = (two, tt)
        by Added = (one, (two, tt))
        by Parts = (one, tt)

    -- the pairs behind the first one, and what is not lost with it
    module _ (rest : List Pair) (aim : Aim) where
      apart-moves : EachState (Moves p s t) (goes (before (when_apart aim) s)).states
      apart-moves = (before-moves p s t nothing h (when_apart aim) (apart-fits aim), tt)

      variables-move : (x y : ℕ) → Found s x → Found s y → AimFits p s.bound aim (in_rights rest) → AimReads p s.bound s.lines aim (λ v. (v x ≡ v y) × Each (PairEqual v) rest) → EachState (Moves p s t) (differ_variables sat s x y rest aim).states
      variables-move x y a b f g = by (stands_first s x y)
        where
          one : (z w : ℕ) → Found s z → Found s w → AimReads p s.bound s.lines aim (λ v. (v z ≡ v w) × Each (PairEqual v) rest) → EachState (Moves p s t) (part_of_variables sat s z w rest aim).states
          one z w c d i = part-moves (differ (var z) (var w)) (kinded-firm s z c.0, kinded-firm s w d.0) tt aim (task.Become z (Var w) rest aim ∷ []) ((kinded-firm s z c.0, kinded-firm s w d.0, f, i), tt)

          by : (i : Bool) → EachState (Moves p s t) (if i then part_of_variables sat s x y rest aim else part_of_variables sat s y x rest aim).states
          by true = one x y a b g
          by false = one y x b a (aim-narrow p s.bound s.lines (λ v. (v x ≡ v y) × Each (PairEqual v) rest) (λ v. (v y ≡ v x) × Each (PairEqual v) rest) (λ v e k. (sym k.0, k.1)) aim g)

      number-moves : (x : ℕ) (q : Number) → Found s x → AimFits p s.bound aim (in_rights rest) → AimReads p s.bound s.lines aim (λ v. (v x ≡ num q) × Each (PairEqual v) rest) → EachState (Moves p s t) (differ_number sat s x q rest aim).states
      number-moves x q a f g =
          part-moves (con.NotNum (Var x)) (kinded-firm s x a.0) tt aim (task.Assume (con.Num (Var x)) ∷ task.Avoid x q rest aim ∷ []) ((kinded-firm s x a.0, tt), ((kinded-firm s x a.0, f, g), tt))

      shape-moves : (x f : ℕ) (ts : Tms) → Found s x → AimFits p s.bound aim (λ z. occurs_among z ts || in_rights rest z) → AimReads p s.bound s.lines aim (λ v. (v x ≡ app f (all_under v ts)) × Each (PairEqual v) rest) → EachState (Moves p s t) (differ_shape sat s x f ts rest aim).states
      shape-moves x f ts a g i = by (occurs_among x ts)
        where
          by : (i : Bool) → EachState (Moves p s t) (if i then goes (before (when_apart aim) s) else at_part sat s (con.NotShape x f (length (items ts))) aim (task.Shape x f ts rest aim ∷ [])).states
          by true = apart-moves
          by false = part-moves (con.NotShape x f (length (items ts))) (kinded-firm s x a.0) tt aim (task.Shape x f ts rest aim ∷ []) ((kinded-firm s x a.0, g, i), tt)

      -- a variable of no head is none of those that are to be bound
      not-there : (u : Tm) → AimFits p s.bound aim (λ z. occurs z u || in_rights rest z) → ((k first : ℕ) → aim ≡ aims.Head k first → (z : ℕ) → first ≤ z → z < first + vars_of_clause p k → occurs z u ≡ false)
          → AimFits p s.bound aim (in_rights rest)
      not-there u g none = by aim refl g
        where
          by : (a : Aim) → aim ≡ a → AimFits p s.bound a (λ z. occurs z u || in_rights rest z) → AimFits p s.bound a (in_rights rest)
          by aims.Test e k = tt
          by (aims.Head k first) e f = λ z l m. one z l m (f z l m)
            where
              one : (z : ℕ) → first ≤ z → z < first + vars_of_clause p k → (is_bound_in s.bound z ≡ true) ⊎ ((occurs z u || in_rights rest z) ≡ true) → (is_bound_in s.bound z ≡ true) ⊎ (in_rights rest z ≡ true)
              one z l m (inl b) = inl b
              one z l m (inr b) = inr (ap (λ (i : Bool). i || in_rights rest z) (sym (none k first e z l m)) ∙ b)

      anywhere : (ts : Tms) → AimFits p s.bound aim (in_rights rest) → AimFits p s.bound aim (λ z. occurs_among z ts || in_rights rest z)
      anywhere ts g = by aim g
        where
          by : (a : Aim) → AimFits p s.bound a (in_rights rest) → AimFits p s.bound a (λ z. occurs_among z ts || in_rights rest z)
          by aims.Test k = tt
          by (aims.Head k first) f = λ z l m. one z (f z l m)
            where
              one : (z : ℕ) → (is_bound_in s.bound z ≡ true) ⊎ (in_rights rest z ≡ true) → (is_bound_in s.bound z ≡ true) ⊎ ((occurs_among z ts || in_rights rest z) ≡ true)
              one z (inl b) = inl b
              one z (inr b) = inr (or_right (occurs_among z ts) (in_rights rest z) b)

      -- the variables of the head, if one is being matched
      module _ (heads : (k first : ℕ) → aim ≡ aims.Head k first → (z : ℕ) → first ≤ z → z < first + vars_of_clause p k → is_loose s z ≡ true) where
        no-variable : (y : ℕ) → is_loose s y ≡ false → (k first : ℕ) → aim ≡ aims.Head k first → (z : ℕ) → first ≤ z → z < first + vars_of_clause p k → occurs z (var y) ≡ false
        no-variable y e k first f z l m = ne_eqb z y (λ g. true≢false (sym (heads k first f z l m) ∙ ap (is_loose s) g ∙ e))

        -- the sides the other way round
        turned-reads : (a b : Tm) → AimReads p s.bound s.lines aim (λ v. (under v a ≡ under v b) × Each (PairEqual v) rest) → AimReads p s.bound s.lines aim (λ v. (under v b ≡ under v a) × Each (PairEqual v) rest)
        turned-reads a b i =
            aim-narrow p s.bound s.lines (λ v. (under v a ≡ under v b) × Each (PairEqual v) rest) (λ v. (under v b ≡ under v a) × Each (PairEqual v) rest) (λ v e k. (sym k.0, k.1)) aim i

        pair-moves : (a b : Tm) → EachVar (Found s) a → EachVar (Free (length s.made) s.bound) b → Apart a b → ((y : ℕ) → b ≡ var y → is_loose s y ≡ false)
            → AimFits p s.bound aim (λ z. occurs z b || in_rights rest z) → AimReads p s.bound s.lines aim (λ v. (under v a ≡ under v b) × Each (PairEqual v) rest) → EachState (Moves p s t) (differ_pair sat s a b rest aim).states
        pair-moves (var x) (var y) fa fb n l g i = variables-move x y fa ((fb.1, l y refl), fb.0) (not-there (var y) g (no-variable y (l y refl))) i
        pair-moves (var x) (num q) fa fb n l g i = number-moves x q fa (not-there (num q) g (λ k first e z a b. refl)) i
        pair-moves (var x) (app f ts) fa fb n l g i = shape-moves x f ts fa g i
        pair-moves (num q) (var y) fa fb n l g i = number-moves y q ((fb.1, l y refl), fb.0) (not-there (var y) g (no-variable y (l y refl))) (turned-reads (num q) (var y) i)
        pair-moves (num q) (num r) fa fb n l g i = apart-moves
        pair-moves (num q) (app f ts) fa fb n l g i = apart-moves
        pair-moves (app f ts) (var y) fa fb n l g i = shape-moves y f ts ((fb.1, l y refl), fb.0) (anywhere ts (not-there (var y) g (no-variable y (l y refl)))) (turned-reads (app f ts) (var y) i)
        pair-moves (app f ts) (num r) fa fb n l g i = apart-moves
        pair-moves (app f ts) (app k us) fa fb n l g i = apart-moves

        -- the head's variable stands for the literal's part
        taken-moves : (a : Tm) (y : ℕ) → EachVar (Found s) a → is_bound_in s.bound y ≡ false → is_loose s y ≡ true → AimFits p s.bound aim (λ z. nat_eq z y || in_rights rest z)
            → AimReads p s.bound s.lines aim (λ v. (under v a ≡ v y) × Each (PairEqual v) rest) → Moves p s t (before (task.Differ rest aim ∷ []) (with_binding s y a))
        taken-moves a y fa free l g i = record {
          onto = record { more = as-many (length s.made); kinded = (λ z k. k); firm = (λ z k. (k.0, still z k.1)) };
          more_bound = binding y a ∷ [];
          bound = refl;
          more_given = [];
          given = sym (append-nil s.given);
          kept = taken-kept s y a solved bindings h l free fa;
          covers = refl;
          named = λ k. k;
          tasks = task.Differ rest aim ∷ [];
          work = refl;
          fit = ((by aim g, narrowed), tt);
          shows = λ v m. subst (λ (cs : List Con). Meets v.of cs) (sym nothing) refl;
          more_lines = [];
          lines = sym (append-nil s.lines);
          told = tt;
        }
          where
            narrowed : AimReads p (s.bound ++ binding y a ∷ []) s.lines aim (λ v. Each (PairEqual v) rest)
            narrowed =
                aim-reads p s.bound (s.bound ++ binding y a ∷ []) s.lines s.lines (λ v. (under v a ≡ v y) × Each (PairEqual v) rest) (λ v. Each (PairEqual v) rest)
                (equal-earlier s (with_binding s y a) (binding y a ∷ []) refl) (λ l k. k) (λ v e k. (sym (last-equal s.bound y a v e), k)) aim i

            still : (z : ℕ) → (is_loose s z ≡ false) ⊎ (is_bound_in s.bound z ≡ true) → (is_loose s z ≡ false) ⊎ (is_bound_in (s.bound ++ binding y a ∷ []) z ≡ true)
            still z (inl e) = inl e
            still z (inr e) = inr (still-bound s.bound (binding y a) z e)

            by : (i : Aim) → AimFits p s.bound i (λ z. nat_eq z y || in_rights rest z) → AimFits p (s.bound ++ binding y a ∷ []) i (in_rights rest)
            by aims.Test k = tt
            by (aims.Head k first) f = λ z m n. one z (f z m n)
              where
                here : (z : ℕ) → (nat_eq z y ≡ true) ⊎ (in_rights rest z ≡ true) → (is_bound_in (s.bound ++ binding y a ∷ []) z ≡ true) ⊎ (in_rights rest z ≡ true)
                here z (inl e) = inl (bound-push s.bound (binding y a) z ∙ or_right (is_bound_in s.bound z) (nat_eq y z) (eq-eqb y z (sym (eqb-true z y e))))
                here z (inr e) = inr e

                one : (z : ℕ) → (is_bound_in s.bound z ≡ true) ⊎ ((nat_eq z y || in_rights rest z) ≡ true) → (is_bound_in (s.bound ++ binding y a ∷ []) z ≡ true) ⊎ (in_rights rest z ≡ true)
                one z (inl e) = inl (still-bound s.bound (binding y a) z e)
                one z (inr e) = here z (or_cases (nat_eq z y) (in_rights rest z) e)

        first-moves : (a b : Tm) → EachVar (Found s) a → EachVar (Free (length s.made) s.bound) b → Apart a b → AimFits p s.bound aim (λ z. occurs z b || in_rights rest z)
            → AimReads p s.bound s.lines aim (λ v. (under v a ≡ under v b) × Each (PairEqual v) rest) → EachState (Moves p s t) (differ_first sat s a b rest aim).states
        first-moves a (num q) fa fb n g i = pair-moves a (num q) fa fb n (λ y e. absurd (cc e)) g i
        first-moves a (app f ts) fa fb n g i = pair-moves a (app f ts) fa fb n (λ y e. absurd (cc e)) g i
        first-moves a (var y) fa fb n g i = by (is_matched s (var y)) refl
          where
            same : (z : ℕ) → var y ≡ var z → y ≡ z
            same z e = cc

            by : (c : Bool) → is_loose s y ≡ c → EachState (Moves p s t) (if c then goes (before (task.Differ rest aim ∷ []) (take_up s a (var y))) else differ_pair sat s a (var y) rest aim).states
            by true e = (taken-moves a y fa fb.0 e g i, tt)
            by false e = pair-moves a (var y) fa fb n (λ z f. ap (is_loose s) (sym (same z f)) ∙ e) g i

      -- ---- where a part is not apart

      joined-differ : (E : Sub → Type 0) (u w : Tm) (r : State) → JoinsAlone s u w r → AimFits p s.bound aim (in_rights rest) → AimReads p s.bound s.lines aim E
          → ((v : Sub) → under v u ≡ under v w → Each (PairEqual v) rest → E v) → Moves p s t (before (task.Differ rest aim ∷ []) r)
      joined-differ E u w r c g i narrow = record {
        onto = record { more = c.0.onto.more; kinded = c.0.onto.kinded; firm = c.0.onto.firm };
        more_bound = c.0.more_bound;
        bound = c.0.bound;
        more_given = c.0.more_given;
        given = c.0.given;
        kept = c.0.kept;
        covers = c.0.covers;
        named = λ k. subst (Each Named) (sym c.0.literals) k;
        tasks = task.Differ rest aim ∷ equations_of c.0.left;
        work = ap (λ (ws : List Task). task.Differ rest aim ∷ ws) c.0.work;
        fit = (
          (
            aim-later p s.bound r.bound (λ z e. subst (λ (bs : List Binding). is_bound_in bs z ≡ true) (sym c.0.bound) (bound-more s.bound c.0.more_bound z e)) aim (in_rights rest) g,
            aim-reads p s.bound r.bound s.lines r.lines E (λ v. Each (PairEqual v) rest) (equal-earlier s r c.0.more_bound c.0.bound) (λ l k. subst (λ (ls : List Line). Contains ls l) (sym c.0.lines) k)
                (λ v e k. narrow v (c.0.same v e (subst (Each (PairEqual v)) (sym c.1) tt)) k) aim i,
          ),
          equations-fit p r.made r.bound r.lines c.0.left,
        );
        shows = λ v m. subst (λ (cs : List Con). Meets v.of cs) (sym nothing) refl;
        more_lines = [];
        lines = c.0.lines ∙ sym (append-nil s.lines);
        told = tt;
      }

  -- ---- the tasks

  pairs-move : (ps qs : List Pair) (aim : Aim) → AimFits p s.bound aim (in_rights qs) → AimReads p s.bound s.lines aim (λ v. Each (PairEqual v) qs) → First (Both (Found s) (Free (length s.made) s.bound)) qs
      → ((k first : ℕ) → aim ≡ aims.Head k first → (z : ℕ) → first ≤ z → z < first + vars_of_clause p k → is_loose s z ≡ true) → EachState (Moves p s (task.Differ ps aim)) (differ_pairs sat s qs aim).states
  pairs-move ps [] aims.Test g i f heads = tt
  pairs-move ps [] (aims.Head k first) g i f heads = (before-moves p s (task.Differ ps (aims.Head k first)) refl h (task.Begin k first false ∷ []) (((λ z l m. by z (g z l m)), i), tt), tt)
    where
      by : (z : ℕ) → (is_bound_in s.bound z ≡ true) ⊎ (false ≡ true) → is_bound_in s.bound z ≡ true
      by z (inl e) = e
      by z (inr e) = absurd (true≢false (sym e))
  pairs-move ps (o ∷ qs) aim g i f heads = first-moves (task.Differ ps aim) refl qs aim heads (tm_of o.left) (tm_of o.right) f.0 f.1 f.2 g i

  pub differ-moves : (ps : List Pair) (aim : Aim) → PairsFirm s ps → ((k first : ℕ) → aim ≡ aims.Head k first → (z : ℕ) → first ≤ z → z < first + vars_of_clause p k → is_loose s z ≡ true)
      → AimFits p s.bound aim (in_rights ps) → AimReads p s.bound s.lines aim (λ v. Each (PairEqual v) ps) → EachState (Moves p s (task.Differ ps aim)) (differ_terms sat s ps aim).states
  differ-moves ps aim f heads g i =
      pairs-move ps (from_first (meaning s) ps) aim (by aim refl g)
      (aim-narrow p s.bound s.lines (λ v. Each (PairEqual v) ps) (λ v. Each (PairEqual v) (from_first (meaning s) ps)) (λ v e k. first-equal v (meaning s) (absorbed v s.bound e) ps k) aim i) (first-both (Found s) (Free (length s.made) s.bound) (meaning s) ps both) heads
    where
      both : Each (λ o. EachVar (Found s) (under (meaning s) (tm_of o.left)) × EachVar (Free (length s.made) s.bound) (under (meaning s) (tm_of o.right))) ps
      both =
          Each-map (PairFirm s) (λ o. EachVar (Found s) (under (meaning s) (tm_of o.left)) × EachVar (Free (length s.made) s.bound) (under (meaning s) (tm_of o.right)))
          (λ o k. (read-found s solved bindings (tm_of o.left) k.0, read-free (length s.made) s.bound solved (tm_of o.right) k.1)) ps f

      by : (a : Aim) → aim ≡ a → AimFits p s.bound a (in_rights ps) → AimFits p s.bound a (in_rights (from_first (meaning s) ps))
      by aims.Test e k = tt
      by (aims.Head k first) e i = λ z l m. one z l m (is_bound_in s.bound z) refl (i z l m)
        where
          absent : (z : ℕ) → first ≤ z → z < first + vars_of_clause p k → Each (λ o. occurs z (under (meaning s) (tm_of o.left)) ≡ false) ps
          absent z l m =
              Each-map (λ (o : Pair). EachVar (Found s) (under (meaning s) (tm_of o.left)) × EachVar (Free (length s.made) s.bound) (under (meaning s) (tm_of o.right))) (λ o. occurs z (under (meaning s) (tm_of o.left)) ≡ false)
              (λ o q. each-absent z (under (meaning s) (tm_of o.left)) (each-weaker (Found s) (λ y. y ≢ z) (λ y w c. true≢false (sym (heads k first e z l m) ∙ ap (is_loose s) (sym c) ∙ w.0.1)) (under (meaning s) (tm_of o.left)) q.0)) ps both

          one : (z : ℕ) → first ≤ z → z < first + vars_of_clause p k → (b : Bool) → is_bound_in s.bound z ≡ b → (is_bound_in s.bound z ≡ true) ⊎ (in_rights ps z ≡ true) → (is_bound_in s.bound z ≡ true) ⊎ (in_rights (from_first (meaning s) ps) z ≡ true)
          one z l m true c d = inl c
          one z l m false c (inl d) = inl d
          one z l m false c (inr d) = inr (first-rights (meaning s) z (unbound-self s.bound z c) ps (absent z l m) d)

  become-by : (x : ℕ) (t : Term) → Found s x → EachVar (Found s) (tm_of t) → Apart (var x) (tm_of t) → IsPlain t → EachState (JoinsAlone s (var x) (tm_of t)) (equated sat s (var x) (tm_of t)).states
  become-by x (Var y) a b n k = variables-join s solved bindings h x y a b n
  become-by x (Num q) a b n k = number-joins s solved bindings h x q a
  become-by x (App f ts) a b n k = absurd k

  pub become-moves : (x : ℕ) (t : Term) (rest : List Pair) (aim : Aim) → Found s x → EachVar (Found s) (tm_of t) → Apart (var x) (tm_of t) → IsPlain t → AimFits p s.bound aim (in_rights rest)
      → AimReads p s.bound s.lines aim (λ v. (v x ≡ under v (tm_of t)) × Each (PairEqual v) rest) → EachState (Moves p s (task.Become x t rest aim)) (same_value sat s x (tm_of t) rest aim).states
  become-moves x t rest aim a b n k g i =
      each_map (JoinsAlone s (var x) (tm_of t)) (Moves p s (task.Become x t rest aim)) (before (task.Differ rest aim ∷ [])) (equated sat s (var x) (tm_of t)).states (become-by x t a b n k)
      (λ r j. joined-differ (task.Become x t rest aim) refl rest aim (λ v. (v x ≡ under v (tm_of t)) × Each (PairEqual v) rest) (var x) (tm_of t) r j g i (λ v e f. (e, f)))

  pub avoid-moves : (x : ℕ) (q : Number) (rest : List Pair) (aim : Aim) → Firm s x → AimFits p s.bound aim (in_rights rest) → AimReads p s.bound s.lines aim (λ v. (v x ≡ num q) × Each (PairEqual v) rest) → EachState (Moves p s (task.Avoid x q rest aim)) (differ_value sat s x q rest aim).states
  avoid-moves x q rest aim a g i = part-moves (task.Avoid x q rest aim) refl (differ (var x) (num q)) (a, tt) tt aim (task.Become x (term_with (num q)) rest aim ∷ []) ((a, tt, g, i), tt)

  pub name-moves : (x f : ℕ) (us : Tms) (rest : List Pair) (aim : Aim) → Found s x → AimFits p s.bound aim (λ z. occurs_among z us || in_rights rest z)
      → AimReads p s.bound s.lines aim (λ v. (v x ≡ app f (all_under v us)) × Each (PairEqual v) rest) → EachState (Moves p s (task.Shape x f us rest aim)) (same_shape sat s x f us rest aim).states
  name-moves x f us rest aim a g k =
      each_map (JoinsAlone s (var x) (app f (new_parts (next_variable s) (length (items us))))) (Moves p s (task.Shape x f us rest aim))
      (before (task.Differ (pairs (new_parts (next_variable s) (length (items us))) us ++ rest) aim ∷ [])) (becomes_shape sat s x f (length (items us))).states
      (shape-joins s solved bindings h x f (length (items us)) a)
      (λ r j.
      joined-differ (task.Shape x f us rest aim) refl (pairs (new_parts (next_variable s) (length (items us))) us ++ rest) aim (λ v. (v x ≡ app f (all_under v us)) × Each (PairEqual v) rest) (var x)
      (app f (new_parts (next_variable s) (length (items us)))) r j (by aim g) k
      (λ v e o. (
        e ∙ ap (app f) (args-equal v (new_parts (next_variable s) (length (items us))) us (parts-many (next_variable s) (length (items us))) (Each-left (PairEqual v) (pairs (new_parts (next_variable s) (length (items us))) us) rest o)),
        Each-right (PairEqual v) (pairs (new_parts (next_variable s) (length (items us))) us) rest o,
      )))
    where
      by : (i : Aim) → AimFits p s.bound i (λ z. occurs_among z us || in_rights rest z) → AimFits p s.bound i (in_rights (pairs (new_parts (next_variable s) (length (items us))) us ++ rest))
      by aims.Test k = tt
      by (aims.Head k first) f2 = λ z l m. one z (f2 z l m)
        where
          there : (z : ℕ) → (occurs_among z us ≡ true) ⊎ (in_rights rest z ≡ true) → in_rights (pairs (new_parts (next_variable s) (length (items us))) us ++ rest) z ≡ true
          there z (inl e) =
              rights-append (pairs (new_parts (next_variable s) (length (items us))) us) rest z
              ∙ or_left (in_rights (pairs (new_parts (next_variable s) (length (items us))) us) z) (in_rights rest z) (pairs-right (new_parts (next_variable s) (length (items us))) us z (parts-many (next_variable s) (length (items us))) e)
          there z (inr e) =
              rights-append (pairs (new_parts (next_variable s) (length (items us))) us) rest z
              ∙ or_right (in_rights (pairs (new_parts (next_variable s) (length (items us))) us) z) (in_rights rest z) e

          one : (z : ℕ) → (is_bound_in s.bound z ≡ true) ⊎ ((occurs_among z us || in_rights rest z) ≡ true) → (is_bound_in s.bound z ≡ true) ⊎ (in_rights (pairs (new_parts (next_variable s) (length (items us))) us ++ rest) z ≡ true)
          one z (inl e) = inl e
          one z (inr e) = inr (there z (or_cases (occurs_among z us) (in_rights rest z) e))

  pub assume-moves : (c : Con) → ConAll (Firm s) c → NoRow c → EachState (Moves p s (task.Assume c)) (assume sat s c).states
  assume-moves c a n =
      assume-plain s solved bindings h c n a (Moves p s (task.Assume c))
      (λ gs kept e. settles p s (task.Assume c) gs (s.given ++ gs) refl kept s.literals (λ k. k) [] s.lines (sym (append-nil s.lines)) [] s.work refl tt (λ v m. refl) tt)

  -- ---- tests

  module _ (c : Con) where
    -- where the test is entailed
    shown-moves : (gs : List Con) → KeptAt s.made s.bound (s.given ++ gs) s.covers → ((v : Valuation) → Meets v.of (map equation s.bound ++ (s.given ++ gs)) → (holds v.of c ≡ true) × RowReads v.of c)
        → Moves p s (task.Show (flat.Test c)) (record (with_line s (line.Test c)) { given = s.given ++ gs })
    shown-moves gs kept f =
        settles p s (task.Show (flat.Test c)) gs (s.given ++ gs) refl kept s.literals (λ k. k) (line.Test c ∷ []) (s.lines ++ line.Test c ∷ []) refl [] s.work refl tt (λ v m. refl)
        ((λ v m. f v (split-all (holds v.of) (map equation s.bound ++ (s.given ++ gs)) [] m).0), tt)

  plain-shown : (c : Con) → NoRow c → ((v : Valuation) → RowReads v.of c) → ConAll (Firm s) c → EachState (Moves p s (task.Show (flat.Test c))) (assume sat (with_line s (line.Test c)) c).states
  plain-shown c n r a =
      assume-plain (with_line s (line.Test c)) solved bindings h c n a (Moves p s (task.Show (flat.Test c))) (λ gs kept e. shown-moves c gs kept (λ v m. (e.0 v m, r v)))

  pub test-moves : (c : Con) → TestOf (Firm s) c → EachState (Moves p s (task.Show (flat.Test c))) (test_item sat (with_line s (line.Test c)) c).states
  test-moves (con.Eq t u) a = (
    settles p s (task.Show (flat.Test (con.Eq t u))) [] s.given (sym (append-nil s.given)) h s.literals (λ k. k) (line.Test (con.Eq t u) ∷ []) (s.lines ++ line.Test (con.Eq t u) ∷ []) refl
        (task.Equate t u ∷ []) (task.Equate t u ∷ s.work) refl (tt, tt) (λ v m. refl)
        ((λ v m. ((and_parts (same_tm (under v.of (tm_of t)) (under v.of (tm_of u))) true (split-all (holds v.of) (holds_of s) (con.Eq t u ∷ []) m).1).0, tt)), tt),
    tt,
  )
  test-moves (con.Neq t u) a = by (is_empty (universals_of s (con.Neq t u))) (quiet s h.even (con.Neq t u))
    where
      by : (b : Bool) → b ≡ true
          → EachState (Moves p s (task.Show (flat.Test (con.Neq t u)))) (if b then assume sat (with_line s (line.Test (con.Neq t u))) (con.Neq t u) else goes (before (task.Differ (record { left = t; right = u } ∷ []) aims.Test ∷ []) (with_line s (line.Test (con.Neq t u))))).states
      by true e = plain-shown (con.Neq t u) tt (λ v. tt) a.0
      by false e = absurd (true≢false (sym e))
  test-moves (con.NotShape x f n) a = plain-shown (con.NotShape x f n) tt (λ v. tt) a.0
  test-moves (con.Num t) a = plain-shown (con.Num t) tt (λ v. tt) a.0
  test-moves (con.NotNum t) a = plain-shown (con.NotNum t) tt (λ v. tt) a.0
  test-moves (con.Row r) a = by (is_empty (universals_of s (con.Row r))) (quiet s h.even (con.Row r))
    where
      numbers : (cs : List Con) (ks : List Coeff) → Each (Entails cs) (map (λ k. con.Num (Var k.x)) ks ++ con.Row r ∷ []) → (v : Valuation) → Meets v.of cs → Each (λ k. is_number (v.of k.x) ≡ true) ks × (holds v.of (con.Row r) ≡ true)
      numbers cs [] e v m = (tt, e.0 v m)
      numbers cs (k ∷ ks) e v m = let q = numbers cs ks e.1 v m in ((e.0 v m, q.0), q.1)

      by : (b : Bool) → b ≡ true
          → EachState (Moves p s (task.Show (flat.Test (con.Row r)))) (if b then assume_all sat (number_tests r ++ con.Row r ∷ []) (with_line s (line.Test (con.Row r))) else assume sat (with_line s (line.Test (con.Row r))) (con.Row r)).states
      by true e =
          assume-row r a.1.0 (with_line s (line.Test (con.Row r))) solved bindings h a.0 (Moves p s (task.Show (flat.Test (con.Row r))))
          (λ gs kept f. shown-moves (con.Row r) gs kept (λ v m. let q = numbers (map equation s.bound ++ (s.given ++ gs)) r.coeffs f v m in (q.1, (a.1.0, q.0))))
      by false e = absurd (true≢false (sym e))
