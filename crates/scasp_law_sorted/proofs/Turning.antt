-- What is equated or is to be apart asks sorted lists, and keeps rows whose variables are tested.
use Rattle.std.specs.Prelude.{◌≡◌, ◌≢◌, ◌⊎◌, ℕ, ◌<◌, ◌≤◌, max, min, nat_eq, nat_le, Bool, true, false, ◌&&◌, not, if◌then◌else◌, Option, List, [], ◌∷◌, ◌++◌, length, replicate}
use Rattle.std.specs.List.{Contains, flat_map}
use Rattle.std.proofs.Common.{refl, arith, ap, sym, subst, ◌∙◌, inl, inr}
use Rattle.std.proofs.lemmas.Bool.{true≢false, and_parts, cases_Bool, cases_lt, or_left, eq-eqb, not-true}
use Rattle.std.proofs.lemmas.List.Elements.{Contains-append_left}
use Rattle.std.proofs.lemmas.Option.{slice_get_past}
use Rattle.scasp_list.specs.Each.{Each}
use Rattle.scasp_list.proofs.MemberLemmas.{list_any-none_member}
use Rattle.scasp_num.specs.Number.{Number}
use Rattle.scasp_search_rules.specs.declared.states.covers.Cover.{Cover}
use Rattle.scasp_search_rules.specs.declared.states.outcomes.Parting.{Parting}
use Rattle.scasp_search_rules.specs.declared.states.state.Kind.TheVariants.{Existential, Universal}
use Rattle.scasp_search_rules.specs.declared.states.state.Made.{Made}
use Rattle.scasp_search_rules.specs.declared.states.state.State.{State}
use Rattle.scasp_search_rules.specs.declared.states.tasks.Task.{Task}
use Rattle.scasp_search_rules.specs.Successors.Assumptions.{assume}
use Rattle.scasp_search_rules.specs.Successors.Equations.{becomes_number, becomes_shape, bound_if, is_inside, mixed, replaced_if, two_existentials, two_variables, variable_number}
use Rattle.scasp_search_rules.specs.Successors.Falls.{EachState}
use Rattle.scasp_search_rules.specs.Successors.Reading.{among, con_vars}
use Rattle.scasp_search_rules.specs.Successors.Regions.{all_constraints, asked_with, before, context, is_constrained}
use Rattle.scasp_search_rules.specs.Successors.Splits.{is_bound_in, parted, parted_at, split_at}
use Rattle.scasp_search_rules.specs.Successors.Steps.{goes}
use Rattle.scasp_search_rules.specs.Successors.Variables.{bind, binding, depth_of, is_kind_universal, is_universal, made_or, meaning, next_variable, with_new}
use Rattle.scasp_syntax.specs.Tm.{Tm, Tms, var, num, app}
use Rattle.scasp_syntax.specs.View.{tm_of}
use Rattle.scasp_syntax.specs.declared.con.Con.{Con}
use Rattle.scasp_syntax.specs.declared.con.Con.TheVariants as con
use Rattle.scasp_syntax.specs.declared.program.Program.{Program}
use Rattle.scasp_syntax.specs.declared.term.Term.{Term}
use Rattle.scasp_syntax.specs.declared.term.Term.TheVariants.{Var, Num, App}
use Rattle.scasp_unify.specs.Negations.{new_parts}
use Rattle.scasp_unify.specs.SimpleForm.{term_with}
use Rattle.scasp_unify.specs.Solving.{sub_of}
use Rattle.scasp_unify.specs.Unification.{term_vars, terms_vars}
use Rattle.scasp_unify.specs.declared.bindings.Binding.{Binding}
use Rattle.scasp_hint.specs.Satisfying.{sat}
use Rattle.scasp_law_first_event.proofs.Bindings.{Solved, unbound-self, above-unbound}
use Rattle.scasp_law_first_event.proofs.EachStates.{each_only_if}
use Rattle.scasp_law_no_circle.proofs.Assuming as assuming
use Rattle.scasp_law_no_circle.proofs.Growing.{still-unbound}
use Rattle.scasp_law_no_circle.proofs.Meeting.{bound-there, met-good}
use Rattle.scasp_law_no_circle.proofs.Places.{entry, entry-left, all-vars-occur, owns, Placed}
use Rattle.scasp_law_no_circle.proofs.Scope.{Good, Sound, good-made}
use Rattle.scasp_law_no_circle.proofs.Sides.{parts-span}
use Rattle.scasp_law_no_circle.proofs.Splitting.{parts-placed}
use Rattle.scasp_law_no_circle.proofs.Tasks.{Frees, NoRow}
use Rattle.scasp_law_sorted.proofs.Evenness.{Asks, asks-goes, asks-followed, asks-weaker}
use Rattle.scasp_law_sorted.proofs.Expecting.{Works, works-before, Quiet, Grows, grows-more, grows-parted}
use Rattle.scasp_law_sorted.proofs.Judging.{CoreAt, Goes, goes-then, read-sort, assume-goes, parted-core, plain-rows, lone-new, lone-lowered}
use Rattle.scasp_law_sorted.proofs.Lists.{sorted-one}
use Rattle.scasp_law_sorted.proofs.Reading.{reads-solved}
use Rattle.scasp_law_sorted.proofs.Standing.{Core, Lone, core-made, core-push, given-list, context-list}
use Rattle.scasp_law_sorted.proofs.Tested.{Tested, tested-reads, plain-in}
use Rattle.scasp_unify.proofs.SimpleLemmas.{viewed}

-- what stands grows, and of the new work no row needs more than the old work says
pub record Turns (s r : State) : Type 0 where
  pub core : CoreAt r
  pub grows : Grows s.bound s.given s.covers r.bound r.given r.covers
  pub front : Works r.bound r.given r.covers [] s.work → Works r.bound r.given r.covers [] r.work

pub goes-turns : (s r : State) → Goes s r → Turns s r
goes-turns s r g = record { core = g.core; grows = g.grows; front = λ w. subst (Works r.bound r.given r.covers []) (sym g.work) w }

-- with these tasks first
pub goes-front : (s r : State) (ts : List Task) → Each Quiet ts → Goes s r → Turns s (before ts r)
goes-front s r ts q g = record {
  core = g.core;
  grows = g.grows;
  front = λ w. works-before r.bound r.given r.covers [] ts r.work q (subst (Works r.bound r.given r.covers []) (sym g.work) w);
}

pub front-front : (s r : State) (ts : List Task) → Each Quiet ts → Turns s r → Turns s (before ts r)
front-front s r ts q t = record { core = t.core; grows = t.grows; front = λ w. works-before r.bound r.given r.covers [] ts r.work q (t.front w) }

-- ---- variables that are bound

module _ (s : State) (placed : Placed s.covers) (k : CoreAt s) where
  pub bind-goes : (x : ℕ) (t : Tm) → is_bound_in s.bound x ≡ false → ((y : ℕ) → term_with t ≡ Var y → Tested s.bound s.given x → (is_bound_in (s.bound ++ binding x t ∷ []) y ≡ false) × Lone s.made y) → Goes s (bind s x t)
  bind-goes x t free new = record {
    core = core-made s.made s.covers (s.bound ++ binding x t ∷ []) s.given (core-push s.made s.covers s.bound s.given k (binding x t) free new) (bind s x t).made (λ w l. lone-lowered (depth_of s x) (term_vars t) s.made w l);
    grows = grows-more s.bound (s.bound ++ binding x t ∷ []) s.given s.given s.covers (λ b i. Contains-append_left s.bound (binding x t ∷ []) b i) (λ c i. i);
    work = refl;
    placed = placed;
  }

  pub bound-asks : (r : State) → Goes s r → Asks (Goes s) (bound_if sat r)
  bound-asks r g = record { asked = (given-list r.made r.covers r.bound r.given g.core, tt); states = each_only_if (Goes s) (sat (asked_with r r.given)) r g }

  -- a universal variable is replaced
  module _ (u : ℕ) (free : is_bound_in s.bound u ≡ false) (e : is_universal s u ≡ true) where
    no-test : Tested s.bound s.given u → ⊥
    no-test t = true≢false (sym e ∙ ap is_kind_universal (k.lone u t).1)

    replaced-parted : (d : ℕ) (q : Parting) (t : Term) → ((z : ℕ) → q.here ≡ con.Num (Var z) → ⊥) → ((z : ℕ) → q.there ≡ con.Num (Var z) → ⊥) → NoRow q.here → NoRow q.there → ((b : Binding) → Contains s.bound b → among b.x q.parts_here ≡ false)
        → Goes s (parted_at s d q (con.Eq (Var u) t))
    replaced-parted d q t here there m n fresh = record {
      core = core-push made cs s.bound s.given (parted-core s placed k d q c fresh (λ z f. absurd (here z f)) (λ z f. absurd (there z f)) (plain-rows s placed k d q (λ l. (plain-in s.bound l q.here m, plain-in s.bound l q.there n)))) b free
          (λ y f h. absurd (no-test h));
      grows = grows-parted d q s.bound s.bound (s.bound ++ b ∷ []) s.given s.covers (λ o i. Contains-append_left s.bound (b ∷ []) o i) fresh;
      work = refl;
      placed = parts-placed q s.bound d s.covers placed;
    }
      where
        c : Con
        c = con.Eq (Var u) t

        b : Binding
        b = record { x = u; term = t }

        made : List Made
        made = (parted_at s d q (con.Eq (Var u) t)).made

        cs : List Cover
        cs = (parted_at s d q (con.Eq (Var u) t)).covers

    replaced-goes : (d : ℕ) (t : Term) → ((f : ℕ) (ts : Tms) → tm_of t ≡ app f ts → (b : Binding) → Contains s.bound b → among b.x (terms_vars ts) ≡ false) → Goes s (split_at s d (con.Eq (Var u) t))
    replaced-goes d (Var y) fresh =
        replaced-parted d (parted (next_variable s) (con.Eq (Var u) (Var y))) (Var y) (λ z f. absurd (cc f)) (λ z f. absurd (cc f)) tt tt (λ b i. refl)
    replaced-goes d (Num q) fresh =
        replaced-parted d (parted (next_variable s) (con.Eq (Var u) (Num q))) (Num q) (λ z f. absurd (cc f)) (λ z f. absurd (cc f)) tt tt (λ b i. refl)
    replaced-goes d (App f ts) fresh =
        replaced-parted d (parted (next_variable s) (con.Eq (Var u) (App f ts))) (App f ts) (λ z f. absurd (cc f)) (λ z f. absurd (cc f)) tt tt (λ b i. fresh f ts refl b i)

    pub replaced-asks : (t : Tm) → ((f : ℕ) (ts : Tms) → t ≡ app f ts → (b : Binding) → Contains s.bound b → among b.x (terms_vars ts) ≡ false) → Asks (Goes s) (replaced_if sat s u t)
    replaced-asks t fresh = record {
      asked = (sorted-one s.bound (context s) (con.Eq (Var u) (term_with t)) tt (context-list s.made s.covers s.bound s.given k), tt);
      states = each_only_if (Goes s) (sat (asked_with s (context s ++ con.Eq (Var u) (term_with t) ∷ []))) (split_at s (depth_of s u) (con.Eq (Var u) (term_with t)))
          (replaced-goes (depth_of s u) (term_with t) (λ f ts g. fresh f ts (sym (viewed t) ∙ g)));
    }

  -- ---- two variables

  pub variables-asks : (x y : ℕ) → Solved (length s.made) s.bound → is_bound_in s.bound x ≡ false → is_bound_in s.bound y ≡ false → x ≢ y → (is_universal s x ≡ false → Lone s.made x) → (is_universal s y ≡ false → Lone s.made y)
      → Asks (Goes s) (two_variables sat s x y (is_universal s x) (is_universal s y))
  variables-asks x y solved a b d m n = by (is_universal s x) (is_universal s y) refl refl
    where
      none : (t : Tm) (z : ℕ) → t ≡ var z → (f : ℕ) (ts : Tms) → t ≡ app f ts → (c : Binding) → Contains s.bound c → among c.x (terms_vars ts) ≡ false
      none t z e f ts g c i = absurd (cc (sym e ∙ g))

      put : (v w : ℕ) → is_bound_in s.bound v ≡ false → is_bound_in s.bound w ≡ false → w ≢ v → Lone s.made w → Asks (Goes s) (bound_if sat (bind s v (var w)))
      put v w f g o l = bound-asks (bind s v (var w)) (bind-goes v (var w) f (λ z e h. let same : w ≡ z = cc e in subst (λ (u : ℕ). (is_bound_in (s.bound ++ binding v (var w) ∷ []) u ≡ false) × Lone s.made u) same (still-unbound s.bound (binding v (var w)) w o g, l)))

      both : is_universal s x ≡ false → is_universal s y ≡ false → (x < y) ⊎ (y ≤ x) → Asks (Goes s) (two_existentials sat s x y)
      both e f (inl l) =
          let more : max x y ≡ y = omega (arith, l) in
          let less : min x y ≡ x = omega (arith, l) in
          subst (λ (z : ℕ). Asks (Goes s) (bound_if sat (bind s z (var (min x y))))) (sym more) (subst (λ (z : ℕ). Asks (Goes s) (bound_if sat (bind s y (var z)))) (sym less) (put y x b a d (m e)))
      both e f (inr l) =
          let more : max x y ≡ x = omega (arith, l) in
          let less : min x y ≡ y = omega (arith, l) in
          subst (λ (z : ℕ). Asks (Goes s) (bound_if sat (bind s z (var (min x y))))) (sym more) (subst (λ (z : ℕ). Asks (Goes s) (bound_if sat (bind s x (var z)))) (sym less) (put x y a b (λ g. d (sym g)) (n f)))

      -- no given test reads to a variable that stands in no constraint
      loose : (v : ℕ) → is_bound_in s.bound v ≡ false → is_constrained s v ≡ false → Tested s.bound s.given v → ⊥
      loose v f g t =
          let q = tested-reads s.bound s.given (reads-solved (length s.made) s.bound solved k.once) v t in
          let out : among v (term_vars (sub_of s.bound q.0)) ≡ false =
          list_any-none_member (λ c. among v (con_vars (meaning s) c)) (all_constraints s) (con.Num (Var q.0)) g (Contains-append_left s.given (flat_map (λ c. c.region ++ flat_map (λ r. r.region) c.waiting) s.covers) (con.Num (Var q.0)) q.1) in
          true≢false (sym (or_left (nat_eq v v) false (eq-eqb v v refl)) ∙ sym (ap (λ (t : Tm). among v (term_vars t)) (q.2 ∙ unbound-self s.bound v f)) ∙ out)

      one : (v u : ℕ) → is_bound_in s.bound v ≡ false → is_bound_in s.bound u ≡ false → is_universal s u ≡ true → Asks (Goes s) (mixed sat s v u)
      one v u f g e = at (nat_le (depth_of s u) (depth_of s v) && not (is_constrained s v)) refl
        where
          at : (c : Bool) → (nat_le (depth_of s u) (depth_of s v) && not (is_constrained s v)) ≡ c → Asks (Goes s) (if c then goes (bind s v (var u)) else replaced_if sat s u (var v))
          at true h =
              asks-goes (Goes s) (bind s v (var u))
              (bind-goes v (var u) f (λ z i t. absurd (loose v f (not-true (is_constrained s v) (and_parts (nat_le (depth_of s u) (depth_of s v)) (not (is_constrained s v)) h).1) t)))
          at false h = replaced-asks u g e (var v) (none (var v) v refl)

      inside : is_universal s x ≡ true → is_universal s y ≡ true → (c : Bool) → Asks (Goes s) (if c then replaced_if sat s x (var y) else replaced_if sat s y (var x))
      inside e f true = replaced-asks x a e (var y) (none (var y) y refl)
      inside e f false = replaced-asks y b f (var x) (none (var x) x refl)

      by : (i j : Bool) → is_universal s x ≡ i → is_universal s y ≡ j → Asks (Goes s) (two_variables sat s x y i j)
      by false false e f = both e f (cases_lt x y)
      by false true e f = one x y a b f
      by true false e f = one y x b a e
      by true true e f = inside e f (is_inside s x y)

-- ---- a number

module _ (p : Program) (s : State) (h : Sound p s.made s.covers s.bound) (solved : Solved (length s.made) s.bound) (k : CoreAt s) where
  abbrev FreeAt : ℕ → Type 0
  FreeAt x = Frees s.made s.covers s.bound (length s.covers) x

  both-states : (P Q : State → Type 0) (ss : List State) → EachState P ss → EachState Q ss → EachState (λ r. P r × Q r) ss
  both-states P Q [] a b = tt
  both-states P Q (r ∷ rs) a b = ((a.0, b.0), both-states P Q rs a.1 b.1)

  pub lone-free : (x : ℕ) → Frees s.made s.covers s.bound (length s.covers) x → is_universal s x ≡ false → Lone s.made x
  lone-free x f e = by (assuming.kind-of s (length s.covers) x good f.1)
    where
      good : Good s.made s.covers s.bound (length s.covers) x
      good = met-good (Good s.made s.covers s.bound (length s.covers)) s.bound x f.0

      by : ((entry s.made x).kind ≡ Existential) ⊎ (((entry s.made x).kind ≡ Universal) × (owns s.covers (entry s.made x).depth x ≡ true)) → Lone s.made x
      by (inl q) = (good-made s.made s.covers s.bound (length s.covers) x good, q)
      by (inr q) = absurd (true≢false (sym (ap is_kind_universal q.0) ∙ e))

  pub number-asks : (x : ℕ) (v : Number) → Frees s.made s.covers s.bound (length s.covers) x → Asks (Goes s) (variable_number sat s x v)
  number-asks x v f =
      asks-followed (λ r. Goes s r × assuming.Assumes p s r) (Goes s) (assume sat s (con.Num (Var x))) (becomes_number sat x v) (record { asked = a.asked; states = both-states (Goes s) (assuming.Assumes p s) (assume sat s (con.Num (Var x))).states a.states b })
      (λ r q. asks-weaker (Goes r) (Goes s) (becomes_number sat x v r) (λ t g. goes-then s r t q.0 g) (after r q.0 q.1))
    where
      a : Asks (Goes s) (assume sat s (con.Num (Var x)))
      a = assume-goes s h.placed k (con.Num (Var x)) tt (λ z e. read-sort s solved (length s.covers) x z f.0 e)

      b : EachState (assuming.Assumes p s) (assume sat s (con.Num (Var x))).states
      b = assuming.assume-assumes p sat s h solved (length s.covers) (con.Num (Var x)) tt

      after : (r : State) → Goes s r → assuming.Assumes p s r → Asks (Goes r) (becomes_number sat x v r)
      after r g m = by (is_universal r x) refl
        where
          free : is_bound_in r.bound x ≡ false
          free = ap (λ (bs : List Binding). is_bound_in bs x) m.bound ∙ f.1

          by : (c : Bool) → is_universal r x ≡ c → Asks (Goes r) (if c then replaced_if sat r x (num v) else bound_if sat (bind r x (num v)))
          by true e = replaced-asks r m.scopes.sound.placed g.core x free e (num v) (λ n ts i. absurd (cc i))
          by false e = bound-asks r m.scopes.sound.placed g.core (bind r x (num v)) (bind-goes r m.scopes.sound.placed g.core x (num v) free (λ y i t. absurd (cc i)))

  -- ---- a name with new arguments

  pub shape-asks : (x f n : ℕ) → is_bound_in s.bound x ≡ false → Asks (Goes s) (becomes_shape sat s x f n)
  shape-asks x f n free = by (is_universal s x) refl
    where
      t : Tm
      t = app f (new_parts (next_variable s) n)

      more : (d : ℕ) → Core (with_new s Universal d n).made s.covers s.bound s.given
      more d = core-made s.made s.covers s.bound s.given k (with_new s Universal d n).made (λ w l. lone-new s.made (replicate n (record { kind = Universal; depth = d })) w l)

      wide : (d : ℕ) → Core (with_new s Existential d n).made s.covers s.bound s.given
      wide d = core-made s.made s.covers s.bound s.given k (with_new s Existential d n).made (λ w l. lone-new s.made (replicate n (record { kind = Existential; depth = d })) w l)

      same : Grows s.bound s.given s.covers s.bound s.given s.covers
      same = grows-more s.bound s.bound s.given s.given s.covers (λ b i. i) (λ c i. i)

      fresh : (b : Binding) → Contains s.bound b → among b.x (terms_vars (new_parts (next_variable s) n)) ≡ false
      fresh b i = at (cases_Bool (among b.x (terms_vars (new_parts (next_variable s) n))))
        where
          at : (among b.x (terms_vars (new_parts (next_variable s) n)) ≡ true) ⊎ (among b.x (terms_vars (new_parts (next_variable s) n)) ≡ false) → among b.x (terms_vars (new_parts (next_variable s) n)) ≡ false
          at (inr e) = e
          at (inl e) =
              let o = parts-span (next_variable s) n b.x (sym (all-vars-occur b.x (new_parts (next_variable s) n)) ∙ e) in
              absurd (true≢false (sym (bound-there s.bound b b.x i refl) ∙ above-unbound (length s.made) s.bound solved b.x o.0))

      by : (c : Bool) → is_universal s x ≡ c → Asks (Goes s) (if c then replaced_if sat (with_new s Universal (depth_of s x) n) x (app f (new_parts (next_variable s) n)) else bound_if sat (bind (with_new s Existential (depth_of s x) n) x (app f (new_parts (next_variable s) n))))
      by true e =
          let r : State = with_new s Universal (depth_of s x) n in
          asks-weaker (Goes r) (Goes s) (replaced_if sat r x t) (λ u g. goes-then s r u (record { core = more (depth_of s x); grows = same; work = refl; placed = h.placed }) g)
          (replaced-asks r h.placed (more (depth_of s x)) x free (still-universal e) t (λ g ts i b j. subst (λ (vs : Tms). among b.x (terms_vars vs) ≡ false) (let o : new_parts (next_variable s) n ≡ ts = cc i in o) (fresh b j)))
        where
          still-universal : is_universal s x ≡ true → is_universal (with_new s Universal (depth_of s x) n) x ≡ true
          still-universal e = place (cases_lt x (length s.made))
            where
              place : (x < length s.made) ⊎ (length s.made ≤ x) → is_universal (with_new s Universal (depth_of s x) n) x ≡ true
              place (inl l) = ap (λ (m : Made). is_kind_universal m.kind) (entry-left s.made (replicate n (record { kind = Universal; depth = depth_of s x })) x l) ∙ e
              place (inr l) = absurd (true≢false (sym e ∙ ap (λ (o : Option Made). is_kind_universal (made_or o).kind) (slice_get_past s.made x l)))
      by false e =
          let r : State = with_new s Existential (depth_of s x) n in
          asks-weaker (Goes r) (Goes s) (bound_if sat (bind r x t)) (λ u g. goes-then s r u (record { core = wide (depth_of s x); grows = same; work = refl; placed = h.placed }) g)
          (bound-asks r h.placed (wide (depth_of s x)) (bind r x t) (bind-goes r h.placed (wide (depth_of s x)) x t free (λ y i o. absurd (cc i))))
