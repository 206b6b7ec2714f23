-- What is equated keeps what is owned.
use Rattle.std.specs.Prelude.{◌≡◌, ◌≢◌, ◌⊎◌, ℕ, ◌+◌, ◌<◌, ◌≤◌, nat_eq, nat_le, nat_lt, max, min, Bool, true, false, ◌&&◌, not, if◌then◌else◌, List, [], ◌∷◌, ◌++◌, length, replicate}
use Rattle.std.specs.List.{Contains}
use Rattle.std.proofs.Common.{refl, arith, ap, sym, subst, ◌∙◌, inl, inr}
use Rattle.std.proofs.lemmas.Bool.{cases_lt, and_parts, or_parts, or_cases, eqb-true, ltb-true, ltb-false, leb-true, true≢false}
use Rattle.std.proofs.lemmas.List.{append_assoc}
use Rattle.std.proofs.lemmas.List.Elements.{Contains-append_right}
use Rattle.scasp_list.specs.Each.{Each}
use Rattle.scasp_list.proofs.EachLemmas.{Each-append, Each-map}
use Rattle.scasp_list.proofs.MemberLemmas.{Contains-here}
use Rattle.scasp_num.specs.Number.{Number}
use Rattle.scasp_search_rules.specs.declared.states.state.Kind.TheVariants.{Existential, Universal}
use Rattle.scasp_search_rules.specs.declared.states.state.Made.{Made}
use Rattle.scasp_search_rules.specs.declared.states.state.State.{State}
use Rattle.scasp_search_rules.specs.declared.states.tasks.Pair.{Pair}
use Rattle.scasp_search_rules.specs.declared.states.tasks.Task.{Task}
use Rattle.scasp_search_rules.specs.Successors.Assumptions.{assume}
use Rattle.scasp_search_rules.specs.Successors.Equations.{replaced_if, bound_if, two_existentials, mixed, two_universals, two_variables, is_inside, becomes_number, variable_number, becomes_shape, variable_app, equated, equate_pairs, equate_terms, equations, equations_of}
use Rattle.scasp_search_rules.specs.Successors.Falls.{EachState}
use Rattle.scasp_search_rules.specs.Successors.Pairs.{pairs, pairs_of}
use Rattle.scasp_search_rules.specs.Successors.Regions.{before, context, asked_with, is_constrained}
use Rattle.scasp_search_rules.specs.Successors.Replacing.{is_close}
use Rattle.scasp_search_rules.specs.Successors.Splits.{is_bound_in, split_at}
use Rattle.scasp_search_rules.specs.Successors.Steps.{fails, goes, each}
use Rattle.scasp_search_rules.specs.Successors.Variables.{bind, binding, depth_of, is_universal, is_kind_universal, meaning, next_variable, with_new}
use Rattle.scasp_syntax.specs.Tm.{Tm, Tms, var, num, app, nil, cons, items}
use Rattle.scasp_syntax.specs.Values.{under}
use Rattle.scasp_syntax.specs.View.{tm_of}
use Rattle.scasp_syntax.specs.declared.con.Con.{Con}
use Rattle.scasp_syntax.specs.declared.con.Con.TheVariants as con
use Rattle.scasp_syntax.specs.declared.program.Program.{Program}
use Rattle.scasp_syntax.specs.declared.term.Term.{Term}
use Rattle.scasp_syntax.specs.declared.term.Term.TheVariants.{Var, App}
use Rattle.scasp_unify.specs.Negations.{new_parts}
use Rattle.scasp_unify.specs.Parts.{occurs_among}
use Rattle.scasp_unify.specs.SimpleForm.{term_with}
use Rattle.scasp_unify.specs.declared.bindings.Binding.{Binding}
use Rattle.scasp_unify.proofs.SimpleLemmas.{viewed}
use Rattle.scasp_law_first_event.proofs.Apart.{Apart, Both, pairs-both}
use Rattle.scasp_law_first_event.proofs.Bindings.{Solved, above-unbound}
use Rattle.scasp_law_first_event.proofs.EachStates.{each_only_if, each_followed, each_map, each_weaker}
use Rattle.scasp_law_first_event.proofs.Keeping.{solved-more}
use Rattle.scasp_law_first_event.proofs.Moves.{new-length}
use Rattle.scasp_law_first_event.proofs.Terms.{EachVar, EachVars, each-under, each-weaker, all-weaker}
use Rattle.scasp_law_no_circle.proofs.Assuming.{Assumes, assume-assumes, kind-of, made-of, open-of}
use Rattle.scasp_law_no_circle.proofs.Growing.{more-scopes}
use Rattle.scasp_law_no_circle.proofs.Meeting.{met-free, met-good, met-next, met-reads, occurs-each, occurs-all, each-occurs}
use Rattle.scasp_law_no_circle.proofs.Places.{entry, entry-left, entry-new, owns, universal_of}
use Rattle.scasp_law_no_circle.proofs.Scope.{Good, Scoped, Owned, Sound, Scopes, scopes-then, scopes-itself}
use Rattle.scasp_law_no_circle.proofs.Sides.{IsOpen, IsOther, parts-span, by-number, by-variable, by-shape, bind-scopes, term-unbound}
use Rattle.scasp_law_no_circle.proofs.Tasks.{Plain, Frees, Level, First, Front, plain, level-before, scoped-kept, work-kept, Owning}

-- what is owned is kept, and what is left to do stays
pub record Moves (p : Program) (s r : State) : Type 0 where
  pub scopes : Scopes p s.made r.made s.covers r.covers s.bound r.bound
  pub work : r.work ≡ s.work

-- and x is bound to the term
pub record Puts (p : Program) (s : State) (x : ℕ) (t : Tm) (r : State) : Type 0 where
  pub moves : Moves p s r
  pub bound : r.bound ≡ s.bound ++ binding x t ∷ []

-- what is owned is kept, and what is to be done is in scope
pub record Turns (p : Program) (s r : State) : Type 0 where
  pub scopes : Scopes p s.made r.made s.covers r.covers s.bound r.bound
  pub tasks : List Task
  pub work : r.work ≡ tasks ++ s.work
  pub level : Level (Scoped r.made r.covers r.bound (length r.covers)) tasks

-- the arguments of two lists, as equations
pub equations-level : (G : ℕ → Type 0) (ts us : Tms) → EachVars G ts → EachVars G us → Level G (equations_of (pairs ts us))
equations-level G nil us h k = tt
equations-level G (cons t ts) nil h k = tt
equations-level G (cons t ts) (cons u us) h k = (((subst (EachVar G) (sym (viewed t)) h.0, subst (EachVar G) (sym (viewed u)) k.0), refl), equations-level G ts us h.1 k.1)

pairs-level : (G : ℕ → Type 0) (ps : List Pair) → Each (λ o. EachVar G (tm_of o.left) × EachVar G (tm_of o.right)) ps → Level G (equations_of ps)
pairs-level G [] h = tt
pairs-level G (o ∷ ps) h = (((h.0.0, h.0.1), refl), pairs-level G ps h.1)

-- what is read is in scope and free
pub read-frees : (s : State) → Solved (length s.made) s.bound → (n : ℕ) (t : Tm) → EachVar (Scoped s.made s.covers s.bound n) t → EachVar (Frees s.made s.covers s.bound n) (under (meaning s) t)
read-frees s solved n t h =
    occurs-each (Frees s.made s.covers s.bound n) (under (meaning s) t)
    (λ w o. let free = term-unbound (length s.made) s.bound solved t w o in
    (met-free (Good s.made s.covers s.bound n) s.bound w (each-occurs (Good s.made s.covers s.bound n) (under (meaning s) t) good w o) free, free))
  where
    good : EachVar (Good s.made s.covers s.bound n) (under (meaning s) t)
    good = each-under (Scoped s.made s.covers s.bound n) (Good s.made s.covers s.bound n) (meaning s) (λ x m. met-reads (Good s.made s.covers s.bound n) s.bound x m) t h

module _ (p : Program) (sat : List Con → Bool) (s : State) (h : Sound p s.made s.covers s.bound) (solved : Solved (length s.made) s.bound) where
  abbrev FreeAt : ℕ → ℕ → Type 0
  FreeAt n z = Frees s.made s.covers s.bound n z

  good-free : (n z : ℕ) → Frees s.made s.covers s.bound n z → Good s.made s.covers s.bound n z
  good-free n z f = met-good (Good s.made s.covers s.bound n) s.bound z f.0

  made-free : (n z : ℕ) → Frees s.made s.covers s.bound n z → z < length s.made
  made-free n z f = made-of s n z (good-free n z f)

  existential-free : (n z : ℕ) → Frees s.made s.covers s.bound n z → is_universal s z ≡ false → (entry s.made z).kind ≡ Existential
  existential-free n z f e = by (kind-of s n z (good-free n z f) f.1)
    where
      by : ((entry s.made z).kind ≡ Existential) ⊎ (((entry s.made z).kind ≡ Universal) × (owns s.covers (entry s.made z).depth z ≡ true)) → (entry s.made z).kind ≡ Existential
      by (inl k) = k
      by (inr k) = absurd (true≢false (sym (ap is_kind_universal k.0) ∙ e))

  open-free : (n z : ℕ) → Frees s.made s.covers s.bound n z → is_universal s z ≡ true → IsOpen p s h solved z
  open-free n z f e = open-of p s h solved n z (good-free n z f) f.1 e

  universal-other : (n x y : ℕ) → Frees s.made s.covers s.bound n y → is_universal s y ≡ true → y ≢ x → (entry s.made y).depth ≤ (entry s.made x).depth → IsOther p s h solved x y
  universal-other n x y f e d l = let o = open-free n y f e in (o.0, o.3, d, inr (o.1, l, o.2))

  existential-other : (n x y : ℕ) → Frees s.made s.covers s.bound n y → is_universal s y ≡ false → y ≢ x → IsOther p s h solved x y
  existential-other n x y f e d = (made-free n y f, f.1, d, inl (existential-free n y f e))

  bound-moves : (x : ℕ) (t : Tm) → Scopes p s.made (bind s x t).made s.covers (bind s x t).covers s.bound (bind s x t).bound → EachState (Moves p s) (bound_if sat (bind s x t)).states
  bound-moves x t k = each_only_if (Moves p s) (sat (asked_with (bind s x t) (bind s x t).given)) (bind s x t) (record { scopes = k; work = refl })

  replaced-moves : (x : ℕ) (t : Tm) → Scopes p s.made (split_at s (depth_of s x) (con.Eq (Var x) (term_with t))).made s.covers (split_at s (depth_of s x) (con.Eq (Var x) (term_with t))).covers s.bound (split_at s (depth_of s x) (con.Eq (Var x) (term_with t))).bound
      → EachState (Moves p s) (replaced_if sat s x t).states
  replaced-moves x t k =
      each_only_if (Moves p s) (sat (asked_with s (context s ++ con.Eq (Var x) (term_with t) ∷ []))) (split_at s (depth_of s x) (con.Eq (Var x) (term_with t))) (record { scopes = k; work = refl })

  -- ---- two variables

  variable-bound : (n x y : ℕ) → Frees s.made s.covers s.bound n x → Frees s.made s.covers s.bound n y → is_universal s x ≡ false → is_universal s y ≡ false → y ≢ x → EachState (Moves p s) (bound_if sat (bind s x (var y))).states
  variable-bound n x y a b e f d =
      bound-moves x (var y)
      (bind-scopes p s h solved x (var y) (made-free n x a) (existential-free n x a e) a.1
      (λ w o. subst (λ (z : ℕ). IsOther p s h solved x z) (sym (eqb-true w y o)) (existential-other n x y b f d)))

  existentials-move : (n x y : ℕ) → Frees s.made s.covers s.bound n x → Frees s.made s.covers s.bound n y → is_universal s x ≡ false → is_universal s y ≡ false → y ≢ x → EachState (Moves p s) (two_existentials sat s x y).states
  existentials-move n x y a b e f d = by (cases_lt x y)
    where
      by : (x < y) ⊎ (y ≤ x) → EachState (Moves p s) (bound_if sat (bind s (max x y) (var (min x y)))).states
      by (inl l) =
          let more : max x y ≡ y = omega (arith, l) in
          let less : min x y ≡ x = omega (arith, l) in
          subst (λ (z : ℕ). EachState (Moves p s) (bound_if sat (bind s z (var (min x y)))).states) (sym more)
          (subst (λ (z : ℕ). EachState (Moves p s) (bound_if sat (bind s y (var z))).states) (sym less) (variable-bound n y x b a f e (λ g. d (sym g))))
      by (inr l) =
          let more : max x y ≡ x = omega (arith, l) in
          let less : min x y ≡ y = omega (arith, l) in
          subst (λ (z : ℕ). EachState (Moves p s) (bound_if sat (bind s z (var (min x y)))).states) (sym more)
          (subst (λ (z : ℕ). EachState (Moves p s) (bound_if sat (bind s x (var z))).states) (sym less) (variable-bound n x y a b e f d))

  mixed-move : (n e u : ℕ) → Frees s.made s.covers s.bound n e → Frees s.made s.covers s.bound n u → is_universal s e ≡ false → is_universal s u ≡ true → e ≢ u → EachState (Moves p s) (mixed sat s e u).states
  mixed-move n e u a b f g d = by (nat_le (depth_of s u) (depth_of s e) && not (is_constrained s e)) refl
    where
      by : (c : Bool) → (nat_le (depth_of s u) (depth_of s e) && not (is_constrained s e)) ≡ c → EachState (Moves p s) (if c then goes (bind s e (var u)) else replaced_if sat s u (var e)).states
      by true k =
          let l : depth_of s u ≤ depth_of s e = leb-true (depth_of s u) (depth_of s e) (and_parts (nat_le (depth_of s u) (depth_of s e)) (not (is_constrained s e)) k).0 in (
            record {
              scopes = bind-scopes p s h solved e (var u) (made-free n e a) (existential-free n e a f) a.1
                  (λ w o. subst (λ (z : ℕ). IsOther p s h solved e z) (sym (eqb-true w u o)) (universal-other n e u b g (λ i. d (sym i)) l));
              work = refl;
            },
            tt,
          )
      by false k = replaced-moves u (var e) (by-variable p s h solved u (open-free n u b g) e (existential-other n u e a f d))

  universals-move : (n x y : ℕ) → Frees s.made s.covers s.bound n x → Frees s.made s.covers s.bound n y → is_universal s x ≡ true → is_universal s y ≡ true → y ≢ x → EachState (Moves p s) (two_universals sat s x y).states
  universals-move n x y a b e f d = by (is_inside s x y) refl
    where
      inside : (nat_lt (depth_of s y) (depth_of s x) ≡ true) ⊎ ((nat_eq (depth_of s x) (depth_of s y) && nat_lt y x) ≡ true) → depth_of s y ≤ depth_of s x
      inside (inl k) = let l : depth_of s y < depth_of s x = ltb-true (depth_of s y) (depth_of s x) k in omega (arith, l)
      inside (inr k) = let l : depth_of s x ≡ depth_of s y = eqb-true (depth_of s x) (depth_of s y) (and_parts (nat_eq (depth_of s x) (depth_of s y)) (nat_lt y x) k).0 in omega (arith, l)

      by : (c : Bool) → is_inside s x y ≡ c → EachState (Moves p s) (if c then replaced_if sat s x (var y) else replaced_if sat s y (var x)).states
      by true k =
          replaced-moves x (var y)
          (by-variable p s h solved x (open-free n x a e) y
          (universal-other n x y b f d (inside (or_cases (nat_lt (depth_of s y) (depth_of s x)) (nat_eq (depth_of s x) (depth_of s y) && nat_lt y x) k))))
      by false k =
          let l : depth_of s x ≤ depth_of s y = ltb-false (depth_of s y) (depth_of s x) (or_parts (nat_lt (depth_of s y) (depth_of s x)) (nat_eq (depth_of s x) (depth_of s y) && nat_lt y x) k).0 in
          replaced-moves y (var x) (by-variable p s h solved y (open-free n y b f) x (universal-other n y x a e (λ i. d (sym i)) l))

  pub variables-move : (n x y : ℕ) → Frees s.made s.covers s.bound n x → Frees s.made s.covers s.bound n y → x ≢ y → EachState (Moves p s) (two_variables sat s x y (is_universal s x) (is_universal s y)).states
  variables-move n x y a b d = by (is_universal s x) (is_universal s y) refl refl
    where
      by : (i j : Bool) → is_universal s x ≡ i → is_universal s y ≡ j → EachState (Moves p s) (two_variables sat s x y i j).states
      by false false e f = existentials-move n x y a b e f (λ i. d (sym i))
      by false true e f = mixed-move n x y a b e f d
      by true false e f = mixed-move n y x b a f e (λ i. d (sym i))
      by true true e f = universals-move n x y a b e f (λ i. d (sym i))

  -- ---- a name with parts

  module _ (x f k : ℕ) where
    abbrev shape : Tm
    shape = app f (new_parts (length s.made) k)

    -- in the state with the parts
    module _ (n : ℕ) (a : Frees s.made s.covers s.bound n x) where
      grown-solved : (made : List Made) → length s.made ≤ length made → Solved (length made) s.bound
      grown-solved made l = solved-more (length s.made) (length made) l s.bound solved

      apart : (w : ℕ) → length s.made ≤ w → w ≢ x
      apart w l e = let m : x < length s.made = made-free n x a in omega (arith, l, m, e)

      universal-shape : is_universal s x ≡ true → EachState (Puts p s x (app f (new_parts (length s.made) k))) (replaced_if sat (with_new s Universal (depth_of s x) k) x (app f (new_parts (length s.made) k))).states
      universal-shape e =
          each_only_if (Puts p s x (app f (new_parts (length s.made) k))) (sat (asked_with r (context r ++ c ∷ []))) (split_at r (depth_of r x) c)
          (record { moves = record { scopes = scopes-then p s.made r.made (split_at r (depth_of r x) c).made s.covers r.covers (split_at r (depth_of r x) c).covers s.bound r.bound (split_at r (depth_of r x) c).bound grown split; work = refl }; bound = refl })
        where
          r : State
          r = with_new s Universal (depth_of s x) k

          c : Con
          c = con.Eq (Var x) (App f (new_parts (length s.made) k))

          long : length (with_new s Universal (depth_of s x) k).made ≡ length s.made + k
          long = new-length s Universal (depth_of s x) k

          grown : Scopes p s.made (with_new s Universal (depth_of s x) k).made s.covers s.covers s.bound s.bound
          grown = more-scopes p s.made s.covers s.bound h (replicate k (universal_of (depth_of s x)))

          o : IsOpen p s h solved x
          o = open-free n x a e

          same : entry (with_new s Universal (depth_of s x) k).made x ≡ entry s.made x
          same = entry-left s.made (replicate k (universal_of (depth_of s x))) x o.0

          more : Solved (length (with_new s Universal (depth_of s x) k).made) s.bound
          more = grown-solved r.made (omega (arith, long))

          new : (w : ℕ) → length s.made ≤ w → w < length s.made + k → Owned (with_new s Universal (depth_of s x) k).made (entry (with_new s Universal (depth_of s x) k).made x).depth w × (is_bound_in s.bound w ≡ false) × (w ≢ x)
          new w l m =
              let e : entry r.made w ≡ universal_of (depth_of s x) = entry-new s.made k (universal_of (depth_of s x)) w l m in (
                (omega (arith, m, long), ap (λ (d : Made). d.kind) e, ap (λ (d : Made). d.depth) e ∙ sym (ap (λ (d : Made). d.depth) same)),
                above-unbound (length s.made) s.bound solved w l,
                apart w l,
              )

          split : Scopes p r.made (split_at r (depth_of r x) c).made s.covers (split_at r (depth_of r x) c).covers s.bound (split_at r (depth_of r x) c).bound
          split =
              by-shape p r grown.sound more x
              ((let l : x < length s.made = o.0 in omega (arith, l, long)), ap (λ (d : Made). d.kind) same ∙ o.1, subst (λ (d : Made). owns s.covers d.depth x ≡ true) (sym same) o.2, o.3)
              f (length s.made) k new

      existential-shape : is_universal s x ≡ false → EachState (Puts p s x (app f (new_parts (length s.made) k))) (bound_if sat (bind (with_new s Existential (depth_of s x) k) x (app f (new_parts (length s.made) k)))).states
      existential-shape e =
          each_only_if (Puts p s x t) (sat (asked_with (bind r x t) (bind r x t).given)) (bind r x t)
          (record { moves = record { scopes = scopes-then p s.made r.made (bind r x t).made s.covers s.covers s.covers s.bound s.bound (bind r x t).bound grown put; work = refl }; bound = refl })
        where
          r : State
          r = with_new s Existential (depth_of s x) k

          t : Tm
          t = app f (new_parts (length s.made) k)

          m : Made
          m = record { kind = Existential; depth = depth_of s x }

          long : length (with_new s Existential (depth_of s x) k).made ≡ length s.made + k
          long = new-length s Existential (depth_of s x) k

          grown : Scopes p s.made (with_new s Existential (depth_of s x) k).made s.covers s.covers s.bound s.bound
          grown = more-scopes p s.made s.covers s.bound h (replicate k m)

          low : x < length s.made
          low = made-free n x a

          put : Scopes p r.made (bind r x t).made s.covers (bind r x t).covers s.bound (bind r x t).bound
          put =
              bind-scopes p r grown.sound (grown-solved r.made (omega (arith, long))) x t (omega (arith, low, long)) (ap (λ (d : Made). d.kind) (entry-left s.made (replicate k m) x low) ∙ existential-free n x a e) a.1
              (λ w o. let q = parts-span (length s.made) k w o in let l : length s.made ≤ w = q.0 in let b : w < length s.made + k = q.1 in
              (omega (arith, b, long), above-unbound (length s.made) s.bound solved w l, apart w l, inl (ap (λ (d : Made). d.kind) (entry-new s.made k m w l b))))

      pub shape-puts : EachState (Puts p s x (app f (new_parts (length s.made) k))) (becomes_shape sat s x f k).states
      shape-puts = by (is_universal s x) refl
        where
          by : (b : Bool) → is_universal s x ≡ b
              → EachState (Puts p s x (app f (new_parts (length s.made) k)))
              (if b then replaced_if sat (with_new s Universal (depth_of s x) k) x (app f (new_parts (length s.made) k)) else bound_if sat (bind (with_new s Existential (depth_of s x) k) x (app f (new_parts (length s.made) k)))).states
          by true e = universal-shape e
          by false e = existential-shape e

-- the parts are in scope then
pub parts-scoped : (p : Program) (s r : State) (x f k : ℕ) → Puts p s x (app f (new_parts (length s.made) k)) r → Scoped s.made s.covers s.bound (length s.covers) x
    → EachVars (Scoped r.made r.covers r.bound (length r.covers)) (new_parts (length s.made) k)
parts-scoped p s r x f k put m =
    occurs-all (Scoped r.made r.covers r.bound (length r.covers)) (new_parts (length s.made) k)
    (λ w o. met-next (Good r.made r.covers r.bound (length r.covers)) r.bound x (scoped-kept p s.made r.made s.covers r.covers s.bound r.bound put.moves.scopes x m) (binding x (app f (new_parts (length s.made) k)))
    (subst (λ (bs : List Binding). Contains bs (binding x (app f (new_parts (length s.made) k)))) (sym put.bound)
    (Contains-append_right s.bound (binding x (app f (new_parts (length s.made) k)) ∷ []) (binding x (app f (new_parts (length s.made) k))) (Contains-here (binding x (app f (new_parts (length s.made) k))) [])))
    refl w o)

module _ (p : Program) (sat : List Con → Bool) (s : State) (h : Sound p s.made s.covers s.bound) (solved : Solved (length s.made) s.bound) where
  -- ---- a number

  pub number-moves : (n x : ℕ) (q : Number) → n ≤ length s.covers → Frees s.made s.covers s.bound n x → EachState (Moves p s) (variable_number sat s x q).states
  number-moves n x q l a =
      each_followed (Assumes p s) (Moves p s) (becomes_number sat x q) (assume sat s (con.Num (Var x))).states (assume-assumes p sat s h solved n (con.Num (Var x)) tt) after
    where
      after : (r : State) → Assumes p s r → EachState (Moves p s) (becomes_number sat x q r).states
      after r k = each_weaker (Moves p r) (Moves p s) (becomes_number sat x q r).states then_on (by (is_universal r x) refl)
        where
          then_on : (t : State) → Moves p r t → Moves p s t
          then_on t m = record { scopes = scopes-then p s.made r.made t.made s.covers r.covers t.covers s.bound r.bound t.bound k.scopes m.scopes; work = m.work ∙ k.work }

          more : Solved (length r.made) r.bound
          more = subst (Solved (length r.made)) (sym k.bound) (solved-more (length s.made) (length r.made) k.scopes.long s.bound solved)

          free : Frees r.made r.covers r.bound n x
          free = (k.scopes.carries n x l a.0, ap (λ (bs : List Binding). is_bound_in bs x) k.bound ∙ a.1)

          by : (b : Bool) → is_universal r x ≡ b → EachState (Moves p r) (if b then replaced_if sat r x (num q) else bound_if sat (bind r x (num q))).states
          by true e = replaced-moves p sat r k.scopes.sound more x (num q) (by-number p r k.scopes.sound more x (open-free p sat r k.scopes.sound more n x free e) q)
          by false e =
              bound-moves p sat r k.scopes.sound more x (num q)
              (bind-scopes p r k.scopes.sound more x (num q) (made-free p sat r k.scopes.sound more n x free) (existential-free p sat r k.scopes.sound more n x free e) free.1 (λ w o. absurd (true≢false (sym o))))

  -- ---- equations

  moves-turn : (r : State) → Moves p s r → Turns p s r
  moves-turn r m = record { scopes = m.scopes; tasks = []; work = m.work; level = tt }

  all-turn : (rs : List State) → EachState (Moves p s) rs → EachState (Turns p s) rs
  all-turn rs k = each_weaker (Moves p s) (Turns p s) rs moves-turn k

  app-turns : (x f : ℕ) (ts : Tms) → Frees s.made s.covers s.bound (length s.covers) x → EachVars (Scoped s.made s.covers s.bound (length s.covers)) ts → EachState (Turns p s) (variable_app sat s x f ts).states
  app-turns x f ts a b = by (occurs_among x ts)
    where
      one : (r : State) → Puts p s x (app f (new_parts (length s.made) (length (items ts)))) r → Turns p s (before (equations (new_parts (next_variable s) (length (items ts))) ts) r)
      one r put = record {
        scopes = put.moves.scopes;
        tasks = equations (new_parts (next_variable s) (length (items ts))) ts;
        work = ap (λ (us : List Task). equations (new_parts (next_variable s) (length (items ts))) ts ++ us) put.moves.work;
        level = equations-level (Scoped r.made r.covers r.bound (length r.covers)) (new_parts (length s.made) (length (items ts))) ts (parts-scoped p s r x f (length (items ts)) put a.0)
            (all-weaker (Scoped s.made s.covers s.bound (length s.covers)) (Scoped r.made r.covers r.bound (length r.covers)) (scoped-kept p s.made r.made s.covers r.covers s.bound r.bound put.moves.scopes) ts b);
      }

      by : (c : Bool) → EachState (Turns p s) (if c then fails else each (before (equations (new_parts (next_variable s) (length (items ts))) ts)) (becomes_shape sat s x f (length (items ts)))).states
      by true = tt
      by false =
          each_map (Puts p s x (app f (new_parts (length s.made) (length (items ts))))) (Turns p s) (before (equations (new_parts (next_variable s) (length (items ts))) ts)) (becomes_shape sat s x f (length (items ts))).states
          (shape-puts p sat s h solved x f (length (items ts)) (length s.covers) a) one

  frees-args : (ts : Tms) → EachVars (Frees s.made s.covers s.bound (length s.covers)) ts → EachVars (Scoped s.made s.covers s.bound (length s.covers)) ts
  frees-args ts k = all-weaker (Frees s.made s.covers s.bound (length s.covers)) (Scoped s.made s.covers s.bound (length s.covers)) (λ z f. f.0) ts k

  pub equated-turns : (t u : Tm) → EachVar (Frees s.made s.covers s.bound (length s.covers)) t → EachVar (Frees s.made s.covers s.bound (length s.covers)) u → Apart t u → EachState (Turns p s) (equated sat s t u).states
  equated-turns (var x) (var y) a b d = all-turn (two_variables sat s x y (is_universal s x) (is_universal s y)).states (variables-move p sat s h solved (length s.covers) x y a b d)
  equated-turns (var x) (num q) a b d = all-turn (variable_number sat s x q).states (number-moves (length s.covers) x q (omega arith) a)
  equated-turns (var x) (app f ts) a b d = app-turns x f ts a (frees-args ts b)
  equated-turns (num q) (var y) a b d = all-turn (variable_number sat s y q).states (number-moves (length s.covers) y q (omega arith) b)
  equated-turns (num q) (num r) a b d = tt
  equated-turns (num q) (app f ts) a b d = tt
  equated-turns (app f ts) (var y) a b d = app-turns y f ts b (frees-args ts a)
  equated-turns (app f ts) (num r) a b d = tt
  equated-turns (app f ts) (app g us) a b d = tt

-- the state with its first tasks
pub turned-owning : (p : Program) (s r : State) → First s.made s.covers s.bound (length s.covers) s.work → Turns p s r → Owning p r
turned-owning p s r w k = record {
  sound = k.scopes.sound;
  front = subst (Front p r.made r.covers r.bound (length r.covers)) (sym k.work)
      (plain (k.tasks ++ s.work) (level-before (Scoped r.made r.covers r.bound) (length r.covers) k.tasks s.work k.level (work-kept p s.made r.made s.covers r.covers s.bound r.bound k.scopes s.work w)));
}

-- the first of the pairs that two terms come to is acted on
pub equate-owning : (p : Program) (sat : List Con → Bool) (s : State) → Sound p s.made s.covers s.bound → Solved (length s.made) s.bound → First s.made s.covers s.bound (length s.covers) s.work → (t u : Term)
    → EachVar (Scoped s.made s.covers s.bound (length s.covers)) (tm_of t) → EachVar (Scoped s.made s.covers s.bound (length s.covers)) (tm_of u) → EachState (Owning p) (equate_terms sat s (tm_of t) (tm_of u)).states
equate-owning p sat s h solved w t u a b =
    each_weaker (Turns p s) (Owning p) (equate_terms sat s (tm_of t) (tm_of u)).states (λ r k. turned-owning p s r w k)
    (by (pairs_of (under (meaning s) (tm_of t)) (under (meaning s) (tm_of u)))
    (pairs-both (Frees s.made s.covers s.bound (length s.covers)) (Frees s.made s.covers s.bound (length s.covers)) (under (meaning s) (tm_of t)) (under (meaning s) (tm_of u))
    (read-frees s solved (length s.covers) (tm_of t) a) (read-frees s solved (length s.covers) (tm_of u) b)))
  where
    F : ℕ → Type 0
    F = Frees s.made s.covers s.bound (length s.covers)

    by : (ps : List Pair) → Each (Both (Frees s.made s.covers s.bound (length s.covers)) (Frees s.made s.covers s.bound (length s.covers))) ps → EachState (Turns p s) (equate_pairs sat s ps).states
    by [] k = (record { scopes = scopes-itself p s.made s.covers s.bound h; tasks = []; work = refl; level = tt }, tt)
    by (o ∷ ps) k =
        each_weaker (Turns p (before (equations_of ps) s)) (Turns p s) (equated sat (before (equations_of ps) s) (tm_of o.left) (tm_of o.right)).states later
        (equated-turns p sat (before (equations_of ps) s) h solved (tm_of o.left) (tm_of o.right) k.0.0 k.0.1 k.0.2)
      where
        later : (r : State) → Turns p (before (equations_of ps) s) r → Turns p s r
        later r m = record {
          scopes = m.scopes;
          tasks = m.tasks ++ equations_of ps;
          work = m.work ∙ sym (append_assoc m.tasks (equations_of ps) s.work);
          level = Each-append (λ t. Plain (Scoped r.made r.covers r.bound (length r.covers)) t × (is_close t ≡ false)) m.tasks (equations_of ps) m.level
              (pairs-level (Scoped r.made r.covers r.bound (length r.covers)) ps
              (Each-map (Both F F) (λ q. EachVar (Scoped r.made r.covers r.bound (length r.covers)) (tm_of q.left) × EachVar (Scoped r.made r.covers r.bound (length r.covers)) (tm_of q.right))
              (λ q l. (kept (tm_of q.left) l.0, kept (tm_of q.right) l.1)) ps k.1));
        }
          where
            kept : (v : Tm) → EachVar (Frees s.made s.covers s.bound (length s.covers)) v → EachVar (Scoped r.made r.covers r.bound (length r.covers)) v
            kept v l = each-weaker F (Scoped r.made r.covers r.bound (length r.covers)) (λ z f. scoped-kept p s.made r.made s.covers r.covers s.bound r.bound m.scopes z f.0) v l
