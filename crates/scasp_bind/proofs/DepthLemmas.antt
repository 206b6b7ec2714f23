-- Depths that fall, and what a binding does.
use Rattle.std.proofs.Common.{◌≡◌, ℕ, suc, ◌<◌, ◌≤◌, min, Bool, true, false, ◌&&◌, ◌||◌, nat_eq, if◌then◌else◌, List, [], ◌∷◌, ◌++◌, length, set, slice_get, Option, None, Some, option_map, ◌⊎◌, inl, inr, eqb-true, eq-eqb, subst, refl, sym, ap, ◌∙◌, arith}
use Rattle.std.specs.Prelude.{Result, Ok, Err, OnOk, OnErr, IfOk}
use Rattle.std.proofs.lemmas.List.{length-append}
use Rattle.scasp_syntax.specs.Tm.{Tm, Tms, var, num, app, nil, cons}
use Rattle.scasp_syntax.specs.Values.{Sub, under, all_under}
use Rattle.scasp_syntax.specs.View.{tm_of}
use Rattle.scasp_syntax.specs.WellFormed.{is_below}
use Rattle.scasp_syntax.specs.declared.term.Term.{Term}
use Rattle.scasp_unify.specs.Parts.{occurs, occurs_among}
use Rattle.scasp_bind.specs.Binds.{CanBind, Binds, bound_one}
use Rattle.scasp_bind.specs.Depths.{Lowers, is_existential, lowered, lowest}
use Rattle.scasp_bind.specs.Kept.{Kept, Continues, updated, with_depth, with_term}
use Rattle.scasp_bind.specs.Resolving.{Resolves, applied, binding, is_free, term_in}
use Rattle.scasp_bind.specs.Inside.Soundness.{GoesOn, IsSound, IsSoundAt, most, resolver}
use Rattle.scasp_bind.specs.Inside.Undoing.{TakesBack}
use Rattle.scasp_bind.specs.declared.variable.Variable.{Variable}
use Rattle.scasp_bind.proofs.ResolvingLemmas.{Binds as OneMore, all_free, one_way, stays}
use Rattle.scasp_bind.proofs.SoundLemmas.{bound_sound, continues_same, continues_step, continues_then, fewer_sound, fresh_bindings, sound_now, sound_step, updated_other, updated_same}
use Rattle.scasp_bind.proofs.StepLemmas.{set-itself, there, updated-at, updated-length}

-- ---- variables that are lowered

pub not_lowered : (d : ℕ) (o : Option Variable) → lowered false d o ≡ o
not_lowered d None = refl
not_lowered d (Some v) = refl

twice-lowest : (d : ℕ) (v : Variable) → lowest d (lowest d v) ≡ lowest d v
twice-lowest d v = ap (λ n. with_depth n v) same
  where
    same : min (min v.depth d) d ≡ min v.depth d
    same = omega arith

choose : Bool → ℕ → Variable → Variable
choose b d v = if b then lowest d v else v

twice-one : (p q e : Bool) (d : ℕ) (v : Variable) → choose (q && e) d (choose (p && e) d v) ≡ choose ((p || q) && e) d v
unfolding choose
twice-one true true true d v = twice-lowest d v
twice-one true true false d v = refl
twice-one true false true d v = refl
twice-one true false false d v = refl
twice-one false q e d v = refl

kind-kept : (b : Bool) (d : ℕ) (v : Variable) → is_existential (if b then lowest d v else v).sort ≡ is_existential v.sort
kind-kept true d v = refl
kind-kept false d v = refl

pub twice : (p q : Bool) (d : ℕ) (o : Option Variable) → lowered q d (lowered p d o) ≡ lowered (p || q) d o
unfolding choose
twice p q d None = refl
twice p q d (Some v) =
    let w = if p && is_existential v.sort then lowest d v else v in
    ap (λ e. Some (if q && e then lowest d w else w)) (kind-kept (p && is_existential v.sort) d v)
    ∙ ap Some (twice-one p q (is_existential v.sort) d v)

pub lowers_none : (vs : List Variable) (d : ℕ) → Lowers vs vs (λ y. false) d
lowers_none vs d = λ y. sym (not_lowered d (slice_get vs y))

-- one variable, which is an existential
pub lowers_one : (vs : List Variable) (x d : ℕ) (v : Variable) → slice_get vs x ≡ Some v → is_existential v.sort ≡ true → Lowers vs (updated x (lowest d) vs) (λ y. nat_eq y x) d
lowers_one vs x d v e f = λ y. by y (nat_eq y x) refl
  where
    here : slice_get (updated x (lowest d) vs) x ≡ lowered true d (slice_get vs x)
    here = updated_same vs x (lowest d) ∙ ap (option_map (lowest d)) e ∙ ap (λ b. Some (if b then lowest d v else v)) (sym f) ∙ ap (lowered true d) (sym e)

    by : (y : ℕ) (q : Bool) → nat_eq y x ≡ q → slice_get (updated x (lowest d) vs) y ≡ lowered q d (slice_get vs y)
    by y true p = subst (λ z. slice_get (updated x (lowest d) vs) z ≡ lowered true d (slice_get vs z)) (sym (eqb-true y x p)) here
    by y false p = updated_other vs x y (lowest d) (λ g. differs (sym p ∙ eq-eqb y x g)) ∙ sym (not_lowered d (slice_get vs y))
      where
        differs : false ≡ true → ⊥
        differs g = cc

-- one variable, which is a universal
pub lowers_universal : (vs : List Variable) (x d : ℕ) (v : Variable) → slice_get vs x ≡ Some v → is_existential v.sort ≡ false → Lowers vs vs (λ y. nat_eq y x) d
lowers_universal vs x d v e f = λ y. by y (nat_eq y x) refl
  where
    here : slice_get vs x ≡ lowered true d (slice_get vs x)
    here = e ∙ ap (λ b. Some (if b then lowest d v else v)) (sym f) ∙ ap (lowered true d) (sym e)

    by : (y : ℕ) (q : Bool) → nat_eq y x ≡ q → slice_get vs y ≡ lowered q d (slice_get vs y)
    by y true p = subst (λ z. slice_get vs z ≡ lowered true d (slice_get vs z)) (sym (eqb-true y x p)) here
    by y false p = sym (not_lowered d (slice_get vs y))

-- ---- changes of depths

binding-depth : (vs : List Variable) (x y d : ℕ) → binding (updated x (with_depth d) vs) y ≡ binding vs y
binding-depth vs x y d = by (nat_eq y x) refl
  where
    same : (o : Option Variable) → term_in (option_map (with_depth d) o) ≡ term_in o
    same None = refl
    same (Some v) = refl

    by : (q : Bool) → nat_eq y x ≡ q → binding (updated x (with_depth d) vs) y ≡ binding vs y
    by true p = subst (λ z. binding (updated x (with_depth d) vs) z ≡ binding vs z) (sym (eqb-true y x p)) (ap term_in (updated_same vs x (with_depth d)) ∙ same (slice_get vs x))
    by false p = ap term_in (updated_other vs x y (with_depth d) (λ g. differs (sym p ∙ eq-eqb y x g)))
      where
        differs : false ≡ true → ⊥
        differs g = cc

pub goes_on_same : (s : Kept) → GoesOn s s
goes_on_same s = record { continues = continues_same s; count = refl; bindings = λ x. refl; sound = λ h. h }

pub goes_on_then : (a b c : Kept) → GoesOn a b → GoesOn b c → GoesOn a c
goes_on_then a b c f g = record {
  continues = continues_then a b c f.continues g.continues;
  count = g.count ∙ f.count;
  bindings = λ x. g.bindings x ∙ f.bindings x;
  sound = λ h. g.sound (f.sound h);
}

pub depth_goes_on : (s r : Kept) (x d : ℕ) → TakesBack r s → r.variables ≡ updated x (with_depth d) s.variables → GoesOn s r
depth_goes_on s r x d b e =
    let same : (y : ℕ) → binding r.variables y ≡ binding s.variables y = λ y. ap (λ vs. binding vs y) e ∙ binding-depth s.variables x y d in
    let size : length r.variables ≡ length s.variables = ap length e ∙ updated-length s.variables x (with_depth d) in
    record {
      continues = continues_step s r b;
      count = size;
      bindings = same;
      sound = λ h. sound_step s r b (fewer_sound (length s.changes) s.variables r.variables (omega (arith, size)) (λ y. inr (same y)) (sound_now s h)) h;
    }

-- where the depth is not greater, nothing is to be lowered
pub low_already : (vs : List Variable) (x d : ℕ) (v : Variable) → slice_get vs x ≡ Some v → v.depth ≤ d → vs ≡ updated x (lowest d) vs
low_already vs x d v e h = sym (updated-at vs x (lowest d) v e ∙ ap (set vs x) (ap (λ n. with_depth n v) same) ∙ set-itself vs x v e)
  where
    same : min v.depth d ≡ v.depth
    same = omega (arith, h)

pub lower_now : (vs : List Variable) (x d : ℕ) (v : Variable) → slice_get vs x ≡ Some v → d < v.depth → updated x (with_depth d) vs ≡ updated x (lowest d) vs
lower_now vs x d v e h = updated-at vs x (with_depth d) v e ∙ ap (λ n. set vs x (with_depth n v)) same ∙ sym (updated-at vs x (lowest d) v e)
  where
    same : d ≡ min v.depth d
    same = omega (arith, h)

-- ---- a binding

either-stands : (p q r z : Bool) → (p ≡ true → r ≡ true) → (q ≡ true → z ≡ true) → (p || q) ≡ true → (r || z) ≡ true
either-stands true q r z f g h = ap (λ b. b || z) (f refl)
either-stands false q r z f g h = ap (λ b. r || b) (g h) ∙ or-true r
  where
    or-true : (b : Bool) → (b || true) ≡ true
    or-true true = refl
    or-true false = refl

mutual
  stands-still : (x : ℕ) (s : Sub) → s x ≡ var x → (t : Tm) → occurs x t ≡ true → occurs x (under s t) ≡ true
  stands-still x s e (var y) h = ap (occurs x) (subst (λ z. s z ≡ var z) (eqb-true x y h) e) ∙ h
  stands-still x s e (num q) h = h
  stands-still x s e (app f ts) h = each-stands-still x s e ts h

  each-stands-still : (x : ℕ) (s : Sub) → s x ≡ var x → (ts : Tms) → occurs_among x ts ≡ true → occurs_among x (all_under s ts) ≡ true
  each-stands-still x s e nil h = h
  each-stands-still x s e (cons t ts) h = either-stands (occurs x t) (occurs_among x ts) (occurs x (under s t)) (occurs_among x (all_under s ts)) (stands-still x s e t) (each-stands-still x s e ts) h

-- the variable does not stand in the term as it is given either
pub absent : (s : Kept) (x : ℕ) (t : Tm) → IsSoundAt (length s.changes) s.variables → CanBind s x t → occurs x t ≡ false
absent s x t h can =
    let n = most (length s.changes) in
    let b = binding s.variables in
    let apart : occurs x (under (applied n b) t) ≡ false = can.apart _ (record { times = n; value = refl; free = all_free b (applied n b) h.ends t }) in
    not_there (occurs x t) (occurs x (under (applied n b) t)) apart (stands-still x (applied n b) (stays n b x can.unbound) t)
  where
    not_there : (p q : Bool) → q ≡ false → (p ≡ true → q ≡ true) → p ≡ false
    not_there false q e f = refl
    not_there true q e f = let g : q ≡ true = f refl in cc

different : {A : Type 0} (u v : A) (o : Option A) → o ≡ Some u → o ≡ Some v → u ≡ v
different u v o e f = let g : Some u ≡ Some v = sym e ∙ f in cc

pub bind_done : (a b c : Kept) (x : ℕ) (t : Term) (v : Variable) → occurs x (tm_of t) ≡ false → slice_get a.variables x ≡ Some v
    → Lowers a.variables b.variables (λ y. occurs y (tm_of t)) v.depth → c.variables ≡ updated x (with_term (Some t)) b.variables → Binds a.variables c.variables x t
bind_done a b c x t v o e l f = λ w g y. subst (λ d. slice_get c.variables y ≡ bound_one a.variables x t d y) (ap (λ u. u.depth) (different v w (slice_get a.variables x) e g)) (by y (nat_eq y x) refl)
  where
    here : slice_get c.variables x ≡ option_map (with_term (Some t)) (slice_get a.variables x)
    here =
        ap (λ vs. slice_get vs x) f ∙ updated_same b.variables x (with_term (Some t))
        ∙ ap (option_map (with_term (Some t))) (l x ∙ ap (λ q. lowered q v.depth (slice_get a.variables x)) o ∙ not_lowered v.depth (slice_get a.variables x))

    by : (y : ℕ) (q : Bool) → nat_eq y x ≡ q → slice_get c.variables y ≡ (if q then option_map (with_term (Some t)) (slice_get a.variables y) else lowered (occurs y (tm_of t)) v.depth (slice_get a.variables y))
    by y true p = subst (λ z. slice_get c.variables z ≡ option_map (with_term (Some t)) (slice_get a.variables z)) (sym (eqb-true y x p)) here
    by y false p = ap (λ vs. slice_get vs y) f ∙ updated_other b.variables x y (with_term (Some t)) (λ g. differs (sym p ∙ eq-eqb y x g)) ∙ l y
      where
        differs : false ≡ true → ⊥
        differs g = cc

pub one_more : (vs ws : List Variable) (x : ℕ) (t : Term) → x < length vs → binding vs x ≡ None → ws ≡ updated x (with_term (Some t)) vs → OneMore (binding vs) (binding ws) x (tm_of t)
one_more vs ws x t h none e = record {
  unbound = none;
  bound = ap (λ l. binding l x) e ∙ ap term_in (updated_same vs x (with_term (Some t)) ∙ ap (option_map (with_term (Some t))) (there vs x h).1);
  others = λ y p. ap (λ l. binding l y) e ∙ ap term_in (updated_other vs x y (with_term (Some t)) (λ g. differs (sym p ∙ eq-eqb x y (sym g))));
}
  where
    differs : false ≡ true → ⊥
    differs g = cc

pub bind_sound : (a b c : Kept) (x : ℕ) (t : Term) → CanBind a x (tm_of t) → GoesOn a b → TakesBack c b → c.variables ≡ updated x (with_term (Some t)) b.variables → IsSound a → IsSound c
bind_sound a b c x t can g back e h =
    let sound = g.sound h in
    let bs : binding a.variables ≡ binding b.variables = λ i y. sym (g.bindings y) i in
    let known : x < length b.variables = omega (arith, can.known, g.count) in
    sound_step b c back
    (bound_sound (length b.changes) b.variables c.variables x (tm_of t) (ap length e ∙ updated-length b.variables x (with_term (Some t)))
    (one_more b.variables c.variables x t known (g.bindings x ∙ can.unbound) e)
    (ap (λ n. is_below n (tm_of t)) g.count ∙ can.term)
    (λ u r. can.apart u (subst (λ d. Resolves d (tm_of t) u) (sym bs) r))
    (sound_now b sound)) sound

-- ---- a call that answers an error has changed nothing

pub outcome : {A E : Type 0} (P X Y : Type 0) (r : Result A E) → OnOk r X → OnErr r Y → (X → P) → (Y → P) → P
outcome P X Y (Ok a) x y f g = f x
outcome P X Y (Err e) x y f g = g y

pub on_ok : {A E X Y : Type 0} (r : Result A E) → OnOk r X → (X → Y) → OnOk r Y
on_ok (Ok a) x f = f x
on_ok (Err e) x f = x

pub if_ok : {A E : Type 0} (P Q : A → Type 0) (r : Result A E) → ((a : A) → P a → Q a) → IfOk r P → IfOk r Q
if_ok P Q (Ok a) f p = f a p
if_ok P Q (Err e) f p = p

-- what one call of `make` or of `set_term` keeps
pub kept_by : {A E : Type 0} (r : Result A E) (s n : Kept) → OnOk r (TakesBack n s) → OnErr r (n ≡ s) → Continues s n
kept_by (Ok a) s n f g = continues_step s n f
kept_by (Err e) s n f g = subst (Continues s) (sym g) (continues_same s)

pub sound_by : {A E : Type 0} (r : Result A E) (s n : Kept) → OnOk r (TakesBack n s) → OnErr r (n ≡ s) → OnOk r (IsSoundAt (suc (length s.changes)) n.variables) → IsSound s → IsSound n
sound_by (Ok a) s n f g h k = sound_step s n f h k
sound_by (Err e) s n f g h k = subst IsSound (sym g) k

pub fresh_sound : (s n : Kept) (v : Variable) → v.term ≡ None → IsSound s → n.variables ≡ s.variables ++ v ∷ [] → IsSoundAt (suc (length s.changes)) n.variables
fresh_sound s n v e h f =
    subst (IsSoundAt (suc (length s.changes))) (sym f)
    (fewer_sound (length s.changes) s.variables (s.variables ++ v ∷ []) (omega (arith, length-append s.variables (v ∷ []))) (fresh_bindings s.variables v e) (sound_now s h))

unbound-bindings : (vs : List Variable) (x y : ℕ) → (binding (updated x (with_term None) vs) y ≡ None) ⊎ (binding (updated x (with_term None) vs) y ≡ binding vs y)
unbound-bindings vs x y = by (nat_eq y x) refl
  where
    none : (o : Option Variable) → term_in (option_map (with_term None) o) ≡ None
    none None = refl
    none (Some v) = refl

    differs : false ≡ true → ⊥
    differs g = cc

    by : (q : Bool) → nat_eq y x ≡ q → (binding (updated x (with_term None) vs) y ≡ None) ⊎ (binding (updated x (with_term None) vs) y ≡ binding vs y)
    by true p = inl (subst (λ z. binding (updated x (with_term None) vs) z ≡ None) (sym (eqb-true y x p)) (ap term_in (updated_same vs x (with_term None)) ∙ none (slice_get vs x)))
    by false p = inr (ap term_in (updated_other vs x y (with_term None) (λ g. differs (sym p ∙ eq-eqb y x g))))

pub unbound_sound : (s n : Kept) (x : ℕ) → IsSound s → n.variables ≡ updated x (with_term None) s.variables → IsSoundAt (suc (length s.changes)) n.variables
unbound_sound s n x h f =
    subst (IsSoundAt (suc (length s.changes))) (sym f)
    (fewer_sound (length s.changes) s.variables (updated x (with_term None) s.variables) (omega (arith, updated-length s.variables x (with_term None))) (unbound-bindings s.variables x) (sound_now s h))

-- ---- resolved terms

pub resolves_now : (s : Kept) (t u : Tm) → IsSound s → u ≡ under (resolver s) t → Resolves (binding s.variables) t u
resolves_now s t u h e = record {
  times = most (length s.changes);
  value = sym e;
  free = ap (is_free (binding s.variables)) e ∙ all_free (binding s.variables) (resolver s) (sound_now s h).ends t;
}

pub resolves_once : (s : Kept) (t u : Tm) → IsSound s → Resolves (binding s.variables) t u → under (resolver s) t ≡ u
resolves_once s t u h r =
    one_way (most (length s.changes)) r.times (binding s.variables) t (all_free (binding s.variables) (resolver s) (sound_now s h).ends t) (ap (is_free (binding s.variables)) r.value ∙ r.free) ∙ r.value

pub sound_or : {A E : Type 0} (r : Result A E) (a b c : Kept) (x : ℕ) (t u : Term) → u ≡ t → CanBind a x (tm_of t) → GoesOn a b → OnOk r (TakesBack c b)
    → OnOk r (c.variables ≡ updated x (with_term (Some u)) b.variables) → OnErr r (c ≡ b) → IsSound a → IsSound c
sound_or (Ok v) a b c x t u same can g back e n h = bind_sound a b c x t can g back (e ∙ ap (λ w. updated x (with_term (Some w)) b.variables) same) h
sound_or (Err v) a b c x t u same can g back e n h = subst IsSound (sym n) (g.sound h)
