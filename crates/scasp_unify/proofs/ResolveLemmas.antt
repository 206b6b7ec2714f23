-- Lists of terms that are being resolved.
use Rattle.std.proofs.Common.{◌≡◌, ◌≢◌, ℕ, ◌+◌, ◌*◌, Bool, true, false, nat_eq, if◌then◌else◌, List, [], ◌∷◌, ◌++◌, length, refl, ap, sym, ◌∙◌}
use Rattle.std.specs.List.{sum_by}
use Rattle.std.proofs.lemmas.Bool.Decides.{Decides-eqb}
use Rattle.std.proofs.lemmas.List.{nil_from_length}
use Rattle.scasp_syntax.specs.Tm.{Tm, Tms, var, app, nil, cons, pushed, weight_s}
use Rattle.scasp_syntax.specs.Values.{Sub, under, all_under}
use Rattle.scasp_syntax.specs.View.{tm_of, tms_of}
use Rattle.scasp_syntax.specs.Walks.{onto}
use Rattle.scasp_syntax.specs.declared.term.Term.{Term}
use Rattle.scasp_syntax.proofs.WalkLemmas.{onto-nil, onto-pushed}
use Rattle.scasp_unify.specs.Solving.{sub_of}
use Rattle.scasp_unify.specs.declared.bindings.Binding.{Binding}
use Rattle.scasp_unify.specs.declared.bindings.Outer.{Outer}

-- ---- the first binding of a variable

pub none_bound : (x : ℕ) (left : List Binding) (z : Tm) → length left ≡ 0 → sub_of left x ≡ z → z ≡ var x
none_bound x left z n h = sym h ∙ ap (λ (bs : List Binding). sub_of bs x) (nil_from_length left n)

pub first_bound : (x : ℕ) (b : Binding) (left later : List Binding) (z : Tm) → left ≡ b ∷ later → b.x ≡ x → sub_of left x ≡ z → z ≡ under (sub_of later) (tm_of b.term)
first_bound x b left later z l e h =
    sym h ∙ ap (λ (bs : List Binding). sub_of bs x) l
    ∙ ap (λ c. under (sub_of later) (if c then tm_of b.term else var x)) ((Decides-eqb x b.x).1 (sym e))

pub other_bound : (x : ℕ) (b : Binding) (left later : List Binding) (z : Tm) → left ≡ b ∷ later → b.x ≢ x → sub_of left x ≡ z → sub_of later x ≡ z
other_bound x b left later z l n h = by (nat_eq x b.x) refl ∙ ap (λ (bs : List Binding). sub_of bs x) (sym l) ∙ h
  where
    by : (c : Bool) → nat_eq x b.x ≡ c → sub_of later x ≡ under (sub_of later) (if c then tm_of b.term else var x)
    by true e = absurd (n (sym ((Decides-eqb x b.x).0 e)))
    by false e = refl

-- ---- lists that wait

-- what is left of a list that waits, resolved
abbrev pub left_resolved : Outer → Tms
left_resolved o = all_under (sub_of o.bindings.now) (tms_of o.left.now)

-- what the outermost list comes to when the innermost comes to this
abbrev pub closed : List Outer → Tms → Tms
closed [] ts = ts
closed (o ∷ os) ts = onto o.done (cons (app o.name (closed os ts)) (left_resolved o))

-- what is left to do with the lists that wait
abbrev pub waiting : List Outer → ℕ
waiting os = sum_by (λ (o : Outer). 1 + 2 * weight_s (left_resolved o)) os

closed-pushed : (os : List Outer) (o : Outer) (ts : Tms) → closed (os ++ o ∷ []) ts ≡ closed os (onto o.done (cons (app o.name ts) (left_resolved o)))
closed-pushed [] o ts = refl
closed-pushed (p ∷ os) o ts = ap (λ us. onto p.done (cons (app p.name us) (left_resolved p))) (closed-pushed os o ts)

-- a term was resolved
pub one_resolved : (os : List Outer) (s : Sub) (made new : Tms) (t : Tm) (u : Term) (rest left : List Term) (z : Tms)
    → new ≡ pushed made t → t ≡ under s (tm_of u) → rest ≡ u ∷ left
    → closed os (onto made (all_under s (tms_of rest))) ≡ z → closed os (onto new (all_under s (tms_of left))) ≡ z
one_resolved os s made new t u rest left z n h r e =
    ap (λ ts. closed os (onto ts (all_under s (tms_of left)))) (n ∙ ap (pushed made) h)
    ∙ ap (closed os) (onto-pushed made (under s (tm_of u)) (all_under s (tms_of left)))
    ∙ ap (λ ts. closed os (onto made (all_under s (tms_of ts)))) (sym r)
    ∙ e

-- the arguments of a term come next
pub entered : (os more : List Outer) (o : Outer) (s : Sub) (made new : Tms) (t : Term) (rest list : List Term) (args : Tms) (z : Tms)
    → more ≡ os ++ o ∷ [] → o.done ≡ made → new ≡ nil → tms_of list ≡ args
    → app o.name (all_under s args) ≡ under (sub_of o.bindings.now) (tm_of t) → rest ≡ t ∷ o.left.now
    → closed os (onto made (all_under (sub_of o.bindings.now) (tms_of rest))) ≡ z → closed more (onto new (all_under s (tms_of list))) ≡ z
entered os more o s made new t rest list args z m b n a h r e =
    (λ j. closed (m j) (onto (n j) (all_under s (a j))))
    ∙ closed-pushed os o (all_under s args)
    ∙ ap (λ u. closed os (onto o.done (cons u (left_resolved o)))) h
    ∙ (λ j. closed os (onto (b j) (all_under (sub_of o.bindings.now) (tms_of (sym r j)))))
    ∙ e

-- the arguments of a term are resolved
pub left_behind : (os fewer : List Outer) (o : Outer) (s : Sub) (made new : Tms) (rest : List Term) (z : Tms)
    → os ≡ fewer ++ o ∷ [] → rest ≡ [] → new ≡ pushed o.done (app o.name made)
    → closed os (onto made (all_under s (tms_of rest))) ≡ z → closed fewer (onto new (left_resolved o)) ≡ z
left_behind os fewer o s made new rest z m r n e =
    ap (λ ts. closed fewer (onto ts (left_resolved o))) n
    ∙ ap (closed fewer) (onto-pushed o.done (app o.name made) (left_resolved o))
    ∙ sym (closed-pushed fewer o made)
    ∙ (λ j. closed (sym m j) (sym (onto-nil made) j))
    ∙ ap (λ ts. closed os (onto made (all_under s (tms_of ts)))) (sym r)
    ∙ e

-- all is resolved
pub all_resolved : (os : List Outer) (s : Sub) (made : Tms) (rest : List Term) (z : Tms)
    → os ≡ [] → rest ≡ [] → closed os (onto made (all_under s (tms_of rest))) ≡ z → made ≡ z
all_resolved os s made rest z m r e = sym (onto-nil made) ∙ (λ j. closed (sym m j) (onto made (all_under s (tms_of (sym r j))))) ∙ e
