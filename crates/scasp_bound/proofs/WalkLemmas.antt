-- Lists of terms that are being read.
use Rattle.std.proofs.Common.{◌≡◌, ℕ, ◌+◌, ◌*◌, ◌≤◌, List, [], ◌∷◌, ◌++◌, Option, arith, refl, ap, sym, ◌∙◌}
use Rattle.std.specs.List.{sum_by}
use Rattle.scasp_bound.specs.declared.reading.Outer.{Outer}
use Rattle.scasp_bound.specs.Inside.Reading.{behind}
use Rattle.scasp_syntax.specs.Tm.{Tm, Tms, var, num, app, nil, cons, pushed, weight, weight_s}
use Rattle.scasp_syntax.specs.Values.{Sub, under, all_under}
use Rattle.scasp_syntax.specs.View.{tm_of, tms_of}
use Rattle.scasp_syntax.specs.declared.term.Term.{Term}
use Rattle.scasp_unify.specs.declared.bindings.Binding.{Binding}

abbrev Bindings : Type 0
Bindings = List (Option Binding)

-- one list behind the other
abbrev pub onto : Tms → Tms → Tms
onto nil us = us
onto (cons t ts) us = cons t (onto ts us)

-- what is left of a list that waits, as it reads
abbrev pub left_read : Bindings → Outer → Tms
left_read bs o = all_under (behind o.from bs) (tms_of o.left.now)

-- what the outermost list comes to when the innermost comes to this
abbrev pub closed : Bindings → List Outer → Tms → Tms
closed bs [] ts = ts
closed bs (o ∷ os) ts = onto o.done (cons (app o.name (closed bs os ts)) (left_read bs o))

-- what is left to do with the lists that wait
abbrev pub waiting : Bindings → List Outer → ℕ
waiting bs os = sum_by (λ (o : Outer). 1 + 2 * weight_s (left_read bs o)) os

closed-pushed : (bs : Bindings) (os : List Outer) (o : Outer) (ts : Tms) → closed bs (os ++ o ∷ []) ts ≡ closed bs os (onto o.done (cons (app o.name ts) (left_read bs o)))
closed-pushed bs [] o ts = refl
closed-pushed bs (p ∷ os) o ts = ap (λ us. onto p.done (cons (app p.name us) (left_read bs p))) (closed-pushed bs os o ts)

onto-pushed : (ts : Tms) (t : Tm) (us : Tms) → onto (pushed ts t) us ≡ onto ts (cons t us)
onto-pushed nil t us = refl
onto-pushed (cons u ts) t us = ap (cons u) (onto-pushed ts t us)

onto-nil : (ts : Tms) → onto ts nil ≡ ts
onto-nil nil = refl
onto-nil (cons t ts) = ap (cons t) (onto-nil ts)

pub heavy : (t : Tm) → 1 ≤ weight t
heavy (var x) = omega arith
heavy (num q) = omega arith
heavy (app f ts) = omega arith

-- a term was read
pub one_read : (bs : Bindings) (os : List Outer) (s : Sub) (made new : Tms) (t : Tm) (u : Term) (rest left : List Term) (z : Tms)
    → new ≡ pushed made t → t ≡ under s (tm_of u) → rest ≡ u ∷ left
    → closed bs os (onto made (all_under s (tms_of rest))) ≡ z → closed bs os (onto new (all_under s (tms_of left))) ≡ z
one_read bs os s made new t u rest left z n h r e =
    ap (λ ts. closed bs os (onto ts (all_under s (tms_of left)))) (n ∙ ap (pushed made) h)
    ∙ ap (closed bs os) (onto-pushed made (under s (tm_of u)) (all_under s (tms_of left)))
    ∙ ap (λ ts. closed bs os (onto made (all_under s (tms_of ts)))) (sym r)
    ∙ e

-- the arguments of a term come next
pub entered : (bs : Bindings) (os more : List Outer) (o : Outer) (made new : Tms) (t : Term) (rest args : List Term) (from : ℕ) (z : Tms)
    → more ≡ os ++ o ∷ [] → o.done ≡ made → new ≡ nil
    → app o.name (all_under (behind from bs) (tms_of args)) ≡ under (behind o.from bs) (tm_of t) → rest ≡ t ∷ o.left.now
    → closed bs os (onto made (all_under (behind o.from bs) (tms_of rest))) ≡ z → closed bs more (onto new (all_under (behind from bs) (tms_of args))) ≡ z
entered bs os more o made new t rest args from z m b n h r e =
    (λ j. closed bs (m j) (onto (n j) (all_under (behind from bs) (tms_of args))))
    ∙ closed-pushed bs os o (all_under (behind from bs) (tms_of args))
    ∙ ap (λ u. closed bs os (onto o.done (cons u (left_read bs o)))) h
    ∙ (λ j. closed bs os (onto (b j) (all_under (behind o.from bs) (tms_of (sym r j)))))
    ∙ e

-- the arguments of a term are read
pub left_behind : (bs : Bindings) (os fewer : List Outer) (o : Outer) (s : Sub) (made new : Tms) (rest : List Term) (z : Tms)
    → os ≡ fewer ++ o ∷ [] → rest ≡ [] → new ≡ pushed o.done (app o.name made)
    → closed bs os (onto made (all_under s (tms_of rest))) ≡ z → closed bs fewer (onto new (left_read bs o)) ≡ z
left_behind bs os fewer o s made new rest z m r n e =
    ap (λ ts. closed bs fewer (onto ts (left_read bs o))) n
    ∙ ap (closed bs fewer) (onto-pushed o.done (app o.name made) (left_read bs o))
    ∙ sym (closed-pushed bs fewer o made)
    ∙ (λ j. closed bs (sym m j) (sym (onto-nil made) j))
    ∙ ap (λ ts. closed bs os (onto made (all_under s (tms_of ts)))) (sym r)
    ∙ e

-- all is read
pub all_read : (bs : Bindings) (os : List Outer) (s : Sub) (made : Tms) (rest : List Term) (z : Tms)
    → os ≡ [] → rest ≡ [] → closed bs os (onto made (all_under s (tms_of rest))) ≡ z → made ≡ z
all_read bs os s made rest z m r e = sym (onto-nil made) ∙ (λ j. closed bs (sym m j) (onto made (all_under s (tms_of (sym r j))))) ∙ e
