-- Lists of terms that are being built anew.
use Rattle.std.proofs.Common.{◌≡◌, ℕ, ◌+◌, ◌*◌, List, [], ◌∷◌, ◌++◌, length, arith, refl, ap, sym, ◌∙◌}
use Rattle.std.specs.List.{sum_by}
use Rattle.scasp_syntax.specs.Tm.{Tm, Tms, var, num, app, nil, cons, items, pushed, weight_s}
use Rattle.scasp_syntax.specs.Values.{Sub, under, all_under}
use Rattle.scasp_syntax.specs.View.{tm_of, tms_of}
use Rattle.scasp_syntax.specs.Walks.{onto}
use Rattle.scasp_syntax.specs.declared.term.Term.{Term}
use Rattle.scasp_syntax.specs.declared.term.Term.TheVariants.{App}
use Rattle.scasp_syntax.specs.declared.rebuilding.Outer.{Outer}
use Rattle.scasp_syntax.proofs.WalkLemmas.{onto-nil, onto-pushed}

-- what the outermost list comes to when the innermost comes to this
abbrev pub closed : Sub → List Outer → Tms → Tms
closed s [] ts = ts
closed s (o ∷ os) ts = onto o.done (cons (app o.name (closed s os ts)) (all_under s (tms_of o.left.now)))

-- what is left to do with the lists that wait
abbrev pub waiting : List Outer → ℕ
waiting os = sum_by (λ (o : Outer). 1 + 2 * weight_s (tms_of o.left.now)) os

closed-pushed : (s : Sub) (os : List Outer) (o : Outer) (ts : Tms) → closed s (os ++ o ∷ []) ts ≡ closed s os (onto o.done (cons (app o.name ts) (all_under s (tms_of o.left.now))))
closed-pushed s [] o ts = refl
closed-pushed s (p ∷ os) o ts = ap (λ us. onto p.done (cons (app p.name us) (all_under s (tms_of p.left.now)))) (closed-pushed s os o ts)

-- a variable or a number was replaced
pub replaced : (s : Sub) (os : List Outer) (made new : Tms) (t : Term) (rest left : List Term) (z : Tms) → new ≡ pushed made (under s (tm_of t)) → rest ≡ t ∷ left → closed s os (onto made (all_under s (tms_of rest))) ≡ z → closed s os (onto new (all_under s (tms_of left))) ≡ z
replaced s os made new t rest left z n r e =
    ap (λ ts. closed s os (onto ts (all_under s (tms_of left)))) n
    ∙ ap (closed s os) (onto-pushed made (under s (tm_of t)) (all_under s (tms_of left)))
    ∙ ap (λ ts. closed s os (onto made (all_under s (tms_of ts)))) (sym r)
    ∙ e

-- the arguments of a term come next
pub entered : (s : Sub) (os more : List Outer) (o : Outer) (made new ts : Tms) (rest args : List Term) (z : Tms) → more ≡ os ++ o ∷ [] → o.done ≡ made → new ≡ nil → tms_of args ≡ ts → rest ≡ App o.name ts ∷ o.left.now → closed s os (onto made (all_under s (tms_of rest))) ≡ z → closed s more (onto new (all_under s (tms_of args))) ≡ z
entered s os more o made new ts rest args z m b n a r e =
    (λ j. closed s (m j) (onto (n j) (all_under s (a j))))
    ∙ closed-pushed s os o (all_under s ts)
    ∙ (λ j. closed s os (onto (b j) (all_under s (tms_of (sym r j)))))
    ∙ e

-- the arguments of a term are done
pub left_behind : (s : Sub) (os fewer : List Outer) (o : Outer) (made new : Tms) (rest : List Term) (z : Tms) → os ≡ fewer ++ o ∷ [] → rest ≡ [] → new ≡ pushed o.done (app o.name made) → closed s os (onto made (all_under s (tms_of rest))) ≡ z → closed s fewer (onto new (all_under s (tms_of o.left.now))) ≡ z
left_behind s os fewer o made new rest z m r n e =
    ap (λ ts. closed s fewer (onto ts (all_under s (tms_of o.left.now)))) n
    ∙ ap (closed s fewer) (onto-pushed o.done (app o.name made) (all_under s (tms_of o.left.now)))
    ∙ sym (closed-pushed s fewer o made)
    ∙ (λ j. closed s (sym m j) (sym (onto-nil made) j))
    ∙ ap (λ ts. closed s os (onto made (all_under s (tms_of ts)))) (sym r)
    ∙ e

-- a list with no items
pub no_terms : (ts : Tms) → length (items ts) ≡ 0 → ts ≡ nil
no_terms nil e = refl
no_terms (cons t ts) e = absurd (omega (arith, e))

-- all is done
pub all_done : (s : Sub) (os : List Outer) (made : Tms) (rest : List Term) (z : Tms) → os ≡ [] → rest ≡ [] → closed s os (onto made (all_under s (tms_of rest))) ≡ z → made ≡ z
all_done s os made rest z m r e = sym (onto-nil made) ∙ (λ j. closed s (sym m j) (onto made (all_under s (tms_of (sym r j))))) ∙ e

-- terms whose variables stand for themselves
mutual
  under-var : (t : Tm) → under var t ≡ t
  under-var (var x) = refl
  under-var (num q) = refl
  under-var (app f ts) = ap (app f) (all_under-var ts)

  pub all_under-var : (ts : Tms) → all_under var ts ≡ ts
  all_under-var nil = refl
  all_under-var (cons t ts) = λ j. cons (under-var t j) (all_under-var ts j)
