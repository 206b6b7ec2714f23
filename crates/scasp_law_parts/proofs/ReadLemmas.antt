-- A constraint that is written as a substitution reads it holds where the constraint does.
use Rattle.std.proofs.Common.{◌≡◌, ◌↔◌, ℕ, suc, Bool, true, false, ◌&&◌, not, nat_eq, if◌then◌else◌, List, [], ◌∷◌, map, length, refl, sym, ap, ◌∙◌}
use Rattle.std.specs.List.{list_all}
use Rattle.std.proofs.lemmas.Bool.{true≢false}
use Rattle.scasp_num.specs.declared.linear.Coeff.{Coeff}
use Rattle.scasp_num.specs.Linear.{Linear}
use Rattle.scasp_list.specs.Each.{Each}
use Rattle.scasp_search_rules.specs.Successors.Reading.{not_shaped, row_or, row_under, con_under}
use Rattle.scasp_syntax.specs.Constraints.{holds, has_shape, is_number, Sat}
use Rattle.scasp_syntax.specs.RowTruth.{row_holds, number_of, point}
use Rattle.scasp_syntax.specs.Same.{same_tm}
use Rattle.scasp_syntax.specs.Tm.{Tm, Tms, var, num, app, nil, cons, items}
use Rattle.scasp_syntax.specs.Values.{Sub, under, all_under}
use Rattle.scasp_syntax.specs.View.{tm_of}
use Rattle.scasp_syntax.specs.declared.con.Con.{Con}
use Rattle.scasp_syntax.specs.declared.con.Con.TheVariants as con
use Rattle.scasp_syntax.proofs.SameLemmas.{tm_decided}
use Rattle.scasp_syntax.proofs.ValueLemmas.{under-under}
use Rattle.scasp_unify.specs.Points.{read_as, through}
use Rattle.scasp_unify.specs.SimpleForm.{term_with}
use Rattle.scasp_unify.specs.TermFailures.{is_compound}
use Rattle.scasp_unify.specs.Unification.{then_by, Absorbs}
use Rattle.scasp_unify.proofs.PointLemmas.{bridge, holds-same}
use Rattle.scasp_unify.proofs.ResolvedRowLemmas.{resolved}
use Rattle.scasp_unify.proofs.SimpleLemmas.{viewed}
use Rattle.scasp_law_parts.specs.Parts.{SatUnder}
use Rattle.scasp_law_parts.specs.Questions.{IsReadableRow, IsReadable}

term-read : (s w : Sub) (t : Tm) → under w (tm_of (term_with (under s t))) ≡ under (then_by s w) t
term-read s w t = ap (under w) (viewed (under s t)) ∙ under-under w s t

same-length : (w : Sub) (us : Tms) → length (items (all_under w us)) ≡ length (items us)
same-length w nil = refl
same-length w (cons u us) = ap suc (same-length w us)

same-term : (t : Tm) → same_tm t t ≡ true
same-term t = (tm_decided t t).1 refl

shape-read : (w : Sub) (f n : ℕ) (z : Tm) → holds w (not_shaped z f n) ≡ not (has_shape f n (under w z))
shape-read w f n (var y) = refl
shape-read w f n (num q) = same-term (num q)
shape-read w f n (app g us) = by (has_shape f n (app g us)) refl
  where
    stays : has_shape f n (under w (app g us)) ≡ has_shape f n (app g us)
    stays = ap (λ m. nat_eq g f && nat_eq m n) (same-length w us)

    by : (b : Bool) → has_shape f n (app g us) ≡ b → holds w (if b then con.Neq (term_with (app g us)) (term_with (app g us)) else con.Eq (term_with (app g us)) (term_with (app g us))) ≡ not (has_shape f n (under w (app g us)))
    by true e = ap not (same-term (under w (app g us))) ∙ sym (ap not (stays ∙ e))
    by false e = same-term (under w (app g us)) ∙ sym (ap not (stays ∙ e))

values-read : (s w : Sub) (ks : List Coeff) → Each (λ k. is_compound (s k.x) ≡ false) ks → Each (λ k. through s (point w) k.x ≡ point (then_by s w) k.x) ks
values-read s w [] h = tt
values-read s w (k ∷ ks) h = (by (s k.x) refl, values-read s w ks h.1)
  where
    by : (z : Tm) → s k.x ≡ z → read_as (point w) k.x (s k.x) ≡ number_of (under w (s k.x))
    by (var y) e = ap (read_as (point w) k.x) e ∙ sym (ap (λ t. number_of (under w t)) e)
    by (num q) e = ap (read_as (point w) k.x) e ∙ sym (ap (λ t. number_of (under w t)) e)
    by (app f us) e = absurd (true≢false (sym (ap is_compound e) ∙ h.0))

values-back : (s w : Sub) (ks : List Coeff) → Each (λ k. is_compound (s k.x) ≡ false) ks → Each (λ k. point (then_by s w) k.x ≡ through s (point w) k.x) ks
values-back s w [] h = tt
values-back s w (k ∷ ks) h = (sym (values-read s w (k ∷ ks) h).0, values-back s w ks h.1)

pub same-truth : (a b : Bool) → (a ≡ true → b ≡ true) → (b ≡ true → a ≡ true) → a ≡ b
same-truth true b to from = sym (to refl)
same-truth false true to from = from refl
same-truth false false to from = refl

row-read : (s w : Sub) (r : Linear) → Absorbs s s → IsReadableRow s r → row_holds w (row_under s r) ≡ row_holds (then_by s w) r
row-read s w r a h =
    let k = resolved s r h.row a h.normal h.read in
    let same : row_under s r ≡ h.row = ap (row_or r) (sym h.read) in
    ap (row_holds w) same ∙ same-truth (row_holds w h.row) (row_holds (then_by s w) r)
    (λ e. (bridge (then_by s w) r).1 (holds-same (through s (point w)) (point (then_by s w)) r (values-read s w r.coeffs h.flat) ((k.1 (point w)).0 ((bridge w h.row).0 e))))
    (λ e. (bridge w h.row).1 ((k.1 (point w)).1 (holds-same (point (then_by s w)) (through s (point w)) r (values-back s w r.coeffs h.flat) ((bridge (then_by s w) r).0 e))))

pub con-read : (s w : Sub) (c : Con) → Absorbs s s → IsReadable s c → holds w (con_under s c) ≡ holds (then_by s w) c
con-read s w (con.Eq t u) a h = λ i. same_tm (term-read s w (tm_of t) i) (term-read s w (tm_of u) i)
con-read s w (con.Neq t u) a h = λ i. not (same_tm (term-read s w (tm_of t) i) (term-read s w (tm_of u) i))
con-read s w (con.NotShape x f n) a h = shape-read w f n (s x)
con-read s w (con.Num t) a h = ap is_number (term-read s w (tm_of t))
con-read s w (con.NotNum t) a h = ap (λ z. not (is_number z)) (term-read s w (tm_of t))
con-read s w (con.Row r) a h = row-read s w r a h

list-read : (s w : Sub) (cs : List Con) → Absorbs s s → Each (IsReadable s) cs → list_all (holds w) (map (con_under s) cs) ≡ list_all (holds (then_by s w)) cs
list-read s w [] a h = refl
list-read s w (c ∷ cs) a h = λ i. con-read s w c a h.0 i && list-read s w cs a h.1 i

pub list-met : (s : Sub) (cs : List Con) → Absorbs s s → Each (IsReadable s) cs → SatUnder s cs ↔ Sat (map (con_under s) cs)
list-met s cs a h = (
  (λ k. record { by = k.by; meets = list-read s k.by.of cs a h ∙ k.meets }),
  (λ k. record { by = k.by; meets = sym (list-read s k.by.of cs a h) ∙ k.meets }),
)
