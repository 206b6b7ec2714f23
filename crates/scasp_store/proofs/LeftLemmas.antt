-- A row that leaves a variable one number fails where the variable is bound to another one.
use Rattle.std.proofs.Common.{◌≡◌, ℕ, Bool, true, false, ◌&&◌, ◌||◌, nat_eq, if◌then◌else◌, IfSome, List, [], ◌∷◌, ◌++◌, Option, None, Some, slice_get, refl, sym, ap, subst, ◌∙◌}
use Rattle.std.specs.List.{list_all}
use Rattle.std.proofs.lemmas.Bool.{and_from, and_parts, eqb-true, true≢false}
use Rattle.std.proofs.lemmas.Bool.Decides.{Decides-eqb}
use Rattle.scasp_bound.specs.Bounds.{bound_in, is_bound_in}
use Rattle.scasp_law_parts.specs.Bound.{Triangular, equations}
use Rattle.scasp_law_parts.proofs.TriangularLemmas.{more-triangular, solved-self}
use Rattle.scasp_list.specs.Each.{Each}
use Rattle.scasp_num.specs.Number.{Number}
use Rattle.scasp_num.specs.declared.linear.Coeff.{Coeff}
use Rattle.scasp_search_rules.specs.Successors.Regions.{equation}
use Rattle.scasp_search_rules.specs.Successors.Variables.{binding}
use Rattle.scasp_syntax.specs.Constraints.{holds, is_number}
use Rattle.scasp_syntax.specs.Same.{same_number}
use Rattle.scasp_syntax.specs.Tm.{Tm, var, num, app}
use Rattle.scasp_syntax.specs.Values.{Sub, under}
use Rattle.scasp_syntax.specs.View.{tm_of}
use Rattle.scasp_syntax.specs.declared.con.Con.{Con}
use Rattle.scasp_syntax.specs.declared.con.Con.TheVariants as con
use Rattle.scasp_syntax.proofs.SameLemmas.{tm_decided}
use Rattle.scasp_syntax.proofs.ValueLemmas.{under-under}
use Rattle.scasp_unify.specs.Resolver.{Equal}
use Rattle.scasp_unify.specs.Solving.{sub_of}
use Rattle.scasp_unify.specs.Unification.{single, then_by}
use Rattle.scasp_unify.specs.declared.bindings.Binding.{Binding}
use Rattle.scasp_unify.proofs.SolvingLemmas.{sub-push}
use Rattle.scasp_store.specs.Inside.Asking.{is_told}
use Rattle.scasp_store.specs.Inside.Failing.{IsFalse, has_numbers}
use Rattle.scasp_store.specs.Inside.Leaving.{IsLeftBy, is_about}
use Rattle.scasp_store.specs.Inside.Open.{GoodOf}
use Rattle.scasp_store.specs.Leaving.{IsLeft}
use Rattle.scasp_store.specs.declared.rest.Rest.{Rest}
use Rattle.scasp_store.proofs.FailLemmas.{false_fails}
use Rattle.scasp_store.proofs.NewLemmas.{new_binding, turned}

-- ---- bindings

-- an unbound variable reads as itself
unbound-self : (bs : List Binding) (x : ℕ) → is_bound_in bs x ≡ false → sub_of bs x ≡ var x
unbound-self [] x e = refl
unbound-self (b ∷ bs) x e = by (nat_eq b.x x) refl e (unbound-self bs x)
  where
    by : (c : Bool) → nat_eq b.x x ≡ c → (c || is_bound_in bs x) ≡ false → (is_bound_in bs x ≡ false → sub_of bs x ≡ var x) → under (sub_of bs) (single b.x (tm_of b.term) x) ≡ var x
    by true k f later = absurd (true≢false f)
    by false k f later =
        let apart : nat_eq x b.x ≡ false = turned b.x x k in
        ap (λ (c : Bool). under (sub_of bs) (if c then tm_of b.term else var x)) apart ∙ later f

-- what makes the equations true reads a bound variable as it reads its term
followed : (v : Sub) (bs : List Binding) (x : ℕ) (b : Binding) → Each (Equal v) (equations bs) → bound_in x bs ≡ Some b → v x ≡ under v (tm_of b.term)
followed v [] x b e f = absurd (cc f)
followed v (c ∷ bs) x b e f = by (nat_eq c.x x) refl f (followed v bs x b e.1)
  where
    by : (d : Bool) → nat_eq c.x x ≡ d → (if d then Some c else bound_in x bs) ≡ Some b → (bound_in x bs ≡ Some b → v x ≡ under v (tm_of b.term)) → v x ≡ under v (tm_of b.term)
    by true k g later =
        let same : c ≡ b = cc g in
        sym (ap v (eqb-true c.x x k)) ∙ e.0 ∙ ap (λ (a : Binding). under v (tm_of a.term)) same
    by false k g later = later g

-- a term and what it was led to read alike, and so does the term of the next binding
pub reached_next : (bs : List Binding) (x : ℕ) (b : Binding) (t : Tm) → Some b ≡ bound_in x bs → (Triangular bs → under (sub_of bs) (var x) ≡ under (sub_of bs) t) → Triangular bs
    → under (sub_of bs) (tm_of b.term) ≡ under (sub_of bs) t
reached_next bs x b t f h r = sym (followed (sub_of bs) bs x b (solved-self bs r) (sym f)) ∙ h r

each-parts : (v : Sub) (fs : List Binding) (b : Binding) → Each (Equal v) (equations (fs ++ b ∷ [])) → Each (Equal v) (equations fs) × Equal v (equation b)
each-parts v [] b e = (tt, e.0)
each-parts v (f ∷ fs) b e = let k = each-parts v fs b e.1 in ((e.0, k.0), k.1)

-- the equations stay true where the variables that are left get values
each-later : (s v : Sub) (bs : List Binding) → Each (Equal s) (equations bs) → Each (Equal (then_by s v)) (equations bs)
each-later s v [] e = tt
each-later s v (b ∷ bs) e = (ap (under v) e.0 ∙ under-under v s (tm_of b.term), each-later s v bs e.1)

-- ---- a row that leaves one number

-- what is a number or x is a number where x is bound to one
told-number : (x : ℕ) (r : Number) (t : Tm) → is_told (x ∷ []) t ≡ true → is_number (under (single x (num r)) t) ≡ true
told-number x r (var y) h = by (nat_eq y x) refl h
  where
    by : (c : Bool) → nat_eq y x ≡ c → (c || false) ≡ true → is_number (if c then num r else var y) ≡ true
    by true k g = refl
    by false k g = absurd (true≢false (sym g))
told-number x r (num q) h = refl
told-number x r (app f ts) h = absurd (true≢false (sym h))

row-numbers : (s : Sub) (x : ℕ) (r : Number) (ks : List Coeff) → list_all (λ k. is_told (x ∷ []) (s k.x)) ks ≡ true → list_all (λ k. is_number (then_by s (single x (num r)) k.x)) ks ≡ true
row-numbers s x r [] h = refl
row-numbers s x r (k ∷ ks) h =
    let p = and_parts (is_told (x ∷ []) (s k.x)) (list_all (λ k. is_told (x ∷ []) (s k.x)) ks) h in
    and_from (is_number (then_by s (single x (num r)) k.x)) (list_all (λ k. is_number (then_by s (single x (num r)) k.x)) ks) (told-number x r (s k.x) p.0) (row-numbers s x r ks p.1)

con-numbers : (s : Sub) (x : ℕ) (r : Number) (c : Con) → is_about s x c ≡ true → has_numbers (then_by s (single x (num r))) c ≡ true
con-numbers s x r (con.Row l) h = row-numbers s x r l.coeffs h
con-numbers s x r (con.Eq t u) h = absurd (true≢false (sym h))
con-numbers s x r (con.Neq t u) h = absurd (true≢false (sym h))
con-numbers s x r (con.NotShape y f n) h = absurd (true≢false (sym h))
con-numbers s x r (con.Num t) h = absurd (true≢false (sym h))
con-numbers s x r (con.NotNum t) h = absurd (true≢false (sym h))

other-false : (bs : List Binding) (c : Con) (x : ℕ) (q r : Number) → Triangular (bs ++ binding x (num r) ∷ []) → IsLeftBy bs c x q → same_number q r ≡ false → IsFalse (sub_of (bs ++ binding x (num r) ∷ [])) c
other-false bs c x q r t h n = record {
  numbers = subst (λ (v : Sub). has_numbers v c ≡ true) (sym (sub-push bs (binding x (num r)))) (con-numbers (sub_of bs) x r c h.about);
  never = λ v. by v (holds (then_by all v) c) refl;
}
  where
    all : Sub
    all = sub_of (bs ++ binding x (num r) ∷ [])

    by : (v : Sub) (b : Bool) → holds (then_by all v) c ≡ b → b ≡ false
    by v false e = refl
    by v true e =
        let k = each-parts (then_by all v) bs (binding x (num r)) (each-later all v (bs ++ binding x (num r) ∷ []) (solved-self (bs ++ binding x (num r) ∷ []) t)) in
        let other : then_by all v x ≡ num r = k.1 in
        let only : then_by all v x ≡ num q = h.leaves.only (then_by all v) k.0 (ap is_number other) e in
        let same : same_number q r ≡ true = (tm_decided (num q) (num r)).1 (sym only ∙ other) in
        absurd (true≢false (sym same ∙ n))

left-at : (bs : List Binding) (cs : List Con) (i : ℕ) (c : Con) (x : ℕ) (q : Number) → Triangular bs → is_bound_in bs x ≡ false → Some c ≡ slice_get cs i → IsLeftBy bs c x q → IsLeft bs cs x q
left-at bs cs i c x q t e g h = record {
  unbound = unbound-self bs x e;
  others = λ r more n.
      let new = new_binding bs (binding x (num r)) e refl in
      let tri = more-triangular bs (binding x (num r)) t new.0 new.1 in
      false_fails (bs ++ binding x (num r) ∷ []) cs more tri (record { at = i; con = c; there = g; fails = other-false bs c x q r tri h n });
}

pub left_some : (bs : List Binding) (cs : List Con) (i : ℕ) (c : Con) (x : ℕ) (o : Option Number) → Some c ≡ slice_get cs i → is_bound_in bs x ≡ false → (Triangular bs → IfSome o (IsLeftBy bs c x))
    → Triangular bs → IfSome o (IsLeft bs cs x)
left_some bs cs i c x None g e h t = tt
left_some bs cs i c x (Some q) g e h t = left-at bs cs i c x q t e g (h t)

-- ---- what is known

pub good_triangular : (bs : List Binding) (cs : List Con) (r : Rest) → GoodOf bs cs r → Triangular bs
good_triangular bs cs r h = h.triangular
