-- The simple form of a constraint holds exactly where the constraint does.
use Rattle.std.proofs.Common.{◌≡◌, ◌↔◌, ℕ, suc, Bool, true, false, ◌&&◌, not, nat_eq, IsTrue, List, [], ◌∷◌, map, length, Option, Some, None, refl, sym, ap, subst, ◌∙◌, arith}
use Rattle.std.specs.Prelude.{if◌then◌else◌}
use Rattle.std.proofs.lemmas.Bool.{and_parts, eqb-true}
use Rattle.std.proofs.lemmas.Bool.Decides.{Decides-eqb}
use Rattle.scasp_list.specs.Each.{Each}
use Rattle.scasp_syntax.specs.Same.{same_tm}
use Rattle.scasp_syntax.specs.Tm.{Tm, var, num, app, nil, cons, items}
use Rattle.scasp_syntax.specs.Values.{Sub, under}
use Rattle.scasp_syntax.specs.View.{tm_of}
use Rattle.scasp_syntax.specs.Constraints.{holds, has_shape}
use Rattle.scasp_unify.specs.Parts.{Part, parts, left_side, right_side}
use Rattle.scasp_syntax.specs.declared.con.Con.{Con}
use Rattle.scasp_syntax.specs.declared.con.Con.TheVariants as con
use Rattle.scasp_syntax.proofs.SameLemmas.{tm_decided}
use Rattle.scasp_unify.proofs.UnificationLemmas.{Fits, Says, parts-say}
use Rattle.scasp_unify.specs.SimpleForm.{term_with, list_term, differ, one_part, by_parts, simple}

-- two terms differ under the substitution
abbrev Differ : Sub → Tm → Tm → Type 0
Differ v t u = under v t ≡ under v u → ⊥

different : (a b : Tm) → IsTrue (not (same_tm a b)) ↔ (a ≡ b → ⊥)
different a b = ((λ e f. let g = (tm_decided a b).1 f in by (same_tm a b) g e), λ h. no (same_tm a b) (λ e. h ((tm_decided a b).0 e)))
  where
    by : (t : Bool) → t ≡ true → not t ≡ true → ⊥
    by true e f = cc
    by false e f = cc

    no : (t : Bool) → (t ≡ true → ⊥) → not t ≡ true
    no true h = absurd (h refl)
    no false h = refl

pub viewed : (t : Tm) → tm_of (term_with t) ≡ t
viewed (var x) = refl
viewed (num q) = refl
viewed (app f ts) = refl

differ-holds : (v : Sub) (t u : Tm) → IsTrue (holds v (differ t u)) ↔ Differ v t u
differ-holds v t u = subst (λ (a : Tm). IsTrue (not (same_tm (under v a) (under v (tm_of (term_with u))))) ↔ Differ v t u) (sym (viewed t)) (subst (λ (b : Tm). IsTrue (not (same_tm (under v t) (under v b))) ↔ Differ v t u) (sym (viewed u)) (different (under v t) (under v u)))

-- ---- the sides of parts

sides-fit : (v : Sub) (p : Part) → (under v (left_side p) ≡ under v (right_side p)) ↔ Fits v p
sides-fit v p = by p.turned
  where
    by : (b : Bool) → (under v (if b then p.term else var p.at) ≡ under v (if b then var p.at else p.term)) ↔ Fits v p
    by true = ((λ e. sym e), (λ e. sym e))
    by false = ((λ e. e), (λ e. e))

list-fits : (v : Sub) (ps : List Part) → (under v (list_term (map left_side ps)) ≡ under v (list_term (map right_side ps))) ↔ Each (Fits v) ps
list-fits v [] = ((λ e. tt), (λ h. refl))
list-fits v (p ∷ ps) = (
  (λ e.
      let head : under v (left_side p) ≡ under v (right_side p) = cc in
      let tail : under v (list_term (map left_side ps)) ≡ under v (list_term (map right_side ps)) = cc in
      ((sides-fit v p).0 head, (list-fits v ps).0 tail)),
  (λ h. λ i. app 1 (cons ((sides-fit v p).1 h.0 i) (cons ((list-fits v ps).1 h.1 i) nil))),
)

-- ---- a name

shape-is : (f : ℕ) (t : Tm) → has_shape f 0 t ≡ true → t ≡ app f nil
shape-is f (var x) e = cc
shape-is f (num q) e = cc
shape-is f (app g nil) e = let a = and_parts (nat_eq g f) true e in ap (λ n. app n nil) (eqb-true g f a.0)
shape-is f (app g (cons t ts)) e =
    let a = and_parts (nat_eq g f) (nat_eq (suc (length (items ts))) 0) e in
    let wrong = eqb-true (suc (length (items ts))) 0 a.1 in
    absurd (omega (arith, wrong))

is-shape : (f : ℕ) → has_shape f 0 (app f nil) ≡ true
is-shape f = let e : nat_eq f f ≡ true = (Decides-eqb f f).1 refl in ap (λ b. b && true) e

shape-differs : (f : ℕ) (t : Tm) → IsTrue (not (has_shape f 0 t)) ↔ (t ≡ app f nil → ⊥)
shape-differs f t = ((λ e g. by (has_shape f 0 t) (ap (has_shape f 0) g ∙ is-shape f) e), λ h. no (has_shape f 0 t) (λ e. h (shape-is f t e)))
  where
    by : (b : Bool) → b ≡ true → not b ≡ true → ⊥
    by true e f = cc
    by false e f = cc

    no : (b : Bool) → (b ≡ true → ⊥) → not b ≡ true
    no true h = absurd (h refl)
    no false h = refl

one-holds : (v : Sub) (p : Part) → IsTrue (holds v (one_part p p.term)) ↔ (Fits v p → ⊥)
one-holds v p = by p.term refl
  where
    plain : IsTrue (holds v (differ (left_side p) (right_side p))) ↔ (Fits v p → ⊥)
    plain = let d = differ-holds v (left_side p) (right_side p) in let s = sides-fit v p in ((λ e f. d.0 e (s.1 f)), (λ h. d.1 (λ e. h (s.0 e))))

    by : (t : Tm) → p.term ≡ t → IsTrue (holds v (one_part p t)) ↔ (Fits v p → ⊥)
    by (app f nil) e = let d = shape-differs f (v p.at) in ((λ g h. d.0 g (h ∙ ap (under v) e)), (λ h. d.1 (λ g. h (g ∙ sym (ap (under v) e)))))
    by (app f (cons t ts)) e = plain
    by (num q) e = plain
    by (var y) e = plain

-- ---- all forms

pub simple-holds : (v : Sub) (c : Con) → IsTrue (holds v (simple c)) ↔ IsTrue (holds v c)
simple-holds v (con.Eq t u) = ((λ e. e), (λ e. e))
simple-holds v (con.NotShape x f n) = ((λ e. e), (λ e. e))
simple-holds v (con.Num t) = ((λ e. e), (λ e. e))
simple-holds v (con.NotNum t) = ((λ e. e), (λ e. e))
simple-holds v (con.Row r) = ((λ e. e), (λ e. e))
simple-holds v (con.Neq t u) = by (parts (tm_of t) (tm_of u)) (parts-say v (tm_of t) (tm_of u))
  where
    by : (o : Option (List Part)) → Says v o (under v (tm_of t) ≡ under v (tm_of u)) → IsTrue (holds v (by_parts (con.Neq t u) o)) ↔ IsTrue (holds v (con.Neq t u))
    by None s = ((λ e. e), (λ e. e))
    by (Some []) s = ((λ e. e), (λ e. e))
    by (Some (p ∷ [])) s =
        let d = different (under v (tm_of t)) (under v (tm_of u)) in
        let o = one-holds v p in
        ((λ e. d.1 (λ g. o.0 e (s.0 g).0)), (λ e. o.1 (λ f. d.0 e (s.1 (f, tt)))))
    by (Some (p ∷ q ∷ ps)) s =
        let d = different (under v (tm_of t)) (under v (tm_of u)) in
        let l = list-fits v (p ∷ q ∷ ps) in
        let o = differ-holds v (list_term (map left_side (p ∷ q ∷ ps))) (list_term (map right_side (p ∷ q ∷ ps))) in
        ((λ e. d.1 (λ g. o.0 e (l.1 (s.0 g)))), (λ e. o.1 (λ f. d.0 e (s.1 (l.0 f)))))
