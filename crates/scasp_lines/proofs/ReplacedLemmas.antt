-- What a split's side replaces has the same value wherever the side's constraint is true.
use Rattle.std.proofs.Common.{◌≡◌, ◌∙◌, ℕ, Bool, true, cond, nat_eq, Option, None, Some, List, ◌∷◌, refl, ap, sym, inl, inr}
use Rattle.std.specs.List.{list_all}
use Rattle.std.proofs.lemmas.Bool.{and_parts, cond_both, cond-true, cond-false, cases_Bool}
use Rattle.scasp_syntax.specs.Constraints.{holds}
use Rattle.scasp_syntax.specs.Tm.{Tm, Tms, var, num, app, nil, cons}
use Rattle.scasp_syntax.specs.Values.{Sub, under, all_under}
use Rattle.scasp_syntax.specs.View.{tm_of}
use Rattle.scasp_syntax.specs.declared.con.Con.{Con}
use Rattle.scasp_syntax.specs.declared.con.Con.TheVariants as con
use Rattle.scasp_syntax.proofs.SameLemmas.{tm_decided}
use Rattle.scasp_syntax.proofs.ValueLemmas.{under-under}
use Rattle.scasp_lines.specs.Opened.{Opened, assumed, shaped, is_met}
use Rattle.scasp_unify.specs.Negations.{new_parts, negated}
use Rattle.scasp_lines.specs.Places.{Place}
use Rattle.scasp_lines.specs.Sides.{Shape, sides_by, replacing, also_replaced, replaced_by, replaced_on}
use Rattle.scasp_lines.specs.Surroundings.{IsReplaced}
use Rattle.scasp_lines.proofs.PartLemmas.{nat-eq}

mutual
  under-alike : (v w : Sub) → ((x : ℕ) → v x ≡ w x) → (t : Tm) → under v t ≡ under w t
  under-alike v w a (var x) = a x
  under-alike v w a (num q) = refl
  under-alike v w a (app f ts) = ap (app f) (all-alike v w a ts)

  all-alike : (v w : Sub) → ((x : ℕ) → v x ≡ w x) → (ts : Tms) → all_under v ts ≡ all_under w ts
  all-alike v w a nil = refl
  all-alike v w a (cons t ts) = let p = under-alike v w a t in let q = all-alike v w a ts in cc

-- where u has the value of t, u may be replaced by t in what was replaced before
also-same : (v old : Sub) (u : ℕ) (t : Tm) → v u ≡ under v t → ((x : ℕ) → v x ≡ under v (old x)) → (x : ℕ) → v x ≡ under v (also_replaced u t old x)
also-same v old u t e h x =
    h x ∙ under-alike v (λ y. under v (replacing u (under old t) y)) alike (old x) ∙ sym (under-under v (replacing u (under old t)) (old x))
  where
    alike : (y : ℕ) → v y ≡ under v (replacing u (under old t) y)
    alike y = elim (cases_Bool (nat_eq y u)) [
      | inl i ↦ ap v (nat-eq y u i) ∙ e ∙ under-alike v (λ z. under v (old z)) h t ∙ sym (under-under v old t) ∙ ap (under v) (sym (cond-true (nat_eq y u) (under old t) (var y) i))
      | inr i ↦ ap (under v) (sym (cond-false (nat_eq y u) (under old t) (var y) i))
    ]

module _ (universal : ℕ → Bool) (v old : Sub) (h : (x : ℕ) → v x ≡ under v (old x)) where
  where-same : (u : ℕ) (t : Tm) → v u ≡ under v t → (x : ℕ) → v x ≡ under v ((cond (universal u) (also_replaced u t old) old) x)
  where-same u t e x =
      cond_both (universal u) (also_replaced u t old) old (λ (r : Sub). v x ≡ under v (r x)) (λ _. also-same v old u t e h x) (λ _. h x)

  by-same : (t u : Tm) → under v t ≡ under v u → (x : ℕ) → v x ≡ under v (replaced_by universal t u old x)
  by-same (var y) u e = where-same y u e
  by-same (num q) (var y) e = where-same y (num q) (sym e)
  by-same (num q) (num r) e = h
  by-same (num q) (app g us) e = h
  by-same (app f ts) (var y) e = where-same y (app f ts) (sym e)
  by-same (app f ts) (num r) e = h
  by-same (app f ts) (app g us) e = h

  on-same : (c : Con) → holds v c ≡ true → (x : ℕ) → v x ≡ under v (replaced_on universal c old x)
  on-same (con.Eq t u) e = by-same (tm_of t) (tm_of u) ((tm_decided (under v (tm_of t)) (under v (tm_of u))).0 e)
  on-same (con.Neq t u) e = h
  on-same (con.NotShape x f n) e = h
  on-same (con.Num t) e = h
  on-same (con.NotNum t) e = h
  on-same (con.Row r) e = h

module _ (universal : ℕ → Bool) (next : ℕ) (here : Place) (r : IsReplaced here) where
  side-replaced : (c : Con) (d : List Tm) (v : Sub) → list_all (is_met d v) (assumed c ∷ here.opened) ≡ true → (x : ℕ) → v x ≡ under v (replaced_on universal c here.replaced x)
  side-replaced c d v m =
      let p = and_parts (holds v c) (list_all (is_met d v) here.opened) m in
      on-same universal v here.replaced (r d v p.1) c p.0

  shape-replaced : (s : Shape) (d : List Tm) (v : Sub) → list_all (is_met d v) (shaped s.of s.name next s.size ∷ here.opened) ≡ true
      → (x : ℕ) → v x ≡ under v ((cond (universal s.of) (also_replaced s.of (app s.name (new_parts next s.size)) here.replaced) here.replaced) x)
  shape-replaced s d v m =
      let p = and_parts (is_met d v (shaped s.of s.name next s.size)) (list_all (is_met d v) here.opened) m in
      where-same universal v here.replaced (r d v p.1) s.of (app s.name (new_parts next s.size))
      ((tm_decided (v s.of) (app s.name (all_under v (new_parts next s.size)))).0 p.0)

  other-replaced : (o : Opened) (d : List Tm) (v : Sub) → list_all (is_met d v) (o ∷ here.opened) ≡ true → (x : ℕ) → v x ≡ under v (here.replaced x)
  other-replaced o d v m = r d v (and_parts (is_met d v o) (list_all (is_met d v) here.opened) m).1

  pub first-replaced : (o : Option Shape) (c : Con) → IsReplaced (sides_by universal next o c here).first
  first-replaced None c = side-replaced c
  first-replaced (Some s) (con.Eq t u) = shape-replaced s
  first-replaced (Some s) (con.Neq t u) = other-replaced (assumed (con.NotShape s.of s.name s.size))
  first-replaced (Some s) (con.NotShape x f n) = r
  first-replaced (Some s) (con.Num t) = r
  first-replaced (Some s) (con.NotNum t) = r
  first-replaced (Some s) (con.Row l) = r

  pub second-replaced : (o : Option Shape) (c : Con) → IsReplaced (sides_by universal next o c here).second
  second-replaced None c = side-replaced (negated here.hidden c)
  second-replaced (Some s) (con.Eq t u) = other-replaced (assumed (con.NotShape s.of s.name s.size))
  second-replaced (Some s) (con.Neq t u) = shape-replaced s
  second-replaced (Some s) (con.NotShape x f n) = r
  second-replaced (Some s) (con.Num t) = r
  second-replaced (Some s) (con.NotNum t) = r
  second-replaced (Some s) (con.Row l) = r
