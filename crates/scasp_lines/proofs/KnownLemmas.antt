-- Terms and constraints of which all variables are known have the same value wherever what is known has.
use Rattle.std.proofs.Common.{◌≡◌, ℕ, Bool, true, not, ℤ, ◌+ℤ◌, ◌*ℤ◌, List, [], ◌∷◌, refl, ap}
use Rattle.std.specs.List.{list_all}
use Rattle.std.proofs.lemmas.Bool.{and_parts, and_from}
use Rattle.scasp_num.specs.declared.linear.Coeff.{Coeff}
use Rattle.scasp_num.specs.Linear.{compares}
use Rattle.scasp_num.specs.Values.{row_sum}
use Rattle.scasp_syntax.specs.Constraints.{holds, is_number, has_shape}
use Rattle.scasp_syntax.specs.Tm.{Tm, Tms, var, num, app, nil, cons}
use Rattle.scasp_syntax.specs.Values.{Sub, under, all_under}
use Rattle.scasp_syntax.specs.View.{tm_of}
use Rattle.scasp_syntax.specs.RowTruth.{point}
use Rattle.scasp_syntax.specs.declared.con.Con.{Con}
use Rattle.scasp_syntax.specs.declared.con.Con.TheVariants as con
use Rattle.scasp_lines.specs.Known.{is_known, are_known, is_con_known}

module _ (k : ℕ → Bool) (v w : Sub) (agree : (x : ℕ) → k x ≡ true → v x ≡ w x) where
  mutual
    pub agree-tm : (t : Tm) → is_known k t ≡ true → under v t ≡ under w t
    agree-tm (var x) h = agree x h
    agree-tm (num q) h = refl
    agree-tm (app f ts) h = ap (app f) (agree-tms ts h)

    pub agree-tms : (ts : Tms) → are_known k ts ≡ true → all_under v ts ≡ all_under w ts
    agree-tms nil h = refl
    agree-tms (cons t ts) h =
        let p = and_parts (is_known k t) (are_known k ts) h in
        let a = agree-tm t p.0 in let b = agree-tms ts p.1 in cc

  agree-sum : (ks : List Coeff) → list_all (λ (j : Coeff). k j.x) ks ≡ true → row_sum (point v) ks ≡ row_sum (point w) ks
  agree-sum [] h = refl
  agree-sum (j ∷ ks) h =
      let p = and_parts (k j.x) (list_all (λ (i : Coeff). k i.x) ks) h in
      let a = agree j.x p.0 in let b = agree-sum ks p.1 in cc

  pub agree-con : (c : Con) → is_con_known k c ≡ true → holds v c ≡ holds w c
  agree-con (con.Eq t s) h =
      let p = and_parts (is_known k (tm_of t)) (is_known k (tm_of s)) h in
      let a = agree-tm (tm_of t) p.0 in let b = agree-tm (tm_of s) p.1 in cc
  agree-con (con.Neq t s) h =
      let p = and_parts (is_known k (tm_of t)) (is_known k (tm_of s)) h in
      let a = agree-tm (tm_of t) p.0 in let b = agree-tm (tm_of s) p.1 in cc
  agree-con (con.NotShape x name arity) h = ap (λ z. not (has_shape name arity z)) (agree x h)
  agree-con (con.Num t) h = ap is_number (agree-tm (tm_of t) h)
  agree-con (con.NotNum t) h = ap (λ z. not (is_number z)) (agree-tm (tm_of t) h)
  agree-con (con.Row r) h = ap (λ (z : ℤ × ℤ). compares r.op (z.0 +ℤ r.constant *ℤ z.1)) (agree-sum r.coeffs h)

-- what is known stays known where more is
mutual
  pub wider-tm : (k j : ℕ → Bool) → ((x : ℕ) → k x ≡ true → j x ≡ true) → (t : Tm) → is_known k t ≡ true → is_known j t ≡ true
  wider-tm k j w (var x) h = w x h
  wider-tm k j w (num q) h = refl
  wider-tm k j w (app f ts) h = wider-tms k j w ts h

  pub wider-tms : (k j : ℕ → Bool) → ((x : ℕ) → k x ≡ true → j x ≡ true) → (ts : Tms) → are_known k ts ≡ true → are_known j ts ≡ true
  wider-tms k j w nil h = refl
  wider-tms k j w (cons t ts) h =
      let p = and_parts (is_known k t) (are_known k ts) h in
      and_from (is_known j t) (are_known j ts) (wider-tm k j w t p.0) (wider-tms k j w ts p.1)
