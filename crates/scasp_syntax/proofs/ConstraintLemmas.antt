-- What the tests of numbers and shapes say of a value.
use Rattle.std.proofs.Common.{◌≡◌, ◌≢◌, ◌↔◌, ℕ, Bool, true, false, not, ◌&&◌, nat_eq, IsTrue, length, refl, ap, ◌∙◌}
use Rattle.std.proofs.lemmas.Bool.{and_from, and_parts}
use Rattle.std.proofs.lemmas.Bool.Decides.{Decides-eqb}
use Rattle.scasp_num.specs.Number.{Number}
use Rattle.scasp_syntax.specs.Constraints.{is_number, has_shape}
use Rattle.scasp_syntax.specs.Tm.{Tm, Tms, var, num, app, items}

pub number-decided : (t : Tm) → IsTrue (is_number t) ↔ ((q : Number) × (t ≡ num q))
number-decided (var x) = (λ h. cc, λ (q, e). cc)
number-decided (num q) = (λ h. (q, refl), λ h. refl)
number-decided (app f ts) = (λ h. cc, λ (q, e). cc)

pub no_number-decided : (t : Tm) → IsTrue (not (is_number t)) ↔ ((q : Number) → t ≢ num q)
no_number-decided (var x) = (λ h q e. cc, λ h. refl)
no_number-decided (num q) = (λ h. cc, λ h. absurd (h q refl))
no_number-decided (app f ts) = (λ h q e. cc, λ h. refl)

pub shape-decided : (name arity : ℕ) (t : Tm) → IsTrue (not (has_shape name arity t)) ↔ ((ts : Tms) → length (items ts) ≡ arity → t ≢ app name ts)
shape-decided name arity (var x) = (λ h ts e f. cc, λ h. refl)
shape-decided name arity (num q) = (λ h ts e f. cc, λ h. refl)
shape-decided name arity (app g us) = (there, by (nat_eq g name && nat_eq (length (items us)) arity) refl)
  where
    there : IsTrue (not (nat_eq g name && nat_eq (length (items us)) arity)) → (ts : Tms) → length (items ts) ≡ arity → app g us ≢ app name ts
    there h ts e f =
        let same : us ≡ ts = cc in
        let named : g ≡ name = cc in
        let all = and_from (nat_eq g name) (nat_eq (length (items us)) arity) ((Decides-eqb g name).1 named) ((Decides-eqb (length (items us)) arity).1 (ap (λ ts. length (items ts)) same ∙ e)) in
        cc

    by : (b : Bool) → (nat_eq g name && nat_eq (length (items us)) arity) ≡ b → ((ts : Tms) → length (items ts) ≡ arity → app g us ≢ app name ts) → IsTrue (not b)
    by false e h = refl
    by true e h =
        let p = and_parts (nat_eq g name) (nat_eq (length (items us)) arity) e in
        absurd (h us ((Decides-eqb (length (items us)) arity).0 p.1) (ap (λ f. app f us) ((Decides-eqb g name).0 p.0)))
