-- A sum that keeps a variable is no false row.
use Rattle.std.proofs.Common.{◌≡◌, ◌≢◌, ℕ, false, ◌&&◌, not, Some, None, Option, ℤ, pos, ◌+ℤ◌, ◌*ℤ◌, sym, ap, ◌∙◌, refl, FitsSigned}
use Rattle.std.specs.Prelude.{if◌then◌else◌}
use Rattle.std.specs.Int.{w128}
use Rattle.std.proofs.lemmas.Int.{fits_signed_from_abs}
use Rattle.std.proofs.Math.IntN.{*ℤ_comm, zero-*ℤ}
use Rattle.scasp_num.specs.declared.hints.Step.{Step}
use Rattle.scasp_num.specs.Linear.{Linear, IsNormal, compares}
use Rattle.scasp_num.proofs.Integers.{*ℤ_assoc, +ℤ-*ℤ}
use Rattle.scasp_rows.specs.declared.outlook.Outlook.TheVariants as outlook
use Rattle.scasp_rows.specs.declared.state.Standing.{Standing}
use Rattle.scasp_rows.specs.Steps.{row_sum}
use Rattle.scasp_rows.specs.Elimination.{factor, share, size_over}
use Rattle.scasp_rows.specs.Inside.Outlooks.{meeting, met_outlook, outlook_of, is_falsified, size_of}
use Rattle.scasp_rows.proofs.Shares.{share-dvd_left, share-dvd_right, size_over-times}
use Rattle.scasp_rows.proofs.StepRanges.{factor-range}
use Rattle.scasp_rows.proofs.Values.{row_sum-open}

pub factor-fits : (x : ℕ) (r : Standing) → IsNormal r.row → FitsSigned w128 (factor x r)
factor-fits x r h = fits_signed_from_abs w128 (factor x r) (factor-range x r h)

pub size-fits : (x : ℕ) (r : Standing) → IsNormal r.row → FitsSigned w128 (size_of (factor x r))
size-fits x r h = fits_signed_from_abs w128 (size_of (factor x r)) (factor-range x r h)

moved-in : (a g c : ℤ) → (a *ℤ g) *ℤ c ≡ (a *ℤ c) *ℤ g
moved-in a g c = *ℤ_assoc a g c ∙ ap (λ z. a *ℤ z) (*ℤ_comm g c) ∙ sym (*ℤ_assoc a c g)

-- the sum of the sizes times the coefficients is that of the multipliers, times what both are divided by
sizes-sum : (x y : ℕ) (l u : Standing) → size_of (factor x u) *ℤ factor y l +ℤ size_of (factor x l) *ℤ factor y u ≡ (size_over (factor x u) (share (factor x l) (factor x u)) *ℤ factor y l +ℤ size_over (factor x l) (share (factor x l) (factor x u)) *ℤ factor y u) *ℤ pos (share (factor x l) (factor x u))
sizes-sum x y l u =
    let p = factor x l in
    let q = factor x u in
    let g = share p q in
    let a = size_over q g in
    let b = size_over p g in
    let first : size_of q *ℤ factor y l ≡ (a *ℤ factor y l) *ℤ pos g = ap (λ z. z *ℤ factor y l) (sym (size_over-times q g (share-dvd_right p q))) ∙ moved-in a (pos g) (factor y l) in
    let second : size_of p *ℤ factor y u ≡ (b *ℤ factor y u) *ℤ pos g = ap (λ z. z *ℤ factor y u) (sym (size_over-times p g (share-dvd_left p q))) ∙ moved-in b (pos g) (factor y u) in
    (λ i. first i +ℤ second i) ∙ sym (+ℤ-*ℤ (a *ℤ factor y l) (b *ℤ factor y u) (pos g))

pub kept-open : (x y : ℕ) (l u : Standing) → IsNormal l.row → IsNormal u.row → size_of (factor x u) *ℤ factor y l +ℤ size_of (factor x l) *ℤ factor y u ≢ pos 0 → false ≡ is_falsified (met_outlook x l u)
kept-open x y l u hl hu n = by (row_sum m.a l.row m.b u.row) refl
  where
    m : Step
    m = meeting x l u

    left : m.a *ℤ factor y l +ℤ m.b *ℤ factor y u ≢ pos 0
    left e = n (sizes-sum x y l u ∙ ap (λ z. z *ℤ pos (share (factor x l) (factor x u))) e ∙ zero-*ℤ (pos (share (factor x l) (factor x u))))

    by : (o : Option Linear) → o ≡ row_sum m.a l.row m.b u.row → false ≡ is_falsified (outlook_of o)
    by None e = refl
    by (Some row) e = ap (λ b. is_falsified (if b && not (compares row.op row.constant) then outlook.False else outlook.Open)) (sym (row_sum-open m.a l.row m.b u.row row e hl hu y left))
