use Rattle.std.proofs.Common.{◌+◌, ℕ, List, map, drop, get_or, pos, unsigned_abs, FitsSigned, sym, ap, ◌∙◌, arith, rules}
use Rattle.std.specs.Int.{w128}
use Rattle.std.proofs.lemmas.Int.{to_z-of_z}
use Rattle.std.proofs.lemmas.List.{at_drop_more, at_drop_all}
use Rattle.scasp_num.specs.declared.linear.Coeff.{Coeff}
use Rattle.scasp_num.specs.Gcd.{gcd}
use Rattle.scasp_num.specs.Linear.{common_divisor}
use Rattle.scasp_num.proofs.Gcds.{gcd_assoc, gcd-zero}
use Rattle.scasp_num.proofs.normal.common_divisor.Goals as goal

pub loop-k-preserved : goal.loop-k-preserved
loop-k-preserved c =
    let xs = c.args.coeffs.now in
    let i = c.loop-k.k-index in
    let none : Coeff = record { x = 0; c = pos 0 } in
    let k = get_or xs i none in
    let g = c.loop-k.g in
    let rest = common_divisor (map (λ (k : Coeff). k.c) (drop (i + 1) xs)) in
    let fits : FitsSigned w128 k.c = search rules in
    let F : List Coeff → ℕ = λ ks. gcd g (common_divisor (map (λ (k : Coeff). k.c) ks)) in
    let size = c.unsigned_abs.ensures.value ∙ ap unsigned_abs (to_z-of_z w128 k.c fits) in
    ap (λ x. gcd x rest) (c.gcd-g.ensures.value ∙ ap (gcd g) size) ∙ gcd_assoc g (unsigned_abs k.c) rest ∙ sym (at_drop_more F xs i none (omega arith)) ∙ c.loop-k.invariant

pub returns : goal.returns
returns c =
    let xs = c.args.coeffs.now in
    let i = c.loop-k.k-index in
    let g = c.loop-k.g in
    let F : List Coeff → ℕ = λ ks. gcd g (common_divisor (map (λ (k : Coeff). k.c) ks)) in
    sym (gcd-zero g) ∙ sym (at_drop_all F xs i (omega arith)) ∙ c.loop-k.invariant ∙ ap (λ z. gcd (unsigned_abs z) (common_divisor (map (λ (k : Coeff). k.c) xs))) (to_z-of_z w128 c.args.constant c.ranges.constant)
