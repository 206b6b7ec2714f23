use Rattle.std.proofs.Common.{false, true, is_some, refl, sym, ◌∙◌}
use Rattle.std.specs.List.{list_all}
use Rattle.std.proofs.lemmas.Int.{to_z-of_z}
use Rattle.scasp_num.specs.Arithmetic.{in_range}
use Rattle.scasp_rows.specs.Steps.{pair_sum, pairs_fit, products}
use Rattle.scasp_rows.proofs.Fitting.{fits-by}
use Rattle.scasp_rows.proofs.range.sum_fits.Goals as goal

pub returns-then-not-products_fit : goal.returns-then-not-products_fit
returns-then-not-products_fit c =
    let ra = c.ranges.a in
    let rb = c.ranges.b in
    let a = c.args.a in
    let b = c.args.b in
    let p = c.args.p.now in
    let q = c.args.q.now in
    let ks = c.as_slice-first.result.now in
    let js = c.as_slice-second.result.now in
    fits-by a b p q ks js c.coeffs.ensures.normal c.coeffs-2.ensures.normal (c.as_slice-first.ensures ∙ c.coeffs.ensures.value) (c.as_slice-second.ensures ∙ c.coeffs-2.ensures.value) false (list_all in_range (products b js)) (pairs_fit a p.coeffs b js) (is_some (pair_sum a p.constant b q.constant))
    (sym c.if-not-products_fit.true ∙ simp to_z-of_z at c.products_fit.ensures) refl refl refl

pub returns-then-not-products_fit-2 : goal.returns-then-not-products_fit-2
returns-then-not-products_fit-2 c =
    let ra = c.ranges.a in
    let rb = c.ranges.b in
    let a = c.args.a in
    let b = c.args.b in
    let p = c.args.p.now in
    let q = c.args.q.now in
    let ks = c.as_slice-first.result.now in
    let js = c.as_slice-second.result.now in
    fits-by a b p q ks js c.coeffs.ensures.normal c.coeffs-2.ensures.normal (c.as_slice-first.ensures ∙ c.coeffs.ensures.value) (c.as_slice-second.ensures ∙ c.coeffs-2.ensures.value) true false (pairs_fit a p.coeffs b js) (is_some (pair_sum a p.constant b q.constant))
    (sym c.if-not-products_fit.false ∙ simp to_z-of_z at c.products_fit.ensures) (sym c.if-not-products_fit-2.true ∙ simp to_z-of_z at c.products_fit-2.ensures) refl refl

pub returns-then-not-pairs_fit : goal.returns-then-not-pairs_fit
returns-then-not-pairs_fit c =
    let ra = c.ranges.a in
    let rb = c.ranges.b in
    let a = c.args.a in
    let b = c.args.b in
    let p = c.args.p.now in
    let q = c.args.q.now in
    let ks = c.as_slice-first.result.now in
    let js = c.as_slice-second.result.now in
    fits-by a b p q ks js c.coeffs.ensures.normal c.coeffs-2.ensures.normal (c.as_slice-first.ensures ∙ c.coeffs.ensures.value) (c.as_slice-second.ensures ∙ c.coeffs-2.ensures.value) true true false (is_some (pair_sum a p.constant b q.constant))
    (sym c.if-not-products_fit.false ∙ simp to_z-of_z at c.products_fit.ensures) (sym c.if-not-products_fit-2.false ∙ simp to_z-of_z at c.products_fit-2.ensures) (sym c.if-not-pairs_fit.true ∙ simp to_z-of_z at c.pairs_fit.ensures) refl

pub returns : goal.returns
returns c =
    let ra = c.ranges.a in
    let rb = c.ranges.b in
    let a = c.args.a in
    let b = c.args.b in
    let p = c.args.p.now in
    let q = c.args.q.now in
    let ks = c.as_slice-first.result.now in
    let js = c.as_slice-second.result.now in
    fits-by a b p q ks js c.coeffs.ensures.normal c.coeffs-2.ensures.normal (c.as_slice-first.ensures ∙ c.coeffs.ensures.value) (c.as_slice-second.ensures ∙ c.coeffs-2.ensures.value) true true true c.constants_fit.result
    (sym c.if-not-products_fit.false ∙ simp to_z-of_z at c.products_fit.ensures) (sym c.if-not-products_fit-2.false ∙ simp to_z-of_z at c.products_fit-2.ensures) (sym c.if-not-pairs_fit.false ∙ simp to_z-of_z at c.pairs_fit.ensures) (simp to_z-of_z at c.constants_fit.ensures)
