use Rattle.std.proofs.Common.{◌∙◌, None, Some, map, sym, ap, subst}
use Rattle.scasp_list.specs.Each.{Each}
use Rattle.scasp_num.specs.Number.{InRange}
use Rattle.scasp_num.specs.Sums.{normal_of}
use Rattle.scasp_num.proofs.Numbers.{stored}
use Rattle.scasp_lines_places.specs.Dues.Wholes.{integer, pair_of}
use Rattle.scasp_answers_lines.specs.Rows.Inside.{linear_of}
use Rattle.scasp_answers_lines.proofs.RowsLemmas.RowLemmas.{same-kept, other-kept, differ, row-range, constant-range}
use Rattle.scasp_answers_lines.proofs.rows.rows.normal_row.Goals as goal

pub pairs_of-requires : goal.pairs_of-requires
pairs_of-requires c = subst (Each (λ k. InRange k.c)) (sym c.as_slice.ensures.value) (row-range (linear_of c.args.sum.now c.args.op) c.requires)

pub returns-in-Ok : goal.returns-in-Ok
returns-in-Ok c = same-kept c.in-Ok.row (linear_of c.args.sum.now c.args.op) c.in-Ok.ensures.normal (sym c.is_row_of.ensures ∙ c.if-is_row_of.true)

pub returns-in-Ok-2 : goal.returns-in-Ok-2
returns-in-Ok-2 c =
    let r = linear_of c.args.sum.now c.args.op in
    let pairs = c.in_ok-pairs.ensures ∙ ap (map pair_of) c.as_slice.ensures.value in
    let constant = c.integer_number-constant.ensures ∙ ap integer (stored r.constant (constant-range r c.requires)) in
    other-kept r (Some c.in-Ok.row) (c.in-Ok.ensures.exact ∙ (λ i. normal_of (pairs i) (constant i) c.args.op)) (differ c.in-Ok.row r (sym c.is_row_of.ensures ∙ c.if-is_row_of.false))

pub returns-in-Err-Overflow : goal.returns-in-Err-Overflow
returns-in-Err-Overflow c =
    let r = linear_of c.args.sum.now c.args.op in
    let pairs = c.in_ok-pairs.ensures ∙ ap (map pair_of) c.as_slice.ensures.value in
    let constant = c.integer_number-constant.ensures ∙ ap integer (stored r.constant (constant-range r c.requires)) in
    let none = rw (c.in-Err-Overflow.is, c.in-Err-Overflow.field-0-is) at c.normal.ensures.exact in
    other-kept r None (none ∙ (λ i. normal_of (pairs i) (constant i) c.args.op)) (λ e. cc)
