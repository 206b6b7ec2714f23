use Rattle.std.proofs.Common.{◌≡◌, ◌∙◌, Some, map, ap, sym, subst}
use Rattle.scasp_num.proofs.Numbers.{some-same, stored}
use Rattle.scasp_num.specs.Number.{InRange}
use Rattle.scasp_num.specs.Sums.{normal_of}
use Rattle.scasp_checker_rules.specs.PairLists.{row_raised}
use Rattle.scasp_lines_places.specs.Dues.Wholes.{integer, raised_pair}
use Rattle.scasp_lines_places.proofs.DuesLemmas.NormalLemmas.{raised-of}
use Rattle.scasp_lines_places.proofs.dues.raised.raised_row.Goals as goal

pub returns-in-Ok : goal.returns-in-Ok
returns-in-Ok c =
    let pairs = c.in_ok-pairs.ensures ∙ ap (map (raised_pair c.args.free c.args.by)) (c.as_slice.ensures ∙ c.coeffs.ensures.value) in
    let within = subst InRange (sym c.constant.ensures.value) c.constant.ensures.normal.constant_range in
    let constant = c.in_ok-constant.ensures ∙ ap integer (stored c.constant.result within ∙ c.constant.ensures.value) in
    some-same (c.in-Ok.ensures.exact ∙ (λ i. normal_of (pairs i) (constant i) (c.op.ensures.value i)) ∙ raised-of c.args.free c.args.by c.args.row.now c.coeffs.ensures.normal)

pub unreachable-requires : goal.unreachable-requires
unreachable-requires c =
    let pairs = c.in_ok-pairs.ensures ∙ ap (map (raised_pair c.args.free c.args.by)) (c.as_slice.ensures ∙ c.coeffs.ensures.value) in
    let within = subst InRange (sym c.constant.ensures.value) c.constant.ensures.normal.constant_range in
    let constant = c.in_ok-constant.ensures ∙ ap integer (stored c.constant.result within ∙ c.constant.ensures.value) in
    let made : normal_of c.in_ok-pairs.pairs c.in_ok-constant.constant c.op.result ≡ Some (row_raised c.args.free c.args.by c.args.row.now) =
    (λ i. normal_of (pairs i) (constant i) (c.op.ensures.value i)) ∙ raised-of c.args.free c.args.by c.args.row.now c.coeffs.ensures.normal in
    let none = rw c.in-Err-Overflow.field-0-is at c.in-Err-Overflow.ensures.exact in cc
