use Rattle.std.proofs.Common.{◌∙◌, ap, map, reverse, sym}
use Rattle.std.specs.List.{flat_map}
use Rattle.scasp_fill.specs.Filling.Inside.Clashing.{with_pairs}
use Rattle.scasp_checker.specs.Partners.Partners.{group_of, pairs_of}
use Rattle.scasp_fill.proofs.FillingLemmas.StepLemmas.{one-group}
use Rattle.scasp_fill.proofs.filling.clashes.clashes_among.Goals as goal

pub loop-partners-preserved : goal.loop-partners-preserved
loop-partners-preserved c =
    let free = c.args.free in
    let given = c.args.given.now in
    let left = c.pop.new.self.items in
    ap (with_pairs free given (flat_map pairs_of (map group_of (reverse left)))) c.in_ok-put_partners.ensures
    ∙ sym (one-group free given left c.loop-partners.left.items c.in-Some.partners c.loop-partners.made c.in-Some.ensures.items)
    ∙ c.loop-partners.invariant
