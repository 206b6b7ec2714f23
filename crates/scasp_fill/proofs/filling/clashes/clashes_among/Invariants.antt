use Rattle.std.proofs.Common.{◌≡◌, true, [], map, reverse, vec_len}
use Rattle.std.specs.List.{flat_map}
use Rattle.scasp_fill.specs.Filling.Inside.Clashing.{with_pairs}
use Rattle.scasp_checker.specs.Partners.Partners.{group_of, pairs_of}
use Rattle.scasp_fill.proofs.filling.clashes.clashes_among.Given as goal

abbrev pub invariant-loop-partners : goal.invariant-loop-partners
invariant-loop-partners l =
    with_pairs l.free l.given (flat_map pairs_of (map group_of (reverse l.left.items))) l.made
    ≡ with_pairs l.free l.given (flat_map pairs_of (map group_of (reverse l.fn.left.items))) (record { clashes = []; known = true })

abbrev pub decreases-loop-partners : goal.decreases-loop-partners
decreases-loop-partners l = vec_len l.left
