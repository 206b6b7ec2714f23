use Rattle.std.proofs.Common.{◌≡◌, ◌∙◌, ◌+◌, ◌<◌, length, ap, sym, arith}
use Rattle.scasp_copies.specs.View.{pieces_of}
use Rattle.scasp_copies.proofs.SubtreeLemmas.{copy_from}
use Rattle.scasp_copies.proofs.told.Told.copy_of.Goals as goal

pub returns : goal.returns
returns c =
    let ls = c.deref.result.now in
    let n = c.args.number in
    let some : 0 < n = omega (arith, c.if-number-eq0.false) in
    let to : c.len-2.result + 1 ≡ length ls + 1 = omega (arith, c.len-2.ensures, c.deref.ensures.len) in
    c.subtree_at.ensures ∙ copy_from n c.args.depth (c.len-2.result + 1) ls c.args.self.now (sym c.self.view_is ∙ ap pieces_of (sym c.deref.ensures.value)) some to
