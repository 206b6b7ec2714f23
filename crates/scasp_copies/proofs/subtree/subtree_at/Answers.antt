use Rattle.std.proofs.Common.{◌≡◌, sym, rules}
use Rattle.std.specs.Prelude.{true}
use Rattle.scasp_copies.specs.Copies.{is_call, has_ended}
use Rattle.scasp_copies.specs.View.{line_piece, pieces_of}
use Rattle.scasp_copies.proofs.SubtreeLemmas.{first_of, copied_by}
use Rattle.scasp_copies.proofs.subtree.subtree_at.Goals as goal

pub returns : goal.returns
returns c =
    let lines = c.args.lines.now in
    let first = c.first-item.result in
    let call : is_call (line_piece first) ≡ true = search rules in
    let ended : has_ended c.args.depth (pieces_of lines) ≡ true = search rules in
    sym (copied_by c.args.from c.args.depth c.args.to c.subtree_len-count.result lines first (first_of lines first c.in-len1-up.len_at_least (sym c.first-item.is))
    c.subtree_len-count.ensures.count call ended)
