use Rattle.std.proofs.Common.{◌≡◌, ◌∙◌, ◌+◌, ap, sym}
use Rattle.std.specs.Prelude.{nat_lt}
use Rattle.std.specs.List.{prefix_len}
use Rattle.std.proofs.lemmas.List.{take_rest}
use Rattle.scasp_copies.specs.declared.line.BlockLine.{BlockLine}
use Rattle.scasp_copies.proofs.SubtreeLemmas.{first_of, subtree_count}
use Rattle.scasp_copies.proofs.subtree.subtree_len.Goals as goal

pub returns-in-len1-up-clause-count : goal.returns-in-len1-up-clause-count
returns-in-len1-up-clause-count c =
    let lines = c.args.lines.now in
    let first = c.first-item.result in
    ap (λ n. 1 + n) (c.count_deeper.ensures.count ∙ ap (prefix_len (λ (k : BlockLine). nat_lt first.depth k.depth)) (take_rest lines 1))
    ∙ sym (subtree_count lines first (first_of lines first c.in-len1-up.len_at_least (sym c.first-item.is)))
