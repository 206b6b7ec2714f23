use Rattle.std.proofs.Common.{◌≡◌, ℕ, List, subst}
use Rattle.std.specs.Prelude.{OnOk}
use Rattle.scasp_print_shared.proofs.LineLemmas.{block-text}
use Rattle.scasp_print_shared.proofs.share.put_block.Goals as goal

pub returns : goal.returns
returns c =
    let put : List ℕ → Type 0 = λ text. OnOk c.put_lines-2.result (c.put_lines-2.new.out.items ≡ text) in
    subst put
    (block-text c.args.lines.now c.split_at.result.0.now c.split_at.result.1.now c.split_at-2.result.0.now c.split_at-2.result.1.now
    c.behind_tree.result c.count_numbered.result c.args.out.now.items c.put_lines.new.out.items c.put_shared.new.out.items
    c.behind_tree.ensures.count c.split_at.ensures.front c.split_at.ensures.back c.count_numbered.ensures.count
    c.split_at-2.ensures.front c.split_at-2.ensures.back c.in_ok-put_lines.ensures c.in_ok-put_shared.ensures)
    c.put_lines-2.ensures
