use Rattle.std.proofs.Common.{◌≡◌, ◌++◌, true, drop}
use Rattle.scasp_print_program.specs.Items.{items_text}
use Rattle.scasp_print_program.proofs.items.put_items.Given as goal

abbrev pub invariant-loop-item : goal.invariant-loop-item
invariant-loop-item l =
    l.out.items ++ items_text l.shown l.is_first (drop l.item-index l.item-items)
    ≡ l.fn.out.items ++ items_text l.shown true l.items
