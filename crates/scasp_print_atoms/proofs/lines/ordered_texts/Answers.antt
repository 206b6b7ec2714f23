use Rattle.std.proofs.Common.{◌∙◌, ap}
use Rattle.scasp_print_atoms.specs.Order.{in_byte_order}
use Rattle.scasp_print_atoms.proofs.OrderLemmas.{sorted-texts}
use Rattle.scasp_print_atoms.proofs.lines.ordered_texts.Goals as goal

pub returns : goal.returns
returns c =
    sorted-texts (λ text. text.items) c.in_ok-texts.texts.items c.sort.new.self.items c.in_ok-sort.ensures.permutation c.in_ok-sort.ensures.sorted
    ∙ ap in_byte_order c.in_ok-texts.ensures
