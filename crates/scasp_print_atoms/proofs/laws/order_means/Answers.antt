use Rattle.scasp_print_atoms.specs.Order.{in_byte_order}
use Rattle.scasp_print_atoms.proofs.OrderLemmas.{in-order, permutes, sorted}
use Rattle.scasp_print_atoms.proofs.laws.order_means.Goals as goal

pub returns : goal.returns
returns c = λ texts. record { same = permutes texts; sorted = sorted (in_byte_order texts) (in-order texts) }
