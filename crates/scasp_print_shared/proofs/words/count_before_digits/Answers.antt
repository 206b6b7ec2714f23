use Rattle.std.proofs.Common.{arith}
use Rattle.scasp_copies.proofs.WordLemmas.{digits_within}
use Rattle.scasp_print_shared.proofs.words.count_before_digits.Goals as goal

pub overflow_sub-result : goal.overflow_sub-result
overflow_sub-result c = omega (arith, c.count_digits.ensures, digits_within c.args.words.now)
