use Rattle.scasp_store.proofs.BehindLemmas.{known_compared}
use Rattle.scasp_store.proofs.behind.read_fixed.Goals as goal

pub returns-then-is_number-clause-known : goal.returns-then-is_number-clause-known
returns-then-is_number-clause-known c = λ bs cs n h. known_compared c.in_ok-known.known c.in_ok-left.left c.in_ok-right.right c.args.rest.now c.args.binding.now bs cs c.in_ok-known.ensures c.in_ok-left.ensures c.in_ok-right.ensures c.requires n h
