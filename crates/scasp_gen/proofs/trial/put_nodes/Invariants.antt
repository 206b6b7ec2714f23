use Rattle.std.proofs.Common.{◌≡◌, ◌+◌, ◌-◌, ◌++◌}
use Rattle.scasp_gen.specs.Trial.{nodes_from}
use Rattle.scasp_gen.proofs.trial.put_nodes.Given as goal

-- what is put, with the nodes from the next one on, is the whole
abbrev pub invariant-loop-k : goal.invariant-loop-k
invariant-loop-k l = l.out.items ++ nodes_from (l.k + 1) (l.n - l.k) ≡ l.fn.out.items ++ nodes_from 1 l.n
