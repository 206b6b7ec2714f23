use Rattle.std.proofs.Common.{◌≡◌, ◌++◌, map, take}
use Rattle.scasp_syntax.specs.View.{tm_of}
use Rattle.scasp_bind.specs.Inside.Jobs.{jobs_of, search}
use Rattle.scasp_bind.proofs.occurrences.push_tasks.Given as goal

abbrev pub invariant-loop-arg : goal.invariant-loop-arg
invariant-loop-arg l = jobs_of l.tasks.items ≡ jobs_of l.initial.tasks.items ++ map search (map tm_of (take l.arg-index l.arg-items))
