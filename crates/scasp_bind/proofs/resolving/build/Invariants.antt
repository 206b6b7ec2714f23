use Rattle.std.proofs.Common.{◌≡◌, take, drop}
use Rattle.scasp_syntax.specs.Tm.{items}
use Rattle.scasp_bind.specs.Inside.Heads.{tops}
use Rattle.scasp_bind.proofs.resolving.build.Given as goal

abbrev pub invariant-loop : goal.invariant-loop
invariant-loop l = (items l.args ≡ take l.counter (tops l.initial.done.items)) × (tops l.done.items ≡ drop l.counter (tops l.initial.done.items))
