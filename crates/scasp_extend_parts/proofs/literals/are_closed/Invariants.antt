use Rattle.std.proofs.Common.{◌≡◌, drop, map}
use Rattle.std.specs.List.{list_all}
use Rattle.scasp_lines.specs.Said.{are_in}
use Rattle.scasp_syntax.specs.Tm.{items}
use Rattle.scasp_syntax.specs.Values.{under}
use Rattle.scasp_extend_instances.specs.View.{ways_of}
use Rattle.scasp_extend_parts.proofs.literals.are_closed.Given as goal

abbrev pub invariant-loop-way : goal.invariant-loop-way
invariant-loop-way l =
    list_all (λ v. are_in (items l.domain) (map (under v) (items l.terms))) (ways_of (drop l.way-index l.ways))
    ≡ list_all (λ v. are_in (items l.domain) (map (under v) (items l.terms))) (ways_of l.ways)
