use Rattle.std.proofs.Common.{◌≡◌, List, drop, map}
use Rattle.scasp_syntax.specs.declared.con.Con.{Con}
use Rattle.scasp_unify.specs.Numbers.{is_among_numbers}
use Rattle.scasp_unify.specs.ResolvedLists.{ResolvesList}
use Rattle.scasp_unify.specs.Solving.{part_of}
use Rattle.scasp_unify.proofs.failures.are_among_numbers.Given as goal

abbrev pub invariant-loop-part : goal.invariant-loop-part
invariant-loop-part l = (cs : List Con) → ResolvesList l.resolver cs → is_among_numbers cs (map part_of l.parts) ≡ is_among_numbers cs (map part_of (drop l.part-index l.parts))
