use Rattle.std.proofs.Common.{◌≡◌, false, drop}
use Rattle.scasp_rows.specs.Elimination.{all_paired, and_then, limited}
use Rattle.scasp_rows.specs.Inside.Outlooks.{any_false}
use Rattle.scasp_rows.proofs.elimination.all_paired.Given as goal

abbrev pub invariant-loop-l : goal.invariant-loop-l
invariant-loop-l l = (and_then (all_paired l.x (drop l.l-index l.lowers) l.uppers l.state) limited ≡ and_then (all_paired l.x l.lowers l.uppers l.fn.start) limited) × (any_false l.x (drop l.l-index l.lowers) l.uppers ≡ false)
