use Rattle.std.proofs.Common.{◌≡◌, drop}
use Rattle.scasp_checker_rules.specs.Pairs.{clash_of}
use Rattle.scasp_checker_answer.proofs.clashes.clash_of.Given as goal

abbrev pub invariant-loop-clash : goal.invariant-loop-clash
invariant-loop-clash l = clash_of l.i l.j (drop l.clash-index l.clash-items) ≡ clash_of l.i l.j l.clashes
