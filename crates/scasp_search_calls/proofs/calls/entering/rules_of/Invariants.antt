use Rattle.std.proofs.Common.{◌≡◌, ◌+◌, ◌++◌, drop}
use Rattle.scasp_syntax.specs.Programs.{pred_of, rules_from, rules_of}
use Rattle.scasp_search_calls.proofs.calls.entering.rules_of.Given as goal

abbrev pub invariant-loop-place : goal.invariant-loop-place
invariant-loop-place l = l.made ++ rules_from (l.place + 1) (drop l.place l.clause-items) (pred_of l.atom) ≡ rules_of l.program (pred_of l.atom)
