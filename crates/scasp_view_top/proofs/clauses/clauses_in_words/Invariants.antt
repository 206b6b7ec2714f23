use Rattle.std.proofs.Common.{◌≡◌, ◌++◌, drop, map}
use Rattle.scasp_view_top.specs.Clauses.Clauses.{in_words}
use Rattle.scasp_view_top.proofs.clauses.clauses_in_words.Given as goal

abbrev pub invariant-loop-clause : goal.invariant-loop-clause
invariant-loop-clause l = l.words.items ++ map (in_words l.names) (drop l.clause-index l.clause-items) ≡ map (in_words l.names) l.clauses
