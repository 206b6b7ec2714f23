use Rattle.std.proofs.Common.{◌≡◌, ◌++◌, map, filter, drop}
use Rattle.scasp_syntax.specs.Denials.{denial_of}
use Rattle.scasp_reader.proofs.programs.denials.push_denials.Given as goal

abbrev pub invariant-loop-pred : goal.invariant-loop-pred
invariant-loop-pred l =
    l.clauses ++ map denial_of (filter (λ p. p.minus) (drop l.pred-index l.preds)) ≡ l.fn.clauses ++ map denial_of (filter (λ p. p.minus) l.preds)
