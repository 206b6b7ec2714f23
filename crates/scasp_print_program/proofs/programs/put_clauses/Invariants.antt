use Rattle.std.proofs.Common.{◌≡◌, ◌++◌, drop}
use Rattle.std.specs.Prelude.{flat_map}
use Rattle.scasp_print_program.specs.Programs.{clause_text}
use Rattle.scasp_print_program.proofs.programs.put_clauses.Given as goal

abbrev pub invariant-loop-clause : goal.invariant-loop-clause
invariant-loop-clause l =
    l.out.items ++ flat_map (clause_text l.names) (drop l.clause-index l.clauses)
    ≡ l.fn.out.items ++ flat_map (clause_text l.names) l.clauses
