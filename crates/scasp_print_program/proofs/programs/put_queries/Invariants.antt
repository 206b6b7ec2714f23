use Rattle.std.proofs.Common.{◌≡◌, ◌++◌, drop}
use Rattle.std.specs.Prelude.{flat_map}
use Rattle.scasp_print_program.specs.Programs.{query_text}
use Rattle.scasp_print_program.proofs.programs.put_queries.Given as goal

abbrev pub invariant-loop-query : goal.invariant-loop-query
invariant-loop-query l =
    l.out.items ++ flat_map (query_text l.names) (drop l.query-index l.queries)
    ≡ l.fn.out.items ++ flat_map (query_text l.names) l.queries
