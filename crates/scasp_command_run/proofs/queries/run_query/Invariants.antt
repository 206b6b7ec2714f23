use Rattle.std.proofs.Common.{◌≤◌, ℕ, List}
use Rattle.scasp_command_run.specs.Inside.Continuing.{Going}
use Rattle.scasp_command_run.specs.Inside.Events.{IsGoing}
use Rattle.scasp_command_run.specs.Inside.Progresses.{standing}
use Rattle.scasp_print_samples.specs.Tables.{IsTable}
use Rattle.scasp_search.specs.Rests.{rest_of, stopped}
use Rattle.scasp_command_run.proofs.queries.run_query.Given as goal

abbrev pub invariant-loop-event : goal.invariant-loop-event
invariant-loop-event g l =
    IsGoing l.program (rest_of l.progress.search) (stopped l.progress.search)
    × ((names : List (List ℕ)) → IsTable names l.fn.table → Going l.program names l.query (standing l.initial.progress) (standing l.progress) (g.K.Sink.taken l.fn.out) (g.K.Sink.taken l.out))
    × ((names : List (List ℕ)) → IsTable names l.fn.table → IsTable names l.table)
    × (g.K.Sink.faults l.fn.out ≤ g.K.Sink.faults l.out)
