use Rattle.std.proofs.Common.{◌≤◌, ◌+◌, drop}
use Rattle.scasp_print_samples.specs.Tables.{IsTable}
use Rattle.scasp_command_run.specs.Inside.Whole.{IsBefore}
use Rattle.scasp_command_run.specs.Jobs.{job}
use Rattle.scasp_command_run.proofs.runs.run.Given as goal

abbrev pub invariant-loop-place : goal.invariant-loop-place
invariant-loop-place g l =
    IsBefore (job l.program l.fn.names l.request) (l.place + 1) (drop l.place l.program.queries) l.answered (g.K.Sink.taken l.fn.out) (g.K.Sink.taken l.out)
    × IsTable l.fn.names l.table
    × (g.K.Sink.faults l.fn.out ≤ g.K.Sink.faults l.out)
