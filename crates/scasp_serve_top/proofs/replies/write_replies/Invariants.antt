use Rattle.std.proofs.Common.{◌≤◌}
use Rattle.scasp_print_samples.specs.Tables.{IsTable}
use Rattle.scasp_serve_replies.specs.Desks.{IsCounted, standing}
use Rattle.scasp_serve_top.specs.Inside.{Going}
use Rattle.scasp_serve_top.proofs.replies.write_replies.Given as goal

abbrev pub invariant-loop-command : goal.invariant-loop-command
invariant-loop-command g l = record {
  going : Going l.program l.fn.names l.commands l.command-index (standing l.desk) (g.K.Sink.taken l.fn.out) (g.K.Sink.taken l.out);
  table : IsTable l.fn.names l.desk.table;
  counted : IsCounted l.desk;
  counts : g.K.Sink.faults l.fn.out ≤ g.K.Sink.faults l.out;
}
