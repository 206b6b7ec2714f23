use Rattle.std.proofs.Common.{◌≡◌, ◌≤◌, map, take}
use Rattle.std.specs.List.{concat}
use Rattle.scasp_answers.specs.Files.View.{entry_of}
use Rattle.scasp_io.specs.Bytes.{behind}
use Rattle.scasp_command_check.specs.Inside.{tally_of}
use Rattle.scasp_command_check.specs.Texts.{block_lines}
use Rattle.scasp_command_check.proofs.checking.recheck_entries.Given as goal

abbrev pub invariant-loop-entry : goal.invariant-loop-entry
invariant-loop-entry g l = record {
  tally : l.tally ≡ tally_of l.program (map entry_of (take l.entry-index l.entry-items));
  taken : g.K.Sink.taken l.out ≡ behind (g.K.Sink.taken l.fn.out) (concat (block_lines l.program (map entry_of (take l.entry-index l.entry-items))));
  counts : g.K.Sink.faults l.fn.out ≤ g.K.Sink.faults l.out;
}
