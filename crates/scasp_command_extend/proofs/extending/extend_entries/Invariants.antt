use Rattle.std.proofs.Common.{◌≡◌, ◌≤◌, map, take}
use Rattle.std.specs.List.{concat}
use Rattle.scasp_answers.specs.Files.View.{entry_of}
use Rattle.scasp_io.specs.Bytes.{behind}
use Rattle.scasp_syntax.specs.Tm.{items}
use Rattle.scasp_command_extend.specs.Ends.{block_ends}
use Rattle.scasp_command_extend.specs.Inside.{tally_of}
use Rattle.scasp_command_extend.specs.Texts.{block_texts}
use Rattle.scasp_command_extend.proofs.extending.extend_entries.Given as goal

abbrev pub invariant-loop-entry : goal.invariant-loop-entry
invariant-loop-entry g l = record {
  tally : l.tally ≡ tally_of (block_ends l.program (items l.domain) (map entry_of (take l.entry-index l.entry-items)));
  taken : g.K.Sink.taken l.out ≡ behind (g.K.Sink.taken l.fn.out) (concat (block_texts l.names l.program (items l.domain) (map entry_of (take l.entry-index l.entry-items))));
  counts : g.K.Sink.faults l.fn.out ≤ g.K.Sink.faults l.out;
}
