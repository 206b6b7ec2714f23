use Rattle.std.proofs.Common.{◌≡◌, ◌++◌, map}
use Rattle.std.specs.Vec.Iter.{into_iter_items}
use Rattle.scasp_answers.specs.Files.View.{entry_of}
use Rattle.scasp_recheck.specs.Views.{certs_of}
use Rattle.scasp_command_recheck.specs.Blocks.{block_certs, block_numbers}
use Rattle.scasp_command_recheck.proofs.parts.Parts.of.Given as goal

abbrev pub invariant-loop-entry : goal.invariant-loop-entry
invariant-loop-entry l = record {
  numbers : l.parts.numbers ++ block_numbers (map entry_of (into_iter_items l.entry-iterator)) ≡ block_numbers (map entry_of l.fn.entries);
  certs : certs_of l.parts.certs ++ block_certs (map entry_of (into_iter_items l.entry-iterator)) ≡ block_certs (map entry_of l.fn.entries);
}
