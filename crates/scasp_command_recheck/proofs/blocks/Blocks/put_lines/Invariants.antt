use Rattle.std.proofs.Common.{◌≡◌, ◌++◌, drop}
use Rattle.std.specs.List.{concat}
use Rattle.scasp_recheck.specs.Meaning.{certs_in, program_of}
use Rattle.scasp_command_recheck.specs.Lines.{lines_by}
use Rattle.scasp_command_recheck.proofs.blocks.Blocks.put_lines.Given as goal

abbrev pub invariant-loop-place : goal.invariant-loop-place
invariant-loop-place l =
    l.text.items ++ concat (lines_by (program_of l.self.recheck) (drop l.place l.self.numbers) (drop l.place (certs_in l.self.recheck)))
    ≡ l.fn.text.items ++ concat (lines_by (program_of l.self.recheck) l.self.numbers (certs_in l.self.recheck))
