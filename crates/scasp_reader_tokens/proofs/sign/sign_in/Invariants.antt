use Rattle.std.proofs.Common.{◌≡◌, drop}
use Rattle.scasp_reader_tokens.specs.Signs.{entry_at}
use Rattle.scasp_reader_tokens.proofs.SignLemmas.{entries}
use Rattle.scasp_reader_tokens.proofs.sign.sign_in.Given as goal

abbrev pub invariant-loop-text : goal.invariant-loop-text
invariant-loop-text l = entry_at (entries (drop l.text-index l.table)) l.bytes ≡ entry_at (entries l.table) l.bytes
