use Rattle.std.proofs.Common.{◌≡◌, false, drop}
use Rattle.scasp_reader_tokens.specs.Bytes.{farther}
use Rattle.scasp_answers_terms.specs.Tokens.Tokens.{quoted_length}
use Rattle.scasp_answers_terms.proofs.tokens.quotes.quoted_len.Given as goal

abbrev pub invariant-loop-at : goal.invariant-loop-at
invariant-loop-at l = farther l.at (quoted_length l.is_escaped (drop l.at l.bytes)) ≡ quoted_length false l.bytes
