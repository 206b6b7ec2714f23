use Rattle.std.proofs.Common.{◌≡◌, ◌≤◌, ◌-◌, ◌++◌, length, drop}
use Rattle.scasp_reader_tokens.specs.Tokens.{tokens_behind, tokens_of}
use Rattle.scasp_reader_tokens.proofs.lexer.tokens.Given as goal

abbrev pub invariant-text : goal.invariant-text
invariant-text l = record {
  within : l.at ≤ length l.bytes;
  tokens : l.tokens ++ tokens_behind 0 l.at (drop l.at l.bytes) ≡ tokens_of l.bytes;
}

abbrev pub decreases-text : goal.decreases-text
decreases-text l = length l.bytes - l.at
