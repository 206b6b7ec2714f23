use Rattle.std.proofs.Common.{◌≡◌, drop}
use Rattle.std.specs.List.{list_all}
use Rattle.scasp_cert.specs.Text.Names.{is_word_byte}
use Rattle.scasp_print_words.proofs.names.are_word_bytes.Given as goal

abbrev pub invariant-loop-byte : goal.invariant-loop-byte
invariant-loop-byte l = list_all is_word_byte (drop l.byte-index l.text) ≡ list_all is_word_byte l.text
