use Rattle.std.proofs.Common.{◌≡◌, ◌++◌, drop, map, string_bytes}
use Rattle.scasp_command_words.proofs.word.Words.from_texts.Given as goal

abbrev pub invariant-loop-text : goal.invariant-loop-text
invariant-loop-text l = l.list.items ++ map string_bytes (drop l.text-index l.texts) ≡ map string_bytes l.texts
