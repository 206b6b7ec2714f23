use Rattle.std.proofs.Common.{◌≡◌, [], drop}
use Rattle.scasp_reader.specs.Texts.Clauses.{named}
use Rattle.scasp_reader.proofs.texts.clauses.named.Given as goal

abbrev pub invariant-loop-text : goal.invariant-loop-text
invariant-loop-text l = named l.names (drop l.text-index l.texts) l.reader ≡ named [] l.texts l.fn.reader
