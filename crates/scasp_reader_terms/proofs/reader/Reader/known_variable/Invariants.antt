use Rattle.std.proofs.Common.{◌≡◌, drop}
use Rattle.std.specs.List.{position_from}
use Rattle.std.specs.Str.{bytes_eq}
use Rattle.scasp_reader_terms.proofs.reader.Reader.known_variable.Given as goal

abbrev pub invariant-loop-number : goal.invariant-loop-number
invariant-loop-number l = position_from (bytes_eq l.text) l.number (drop l.number l.variables) ≡ position_from (bytes_eq l.text) 0 l.variables
