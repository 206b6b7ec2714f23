use Rattle.std.proofs.Common.{◌≡◌, ◌++◌, drop}
use Rattle.std.specs.Prelude.{flat_map, codes}
use Rattle.scasp_cert.specs.Text.Names.{escaped}
use Rattle.scasp_print_words.proofs.names.put_quoted.Given as goal

abbrev pub invariant-loop-byte : goal.invariant-loop-byte
invariant-loop-byte l =
    l.out.items ++ flat_map escaped (drop l.byte-index l.byte-items)
    ≡ l.fn.out.items ++ codes "'" ++ flat_map escaped l.byte-items
