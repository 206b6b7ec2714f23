use Rattle.std.proofs.Common.{◌≡◌, length, string_bytes}
use Rattle.scasp_abduce.specs.NewNames.{new_name}
use Rattle.scasp_abduce.proofs.NewNameLemmas.{open_taken}
use Rattle.scasp_abduce.proofs.new_names.new_name.Given as goal

abbrev pub invariant-loop-text : goal.invariant-loop-text
invariant-loop-text l =
    new_name l.taken (length l.taken) l.names (string_bytes l.text) ≡ new_name l.taken (length l.taken) l.fn.names (string_bytes l.fn.text)

abbrev pub decreases-loop-text : goal.decreases-loop-text
decreases-loop-text l = open_taken l.taken l.names (string_bytes l.text)
