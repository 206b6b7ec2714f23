use Rattle.std.proofs.Common.{◌≡◌, ◌++◌, false, length}
use Rattle.scasp_cert.specs.Text.Terms.{terms_text}
use Rattle.scasp_syntax.specs.View.{tms_of}
use Rattle.scasp_print_atoms.proofs.atom.put_others.Given as goal

abbrev pub invariant-loop-rest : goal.invariant-loop-rest
invariant-loop-rest l =
    l.out.items ++ terms_text l.names false (tms_of l.rest) ≡ l.fn.out.items ++ terms_text l.names false (tms_of l.fn.terms)

abbrev pub decreases-loop-rest : goal.decreases-loop-rest
decreases-loop-rest l = length l.rest
