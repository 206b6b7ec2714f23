use Rattle.std.proofs.Common.{◌≡◌, map}
use Rattle.scasp_syntax.specs.Tm.{listed}
use Rattle.scasp_syntax.specs.View.{tm_of}
use Rattle.scasp_reader_terms.proofs.terms.arguments_of.Given as goal

abbrev pub invariant-loop-term : goal.invariant-loop-term
invariant-loop-term l = l.arguments ≡ listed (map tm_of l.yielded)
