use Rattle.std.proofs.Common.{◌≡◌, drop, map}
use Rattle.scasp_syntax.specs.Tm.{items}
use Rattle.scasp_syntax.specs.View.{tm_of}
use Rattle.scasp_cert.specs.Flat.{are_flat}
use Rattle.scasp_cert.proofs.flatness.terms_are_flat.Given as goal

abbrev pub invariant-loop-term : goal.invariant-loop-term
invariant-loop-term l = are_flat l.free (items l.terms) ≡ are_flat l.free (map tm_of (drop l.term-index l.term-items))
