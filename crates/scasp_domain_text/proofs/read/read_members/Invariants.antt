use Rattle.std.proofs.Common.{◌≡◌, ◌+◌, [], length}
use Rattle.scasp_reader_terms.specs.Names.{place_in}
use Rattle.scasp_syntax.specs.Tm.{items}
use Rattle.scasp_domain_text.proofs.LineLemmas.{read_on}
use Rattle.scasp_domain_text.proofs.read.read_members.Given as goal

abbrev pub invariant-loop-len : goal.invariant-loop-len
invariant-loop-len l = record {
  same : read_on (place_in l.fn.names) (items l.domain) l.at l.rest ≡ read_on (place_in l.fn.names) [] 0 l.fn.bytes;
  within : l.at + length l.rest ≡ length l.fn.bytes;
}

abbrev pub decreases-loop-len : goal.decreases-loop-len
decreases-loop-len l = length l.rest
