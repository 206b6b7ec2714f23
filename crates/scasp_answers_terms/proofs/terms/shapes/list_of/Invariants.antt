use Rattle.std.proofs.Common.{◌≡◌, map, vec_len}
use Rattle.scasp_syntax.specs.View.{tm_of}
use Rattle.scasp_reader_terms.specs.Terms.{list_of}
use Rattle.scasp_answers_terms.proofs.terms.shapes.list_of.Given as goal

abbrev pub invariant-loop-term : goal.invariant-loop-term
invariant-loop-term l = list_of (map tm_of l.terms.items) (tm_of l.list) ≡ list_of (map tm_of l.fn.terms.items) (tm_of l.fn.rest)

abbrev pub decreases-loop-term : goal.decreases-loop-term
decreases-loop-term l = vec_len l.terms
