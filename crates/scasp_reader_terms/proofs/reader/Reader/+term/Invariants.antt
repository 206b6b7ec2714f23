use Rattle.std.proofs.Common.{◌≡◌, ◌+◌, ◌*◌, map, length}
use Rattle.scasp_syntax.specs.View.{tm_of}
use Rattle.scasp_reader_terms.specs.Steps.{series}
use Rattle.scasp_reader_terms.specs.Terms.{one_more, several, term}
use Rattle.scasp_reader_terms.proofs.reader.Reader.+term.Given as goal

-- six of these calls follow one another before one more bracket is opened
abbrev pub decreases-term : goal.decreases-term
decreases-term l = 8 * l.room + 4

abbrev pub decreases-term_at_sign : goal.decreases-term_at_sign
decreases-term_at_sign l = 8 * l.room + 3

abbrev pub decreases-compound : goal.decreases-compound
decreases-compound l = 8 * l.room + 3

abbrev pub decreases-arguments : goal.decreases-arguments
decreases-arguments l = 8 * l.room + 2

abbrev pub decreases-arguments_in : goal.decreases-arguments_in
decreases-arguments_in l = 8 * l.room + 8

abbrev pub decreases-list : goal.decreases-list
decreases-list l = 8 * l.room + 8

abbrev pub decreases-elements : goal.decreases-elements
decreases-elements l = 8 * l.room + 7

abbrev pub decreases-several : goal.decreases-several
decreases-several l = 8 * l.room + 6

abbrev pub decreases-one_more : goal.decreases-one_more
decreases-one_more l = 8 * l.room + 5

abbrev pub invariant-several-loop-left : goal.invariant-several-loop-left
invariant-several-loop-left l =
    series (λ before. one_more l.are_arguments (length before) (term l.room)) l.left (map tm_of l.terms.items) l.self ≡ several l.are_arguments (term l.room) l.fn.self

abbrev pub decreases-several-loop-left : goal.decreases-several-loop-left
decreases-several-loop-left l = l.left
