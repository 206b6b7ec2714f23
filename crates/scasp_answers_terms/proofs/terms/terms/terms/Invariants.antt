use Rattle.std.proofs.Common.{◌≡◌}
use Rattle.scasp_reader_terms.specs.Names.{place_in}
use Rattle.scasp_answers_terms.specs.Tokens.Terms.{terms_at}
use Rattle.scasp_answers_terms.specs.Terms.Levels.{opens_of, before_of, goes, left}
use Rattle.scasp_answers_terms.proofs.terms.terms.terms.Given as goal

abbrev pub invariant-loop-alloc : goal.invariant-loop-alloc
invariant-loop-alloc l = goes (place_in l.names) l.next (opens_of l.levels) (before_of l.levels) l.cursor ≡ terms_at (place_in l.fn.names) l.fn.cursor

abbrev pub decreases-loop-alloc : goal.decreases-loop-alloc
decreases-loop-alloc l = left l.next l.cursor
