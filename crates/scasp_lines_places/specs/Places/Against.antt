-- Parts of a head against parts of a literal.
use Rattle.std.specs.Borrow.{Bor}
use Rattle.std.specs.Prelude.{ℕ, List, length}
use Rattle.scasp_lines.specs.Openings.{Opening, open_terms}
use Rattle.scasp_syntax.specs.Tm.{items}
use Rattle.scasp_syntax.specs.View.{tms_of}
use Rattle.scasp_syntax.specs.declared.term.Term.{Term}
use Rattle.scasp_unify.specs.Negations.{new_parts}

-- what is open once they have been opened against each other
abbrev pub open_given : Bor (List Term) × Bor (List Term) → Opening → Opening
open_given ls o = open_terms (tms_of ls.0.now) (tms_of ls.1.now) o

-- the same against new variables, from the number on
abbrev pub open_new : Bor (List Term) × ℕ → Opening → Opening
open_new l o = open_terms (tms_of l.0.now) (new_parts l.1 (length (items (tms_of l.0.now)))) o
