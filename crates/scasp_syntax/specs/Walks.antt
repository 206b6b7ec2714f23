-- What is left of a walk over terms.
use Rattle.std.specs.Borrow.{Bor}
use Rattle.std.specs.Prelude.{List, [], ◌∷◌}
use Rattle.scasp_syntax.specs.Tm.{Tms, nil, cons}
use Rattle.scasp_syntax.specs.View.{tms_of}
use Rattle.scasp_syntax.specs.declared.term.Term.{Term}

-- one list behind the other
abbrev pub onto : Tms → Tms → Tms
onto nil us = us
onto (cons t ts) us = cons t (onto ts us)

-- the terms of lists that wait, of which the last is the next
abbrev pub waiting : List (Bor (List Term)) → Tms
waiting [] = nil
waiting (l ∷ ls) = onto (waiting ls) (tms_of l.now)
