-- What is still to be seen of terms: its variables, the first in front, and a number that falls with each term.
use Rattle.std.specs.Prelude.{ℕ, ◌+◌, ◌*◌, List, [], ◌∷◌, ◌++◌}
use Rattle.std.specs.Borrow.{Bor}
use Rattle.scasp_syntax.specs.Tm.{weight_s}
use Rattle.scasp_syntax.specs.View.{tms_of}
use Rattle.scasp_syntax.specs.declared.term.Term.{Term}
use Rattle.scasp_unify.specs.Unification.{terms_vars}

abbrev pub unseen_vars : List (Bor (List Term)) → List ℕ
unseen_vars [] = []
unseen_vars (l ∷ ls) = terms_vars (tms_of l.now) ++ unseen_vars ls

abbrev pub unseen_weight : List (Bor (List Term)) → ℕ
unseen_weight [] = 0
unseen_weight (l ∷ ls) = (2 * weight_s (tms_of l.now) + 1) + unseen_weight ls
