-- Small lists, computed.
use Rattle.std.specs.Prelude.{◌≡◌, List, [], ◌∷◌, filter}
use Rattle.std.proofs.Common.{refl}
use Rattle.scasp_syntax.specs.Tm.{var, nil, cons}
use Rattle.scasp_syntax.specs.declared.con.Con.{Con}
use Rattle.scasp_syntax.specs.declared.con.Con.TheVariants.{Neq, NotShape}
use Rattle.scasp_syntax.specs.declared.term.Term.TheVariants.{App, Var}
use Rattle.scasp_diseq.specs.Pending.{is_pending_on}

-- x is not a, x differs from f(y), and y from itself
abbrev list : List Con
list = NotShape 0 5 0 ∷ Neq (Var 0) (App 6 (cons (var 1) nil)) ∷ Neq (Var 1) (Var 1) ∷ []

-- a shape is no disequation
of_x : filter (is_pending_on 0) list ≡ Neq (Var 0) (App 6 (cons (var 1) nil)) ∷ []
of_x = refl

-- the depth does not matter, and both sides count once
of_y : filter (is_pending_on 1) list ≡ Neq (Var 0) (App 6 (cons (var 1) nil)) ∷ Neq (Var 1) (Var 1) ∷ []
of_y = refl

-- neither does a name that has the number of the variable
of_none : filter (is_pending_on 6) list ≡ []
of_none = refl
