-- How the clauses are written that say which predicates may be assumed.
use Rattle.std.specs.Prelude.{ℕ, zero, suc, ◌+◌, Bool, true, false, List, [], ◌++◌, codes}
use Rattle.scasp_syntax.specs.declared.atom.Pred.{Pred}
use Rattle.scasp_cert.specs.Text.Names.{name_text}
use Rattle.scasp_cert.specs.Text.Separators.{separator_text}
use Rattle.scasp_cert.specs.Text.Terms.{var_text}

-- `V0,V1`: n variables, from the variable x on, with commas between
abbrev pub variables_text : Bool → ℕ → ℕ → List ℕ
variables_text is_first x zero = []
variables_text is_first x (suc n) = separator_text is_first (codes ",") ++ var_text x ++ variables_text false (x + 1) n

-- the variables of so many parameters in brackets; nothing where there are none
abbrev pub parameters_text : ℕ → List ℕ
parameters_text zero = []
parameters_text (suc n) = codes "(" ++ variables_text true 0 (suc n) ++ codes ")"

-- `#abducible p(V0,V1).`, and the line's end
unfoldable pub abducible_text : List (List ℕ) → Pred → List ℕ
abducible_text names p = codes "#abducible " ++ name_text names p.name ++ parameters_text p.arity ++ codes ".\n"
