-- The reduct of a ground program (Gelfond and Lifschitz 1988).
use Rattle.std.specs.Prelude.{List, [], ◌∷◌, Option, None, Some, if◌then◌else◌}
use Rattle.std.specs.List.{flat_map}
use Rattle.scasp_syntax.specs.declared.atom.Atom.{Atom}
use Rattle.scasp_syntax.specs.declared.atom.Lit.{Lit}
use Rattle.scasp_model.specs.Programs.{positive_atoms, is_blocked}
use Rattle.scasp_model.specs.declared.program.DefiniteRule.{DefiniteRule}
use Rattle.scasp_model.specs.declared.program.GroundClause.{GroundClause}

-- the rule with this head and the atoms without `not` of this body; a denial is no rule
abbrev pub rule_of : Option Atom → List Lit → List DefiniteRule
rule_of None body = []
rule_of (Some a) body = record { head = a; body = positive_atoms body } ∷ []

-- the rules of a program, without their negated literals
abbrev pub definite : List GroundClause → List DefiniteRule
definite g = flat_map (λ c. rule_of c.head c.body) g

-- what stays of a clause by m: nothing where it has `not a` with a in m
abbrev pub reduced : List Atom → GroundClause → List DefiniteRule
reduced m c = if is_blocked m c.body then [] else rule_of c.head c.body

abbrev pub reduct : List Atom → List GroundClause → List DefiniteRule
reduct m g = flat_map (reduced m) g
