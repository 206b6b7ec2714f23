-- What is left of a ground program where some atoms are known true and others known false.
use Rattle.std.specs.Prelude.{Bool, false, ◌||◌, not, List, [], ◌∷◌, filter, Option, None, Some, if◌then◌else◌}
use Rattle.std.specs.List.{list_any, flat_map}
use Rattle.scasp_syntax.specs.declared.atom.Atom.{Atom}
use Rattle.scasp_syntax.specs.declared.atom.Lit.{Lit}
use Rattle.scasp_model.specs.Atoms.{among}
use Rattle.scasp_model.specs.declared.program.GroundClause.{GroundClause}

-- a literal that is true by the atoms t and the false atoms f
abbrev pub is_known_true : List Atom → List Atom → Lit → Bool
is_known_true t f l = if l.positive then among t l.atom else among f l.atom

-- a literal that is false by them
abbrev pub is_known_false : List Atom → List Atom → Lit → Bool
is_known_false t f l = if l.positive then among f l.atom else among t l.atom

-- an atom that is true or false by them
abbrev pub is_known : List Atom → List Atom → Option Atom → Bool
is_known t f None = false
is_known t f (Some a) = among t a || among f a

-- nothing where the head is known or a literal of the body false, else the clause without the true literals
abbrev pub residual_of : List Atom → List Atom → GroundClause → List GroundClause
residual_of t f c =
    if is_known t f c.head || list_any (is_known_false t f) c.body
    then []
    else record { head = c.head; body = filter (λ l. not (is_known_true t f l)) c.body } ∷ []

abbrev pub residual : List Atom → List Atom → List GroundClause → List GroundClause
residual t f g = flat_map (residual_of t f) g
