-- The other sides of splits that replace a variable by a term in which it stands.
use Rattle.std.specs.Prelude.{Bool, false, ◌&&◌, Option, None, Some, List, [], ◌∷◌}
use Rattle.scasp_search_rules.specs.declared.states.covers.Cover.{Cover}
use Rattle.scasp_search_rules.specs.declared.states.covers.Remainder.{Remainder}
use Rattle.scasp_search_rules.specs.declared.states.state.State.{State}
use Rattle.scasp_search_rules.specs.Successors.Cases.{unbound}
use Rattle.scasp_search_rules.specs.Successors.Replacing.{closes}
use Rattle.scasp_syntax.specs.Values.{under}
use Rattle.scasp_syntax.specs.View.{tm_of}
use Rattle.scasp_unify.specs.Parts.{occurs}
use Rattle.scasp_unify.specs.Solving.{sub_of}
use Rattle.scasp_unify.specs.declared.bindings.Binding.{Binding}

-- the variable stands in the term that is to replace it, as the term reads under these bindings
abbrev pub stands_inside : List Binding → Option Binding → Bool
stands_inside bs None = false
stands_inside bs (Some b) = occurs b.x (under (sub_of bs) (tm_of b.term))

-- so it is with the first of these remainders, where the case of the cover ends and its universals lose their bindings
abbrev pub first_inside : List Binding → Cover → List Remainder → Bool
first_inside bs c [] = false
first_inside bs c (r ∷ rs) = stands_inside (unbound c.universals r.replaced bs) r.equation

-- so it is at the innermost cover
abbrev pub innermost_inside : List Binding → List Cover → Bool
innermost_inside bs [] = false
innermost_inside bs (c ∷ cs) = first_inside bs c c.waiting

-- A case ends next, and the other side that is taken up replaces a variable by a term in which it stands.
abbrev pub replaces_inside : State → Bool
replaces_inside s = closes s.work && innermost_inside s.bound s.covers
