-- Literals that are open.
use Rattle.std.specs.Prelude.{◌≡◌, ◌+◌, ℕ, Bool, true, false, not, if◌then◌else◌, Option, None, Some, List, [], ◌∷◌, filter, length, reverse, slice_get, take}
use Rattle.scasp_loops.specs.Held.{literal_of}
use Rattle.scasp_loops.specs.Inside.Asked.{is_not, is_repeated}
use Rattle.scasp_loops.specs.Inside.Hinted.{Within}
use Rattle.scasp_loops.specs.Inside.Zipped.{literals_from}
use Rattle.scasp_loops.specs.declared.entry.Entry.{Entry}
use Rattle.scasp_loops.specs.declared.entry.Marks.{Marks}
use Rattle.scasp_readings.specs.Readings.{reading}
use Rattle.scasp_search_rules.specs.Successors.Calls.{ancestors, leave_literal, marked}
use Rattle.scasp_search_rules.specs.Successors.Search.{nothing}
use Rattle.scasp_search_rules.specs.declared.states.state.Literal.{Literal}
use Rattle.scasp_search_rules.specs.declared.states.state.State.{State}
use Rattle.scasp_syntax.specs.declared.atom.Lit.{Lit}
use Rattle.scasp_unify.specs.declared.bindings.Binding.{Binding}

abbrev pub open_among : List Literal → List Literal
open_among ls = filter (λ a. not a.is_done) (reverse ls)

-- those of the first literals, so many, that are open, the innermost first
abbrev pub open_in : ℕ → List Entry → List Marks → List Literal
open_in n es ms = open_among (take n (literals_from 0 es ms))

-- the innermost of them is that of this place
pub record OpensAt (es : List Entry) (ms : List Marks) (n at : ℕ) : Type 0 where
  pub opens : (e : Entry) → (m : Marks) → slice_get es at ≡ Some e → slice_get ms at ≡ Some m → open_in n es ms ≡ literal_of at e m ∷ open_in at es ms

-- the first of these literals, where a mark moves on and it is positive
abbrev pub moved_if : Bool → List Literal → Option ℕ
moved_if false bs = None
moved_if true [] = None
moved_if true (b ∷ bs) = if b.lit.positive then Some b.number else None

-- the state that has these literals and nothing else
abbrev pub holding : List Literal → State
holding ls = record nothing { literals = ls }

-- the literals where a positive loop leads out of the innermost one that is open
abbrev pub looped_out : List Literal → List Literal
looped_out ls = (marked (ancestors (holding ls)) (holding ls)).literals

-- the literals where the innermost one that is open is done
abbrev pub left : List Literal → List Literal
left ls = (leave_literal (holding ls)).literals

-- the last literal that is open and is this one, as the bindings read both, stands at this place
pub record IsLast (bs : List Binding) (l : Lit) (at : ℕ) (ls : List Literal) : Type 0 where
  pub there : (a : Literal) → slice_get ls at ≡ Some a → is_repeated (reading bs) l a ≡ true
  pub behind : Within (is_not (is_repeated (reading bs) l)) (at + 1) (length ls) ls
