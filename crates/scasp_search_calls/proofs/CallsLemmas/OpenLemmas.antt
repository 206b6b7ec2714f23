-- The last of a list of literals is the innermost.
use Rattle.std.specs.Prelude.{◌≡◌, Bool, true, false, not, ◌&&◌, if◌then◌else◌, None, Some, List, [], ◌∷◌, ◌++◌, filter, reverse, refl}
use Rattle.std.proofs.lemmas.List.{reverse-append}
use Rattle.scasp_search_rules.specs.declared.states.state.Literal.{Literal}
use Rattle.scasp_search_rules.specs.declared.states.state.State.{State}
use Rattle.scasp_search_rules.specs.Successors.Calls.{left, marked, moved}
use Rattle.scasp_search_state.specs.Words.{first_number}
use Rattle.scasp_search_calls.specs.Calls.Inside.Open.{done_by, marked_by, moved_to, open_among}

pub open_pushed : (ls : List Literal) (a : Literal) → open_among (ls ++ a ∷ []) ≡ (if a.is_done then open_among ls else a ∷ open_among ls)
open_pushed ls a = rw (reverse-append ls (a ∷ [])) (by a.is_done refl)
  where
    by : (b : Bool) → a.is_done ≡ b → filter (λ c. not c.is_done) (a ∷ reverse ls) ≡ (if b then open_among ls else a ∷ open_among ls)
    by true e = rw e refl
    by false e = rw e refl

-- a mark is of the first
pub marked_first : (ls : List Literal) (s : State) → marked ls s ≡ marked_by (first_number ls) s
marked_first [] s = refl
marked_first (a ∷ rest) s = refl

moved_first : (a : Literal) (rest : List Literal) (s : State) → moved a rest s ≡ marked_by (moved_to a rest) s
moved_first a [] s = by a.loops a.lit.positive
  where
    by : (b c : Bool) → s ≡ marked_by (if b && c then None else None) s
    by true true = refl
    by true false = refl
    by false c = refl
moved_first a (b ∷ bs) s = by a.loops a.lit.positive b.lit.positive
  where
    by : (k l m : Bool) → (if k && l && m then marked (b ∷ bs) s else s) ≡ marked_by (if k && l then (if m then Some b.number else None) else None) s
    by true true true = refl
    by true true false = refl
    by true false m = refl
    by false l m = refl

-- the end of the first
pub left_first : (a : Literal) (rest : List Literal) (s : State) → left (a ∷ rest) s ≡ marked_by (moved_to a rest) (done_by a.number s)
left_first a rest s = moved_first a rest (done_by a.number s)
