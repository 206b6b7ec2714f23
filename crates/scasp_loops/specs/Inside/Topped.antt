-- How far the variables go with which literals start.
use Rattle.std.specs.Prelude.{◌≡◌, ◌<◌, ℕ, false, List, [], ◌∷◌, slice_get, Option, None, Some, ⊤}
use Rattle.scasp_bound.specs.Bounds.{as_variable}
use Rattle.scasp_loops.specs.declared.entry.Entry.{Entry}
use Rattle.scasp_loops.specs.declared.hints.Hint.{Hint}
use Rattle.scasp_readings.specs.Readings.{reading}
use Rattle.scasp_search_rules.specs.Successors.Calls.{is_same}
use Rattle.scasp_search_rules.specs.declared.states.state.Literal.{Literal}
use Rattle.scasp_syntax.specs.Tm.{Tms, var, num, app, nil, cons}
use Rattle.scasp_syntax.specs.Values.{under}
use Rattle.scasp_syntax.specs.declared.atom.Lit.{Lit}
use Rattle.scasp_trail.specs.Past.{Past}
use Rattle.scasp_unify.specs.Solving.{sub_of}
use Rattle.scasp_unify.specs.declared.bindings.Binding.{Binding}

-- the first of the terms is no variable from r on
abbrev pub StartsBefore : ℕ → Tms → Type 0
StartsBefore r nil = ⊤
StartsBefore r (cons (var x) ts) = x < r
StartsBefore r (cons (num q) ts) = ⊤
StartsBefore r (cons (app f us) ts) = ⊤

-- so it is with the arguments of each literal before this place
pub record AllStartBefore (r at : ℕ) (es : List Entry) : Type 0 where
  pub each : (j : ℕ) → (e : Entry) → j < at → slice_get es j ≡ Some e → StartsBefore r e.lit.atom.args

-- no literal before a hint starts with a variable beyond both its top and n
pub record AreTops (n : ℕ) (es : List Entry) (hs : List Hint) : Type 0 where
  pub each : (at : ℕ) → (h : Hint) → slice_get hs at ≡ Some h → (r : ℕ) → h.top < r → n < r → AllStartBefore r at es

-- t may be the top of a hint at this place
pub record IsTop (t at : ℕ) (es : List Entry) (hs : List Hint) : Type 0 where
  pub each : (n r : ℕ) → AreTops n es hs → t < r → n < r → AllStartBefore r at es

abbrev pub AreTopsEach : ℕ → List (List Entry) → List (List Hint) → Type 0
AreTopsEach n [] [] = ⊤
AreTopsEach n [] (hs ∷ hss) = ⊥
AreTopsEach n (es ∷ ess) [] = ⊥
AreTopsEach n (es ∷ ess) (hs ∷ hss) = AreTops n es hs × AreTopsEach n ess hss

-- now, and at each mark
pub record AreTopped (n : ℕ) (entries : Past Entry) (hints : Past Hint) : Type 0 where
  pub now : AreTops n entries.now hints.now
  pub before : AreTopsEach n entries.before hints.before

-- the variable that the first of the terms reads as
abbrev pub first_read : List Binding → Tms → Option ℕ
first_read bs nil = None
first_read bs (cons t ts) = as_variable (under (sub_of bs) t)

-- a literal that starts before r is another one than l
pub record IsFloor (n : ℕ) (bs : List Binding) (l : Lit) (r : ℕ) : Type 0 where
  pub beyond : n < r
  pub apart : (a : Literal) → StartsBefore r a.lit.atom.args → is_same (reading bs) l a ≡ false
