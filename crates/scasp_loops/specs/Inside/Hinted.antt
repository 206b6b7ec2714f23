-- What is known of the literals before each one.
use Rattle.std.specs.Prelude.{◌≡◌, ◌≤◌, ◌<◌, ◌+◌, ◌*◌, ◌%◌, ℕ, Bool, true, not, ◌||◌, nat_eq, if◌then◌else◌, List, [], ◌∷◌, length, slice_get, slice_index, Some, ⊤}
use Rattle.scasp_loops.specs.declared.hints.Hint.{Hint}
use Rattle.scasp_search_rules.specs.declared.states.state.Literal.{Literal}
use Rattle.scasp_syntax.specs.Values.{are_ground}
use Rattle.scasp_syntax.specs.declared.atom.Lit.{Lit}

-- the literals from one place on and before another are so
pub record Within (p : Literal → Bool) (from to : ℕ) (ls : List Literal) : Type 0 where
  pub each : (j : ℕ) → (a : Literal) → from ≤ j → j < to → slice_get ls j ≡ Some a → p a ≡ true

-- ---- what they are

-- the key of a sign and a name
abbrev pub key_of : Bool → ℕ → ℕ
key_of positive n = n % 512 * 2 + (if positive then 1 else 0)

abbrev pub lit_key : Lit → ℕ
lit_key l = key_of l.positive l.atom.name

-- it has another key
abbrev pub is_other : ℕ → Literal → Bool
is_other k a = not (nat_eq (lit_key a.lit) k)

abbrev pub is_done : Literal → Bool
is_done a = a.is_done

-- it has another key, or is done
abbrev pub is_past : ℕ → Literal → Bool
is_past k a = is_other k a || a.is_done

abbrev pub has_no_variable : Literal → Bool
has_no_variable a = are_ground a.lit.atom.args

-- ---- hints

-- what the hint says of those before this place is so
pub record IsHint (ls : List Literal) (at : ℕ) (h : Hint) : Type 0 where
  pub same : Within (is_other h.key) h.same at ls
  pub around : Within (is_past h.key) h.around at ls
  pub undone : Within is_done h.undone at ls
  pub varied : Within has_no_variable h.varied at ls

pub record AreHints (ls : List Literal) (hs : List Hint) : Type 0 where
  pub each : (at : ℕ) → (h : Hint) → slice_get hs at ≡ Some h → IsHint ls at h

-- what is noted of the key, or 0
abbrev pub place_in : List ℕ → ℕ → ℕ
place_in ts k = slice_index ts k

-- from the place on that is noted of a key, no literal has it
pub record AreLatest (ls : List Literal) (ts : List ℕ) : Type 0 where
  pub each : (k : ℕ) → Within (is_other k) (place_in ts k) (length ls) ls

-- the hints and notes are right of the literals; one hint may be there for a literal that is to come
pub record AreHinted (ls : List Literal) (hs : List Hint) (ts : List ℕ) : Type 0 where
  pub hints : AreHints ls hs
  pub latest : AreLatest ls ts
  pub enough : length ls ≤ length hs
  pub few : length hs ≤ length ls + 1

-- so they are at each mark
abbrev pub AreHintedEach : List (List Literal) → List (List Hint) → List (List ℕ) → Type 0
AreHintedEach [] [] [] = ⊤
AreHintedEach (ls ∷ lss) (hs ∷ hss) (ts ∷ tss) = AreHinted ls hs ts × AreHintedEach lss hss tss
AreHintedEach lss hss tss = ⊥
