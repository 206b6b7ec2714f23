-- Variables to which a list of constraints leaves one number, and parts that share only such with the rest.
use Rattle.std.specs.Prelude.{◌≡◌, ℕ, Bool, true, ◌||◌, not, List, ◌++◌}
use Rattle.std.specs.List.{list_all}
use Rattle.scasp_num.specs.Number.{Number}
use Rattle.scasp_syntax.specs.Constraints.{Meets}
use Rattle.scasp_syntax.specs.Tm.{num}
use Rattle.scasp_syntax.specs.Values.{Sub, Valuation}
use Rattle.scasp_syntax.specs.declared.con.Con.{Con}
use Rattle.scasp_unify.specs.Unification.{then_by}
use Rattle.scasp_law_parts.specs.Parts.{SatUnder, lies_within, inside, outside}

-- each valuation that meets the constraints, as s reads them, makes x this number
abbrev pub Makes : Sub → List Con → ℕ → Number → Type 0
Makes s cs x q = (w : Valuation) → Meets (then_by s w.of) cs → w.of x ≡ num q

abbrev pub either : (ℕ → Bool) → (ℕ → Bool) → ℕ → Bool
either p f x = p x || f x

-- each constraint has variables of p and of f alone, or none of p
abbrev pub are_cut : Sub → (ℕ → Bool) → (ℕ → Bool) → List Con → Bool
are_cut s p f cs = list_all (λ c. lies_within s (either p f) c || lies_within s (λ x. not (p x)) c) cs

-- the constraints of the part, those that make the shared variables numbers, and those that are asked
abbrev pub cut_with : Sub → (ℕ → Bool) → (ℕ → Bool) → List Con → List Con → List Con → List Con
cut_with s p f cs facts asked = inside s (either p f) cs ++ (facts ++ asked)

-- When the part p is enough although it shares the variables f with the rest: constraints that follow from the list, the facts, make each
-- of them a number, and leave the rest a valuation.
pub record IsCut (s : Sub) (p f : ℕ → Bool) (value : ℕ → Number) (cs facts asked : List Con) : Type 0 where
  pub cut : are_cut s p f cs ≡ true
  pub within : list_all (lies_within s (either p f)) asked ≡ true
  pub made : (x : ℕ) → f x ≡ true → Makes s facts x (value x)
  pub known : (w : Valuation) → Meets (then_by s w.of) cs → Meets (then_by s w.of) facts
  pub met : SatUnder s (facts ++ outside s (either p f) cs)
