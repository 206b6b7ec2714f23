-- Ground rules over numbers, which are places in a list of atoms.
use Rattle.std.specs.Prelude.{◌≡◌, ℕ, Bool, false, ◌&&◌, not, if◌then◌else◌, List, [], ◌∷◌, slice_get, slice_index_or, Option, None, Some, is_none, nat_lt}
use Rattle.std.specs.List.{list_any, flat_map}
use Rattle.scasp_model.specs.Atoms.{among}
use Rattle.scasp_model.specs.declared.program.GroundClause.{GroundClause}
use Rattle.scasp_syntax.specs.Same.{same_bool}
use Rattle.scasp_syntax.specs.declared.atom.Atom.{Atom}
use Rattle.scasp_syntax.specs.declared.atom.Lit.{Lit}
use Rattle.scasp_worklist.specs.declared.numbered.NumberedRule.{NumberedRule}
use Rattle.scasp_extend_levels.specs.declared.numbered.NumberedLit.{NumberedLit}
use Rattle.scasp_extend_levels.specs.declared.numbered.NumberedClause.{NumberedClause}
use Rattle.scasp_extend_levels.specs.declared.standings.Standing.{Standing}

-- the numbered literals stand for these, in order
abbrev pub StandBody : List Atom → List NumberedLit → List Lit → Type 0
StandBody t [] [] = Unit {0}
StandBody t [] (l ∷ ls) = ⊥
StandBody t (n ∷ ns) [] = ⊥
StandBody t (n ∷ ns) (l ∷ ls) = (n.positive ≡ l.positive) × (slice_get t n.atom ≡ Some l.atom) × StandBody t ns ls

-- the number stands for this head
abbrev pub StandsHead : List Atom → ℕ → Option Atom → Type 0
StandsHead t n None = ⊥
StandsHead t n (Some a) = slice_get t n ≡ Some a

-- the numbered rules stand for these, in order
abbrev pub StandAll : List Atom → List NumberedClause → List GroundClause → Type 0
StandAll t [] [] = Unit {0}
StandAll t [] (c ∷ cs) = ⊥
StandAll t (n ∷ ns) [] = ⊥
StandAll t (n ∷ ns) (c ∷ cs) = StandsHead t n.head c.head × StandBody t n.body c.body × StandAll t ns cs

-- where literals of levels below n are read in m: the truth of an atom of such a level, and whether it has the sign `+`
abbrev pub standing_of : (Atom → ℕ) → (Atom → Bool) → ℕ → List Atom → Atom → Standing
standing_of level plus n m a = record { known = if nat_lt (level a) n then Some (among m a) else None; plus = plus a }

abbrev pub standing_at : List Standing → ℕ → Standing
standing_at st n = slice_index_or st n (record { known = None; plus = false })

-- the literal is false by what is known, or, where nothing is known of its atom, is negated and its atom in the set
abbrev pub fails_by : Option Bool → Bool → Bool → Bool
fails_by None positive inside = not positive && inside
fails_by (Some truth) positive inside = not (same_bool truth positive)

abbrev pub fails : List Standing → (ℕ → Bool) → NumberedLit → Bool
fails st set l = fails_by (standing_at st l.atom).known l.positive (set l.atom)

-- the literal is positive, and nothing is known of its atom
abbrev pub stays : List Standing → NumberedLit → Bool
stays st l = is_none (standing_at st l.atom).known && l.positive

abbrev pub number_left : List Standing → NumberedLit → List ℕ
number_left st l = if stays st l then l.atom ∷ [] else []

abbrev pub numbers_left : List Standing → List NumberedLit → List ℕ
numbers_left st body = flat_map (number_left st) body

-- the numbers of the body's positive literals of which nothing is known; none where a literal is false
abbrev pub body_left : List Standing → (ℕ → Bool) → List NumberedLit → Option (List ℕ)
body_left st set body = if list_any (fails st set) body then None else Some (numbers_left st body)

abbrev pub rule_left : ℕ → Option (List ℕ) → List NumberedRule
rule_left head None = []
rule_left head (Some body) = record { head = head; body = body } ∷ []

-- what the rule leaves in the reduct by the set, where its head has this sign
abbrev pub reduced : List Standing → Bool → (ℕ → Bool) → NumberedClause → List NumberedRule
reduced st plus set c = if same_bool plus (standing_at st c.head).plus then rule_left c.head (body_left st set c.body) else []

abbrev pub reduct : List Standing → Bool → (ℕ → Bool) → List NumberedClause → List NumberedRule
reduct st plus set cs = flat_map (reduced st plus set) cs
