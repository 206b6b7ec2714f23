-- What is asked of a list, and what becomes of a constraint that is assumed.
use Rattle.std.specs.Prelude.{◌≡◌, ℕ, Bool, not, if◌then◌else◌, List, [], ◌∷◌, ◌++◌}
use Rattle.scasp_hint.specs.Satisfying.{sat}
use Rattle.scasp_syntax.specs.declared.con.Con.{Con}
use Rattle.scasp_unify.specs.Negations.{negated}
use Rattle.scasp_constraint_store.specs.Held.{Held, after, with_constraint}
use Rattle.scasp_constraint_store.specs.declared.asking.Assumed.{Assumed}
use Rattle.scasp_constraint_store.specs.declared.asking.Assumed.TheVariants as answer

-- the list entails the constraint by the test of its negation, whose new variables start at k
abbrev pub is_tested : ℕ → List Con → Con → Bool
is_tested k cs c = not (sat (cs ++ negated k c ∷ []))

abbrev pub assumed : ℕ → List Con → Con → Assumed
assumed k cs c = if is_tested k cs c then answer.Entailed else (if sat (cs ++ c ∷ []) then answer.Added else answer.Impossible)

abbrev pub AfterAssumed : Assumed → Con → Held → Held → Type 0
AfterAssumed answer.Entailed c old new = new ≡ old
AfterAssumed answer.Impossible c old new = new ≡ old
AfterAssumed answer.Added c old new = new ≡ after old (with_constraint c old.now)
