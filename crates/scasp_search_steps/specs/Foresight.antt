-- States that come to nothing, and rules whose states are such.
use Rattle.std.specs.Prelude.{◌≡◌, ◌≢◌, ◌⊎◌, ℕ, Bool, true, false, not, List, [], ◌∷◌, ◌++◌, Result, Ok, Err, ⊤}
use Rattle.std.specs.List.{list_any}
use Rattle.scasp_hint.specs.Finding.{overflows_in}
use Rattle.scasp_hint.specs.Satisfying.{sat}
use Rattle.scasp_num.specs.Number.{Number}
use Rattle.scasp_search_constraints.specs.declared.assuming.step.SearchErr.{SearchErr}
use Rattle.scasp_search_constraints.specs.declared.assuming.step.SearchErr.TheVariants as errors
use Rattle.scasp_search_rules.specs.declared.states.state.State.{State}
use Rattle.scasp_search_rules.specs.Successors.Calls.{args_in}
use Rattle.scasp_search_rules.specs.Successors.Regions.{asked_with}
use Rattle.scasp_search_rules.specs.Successors.Replacing.{close_overflows}
use Rattle.scasp_search_rules.specs.Successors.Search.{pays, step}
use Rattle.scasp_search_rules.specs.Successors.Steps.{Step}
use Rattle.scasp_search_rules.specs.Successors.Variables.{is_universal, meaning, with_binding}
use Rattle.scasp_search_state.specs.Choices.{Point, waiting}
use Rattle.scasp_search_steps.specs.declared.expected.Expected.{Expected}
use Rattle.scasp_search_steps.specs.declared.expected.Expected.TheVariants as expected
use Rattle.scasp_syntax.specs.Constraints.{has_shape}
use Rattle.scasp_syntax.specs.Programs.{numbered}
use Rattle.scasp_syntax.specs.Same.{same_number}
use Rattle.scasp_syntax.specs.Tm.{Tm, Tms, var, num, app, nil, cons}
use Rattle.scasp_syntax.specs.Values.{under}
use Rattle.scasp_syntax.specs.declared.con.Con.{Con}
use Rattle.scasp_syntax.specs.declared.program.Program.{Program}

-- ---- states that come to nothing

-- Something is left to do, which costs nothing, is no overflow, and gives no state.
pub record ComesToNothing (p : Program) (s : State) : Type 0 where
  pub works : s.work ≢ []
  pub stays : close_overflows s s.work ≡ false
  pub free : pays s ≡ false
  pub none : (step p sat s).states ≡ []

-- the second states are the first ones without some in front, each of which comes to nothing
abbrev pub Skips : Program → List State → List State → Type 0
Skips p [] rest = rest ≡ []
Skips p (s ∷ ss) rest = (rest ≡ s ∷ ss) ⊎ (ComesToNothing p s × Skips p ss rest)

-- the same where states may be left out; else the states are the same
abbrev pub SkipsIf : Bool → Program → List State → List State → Type 0
SkipsIf true p old new = Skips p old new
SkipsIf false p old new = new ≡ old

-- ---- states that are put in front

-- These states stand in front of those that waited: the first is the present one, and the others wait. Where they may, some in front are left
-- out, each of which comes to nothing. Where none is left, those that waited wait.
abbrev pub ForkedIf : Bool → Program → List State → State → List Point → List Point → Bool → Type 0
ForkedIf may p states now new old true = SkipsIf may p (states ++ waiting p old) (now ∷ waiting p new)
ForkedIf may p states now new old false = SkipsIf may p (states ++ waiting p old) (waiting p old) × (new ≡ old)

-- the same of a step; an overflow is answered only where a list that the step asks overflows
abbrev pub ForksIf : Bool → Program → Step → State → List Point → List Point → Result Bool SearchErr → Type 0
ForksIf may p step now new old (Ok went) = ForkedIf may p step.states now new old went
ForksIf may p step now new old (Err errors.Overflow) = list_any overflows_in step.asked ≡ true
ForksIf may p step now new old (Err errors.Memory) = ⊤

-- ---- what is known of a term

-- The variable is existential and unbound. Bound to another number it has no valuation with what is given, whatever else is asked.
pub record IsLeft (s : State) (x : ℕ) (q : Number) : Type 0 where
  pub existential : is_universal s x ≡ false
  pub unbound : meaning s x ≡ var x
  pub others :
      (r : Number) (more : List Con) → same_number q r ≡ false
      → sat (asked_with (with_binding s x (num r)) (s.given ++ more)) ≡ false

abbrev pub Expects : State → Tm → Expected → Type 0
Expects s t expected.Open = ⊤
Expects s t (expected.Number q) = under (meaning s) t ≡ num q
Expects s t (expected.Name f n) = has_shape f n (under (meaning s) t) ≡ true
Expects s t (expected.Left q) = (x : ℕ) × (under (meaning s) t ≡ var x) × IsLeft s x q

-- the same of the first of these terms, if there is one
abbrev pub ExpectsFirst : State → Tms → Expected → Type 0
ExpectsFirst s nil e = e ≡ expected.Open
ExpectsFirst s (cons t ts) e = Expects s t e

-- ---- heads of rules

-- a term of which this is known is not the number
abbrev pub clashes_with_number : Expected → Number → Bool
clashes_with_number expected.Open r = false
clashes_with_number (expected.Number q) r = not (same_number q r)
clashes_with_number (expected.Name f n) r = true
clashes_with_number (expected.Left q) r = not (same_number q r)

-- a term of which this is known is not the name with arguments
abbrev pub clashes_with_name : Expected → Tm → Bool
clashes_with_name expected.Open u = false
clashes_with_name (expected.Number q) u = true
clashes_with_name (expected.Name f n) u = not (has_shape f n u)
clashes_with_name (expected.Left q) u = false

-- a term of which this is known is not this one, whatever its variables stand for
abbrev pub clashes : Expected → Tm → Bool
clashes e (var x) = false
clashes e (num r) = clashes_with_number e r
clashes e (app g us) = clashes_with_name e (app g us)

abbrev pub first_clashes : Expected → Tms → Bool
first_clashes e nil = false
first_clashes e (cons u us) = clashes e u

-- the same of the first argument of the head of the rule
abbrev pub head_clashes : Program → Expected → ℕ → Bool
head_clashes p e k = first_clashes e (args_in (numbered p.clauses k))
