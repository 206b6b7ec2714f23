-- What stands in the way of extending an accepted certificate over a domain, part by part.
use Rattle.std.specs.Prelude.{ℕ, ◌^◌, Bool, true, false, ◌&&◌, nat_eq, nat_lt, if◌then◌else◌, List, [], ◌∷◌, length, Option, None, Some}
use Rattle.std.specs.Option.{option_or}
use Rattle.scasp_cert.specs.Certificate.{Certificate}
use Rattle.scasp_extend_instances.specs.Within.{overflows, ranging}
use Rattle.scasp_ground.specs.Bounded.{all_tested, is_too_large, overflows as grounding_overflows}
use Rattle.scasp_lines.specs.Lines.{free_of}
use Rattle.scasp_lines.specs.Said.{Said, are_terms_in, said_by_line}
use Rattle.scasp_lines.specs.Walk.{Line}
use Rattle.scasp_syntax.specs.Tm.{Tm, Tms, items}
use Rattle.scasp_syntax.specs.Values.{Sub, are_ground, giving}
use Rattle.scasp_syntax.specs.declared.program.Program.{Program}
use Rattle.scasp_extend_parts.specs.declared.errors.ExtendErr.{ExtendErr}
use Rattle.scasp_extend_parts.specs.declared.errors.ExtendErr.TheVariants.{Given, TooLarge, Overflow, NotClosed}

-- what is given does not hold; or a row overflows on the way
abbrev pub unless_met : Option Bool → Option ExtendErr
unless_met None = Some Overflow
unless_met (Some true) = None
unless_met (Some false) = Some Given

-- the terms are not as many as the free variables, not ground, or do not meet what is given
abbrev pub given_unmet : Certificate → Tms → Option ExtendErr
given_unmet c ts =
    if nat_eq (length (items ts)) (free_of c) && are_ground ts
    then unless_met (all_tested (giving (items ts)) c.given)
    else Some Given

-- a term that is listed for a variable of a rule has a value outside the domain
abbrev pub unless_closed : List Tm → ℕ → List Said → Option ExtendErr
unless_closed d at ss = if are_terms_in d ss then None else Some (NotClosed at)

abbrev pub too_large_if : Bool → Option ExtendErr
too_large_if true = Some TooLarge
too_large_if false = None

abbrev pub overflow_if : Bool → Option ExtendErr
overflow_if true = Some Overflow
overflow_if false = None

-- around the line: too many ways of giving the clause variables that opened members of the domain; a row that overflows at one; a
-- listed term with a value outside the domain at one
abbrev pub line_obstacle : Sub → List Tm → Line → Option ExtendErr
line_obstacle v d l =
    option_or (too_large_if (nat_lt 1000000 (length d ^ ranging l.here.opened)))
    (option_or (overflow_if (overflows d l.here.opened v))
    (unless_closed d l.at (said_by_line v d l)))

-- that of the first line that has one
abbrev pub lines_obstacle : Sub → List Tm → List Line → Option ExtendErr
lines_obstacle v d [] = None
lines_obstacle v d (l ∷ ls) = option_or (line_obstacle v d l) (lines_obstacle v d ls)

-- the program has too many instances, or a row that overflows at one
abbrev pub grounding_obstacle : Program → List Tm → Option ExtendErr
grounding_obstacle p d = option_or (too_large_if (is_too_large d p)) (overflow_if (grounding_overflows d p))
