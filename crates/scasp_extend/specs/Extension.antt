-- What stands in the way of a model above an answer.
use Rattle.std.specs.Prelude.{ℕ, List, [], ◌∷◌, Option, None, Some}
use Rattle.std.specs.Option.{option_or}
use Rattle.scasp_cert.specs.Certificate.{Certificate}
use Rattle.scasp_checker_rules.specs.Faults.{faults}
use Rattle.scasp_checker_rules.specs.Refusals.{first}
use Rattle.scasp_checker_rules.specs.declared.refusal.Refusal.{Refusal}
use Rattle.scasp_extend_instances.specs.Values.{valued}
use Rattle.scasp_extend_parts.specs.Obstacles.{given_unmet, grounding_obstacle, lines_obstacle}
use Rattle.scasp_extend_parts.specs.declared.errors.ExtendErr.{ExtendErr}
use Rattle.scasp_extend_parts.specs.declared.errors.ExtendErr.TheVariants.{Refused, Joins}
use Rattle.scasp_graph.specs.Map.{map_faults}
use Rattle.scasp_lines.specs.Lines.{lines}
use Rattle.scasp_sound.specs.MapLevels.{covered}
use Rattle.scasp_syntax.specs.Tm.{Tm, Tms, items}
use Rattle.scasp_syntax.specs.declared.program.Program.{Program}

-- the first thing that is wrong with the certificate
abbrev pub refused_by : Option Refusal → Option ExtendErr
refused_by None = None
refused_by (Some r) = Some (Refused r)

-- the first of the clauses that break its map
abbrev pub joins_by : List ℕ → Option ExtendErr
joins_by [] = None
joins_by (number ∷ others) = Some (Joins (record { rule = number }))

-- the certificate is not accepted, or the program does not keep its map but for the clauses of its checks
abbrev pub not_right : Program → Certificate → Option ExtendErr
not_right p c = option_or (refused_by (first (faults p c))) (joins_by (map_faults p (covered c) c.map))

-- The first of what stands in the way of extending the certificate over the domain d where its free variables have the values ts: it
-- is not right; the values do not serve; a line's instances; the program's instances.
abbrev pub obstacle : Program → Certificate → Tms → List Tm → Option ExtendErr
obstacle p c ts d =
    option_or (not_right p c)
    (option_or (given_unmet c ts)
    (option_or (lines_obstacle (valued (items ts)) d (lines p c))
    (grounding_obstacle p d)))
