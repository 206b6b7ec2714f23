-- Runs of one query say the same.
use Rattle.std.specs.Prelude.{◌≡◌, ◌≢◌, ℕ, List, map, Option, Some}
use Rattle.scasp_cert.specs.Certificate.{Certificate}
use Rattle.scasp_cert.specs.Skeleton.{skeleton}
use Rattle.scasp_command_run.specs.Queries.{Printed, Prints}
use Rattle.scasp_command_run.specs.declared.ends.QueryEnd.{QueryEnd}
use Rattle.scasp_command_run.specs.declared.ends.QueryEnd.TheVariants.{Overflow}
use Rattle.scasp_written.specs.Written.Rests.{Rest}
use Rattle.scasp_syntax.specs.declared.program.Program.{Program}

-- the answers without hints and clash lines
abbrev pub skeletons : List Printed → List Certificate
skeletons all = map (λ one. skeleton one.certificate) all

-- From one search two runs that were neither cut off nor ended by an overflow print the same answers in the same order, but for hints and clash
-- lines, and end alike.
abbrev pub RunsAgree : Type 0
RunsAgree =
    (p : Program) (names : List (List ℕ)) (asked : Option ℕ) (rest : Rest) (one other : List Printed) (end last : QueryEnd)
    → Prints p names asked rest one (Some end) → Prints p names asked rest other (Some last) → end ≢ Overflow → last ≢ Overflow
    → (skeletons one ≡ skeletons other) × (end ≡ last)
