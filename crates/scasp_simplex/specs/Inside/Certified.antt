-- What is right of a verdict on rows.
use Rattle.std.specs.Prelude.{◌≡◌, ℕ, true, Some, Result, Ok, Err, List, ⊤}
use Rattle.scasp_list.specs.Each.{Each}
use Rattle.scasp_num.specs.Linear.{Linear, IsNormal}
use Rattle.scasp_rows.specs.declared.verdict.LinErr.{LinErr}
use Rattle.scasp_rows.specs.declared.verdict.LinErr.TheVariants as err
use Rattle.scasp_rows.specs.declared.verdict.Verdict.{Verdict}
use Rattle.scasp_rows.specs.declared.verdict.Verdict.TheVariants as verdict
use Rattle.scasp_rows.specs.Points.{IsMet, is_false}
use Rattle.scasp_rows.specs.Steps.{StepInRange, row_numbered}
use Rattle.scasp_rows.specs.Verdicts.{verdict_of}
use Rattle.scasp_simplex.specs.Reached.{AddsFalse}

-- some point meets all rows; or the steps add a false row, by multipliers in range
abbrev pub IsRight : List Linear → Verdict → Type 0
IsRight rows verdict.Sat = IsMet rows
IsRight rows (verdict.Unsat steps) = AddsFalse rows steps × Each StepInRange steps

-- the answer is right, and an overflow is one of the elimination of the rows
abbrev pub Answers : List Linear → Result Verdict LinErr → Type 0
Answers rows (Ok v) = IsRight rows v
Answers rows (Err err.Overflow) = verdict_of rows ≡ Err err.Overflow
Answers rows (Err err.Memory) = ⊤

-- the row with the number is a false constant row
abbrev pub IsFalseAt : List Linear → ℕ → Type 0
IsFalseAt rows number = (r : Linear) × (Some r ≡ row_numbered rows number) × (is_false r ≡ true) × IsNormal r
