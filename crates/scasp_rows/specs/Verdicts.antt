-- What an elimination says of the rows.
use Rattle.std.specs.Prelude.{◌≡◌, List, Result, Ok, Err, ⊤}
use Rattle.scasp_num.specs.declared.hints.Step.{Step}
use Rattle.scasp_num.specs.Linear.{Linear}
use Rattle.scasp_rows.specs.declared.state.Halt.{Halt}
use Rattle.scasp_rows.specs.declared.state.Halt.TheVariants as halt
use Rattle.scasp_rows.specs.declared.state.State.{State}
use Rattle.scasp_rows.specs.declared.verdict.LinErr.{LinErr}
use Rattle.scasp_rows.specs.declared.verdict.LinErr.TheVariants as err
use Rattle.scasp_rows.specs.declared.verdict.Verdict.{Verdict}
use Rattle.scasp_rows.specs.declared.verdict.Verdict.TheVariants as verdict
use Rattle.scasp_rows.specs.Elimination.{elimination}

-- satisfiable where all variables are gone, unsatisfiable by the steps that reach a false constant row, or too large
abbrev pub verdict_by : Result State Halt → Result Verdict LinErr
verdict_by (Ok s) = Ok verdict.Sat
verdict_by (Err (halt.Unsat steps)) = Ok (verdict.Unsat steps)
verdict_by (Err halt.Overflow) = Err err.Overflow
verdict_by (Err halt.Memory) = Err err.Memory

abbrev pub verdict_of : List Linear → Result Verdict LinErr
verdict_of rows = verdict_by (elimination rows)

-- the call answers so, where there is memory
abbrev pub Says : Result Verdict LinErr → Result Verdict LinErr → Type 0
Says (Ok v) o = o ≡ Ok v
Says (Err err.Overflow) o = o ≡ Err err.Overflow
Says (Err err.Memory) o = ⊤

-- P holds of the steps, where the rows are unsatisfiable by steps
abbrev pub IfUnsat : Verdict → (List Step → Type 0) → Type 0
IfUnsat (verdict.Unsat steps) P = P steps
IfUnsat verdict.Sat P = ⊤
