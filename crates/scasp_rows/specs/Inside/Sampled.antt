-- What a sample answers.
use Rattle.std.specs.Prelude.{◌≡◌, List, Option, None, Result, Ok, Err, ⊤}
use Rattle.scasp_num.specs.declared.linear.RatPair.{RatPair}
use Rattle.scasp_num.specs.Linear.{Linear}
use Rattle.scasp_rows.specs.declared.state.Halt.{Halt}
use Rattle.scasp_rows.specs.declared.state.Halt.TheVariants as halt
use Rattle.scasp_rows.specs.declared.verdict.LinErr.{LinErr}
use Rattle.scasp_rows.specs.declared.verdict.LinErr.TheVariants as err
use Rattle.scasp_rows.specs.Samples.{sample_of}

abbrev pub answer_by : Result (Option (List RatPair)) Halt → Result (Option (List RatPair)) LinErr
answer_by (Ok point) = Ok point
answer_by (Err (halt.Unsat steps)) = Ok None
answer_by (Err halt.Overflow) = Err err.Overflow
answer_by (Err halt.Memory) = Err err.Memory

-- the point that is chosen for rows and disequations, none where there is none, or too large
abbrev pub sample_answer : List Linear → List (List Linear) → Result (Option (List RatPair)) LinErr
sample_answer rows differ = answer_by (sample_of rows differ)

-- the call answers so, where there is memory
abbrev pub Samples : Result (Option (List RatPair)) LinErr → Result (Option (List RatPair)) LinErr → Type 0
Samples (Ok point) o = o ≡ Ok point
Samples (Err err.Overflow) o = o ≡ Err err.Overflow
Samples (Err err.Memory) o = ⊤
