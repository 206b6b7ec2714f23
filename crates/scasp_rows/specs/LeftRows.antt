-- The rows that are left where some variables are eliminated.
use Rattle.std.specs.Prelude.{◌≡◌, ℕ, List, [], length, map, Option, None, Some, Result, Ok, Err, ⊤}
use Rattle.scasp_num.specs.Linear.{Linear}
use Rattle.scasp_rows.specs.declared.state.Halt.{Halt}
use Rattle.scasp_rows.specs.declared.state.Halt.TheVariants as halt
use Rattle.scasp_rows.specs.declared.state.State.{State}
use Rattle.scasp_rows.specs.declared.verdict.LinErr.{LinErr}
use Rattle.scasp_rows.specs.declared.verdict.LinErr.TheVariants as err
use Rattle.scasp_rows.specs.Elimination.{all_looked, and_then, eliminated}

-- the elimination of these variables of the rows, in order
abbrev pub elimination_of : List ℕ → List Linear → Result State Halt
elimination_of xs rows = and_then (all_looked 1 rows (record { standing = []; steps = []; last = length rows })) (eliminated xs)

-- the rows that stand; none where a false constant row is reached
abbrev pub rows_left : Result State Halt → Result (Option (List Linear)) LinErr
rows_left (Ok s) = Ok (Some (map (λ r. r.row) s.standing))
rows_left (Err (halt.Unsat steps)) = Ok None
rows_left (Err halt.Overflow) = Err err.Overflow
rows_left (Err halt.Memory) = Err err.Memory

-- the call answers so, where there is memory
abbrev pub Leaves : Result (Option (List Linear)) LinErr → Result (Option (List Linear)) LinErr → Type 0
Leaves (Ok left) o = o ≡ Ok left
Leaves (Err err.Overflow) o = o ≡ Err err.Overflow
Leaves (Err err.Memory) o = ⊤
