-- An equation replaces rows one by one, each in its place.
use Rattle.std.specs.Prelude.{◌≡◌, ℕ, List, [], ◌∷◌, take, drop, Option, Some, Result, Ok, Err, ⊤}
use Rattle.scasp_num.specs.Arithmetic.{◌>>=◌}
use Rattle.scasp_rows.specs.declared.replacing.Made.{Made}
use Rattle.scasp_rows.specs.declared.replacing.Progress.{Progress}
use Rattle.scasp_rows.specs.declared.state.Halt.{Halt}
use Rattle.scasp_rows.specs.declared.state.Halt.TheVariants as halt
use Rattle.scasp_rows.specs.declared.state.Standing.{Standing}
use Rattle.scasp_rows.specs.declared.state.State.{State}
use Rattle.scasp_rows.specs.Steps.{row_sum}
use Rattle.scasp_rows.specs.Elimination.{against, factor, replaced, share, size_over, solved}

-- the rows that are done
abbrev pub done : Progress → State
done g = record { standing = take g.done g.state.standing; steps = g.state.steps; last = g.state.last }

-- the rows that are left
abbrev pub left : Progress → List Standing
left g = drop g.done g.state.standing

-- by the equation p, each row that is left becomes one without x
abbrev pub solved_from : ℕ → Standing → Progress → Result State Halt
solved_from x p g = solved x p (left g) (done g)

-- the row that q becomes by the equation p, and its step
abbrev pub replacement : ℕ → Standing → Standing → Option Made
replacement x p q =
    let g = share (factor x p) (factor x q) in
    let a = size_over (factor x p) g in
    let b = against (factor x p) (factor x q) g in
    row_sum a q.row b p.row >>= (λ row. Some (record { step = record { a = a; p = q.number; b = b; q = p.number }; row = row }))

-- the first row that is left becomes one without x
abbrev pub next_replaced : ℕ → Standing → List Standing → State → Result State Halt
next_replaced x p [] s = Ok s
next_replaced x p (q ∷ qs) s = replaced x p q qs s

-- the rows that are done are those of o, and these are left
abbrev pub Puts : Result Progress Halt → List Standing → Result State Halt → Type 0
Puts (Ok g) later o = (o ≡ Ok (done g)) × (left g ≡ later)
Puts (Err halt.Memory) later o = ⊤
Puts (Err halt.Overflow) later o = o ≡ Err halt.Overflow
Puts (Err (halt.Unsat steps)) later o = o ≡ Err (halt.Unsat steps)

-- what is left to do comes to o
abbrev pub Goes : ℕ → Standing → Result Progress Halt → Result State Halt → Type 0
Goes x p (Ok g) o = o ≡ solved_from x p g
Goes x p (Err halt.Memory) o = ⊤
Goes x p (Err halt.Overflow) o = o ≡ Err halt.Overflow
Goes x p (Err (halt.Unsat steps)) o = o ≡ Err (halt.Unsat steps)
