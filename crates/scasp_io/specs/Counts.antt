-- Counts of calls and of faults. A count kept in 64 bits stands still at its end.
use Rattle.std.specs.Prelude.{ℕ, ◌+◌, ◌-◌, ◌^◌, ◌≤◌, min, Bool, if◌then◌else◌}

-- a count one higher, or at the end of its 64 bits
abbrev pub raised : ℕ → ℕ
raised count = min (count + 1) (2 ^ 64 - 1)

-- a count that was raised if the test holds
abbrev pub raised_if : Bool → ℕ → ℕ
raised_if test count = if test then raised count else count

-- a count that never falls rose from the old to the new, or stands at the end of its 64 bits
abbrev pub Rose : ℕ → ℕ → Type 0
Rose old new = raised old ≤ new
