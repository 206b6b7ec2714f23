use Rattle.std.proofs.Common.{◌≡◌, ℕ, ◌≤◌, ◌+◌, ◌-◌, List, length, take, IfSome, vec_len}
use Rattle.scasp_io.proofs.whole.read_file.Given as goal

abbrev pub invariant-loop-chunk : goal.invariant-loop-chunk
invariant-loop-chunk g l =
    IfSome (g.F.Files.told l.fn.files l.name)
    (λ told. (l.all.items ≡ take (vec_len l.all) told) × (vec_len l.all ≤ length told))
    × ((other : List ℕ) → g.F.Files.told l.files other ≡ g.F.Files.told l.fn.files other)
    × ((other : List ℕ) → g.F.Files.faults l.fn.files other ≤ g.F.Files.faults l.files other)

-- each read that goes on takes at least one byte
abbrev pub decreases-loop-chunk : goal.decreases-loop-chunk
decreases-loop-chunk g l = l.limit + 1 - vec_len l.all
