use Rattle.std.proofs.Common.{◌≡◌, ◌-◌, ◌^◌, ℕ, List}
use Rattle.scasp_print_samples.specs.Tables.{IsTable}
use Rattle.scasp_print_samples.proofs.tables.name_sample.Given as goal

abbrev pub invariant-loop-alloc : goal.invariant-loop-alloc
invariant-loop-alloc l =
    ((names : List (List ℕ)) → IsTable names l.fn.table → IsTable names l.table) × (l.table.program ≡ l.fn.table.program)

abbrev pub decreases-loop-alloc : goal.decreases-loop-alloc
decreases-loop-alloc l = 2 ^ 64 - l.table.tried
