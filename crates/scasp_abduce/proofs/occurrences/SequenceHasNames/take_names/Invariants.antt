use Rattle.std.proofs.Common.{◌≡◌, ℕ, ◌||◌, drop}
use Rattle.std.specs.List.{flat_map}
use Rattle.scasp_abduce.specs.Occurrences.{has}
use Rattle.scasp_abduce.proofs.occurrences.SequenceHasNames.take_names.Given as goal

abbrev pub invariant-loop-item : goal.invariant-loop-item
invariant-loop-item g l =
    (n : ℕ) → (has l.taken n || has (flat_map g.T.HasNames.names (drop l.item-index l.item-items)) n) ≡ (has l.fn.taken n || has (flat_map g.T.HasNames.names l.item-items) n)
