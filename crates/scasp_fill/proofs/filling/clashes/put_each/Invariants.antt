use Rattle.std.proofs.Common.{◌≡◌, drop, map}
use Rattle.scasp_fill.specs.Filling.Inside.Clashing.{with_pairs}
use Rattle.scasp_checker.specs.Partners.Partners.{pairs_of}
use Rattle.scasp_lines_walk.specs.Shown.TableView.{told_from, told_of}
use Rattle.scasp_fill.proofs.filling.clashes.put_each.Given as goal

abbrev pub invariant-loop-second : goal.invariant-loop-second
invariant-loop-second l =
    with_pairs l.free l.given (pairs_of (told_of l.first, map (λ s. told_from s.now) (drop l.second-index l.seconds))) l.made
    ≡ with_pairs l.free l.given (pairs_of (told_of l.first, map (λ s. told_from s.now) l.seconds)) l.fn.made
