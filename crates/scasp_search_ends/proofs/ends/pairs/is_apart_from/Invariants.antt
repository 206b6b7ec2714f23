use Rattle.std.proofs.Common.{drop, map}
use Rattle.scasp_lines_walk.specs.Shown.TableView.{told_from, told_of}
use Rattle.scasp_search_ends.specs.Ends.Inside.Apart.{IsLeft, lists_behind}
use Rattle.scasp_search_ends.proofs.ends.pairs.is_apart_from.Given as goal

abbrev pub invariant-loop-second : goal.invariant-loop-second
invariant-loop-second l =
    IsLeft (lists_behind l.free l.given (told_of l.first) (map (λ s. told_from s.now) (drop l.second-index l.seconds)))
    (lists_behind l.free l.given (told_of l.first) (map (λ s. told_from s.now) l.seconds))
