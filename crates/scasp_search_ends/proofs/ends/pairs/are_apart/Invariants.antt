use Rattle.std.proofs.Common.{List, map, vec_len}
use Rattle.scasp_checker_rules.specs.Told.{Told}
use Rattle.scasp_lines_walk.specs.Shown.TableView.{told_from}
use Rattle.scasp_search_ends.proofs.EndsLemmas.BehindLemmas.{Walked}
use Rattle.scasp_search_ends.specs.Ends.Inside.Behind.{told_under}
use Rattle.scasp_search_ends.proofs.ends.pairs.are_apart.Given as goal

abbrev pub invariant-loop-saying : goal.invariant-loop-saying
invariant-loop-saying l =
    (ts : List Told) × Walked l.free l.given (map told_from l.left.items) (map told_from l.fn.left.items) ts (told_under l.behind)

abbrev pub decreases-loop-saying : goal.decreases-loop-saying
decreases-loop-saying l = vec_len l.left
