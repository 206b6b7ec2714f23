use Rattle.std.proofs.Common.{List, map, reverse, vec_len}
use Rattle.scasp_checker_rules.specs.Told.{Told}
use Rattle.scasp_lines_walk.specs.Shown.TableView.{told_from}
use Rattle.scasp_checker.specs.Partners.Partners.{behind_of, group_of}
use Rattle.scasp_checker.proofs.PartnersLemmas.PartnerLemmas.{Grouped}
use Rattle.scasp_checker.proofs.partners.partners.partners_of.Given as goal

abbrev pub invariant-loop-saying : goal.invariant-loop-saying
invariant-loop-saying l =
    (ts : List Told) × Grouped (map told_from l.left.items) (map told_from l.fn.left.items) ts (behind_of l.behind) (map group_of (reverse l.all.items))

abbrev pub decreases-loop-saying : goal.decreases-loop-saying
decreases-loop-saying l = vec_len l.left
