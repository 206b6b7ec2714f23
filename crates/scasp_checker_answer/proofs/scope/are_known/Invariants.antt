use Rattle.std.proofs.Common.{◌≡◌, ◌+◌, ◌≤◌, ◌&&◌, drop}
use Rattle.std.specs.List.{list_all}
use Rattle.scasp_syntax.specs.Tm.{weight_s}
use Rattle.scasp_syntax.specs.View.{tms_of}
use Rattle.scasp_syntax.proofs.Walks.{work}
use Rattle.scasp_lines.specs.Known.{are_known}
use Rattle.scasp_checker_answer.proofs.KnownLemmas.{is_list_known}
use Rattle.scasp_checker_answer.proofs.scope.are_known.Given as goal

abbrev pub invariant-loop-term : goal.invariant-loop-term
invariant-loop-term g l = record {
  kept : (list_all (is_list_known (g.S.Scope.known l.scope)) l.unseen.items && are_known (g.S.Scope.known l.scope) (tms_of (drop l.term-index l.list))) ≡ are_known (g.S.Scope.known l.scope) l.terms;
  smaller : work l.unseen.items + weight_s (tms_of (drop l.term-index l.list)) ≤ work l.initial.unseen.items + weight_s (tms_of l.list);
}

abbrev pub invariant-loop-list : goal.invariant-loop-list
invariant-loop-list g l = list_all (is_list_known (g.S.Scope.known l.scope)) l.unseen.items ≡ are_known (g.S.Scope.known l.scope) l.terms

abbrev pub decreases-loop-list : goal.decreases-loop-list
decreases-loop-list g l = work l.unseen.items
