use Rattle.std.proofs.Common.{◌≡◌, ◌+◌, ◌≤◌, ◌&&◌, drop}
use Rattle.std.specs.List.{list_all}
use Rattle.scasp_syntax.specs.Tm.{weight_s}
use Rattle.scasp_syntax.specs.View.{tms_of}
use Rattle.scasp_syntax.proofs.Walks.{work}
use Rattle.scasp_answers_terms.specs.Tokens.Bounds.{terms_fit}
use Rattle.scasp_answers_lines.proofs.FormsLemmas.FitLemmas.{is_list_fit}
use Rattle.scasp_answers_lines.proofs.forms.bounds.terms_fit.Given as goal

abbrev pub invariant-loop-term : goal.invariant-loop-term
invariant-loop-term l = record {
  kept : (list_all is_list_fit l.unseen.items && terms_fit (tms_of (drop l.term-index l.list))) ≡ terms_fit l.terms;
  smaller : work l.unseen.items + weight_s (tms_of (drop l.term-index l.list)) ≤ work l.initial.unseen.items + weight_s (tms_of l.list);
}

abbrev pub invariant-loop-list : goal.invariant-loop-list
invariant-loop-list l = list_all is_list_fit l.unseen.items ≡ terms_fit l.terms

abbrev pub decreases-loop-list : goal.decreases-loop-list
decreases-loop-list l = work l.unseen.items
