use Rattle.std.proofs.Common.{◌∙◌, Option, List, ap, sym}
use Rattle.scasp_fill.specs.Filling.Filled.{hint_for, hint_of, or_terms}
use Rattle.scasp_fill.specs.Filling.Inside.Findings.{lists_in}
use Rattle.scasp_hint.specs.Finding.{Found}
use Rattle.scasp_hint_steps.specs.Pruned.{found_pruned}
use Rattle.scasp_syntax.specs.declared.con.Con.{Con}
use Rattle.scasp_fill.proofs.filling.hints.hint_for.Goals as goal

pub returns-in_ok-find_hint-in-Some-clause-hint : goal.returns-in_ok-find_hint-in-Some-clause-hint
returns-in_ok-find_hint-in-Some-clause-hint c =
    c.found_hint.ensures.hint ∙ ap (λ (o : Found). or_terms (hint_of o)) (c.in_ok-find_hint-in-Some.ensures ∙ ap found_pruned c.as_slice.ensures)
    ∙ ap (λ (o : Option (List Con)). hint_for (lists_in o)) (sym c.in-Some.is)
