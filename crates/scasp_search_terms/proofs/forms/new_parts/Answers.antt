use Rattle.std.proofs.Common.{◌+◌, ap, refl, ◌∙◌}
use Rattle.scasp_syntax.specs.Tm.{pushed, var}
use Rattle.scasp_search_terms.proofs.FormLemmas.{pushed_part}
use Rattle.scasp_search_terms.proofs.forms.new_parts.Goals as goal

pub loop-place-preserved : goal.loop-place-preserved
loop-place-preserved c =
    c.in_ok-push.ensures.value
    ∙ ap (λ ts. pushed ts (var (c.args.first + c.loop-place.place))) c.loop-place.invariant
    ∙ pushed_part c.args.first c.loop-place.place (c.args.first + c.loop-place.place) refl
