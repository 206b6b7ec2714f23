use Rattle.std.proofs.Common.{◌∙◌, ap}
use Rattle.scasp_extend_instances.specs.Values.{valued}
use Rattle.scasp_extend_instances.proofs.WithinLemmas.{within-all}
use Rattle.scasp_lines.specs.Ways.{ways}
use Rattle.scasp_lines_places.specs.Places.View.{all_opened}
use Rattle.scasp_syntax.specs.Tm.{Tms, items}
use Rattle.scasp_extend_parts.proofs.said.instances_of.Goals as goal

pub returns-in-Ok-clause-ways : goal.returns-in-Ok-clause-ways
returns-in-Ok-clause-ways c =
    let os = all_opened c.args.opened.now in
    let v = valued (items c.args.values.now) in
    c.in-Ok.ensures.1 ∙ within-all (items c.terms.result.now) os v c.in-Ok.ensures.0
    ∙ ap (λ (ts : Tms). ways (items ts) os v) c.terms.ensures.value
