use Rattle.std.proofs.Common.{List, ◌∙◌, sym, subst}
use Rattle.scasp_list.specs.Each.{Each}
use Rattle.scasp_hint.specs.Verdicts.{ArePlain}
use Rattle.scasp_hint.specs.declared.sides.Sides.{Sides}
use Rattle.scasp_hint.proofs.PlainRows.{sides-plain}
use Rattle.scasp_hint.proofs.finding.found_by_rows.Goals as goal

pub first_forced-requires-clause-sides : goal.first_forced-requires-clause-sides
first_forced-requires-clause-sides c =
    let cs = c.args.constraints.now in
    subst (λ (ss : List Sides). Each ArePlain ss) (sym (c.as_slice.ensures.value ∙ c.in-Ok.ensures)) (sides-plain cs cs)
