use Rattle.std.proofs.Common.{◌∙◌}
use Rattle.std.proofs.lemmas.Result.{IfOk-weaker}
use Rattle.scasp_lines_places.specs.Places.View.{place_of}
use Rattle.scasp_checker_rules.specs.Splits.{may_split}
use Rattle.scasp_checker_lines.proofs.line_faults.known.may_split_here.Goals as goal

pub returns : goal.returns
returns c =
    IfOk-weaker c.may_split.result _ _
    (λ answer e. e ∙ (λ i. may_split (c.universal_of-universal.ensures.known i) (place_of (c.universal_of-universal.ensures.here i)).replaced c.args.con.now))
    c.may_split.ensures
