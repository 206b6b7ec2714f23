use Rattle.std.proofs.Common.{◌≡◌, ◌∙◌, Option, Some, ap, sym, subst}
use Rattle.std.specs.Option.{option_map}
use Rattle.scasp_lines.specs.Sides.{Shape, shape_of}
use Rattle.scasp_lines_places.specs.Places.View.{place_of, shape_value}
use Rattle.scasp_checker_rules.specs.LineFaults.{split_faults}
use Rattle.scasp_checker_answer.specs.Judged.{Judges}
use Rattle.scasp_checker_lines.specs.LineFaults.Whole.{whole}
use Rattle.scasp_checker_lines.proofs.line_faults.cases.accept_split.Goals as goal

pub returns-in-Some : goal.returns-in-Some
returns-in-Some c =
    let is : shape_of c.args.next c.args.con.now ≡ Some (shape_value c.in-Some.shape) = sym c.shape_of.ensures ∙ ap (option_map shape_value) c.in-Some.is in
    subst (λ (o : Option Shape). Judges c.accept_shape_split.result (split_faults (whole c.args.common.now) c.args.at (place_of c.args.here.now) c.args.con.now o)) (sym is)
    (c.accept_shape_split.ensures c.args.con.now)
