use Rattle.std.proofs.Common.{◌≡◌, ◌∙◌, Some, map, ap, subst}
use Rattle.std.specs.Result.{IfOk}
use Rattle.scasp_syntax.specs.View.{tm_of}
use Rattle.scasp_syntax.specs.declared.con.Con.{Con}
use Rattle.scasp_syntax.specs.declared.con.Con.TheVariants as con
use Rattle.scasp_unify.specs.SimpleForm.{by_parts, differ, simple}
use Rattle.scasp_unify.specs.Solving.{part_of}
use Rattle.scasp_lines_places.proofs.DuesLemmas.TermLemmas.{simple_is}
use Rattle.scasp_lines_places.proofs.dues.simple.simple_differ.Goals as goal

pub returns-in-None : goal.returns-in-None
returns-in-None c = rw c.in-None.is at (simple_is c.args.left c.args.right _ c.in_ok-resolved_sides.ensures)

pub returns-in-Some : goal.returns-in-Some
returns-in-Some c =
    let whole = rw c.in-Some.is at (simple_is c.args.left c.args.right _ c.in_ok-resolved_sides.ensures) in
    let same : by_parts (con.Neq c.args.left c.args.right) (Some (map part_of c.as_slice.result.now)) ≡ simple (differ (tm_of c.args.left) (tm_of c.args.right)) =
    ap (λ ps. by_parts (con.Neq c.args.left c.args.right) (Some (map part_of ps))) c.as_slice.ensures.value ∙ whole in
    let P : Con → Type 0 = λ s. IfOk c.by_parts.result (λ made. made ≡ s) in subst P same c.by_parts.ensures
