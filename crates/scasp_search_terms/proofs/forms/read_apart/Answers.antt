use Rattle.std.proofs.Common.{◌≡◌, Some, map, arith}
use Rattle.std.proofs.lemmas.Grind.{common_steps}
use Rattle.scasp_syntax.specs.Values.{under}
use Rattle.scasp_syntax.specs.View.{tm_of}
use Rattle.scasp_unify.specs.Parts.{parts}
use Rattle.scasp_unify.specs.Solving.{part_of, sub_of}
use Rattle.scasp_search_terms.proofs.FormLemmas.{apart_simple, if_ok}
use Rattle.scasp_search_terms.proofs.forms.read_apart.Goals as goal

pub returns-in-Some : goal.returns-in-Some
returns-in-Some c =
    let found : Some (map part_of c.as_slice.result.now)
    ≡ parts (under (sub_of c.args.bindings.now) (tm_of c.args.left.now)) (under (sub_of c.args.bindings.now) (tm_of c.args.right.now)) =
    grind (arith, common_steps) in
    if_ok c.by_parts.result _ _
    (apart_simple _ _ (under (sub_of c.args.bindings.now) (tm_of c.args.left.now)) (under (sub_of c.args.bindings.now) (tm_of c.args.right.now)) _
    c.in_ok-read_term.ensures c.in_ok-read_term-2.ensures found)
    c.by_parts.ensures
