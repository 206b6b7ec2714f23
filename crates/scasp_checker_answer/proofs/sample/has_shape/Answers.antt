use Rattle.std.proofs.Common.{ap, sym, ◌∙◌}
use Rattle.std.specs.Option.{option_map, option_copied}
use Rattle.scasp_syntax.specs.Constraints.{has_shape}
use Rattle.scasp_syntax.specs.Tm.{items}
use Rattle.scasp_syntax.specs.View.{tm_of}
use Rattle.scasp_syntax.proofs.TermLemmas.{giving-at, giving-behind}
use Rattle.scasp_checker_answer.proofs.sample.has_shape.Goals as goal

pub returns-in-Some : goal.returns-in-Some
returns-in-Some c =
    c.is_shaped.ensures
    ∙ ap (has_shape c.args.name c.args.arity) (sym (giving-at (items c.args.values.now) c.args.x (tm_of c.in-Some.value.now) (sym c.get.ensures ∙ ap (λ o. option_map tm_of (option_copied o)) c.in-Some.is)))

pub returns-in-None : goal.returns-in-None
returns-in-None c =
    ap (has_shape c.args.name c.args.arity) (sym (giving-behind (items c.args.values.now) c.args.x (sym c.get.ensures ∙ ap (λ o. option_map tm_of (option_copied o)) c.in-None.is)))
