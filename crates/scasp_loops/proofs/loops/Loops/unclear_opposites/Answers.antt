use Rattle.std.proofs.Common.{ap, sym, ◌∙◌}
use Rattle.scasp_loops.specs.Inside.Kept.{literals_in}
use Rattle.scasp_loops.proofs.ApartLemmas.{assumed_alike}
use Rattle.scasp_search_rules.specs.declared.states.state.Literal.{Literal}
use Rattle.scasp_trail.specs.Past.{Past}
use Rattle.scasp_loops.proofs.loops.Loops.unclear_opposites.Goals as goal

pub returns : goal.returns
returns c = λ s e b m.
    assumed_alike s c.args.variables.now.now c.args.bound.now.now (literals_in c.self.inside.lists) c.args.lit.now c.first_root-first.result c.in_ok-made.made
    (e ∙ ap (λ (p : Past Literal). p.now) (sym c.self.view_is)) b m c.first_root-first.ensures c.in_ok-made.ensures
