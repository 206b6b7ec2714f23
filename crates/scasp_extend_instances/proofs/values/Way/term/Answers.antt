use Rattle.std.proofs.Common.{◌∙◌, ap, sym}
use Rattle.std.specs.Option.{option_copied, option_map}
use Rattle.scasp_lines_places.specs.Places.View.{all_bound}
use Rattle.scasp_syntax.specs.Tm.{items}
use Rattle.scasp_syntax.specs.View.{tm_of}
use Rattle.scasp_extend_instances.specs.Values.{valued}
use Rattle.scasp_extend_instances.specs.View.{way_of}
use Rattle.scasp_extend_instances.proofs.WayLemmas.{bound-at, bound-none, match-same}
use Rattle.scasp_extend_instances.proofs.values.Way.term.Goals as goal

pub returns-in-Some : goal.returns-in-Some
returns-in-Some c =
    sym (bound-at (all_bound c.args.self.now.bound) (valued (items c.args.self.now.free.now)) c.args.x (tm_of c.in-Some.term.now)
    (sym c.bound_to.ensures ∙ ap (λ o. option_map tm_of (option_copied o)) c.in-Some.is))

pub returns-in-None : goal.returns-in-None
returns-in-None c =
    match-same c.free_value.result (valued (items c.args.self.now.free.now) c.args.x) (way_of c.args.self.now c.args.x)
    (sym (bound-none (all_bound c.args.self.now.bound) (valued (items c.args.self.now.free.now)) c.args.x
    (sym c.bound_to.ensures ∙ ap (λ o. option_map tm_of (option_copied o)) c.in-None.is)))
    c.free_value.ensures
