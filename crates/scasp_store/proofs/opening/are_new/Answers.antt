use Rattle.std.proofs.Common.{ap, sym, ◌∙◌}
use Rattle.std.specs.List.{list_all}
use Rattle.scasp_store.specs.Inside.Open.{is_unbound}
use Rattle.scasp_store.proofs.NewLemmas.{new_binding}
use Rattle.scasp_store.proofs.opening.are_new.Goals as goal

pub returns : goal.returns
returns c = λ e. new_binding c.args.bound.now.now c.args.binding.now (sym c.is_bound.ensures ∙ c.if-is_bound.false) (ap (list_all (is_unbound c.args.bound.now.now c.args.binding.now.x)) (sym c.requires) ∙ sym c.are_unbound.ensures ∙ e)
