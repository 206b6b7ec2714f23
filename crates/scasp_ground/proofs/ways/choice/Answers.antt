use Rattle.std.proofs.Common.{◌≡◌, ◌∙◌, List, Some, slice_get, subst, sym, ap}
use Rattle.scasp_model.specs.Grounding.{choices}
use Rattle.scasp_syntax.specs.Tm.{Tm, Tms, items}
use Rattle.scasp_ground.specs.Inside.Chosen.{chosen}
use Rattle.scasp_ground.proofs.ChoiceLemmas.{chosen-at, told}
use Rattle.scasp_ground.proofs.ways.choice.Goals as goal

pub returns : goal.returns
returns c =
    let d = items c.args.domain.now in
    let n = c.args.variables in
    let i = c.args.number in
    told c.chosen.result (λ (values : Tms). items values ≡ chosen d n i) (λ (values : Tms). slice_get (choices d n) i ≡ Some (items values)) c.chosen.ensures
    (λ values e. chosen-at d n i c.requires.below ∙ ap Some (sym e))
