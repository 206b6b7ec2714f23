use Rattle.scasp_unify.proofs.PartLemmas.{less_apart}
use Rattle.scasp_unify.proofs.parts.take_apart.Goals as goal

pub returns-in_ok-enter-in-App-App-2-clause-less :
    goal.returns-in_ok-enter-in-App-App-2-clause-less
returns-in_ok-enter-in-App-App-2-clause-less c =
    less_apart c.in-App-App.first c.args.left.now c.in-App-App.args c.args.lefts.now _ c.in-App-App.is-0 c.in_ok-enter-in-App-App.ensures
