use Rattle.scasp_checker_answer.proofs.ClashWalkLemmas.{less_apart}
use Rattle.scasp_checker_answer.proofs.names.take_clash.Goals as goal

pub returns-in_ok-enter-in-App-App-2-clause-less :
    goal.returns-in_ok-enter-in-App-App-2-clause-less
returns-in_ok-enter-in-App-App-2-clause-less c =
    less_apart c.in-App-App.first c.args.left.now c.in-App-App.args c.args.lefts.now _ c.in-App-App.is-0 c.in_ok-enter-in-App-App.ensures
