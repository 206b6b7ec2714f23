use Rattle.std.proofs.Common.{◌≡◌, true, subst}
use Rattle.scasp_unify.specs.Solving.{sub_of}
use Rattle.scasp_store.specs.Inside.Asking.{are_counted}
use Rattle.scasp_store.proofs.AskLemmas.{contrary_refused}
use Rattle.scasp_store.proofs.answering.refuses.Goals as goal

pub returns : goal.returns
returns c = λ bs cs more ps h e t. contrary_refused bs cs c.args.bound.now.now ps more h (subst (λ list. are_counted (sub_of c.args.bound.now.now) list ≡ true) e (c.in_ok-answer.ensures t))
