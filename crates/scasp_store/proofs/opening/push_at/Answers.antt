use Rattle.std.proofs.Common.{◌++◌, append-nil, sym, ap, ◌∙◌}
use Rattle.scasp_store.specs.Inside.Open.{one_of}
use Rattle.scasp_store.proofs.OpenLemmas.{past_end}
use Rattle.scasp_store.proofs.opening.push_at.Goals as goal

pub returns-in-None : goal.returns-in-None
returns-in-None c = sym (append-nil c.args.list.now) ∙ ap (λ o. c.args.list.now ++ one_of o) (past_end c.args.given.now c.args.place c.in-None.ensures.lookup.3)
