use Rattle.std.specs.HashMap.{get}
use Rattle.scasp_syntax.specs.contracts.atom.PredPartialEq.TheImpl.{eq-value}
use Rattle.scasp_syntax.specs.declared.atom.Pred.{Pred}
use Rattle.scasp_map.proofs.EntryLemmas.{put-entry}
use Rattle.scasp_map.proofs.entries.put_entry.Goals as goal

pub returns : goal.returns
returns c =
    put-entry (λ (p : Pred). get eq-value.it c.args.entries.now p) (λ (p : Pred). get eq-value.it c.insert.new.self p)
    c.args.entry (λ p. c.in_ok-insert.ensures.updates.0 p)
