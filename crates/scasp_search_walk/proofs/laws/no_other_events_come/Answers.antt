use Rattle.std.specs.Prelude.{false}
use Rattle.scasp_search_walk.proofs.ThinLemmas.{met-back}
use Rattle.scasp_search_walk.proofs.laws.no_other_events_come.Goals as goal

pub returns : goal.returns
returns c = λ m silent is budget calls states f h.
    let r = met-back m silent is budget h.0 calls false states f h.1 in
    (r.1, (r.0, r.2), r.3)
