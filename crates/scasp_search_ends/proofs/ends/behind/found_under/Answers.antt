use Rattle.std.proofs.Common.{◌∙◌, ap, map}
use Rattle.std.specs.HashMap.{get}
use Rattle.scasp_lines_walk.specs.Shown.TableView.{told_from}
use Rattle.scasp_search_ends.proofs.EndsLemmas.BehindLemmas.{same-keys, shared-told}
use Rattle.scasp_search_ends.specs.Ends.Inside.Behind.{told_or_none, told_under}
use Rattle.scasp_search_ends.proofs.ends.behind.found_under.Goals as goal

pub returns-in-Some : goal.returns-in-Some
returns-in-Some c =
    shared-told c.share.result c.in-Some.chain.now (told_under c.args.behind.now c.args.key.now)
    (ap told_or_none (c.in-Some.ensures.value ∙ (λ i. get (same-keys i) c.args.behind.now c.args.key.now))) c.share.ensures

pub returns-in-None : goal.returns-in-None
returns-in-None c =
    ap (map told_from) c.new.ensures ∙ ap told_or_none (c.in-None.ensures.value ∙ (λ i. get (same-keys i) c.args.behind.now c.args.key.now))
