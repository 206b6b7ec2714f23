use Rattle.scasp_syntax.specs.View.{tm_of}
use Rattle.scasp_syntax.proofs.TermLemmas.{items-tms_of, map-push, tms_of-push}
use Rattle.scasp_syntax.proofs.term.Terms.push.Goals as goal

pub returns-clause-ok : goal.returns-clause-ok
returns-clause-ok c =
    rw (← c.self.view_is, items-tms_of c.push.new.self.items, items-tms_of c.self.inside.list.items, c.in_ok-push.ensures.items) (map-push tm_of c.self.inside.list.items c.args.item)

pub returns-clause-value : goal.returns-clause-value
returns-clause-value c = rw (← c.self.view_is, c.in_ok-push.ensures.items) (tms_of-push c.self.inside.list.items c.args.item)
