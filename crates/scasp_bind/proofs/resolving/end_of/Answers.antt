use Rattle.std.proofs.Common.{nat_eq, sym, ◌∙◌}
use Rattle.std.specs.HashMap.{get}
use Rattle.scasp_syntax.specs.View.{tm_of}
use Rattle.scasp_bind.proofs.NoteLemmas.{leads_on}
use Rattle.scasp_bind.proofs.resolving.end_of.Goals as goal

pub returns-in-Some : goal.returns-in-Some
returns-in-Some c =
    leads_on c.args.store.now (get nat_eq c.args.ends.now) (tm_of c.args.term.now) (tm_of c.walk-reached.result.now) c.in-Some.end c.requires.2 c.walk-reached.ensures (sym c.noted.ensures ∙ c.in-Some.is)
