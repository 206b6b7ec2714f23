use Rattle.std.proofs.Common.{sym, ◌∙◌}
use Rattle.scasp_diseq.proofs.ChainLemmas.{latest-within}
use Rattle.scasp_diseq.proofs.NotingLemmas.{ends-latest, ends-none}
use Rattle.scasp_diseq.proofs.mentions.Mentions.is_noted.Goals as goal

pub get-requires : goal.get-requires
get-requires c = latest-within c.args.x c.in-Some.at c.args.self.now (sym c.latest.ensures ∙ c.in-Some.is)

pub returns-in-Some : goal.returns-in-Some
returns-in-Some c =
    ends-latest c.args.x c.in-Some.at c.args.place c.args.self.now c.get.result (sym c.latest.ensures ∙ c.in-Some.is) c.get.ensures.mention

pub returns-in-None : goal.returns-in-None
returns-in-None c = ends-none c.args.x c.args.place c.args.self.now (sym c.latest.ensures ∙ c.in-None.is)
