use Rattle.std.proofs.Common.{◌∙◌}
use Rattle.scasp_cert.specs.View.{covers_of}
use Rattle.scasp_checker.proofs.WalkLemmas.RuleLemmas.{names-none, names-some}
use Rattle.scasp_checker.proofs.walk.rules.names_its_rules.Goals as goal

pub returns-in-Some : goal.returns-in-Some
returns-in-Some c = c.are_for.ensures ∙ names-some (covers_of c.args.covers.now) c.in-Some.chain.now _ c.in-Some.ensures.value

pub returns-in-None : goal.returns-in-None
returns-in-None c = names-none (covers_of c.args.covers.now) c.len.result _ c.in-None.ensures.value c.len.ensures
