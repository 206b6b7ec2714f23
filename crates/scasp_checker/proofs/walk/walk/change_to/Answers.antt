use Rattle.scasp_checker.proofs.WalkLemmas.ContextLemmas.{changed}
use Rattle.scasp_checker.proofs.walk.walk.change_to.Goals as goal

pub returns : goal.returns
returns c =
    changed c.args.cert.now.given c.args.context.now.items c.change_context.new.list.items c.args.line.now c.in_ok-kept.kept c.requires c.in_ok-kept.ensures
    c.in_ok-change_context.ensures
