use Rattle.std.proofs.Common.{sym}
use Rattle.std.proofs.lemmas.Bool.{ltb-true}
use Rattle.scasp_loops.proofs.TopLemmas.{top_known}
use Rattle.scasp_loops.proofs.hints.all_start_before.Goals as goal

pub returns-in-Some : goal.returns-in-Some
returns-in-Some c = λ e n es a h.
    top_known n c.args.first c.args.at es c.args.hints.now c.in-Some.hint a (sym c.in-Some.ensures) (ltb-true c.in-Some.hint.top c.args.first e) h
