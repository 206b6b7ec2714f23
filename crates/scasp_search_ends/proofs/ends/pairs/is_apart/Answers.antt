use Rattle.scasp_lines_walk.specs.Shown.TableView.{told_of}
use Rattle.scasp_search_ends.proofs.EndsLemmas.ClashLemmas.{clashing-apart}
use Rattle.std.proofs.Common.{◌∙◌, sym}
use Rattle.scasp_search_ends.proofs.ends.pairs.is_apart.Goals as goal

pub returns-then-branch : goal.returns-then-branch
returns-then-branch c = sym (clashing-apart c.args.free c.args.given.now (told_of c.args.first.now) (told_of c.args.second.now) (sym c.in_ok-clash_among.ensures ∙ c.if-branch.true))
