use Rattle.std.proofs.Common.{not}
use Rattle.scasp_lines_walk.specs.Shown.TableView.{told_of}
use Rattle.scasp_search_ends.proofs.EndsLemmas.BehindLemmas.{all-given}
use Rattle.scasp_search_ends.specs.Ends.Inside.Behind.{key_of, told_under}
use Rattle.scasp_search_ends.specs.declared.ends.behind.Sought.TheVariants as sought
use Rattle.scasp_search_ends.proofs.ends.pairs.is_apart_behind.Goals as goal

pub returns-in-None : goal.returns-in-None
returns-in-None c = λ ts h.
    let a = told_of c.args.first.now in
    let key = key_of a (not a.positive) sought.All in
    all-given c.args.free c.args.given.now a c.is_apart_among.result (told_under c.args.behind.now key) ts (h key) c.is_apart_among.ensures

pub returns-in-Some : goal.returns-in-Some
returns-in-Some c = λ ts h. c.is_marked_apart.ensures ts h c.in-Some.ensures
