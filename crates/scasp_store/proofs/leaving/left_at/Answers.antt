use Rattle.std.proofs.Common.{Some, refl, sym}
use Rattle.scasp_syntax.proofs.TermLemmas.{slice_get-got}
use Rattle.scasp_store.proofs.LeftLemmas.{left_some}
use Rattle.scasp_store.proofs.leaving.left_at.Goals as goal

pub returns-in_ok-found-in-Some : goal.returns-in_ok-found-in-Some
returns-in_ok-found-in-Some c =
    let cs = c.args.given.now in
    let there = slice_get-got (Some c.in-Some.constraint) cs cs c.args.place refl c.in-Some.ensures.lookup.0 c.in-Some.ensures.lookup.1 in
    left_some c.args.bound.now.now cs c.args.place c.in-Some.constraint.now c.args.x c.in_ok-found-in-Some.found there c.requires c.in_ok-found-in-Some.ensures
