use Rattle.std.proofs.Common.{Some, refl}
use Rattle.scasp_syntax.proofs.TermLemmas.{slice_get-got}
use Rattle.scasp_store.proofs.FixLemmas.{says_at}
use Rattle.scasp_store.proofs.keeping.fix_at.Goals as goal

pub returns-in_ok-fix_by-in-Some-clause-good : goal.returns-in_ok-fix_by-in-Some-clause-good
returns-in_ok-fix_by-in-Some-clause-good c = λ bs h.
    let cs = c.args.given.now in
    let there = slice_get-got (Some c.in-Some.constraint) cs cs c.args.place refl c.in-Some.ensures.lookup.0 c.in-Some.ensures.lookup.1 in
    c.in_ok-fix_by-in-Some.ensures.good bs (says_at cs c.args.place c.in-Some.constraint.now there) h
