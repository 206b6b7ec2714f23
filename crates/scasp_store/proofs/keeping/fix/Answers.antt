use Rattle.std.proofs.Common.{◌++◌, ◌∷◌, [], sym, subst}
use Rattle.scasp_store.specs.Inside.Open.{IsGood}
use Rattle.scasp_store.proofs.BehindLemmas.{good_fixed}
use Rattle.scasp_store.proofs.keeping.fix.Goals as goal

pub returns-clause-good : goal.returns-clause-good
returns-clause-good c = λ bs d l s h.
    let ds = c.args.rest.now.reading.now in
    let fs = c.args.rest.now.fixed.now in
    let ps = c.args.rest.now.places.now in
    let cs = c.args.given.now in
    let b = c.args.binding in
    let good = good_fixed bs cs ds fs ps b d (c.tells.ensures c.if-not-tells.false) (c.in_ok-is_new.ensures c.if-not-branch.false) l s h in
    subst (λ xs. IsGood bs cs xs c.push.new.self.now ps) (sym c.in_ok-push-2.ensures.now) (subst (λ xs. IsGood bs cs (ds ++ b ∷ []) xs ps) (sym c.in_ok-push.ensures.now) good)
