use Rattle.std.proofs.Common.{arith, sym, subst, ◌∙◌}
use Rattle.scasp_law_parts.specs.Bound.{Triangular}
use Rattle.scasp_store.specs.Inside.Open.{IsGood}
use Rattle.scasp_store.proofs.BehindLemmas.{fewer_triangular, good_less, nothing_in, then_ok}
use Rattle.scasp_store.proofs.KeepLemmas.{all-left}
use Rattle.scasp_store.proofs.behind.take_out.Goals as goal

pub returns-then-not-is_less-clause-good : goal.returns-then-not-is_less-clause-good
returns-then-not-is_less-clause-good c = λ cs l h.
    let r = c.args.rest.now in
    let bs = c.args.bound.now.now in
    let same = c.in_ok-end_case.ensures.now ∙ all-left c.args.xs.now c.args.but.now bs (sym c.takes_out-is_less.ensures ∙ c.if-not-is_less.true) in
    subst (λ es. IsGood es cs r.reading.now r.fixed.now r.places.now) (sym same) h

pub returns-then-len-ne0-clause-good : goal.returns-then-len-ne0-clause-good
returns-then-len-ne0-clause-good c = then_ok c.renew.result (λ f cs l h. f cs l (subst Triangular (sym c.in_ok-end_case.ensures.now) (fewer_triangular c.args.bound.now.now c.args.xs.now c.args.but.now h.triangular))) c.renew.ensures.good

pub returns-clause-good : goal.returns-clause-good
returns-clause-good c = then_ok c.open_all.result (λ f cs l h.
    let r = c.args.rest.now in
    let bs = c.args.bound.now.now in
    let none = nothing_in r.fixed.now (omega (arith, c.len.ensures.len, c.if-len-ne0.false)) in
    subst (λ es. IsGood es cs c.end_case-2.new.self.now r.fixed.now c.open_all.new.places.now) (sym c.in_ok-end_case.ensures.now) (good_less bs cs r.reading.now c.end_case-2.new.self.now r.fixed.now r.places.now c.open_all.new.places.now c.args.xs.now c.args.but.now none c.in_ok-end_case-2.ensures.now (λ i k. f i (omega (arith, k, l))) h)) c.open_all.ensures.now
