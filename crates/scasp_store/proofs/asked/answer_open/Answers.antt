use Rattle.std.proofs.Common.{◌++◌, ap, ◌∙◌}
use Rattle.scasp_store.specs.Inside.Open.{opened}
use Rattle.scasp_store.proofs.asked.answer_open.Goals as goal

pub returns-clause-answer : goal.returns-clause-answer
returns-clause-answer c = λ bs h.
    let r = c.settle.new.rest in
    c.in_ok-found.ensures bs c.args.given.now c.args.more.now r.fixed.now r.places.now (c.in_ok-settle.ensures.good bs h) (c.as_slice-2.ensures ∙ c.in_ok-list.ensures ∙ ap (λ ps. opened c.args.given.now ps ++ c.args.more.now) c.as_slice.ensures)
