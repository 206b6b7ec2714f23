use Rattle.std.proofs.Common.{◌≡◌, List, Some, ap, refl, slice_get, sym, ◌∙◌}
use Rattle.scasp_loops.specs.declared.hints.Hint.{Hint}
use Rattle.scasp_loops.proofs.TopLemmas.{tops_put}
use Rattle.scasp_loops.proofs.ending.note_varied.Goals as goal

pub returns-else-varied-old-clause-tops : goal.returns-else-varied-old-clause-tops
returns-else-varied-old-clause-tops c = λ n es a.
    let there : slice_get c.args.hints.now.now c.args.at ≡ Some c.in-Some.old = ap (λ (xs : List Hint). slice_get xs c.args.at) (sym c.as_slice.ensures) ∙ sym c.in-Some.ensures in
    tops_put c.set.result n c.args.at es c.args.hints.now c.set.new.self c.in-Some.old
    (record { key = c.in-Some.old.key; same = c.in-Some.old.same; around = c.in-Some.old.around; undone = c.in-Some.old.undone; varied = c.args.varied; top = c.in-Some.old.top })
    c.set.ensures.now c.set.ensures.unchanged there refl a
