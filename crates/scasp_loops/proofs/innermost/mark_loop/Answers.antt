use Rattle.std.proofs.Common.{List, ap, slice_get, sym, ◌∙◌}
use Rattle.scasp_loops.specs.declared.entry.Marks.{Marks}
use Rattle.scasp_trail.specs.Past.{Past}
use Rattle.scasp_loops.proofs.HintLemmas.{stay_equal, stay_set}
use Rattle.scasp_loops.proofs.innermost.mark_loop.Goals as goal

pub returns-in_err-set-clause-stay : goal.returns-in_err-set-clause-stay
returns-in_err-set-clause-stay c = λ es. stay_equal es c.args.marks.now.now c.set.new.self.now (ap (λ (p : Past Marks). p.now) c.in_err-set.ensures.unchanged)

pub returns-clause-stay : goal.returns-clause-stay
returns-clause-stay c = λ es.
    stay_set es c.args.marks.now.now c.set.new.self.now c.args.at c.marks_at-old.result _
    (ap (λ (xs : List Marks). slice_get xs c.args.at) (sym c.as_slice.ensures) ∙ c.marks_at-old.ensures) (λ d. d) c.in_ok-set.ensures.now
