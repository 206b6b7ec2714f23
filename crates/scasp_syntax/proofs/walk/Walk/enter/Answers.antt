use Rattle.std.proofs.Common.{ap, ◌∙◌, arith}
use Rattle.std.proofs.lemmas.Bool.Decides.{nat_tests}
use Rattle.scasp_syntax.specs.Walks.{onto}
use Rattle.scasp_syntax.proofs.WalkLemmas.{none_waits, one_waits}
use Rattle.scasp_syntax.proofs.walk.Walk.enter.Goals as goal
use Rattle.scasp_syntax.proofs.walk.Walk.enter.Goals.{then-not-is_empty+in_ok-push, else-not-is_empty}

pub returns : goal.returns
returns c =
    let here = c.self.inside.here in
    let later = c.self.inside.later.items in
    let terms = c.as_slice-self-inside.ensures.value in
    elim c.if-not-is_empty.branch [
      | then-not-is_empty+in_ok-push w ↦ one_waits c.args.terms.now _ here later _ terms (ap (λ i. i.later.items) w.self-inside-is ∙ w.in_ok-push.ensures.items) ∙ ap (onto c.args.terms.now) c.self.view_is
      | else-not-is_empty w ↦ none_waits c.args.terms.now _ here.now later _ terms (grind (arith, nat_tests, c.is_empty.ensures, w.if-not-is_empty)) (ap (λ i. i.later.items) w.self-inside-is) ∙ ap (onto c.args.terms.now) c.self.view_is
    ]
