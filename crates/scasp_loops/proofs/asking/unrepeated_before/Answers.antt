use Rattle.std.proofs.Common.{List, MatchOption, Option, subst, sym}
use Rattle.std.specs.Prelude.{ℕ, ⊤}
use Rattle.scasp_loops.specs.Inside.Topped.{AreTops, IsFloor}
use Rattle.scasp_loops.specs.declared.hints.Hint.{Hint}
use Rattle.scasp_loops.proofs.TopLemmas.{unrepeated_floor}
use Rattle.scasp_loops.proofs.asking.unrepeated_before.Goals as goal

pub returns-then-all_start_before-clause-others : goal.returns-then-all_start_before-clause-others
returns-then-all_start_before-clause-others c = λ bs l k f.
    let n = c.args.lists.now.raised in
    let es = c.args.lists.now.entries.now in
    let floor : IsFloor n bs l c.in-Some.first = subst (λ (o : Option ℕ). MatchOption o ⊤ (λ r. IsFloor n bs l r)) c.in-Some.is f in
    let tops : AreTops n es c.as_slice-hints.result.now = subst (λ (hs : List Hint). AreTops n es hs) (sym c.as_slice-hints.ensures) c.requires.tops in
    unrepeated_floor bs l n c.in-Some.first c.args.at es c.args.lists.now.marks.now floor (c.all_start_before.ensures c.if-all_start_before.true n es tops floor.beyond)
