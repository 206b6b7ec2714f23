use Rattle.std.proofs.Common.{◌≡◌, ◌++◌, ◌∷◌, [], ◌∙◌, sym, ap, length}
use Rattle.std.specs.Option.{option_map, option_copied}
use Rattle.scasp_syntax.specs.Tm.{items}
use Rattle.scasp_syntax.specs.View.{tm_of}
use Rattle.scasp_ground.specs.Inside.Chosen.{chosen}
use Rattle.scasp_ground.proofs.ChoiceLemmas.{block-down, block-next, digit-put, digit-within}
use Rattle.scasp_ground.proofs.ways.chosen.Goals as goal
use Rattle.scasp_ground.proofs.ways.chosen.Goals.{in-Some+in_ok-copy+in_ok-push, in_default}

pub nonzero_div-rest : goal.nonzero_div-rest
nonzero_div-rest c =
    rw c.len-members.ensures
    ((block-down (length (items c.args.domain.now)) c.args.variables c.loop-variable._variable c.loop-variable.block c.loop-variable.rest c.loop-variable-test.true
    c.loop-variable.invariant.block c.loop-variable.invariant.below).1)

pub nonzero_rem-rest : goal.nonzero_rem-rest
nonzero_rem-rest c =
    rw c.len-members.ensures
    ((block-down (length (items c.args.domain.now)) c.args.variables c.loop-variable._variable c.loop-variable.block c.loop-variable.rest c.loop-variable-test.true
    c.loop-variable.invariant.block c.loop-variable.invariant.below).1)

pub loop-variable-preserved : goal.loop-variable-preserved
loop-variable-preserved c =
    let d = items c.args.domain.now in
    let n = c.args.variables in
    let v = c.loop-variable._variable in
    let m = c.len-members.result in
    let block = c.loop-variable.block in
    let rest = c.loop-variable.rest in
    let next = block-next m (length d) n v block rest c.loop-variable-test.true c.len-members.ensures c.loop-variable.invariant.block c.loop-variable.invariant.below in
    record {
      values = elim c.match-get.branch [
        | in-Some+in_ok-copy+in_ok-push w ↦
            digit-put d n v m block rest (items c.loop-variable.values) (items c.match-get.values) (chosen d n c.args.number) (tm_of w.in-Some.member.now)
            c.loop-variable-test.true c.len-members.ensures c.loop-variable.invariant.block c.loop-variable.invariant.below c.loop-variable.invariant.values
            (sym c.get.ensures ∙ ap (λ o. option_map tm_of (option_copied o)) w.in-Some.is)
            (ap items w.values-is ∙ w.in_ok-push.ensures.ok ∙ ap (λ u. items c.loop-variable.values ++ tm_of u ∷ []) w.in_ok-copy.ensures)
        | in_default w ↦
            absurd
            (digit-within d n v m block rest c.loop-variable-test.true c.len-members.ensures c.loop-variable.invariant.block c.loop-variable.invariant.below
            (sym c.get.ensures ∙ ap (λ o. option_map tm_of (option_copied o)) w.in_default.is))
      ];
      block = next.0;
      below = next.1;
    }
