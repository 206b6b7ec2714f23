use Rattle.std.proofs.Common.{◌≡◌, ◌++◌, ◌∙◌, ap}
use Rattle.std.specs.List.{flat_map}
use Rattle.scasp_model.specs.Grounding.{literal_under}
use Rattle.scasp_syntax.specs.Tm.{items}
use Rattle.scasp_syntax.specs.Values.{giving}
use Rattle.scasp_ground.proofs.InstanceLemmas.{mapped-next, literal-put, none-put}
use Rattle.scasp_ground.proofs.instances.literals_of.Goals as goal
use Rattle.scasp_ground.proofs.instances.literals_of.Goals.{in-Call+in_ok-atom-in-Call+in_ok-push-in-Call, in-Equal, in-Differ, in-Linear}

pub loop-item-preserved : goal.loop-item-preserved
loop-item-preserved c =
    let v = giving (items c.args.values.now) in
    let x = c.item-item.result in
    let made = c.loop-item.made in
    let new = c.match-item.made in
    let put : new ≡ made ++ literal_under v x =
    elim c.match-item.branch [
      | in-Call+in_ok-atom-in-Call+in_ok-push-in-Call w ↦
          literal-put v w.in-Call.literal w.in_ok-atom-in-Call.atom made new x w.in-Call.is w.in_ok-atom-in-Call.ensures (w.made-is ∙ w.in_ok-push-in-Call.ensures.ok)
      | in-Equal w ↦ none-put v made new x (ap (literal_under v) w.in-Equal.is) w.made-is
      | in-Differ w ↦ none-put v made new x (ap (literal_under v) w.in-Differ.is) w.made-is
      | in-Linear w ↦ none-put v made new x (ap (literal_under v) w.in-Linear.is) w.made-is
    ] in
    mapped-next (literal_under v) c.as_slice-item-items.result.now c.loop-item.item-index x made new (flat_map (literal_under v) c.args.body.now) c.loop-item-test.true
    c.item-item.is put c.loop-item.invariant
