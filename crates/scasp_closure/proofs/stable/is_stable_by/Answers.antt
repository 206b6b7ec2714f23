use Rattle.std.proofs.Common.{◌≡◌, ◌&&◌, ◌↔◌, not, Bool, true, refl}
use Rattle.scasp_model.specs.Atoms.{has_all}
use Rattle.scasp_model.specs.Stable.{Stable, has_violation}
use Rattle.scasp_closure.proofs.ReadingLemmas.{told}
use Rattle.scasp_closure.proofs.StableLemmas.{stable-tested}
use Rattle.scasp_closure.proofs.stable.is_stable_by.Goals as goal

pub returns : goal.returns
returns c =
    let table = c.args.table.now in
    let model = c.in_ok-model.model in
    let reached = c.in_ok-reached.reached in
    told c.is_reached.result
    (λ (answer : Bool). answer ≡ (has_all table model && has_all reached c.args.m.now && not (has_violation table c.args.g.now)))
    (λ (answer : Bool). (answer ≡ true) ↔ Stable c.args.g.now c.args.m.now) c.is_reached.ensures
    (λ answer e.
    stable-tested c.args.g.now c.args.m.now table model reached (has_all table model) (has_all reached c.args.m.now) (has_violation table c.args.g.now) answer
    c.requires c.in_ok-model.ensures c.in_ok-reached.ensures refl refl refl e)
