use Rattle.std.proofs.Common.{arith}
use Rattle.scasp_unify.specs.declared.bindings.Binding.{Binding}
use Rattle.scasp_store.proofs.BehindLemmas.{known_plain, nothing_in}
use Rattle.scasp_store.proofs.behind.read_more.Goals as goal

pub returns-clause-known : goal.returns-clause-known
returns-clause-known c = λ bs cs n h.
    let r = c.args.rest.now in
    let b = c.args.binding.now in
    let copy : Binding = record { x = b.x; term = c.in_ok-copy.field-0 } in
    known_plain copy r.reading.now r.fixed.now r.places.now c.push.new.self.now b bs cs c.in_ok-push.ensures.now (λ i. record { x = b.x; term = c.in_ok-copy.ensures i }) (nothing_in r.fixed.now (omega (arith, c.len.ensures.len, c.if-len-ne0.false))) n h
