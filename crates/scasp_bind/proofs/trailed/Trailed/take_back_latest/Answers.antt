use Rattle.std.proofs.Common.{◌-◌, take, length, ap, sym, ◌∙◌, arith}
use Rattle.scasp_bind.specs.Kept.{taken_back}
use Rattle.scasp_bind.proofs.StepLemmas.{CanUndo-latest, popped}
use Rattle.scasp_bind.proofs.trailed.Trailed.take_back_latest.Goals as goal

pub restore-requires : goal.restore-requires
restore-requires c =
    let inside = c.self.inside in
    let same = popped inside.changes.items c.rewind.new.self.items (c.len-latest.result - 1) c.set-change.result _ (omega (arith, c.len-latest.ensures.len, c.requires, ap (λ k. length k.changes) c.self.view_is)) c.set-change.ensures.old (c.rewind.ensures.items ∙ ap (λ l. take (c.len-latest.result - 1) l) c.set-change.ensures.items) in
    (CanUndo-latest c.rewind.new.self.items c.set-change.result inside.variables.items (rw (← same) c.self.invariant)).0

pub invariant_of-self : goal.invariant_of-self
invariant_of-self c =
    let inside = c.self.inside in
    let same = popped inside.changes.items c.rewind.new.self.items (c.len-latest.result - 1) c.set-change.result _ (omega (arith, c.len-latest.ensures.len, c.requires, ap (λ k. length k.changes) c.self.view_is)) c.set-change.ensures.old (c.rewind.ensures.items ∙ ap (λ l. take (c.len-latest.result - 1) l) c.set-change.ensures.items) in
    rw c.restore.ensures (CanUndo-latest c.rewind.new.self.items c.set-change.result inside.variables.items (rw (← same) c.self.invariant)).1

pub returns : goal.returns
returns c =
    let inside = c.self.inside in
    let same = popped inside.changes.items c.rewind.new.self.items (c.len-latest.result - 1) c.set-change.result _ (omega (arith, c.len-latest.ensures.len, c.requires, ap (λ k. length k.changes) c.self.view_is)) c.set-change.ensures.old (c.rewind.ensures.items ∙ ap (λ l. take (c.len-latest.result - 1) l) c.set-change.ensures.items) in
    record {
      latest = c.set-change.result;
      changes = ap (λ k. k.changes) (sym c.self.view_is) ∙ same;
      variables = c.restore.ensures ∙ ap (λ k. taken_back c.set-change.result k.variables) c.self.view_is;
    }
