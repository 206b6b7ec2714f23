use Rattle.std.specs.Prelude.{is_some}
use Rattle.std.specs.List.{remove}
use Rattle.std.proofs.Common.{◌<◌, ◌∙◌, ap, refl, subst, sym}
use Rattle.scasp_sessions.proofs.PlaceLemmas.{placed, same-table, unplaced}
use Rattle.scasp_sessions.proofs.sessions.Sessions.close.Goals as goal

pub remove-requires : goal.remove-requires
remove-requires c =
    let there = placed c.args.id c.in-Some.place c.deref.result.now c.deref.result.now c.place_of.result refl c.place_of.ensures c.in-Some.is in
    subst (λ n. c.in-Some.place < n) c.deref.ensures.len there.within

pub returns-in-Some-clause-reply : goal.returns-in-Some-clause-reply
returns-in-Some-clause-reply c =
    let is = ap (λ t. t.opened) c.self.view_is in
    let opened = c.args.self.now.opened in
    let there = placed c.args.id c.in-Some.place c.deref.result.now opened c.place_of.result (c.deref.ensures.value ∙ is) c.place_of.ensures c.in-Some.is in
    (ap is_some (there.searches c.remove.result), same-table (c.remove.ensures.items ∙ ap (λ l. remove l c.in-Some.place) is ∙ sym there.taken) (ap (λ t. t.next) c.self.view_is))

pub returns-in-None-clause-reply : goal.returns-in-None-clause-reply
returns-in-None-clause-reply c =
    let is = ap (λ t. t.opened) c.self.view_is in
    (unplaced c.args.id c.deref.result.now c.args.self.now.opened c.place_of.result (c.deref.ensures.value ∙ is) c.place_of.ensures c.in-None.is, refl)
