use Rattle.std.specs.Prelude.{Some}
use Rattle.std.proofs.Common.{◌<◌, ◌∙◌, ap, get_or, refl, set, subst, sym}
use Rattle.scasp_sessions.proofs.PlaceLemmas.{placed, same-table, unplaced}
use Rattle.scasp_sessions.specs.declared.session.Session.{Session}
use Rattle.scasp_sessions.proofs.sessions.Sessions.next.Goals as goal

pub index_mut-session-requires : goal.index_mut-session-requires
index_mut-session-requires c =
    let there = placed c.args.id c.in-Some.place c.deref.result.now c.deref.result.now c.place_of.result refl c.place_of.ensures c.in-Some.is in
    subst (λ n. c.in-Some.place < n) c.deref.ensures.len there.within

pub returns-in-Some-clause-reply : goal.returns-in-Some-clause-reply
returns-in-Some-clause-reply c =
    let is = ap (λ t. t.opened) c.self.view_is in
    let opened = c.args.self.now.opened in
    let place = c.in-Some.place in
    let session : Session = c.index_mut-session.result.now in
    let new = c.advance.new.self in
    let there = placed c.args.id place c.deref.result.now opened c.place_of.result (c.deref.ensures.value ∙ is) c.place_of.ensures c.in-Some.is in
    let here = c.index_mut-session.ensures.value ∙ ap (λ l. get_or l place session) is in
    let changed : Session → Session = λ s. record s { search = new } in
    let searched = λ (s : Session). Some s.search in (
      session.search,
      new,
      there.searches session ∙ ap searched (sym here),
      record {
        event = c.advance.ensures.event;
        same = c.advance.ensures.same;
        stops = c.advance.ensures.stops;
        overflow = c.advance.ensures.overflow;
        memory = c.advance.ensures.memory;
        stays = c.advance.ensures.stays;
      },
      same-table (ap (λ l. set l place (changed session)) is ∙ ap (λ s. set opened place (changed s)) here ∙ sym (there.changed session new)) (ap (λ t. t.next) c.self.view_is),
    )

pub returns-in-None-clause-reply : goal.returns-in-None-clause-reply
returns-in-None-clause-reply c =
    let is = ap (λ t. t.opened) c.self.view_is in
    (unplaced c.args.id c.deref.result.now c.args.self.now.opened c.place_of.result (c.deref.ensures.value ∙ is) c.place_of.ensures c.in-None.is, refl)
