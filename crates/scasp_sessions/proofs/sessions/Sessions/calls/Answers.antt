use Rattle.std.specs.Prelude.{Some, option_map}
use Rattle.std.proofs.Common.{◌<◌, ◌∙◌, ap, get_or, refl, subst, sym}
use Rattle.scasp_search.specs.Rests.{rest_of}
use Rattle.scasp_search.specs.declared.search.Search.{Search}
use Rattle.scasp_sessions.proofs.PlaceLemmas.{placed, unplaced}
use Rattle.scasp_sessions.specs.declared.session.Session.{Session}
use Rattle.scasp_sessions.proofs.sessions.Sessions.calls.Goals as goal

pub index-session-requires : goal.index-session-requires
index-session-requires c =
    let there = placed c.args.id c.in-Some.place c.deref.result.now c.deref.result.now c.place_of.result refl c.place_of.ensures c.in-Some.is in
    subst (λ n. c.in-Some.place < n) c.deref.ensures.len there.within

pub returns-in-Some : goal.returns-in-Some
returns-in-Some c =
    let is = ap (λ t. t.opened) c.self.view_is in
    let opened = c.args.self.now.opened in
    let place = c.in-Some.place in
    let session : Session = c.index-session.result.now in
    let there = placed c.args.id place c.deref.result.now opened c.place_of.result (c.deref.ensures.value ∙ is) c.place_of.ensures c.in-Some.is in
    let here = c.index-session.ensures ∙ ap (λ l. get_or l place session) is in
    let count = λ (s : Search). (rest_of s).calls in
    ap Some c.calls.ensures ∙ ap (λ (s : Session). Some (count s.search)) here ∙ sym (ap (option_map count) (there.searches session))

pub returns-in-None : goal.returns-in-None
returns-in-None c =
    let is = ap (λ t. t.opened) c.self.view_is in
    let count = λ (s : Search). (rest_of s).calls in
    sym (ap (option_map count) (unplaced c.args.id c.deref.result.now c.args.self.now.opened c.place_of.result (c.deref.ensures.value ∙ is) c.place_of.ensures c.in-None.is))
