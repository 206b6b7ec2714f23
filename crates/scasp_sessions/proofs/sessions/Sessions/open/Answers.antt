use Rattle.std.specs.Prelude.{◌∷◌, [], ◌++◌, length}
use Rattle.std.proofs.Common.{◌∙◌, ap, arith, refl}
use Rattle.scasp_sessions.proofs.PlaceLemmas.{asked, same-table}
use Rattle.scasp_sessions.specs.declared.session.Session.{Session}
use Rattle.scasp_syntax.specs.Programs.{numbered}
use Rattle.scasp_sessions.proofs.sessions.Sessions.open.Goals as goal

pub returns-clause-reply : goal.returns-clause-reply
returns-clause-reply c =
    let is = ap (λ t. t.opened) c.self.view_is in
    let next = ap (λ t. t.next) c.self.view_is in
    let session : Session = record { number = c.self.inside.next; search = c.in_ok-search.search } in (
      omega (arith, c.if-len-ge-MOST_OPEN.false, c.len.ensures, c.self.inside.opened.ok.0, ap length is),
      next,
      (
        session.search,
        record {
          run = asked c.query.result c.is_none.result (numbered c.args.program.now.queries c.args.query) _ c.is_none.ensures c.if-is_none.false c.query.ensures c.in_ok-search.ensures.run;
          goes = c.in_ok-search.ensures.goes;
        },
        same-table (c.in_ok-push.ensures.items ∙ ap (λ l. l ++ session ∷ []) is) refl,
      ),
    )
