use Rattle.std.proofs.Common.{refl}
use Rattle.scasp_serve_replies.proofs.ReplyLemmas.{ok-more, tells-full, tells-no-query, tells-opened}
use Rattle.scasp_serve_replies.proofs.desk.reply_to_open.Goals as goal

pub returns-in_ok-push-in-Ok-clause-tells : goal.returns-in_ok-push-in-Ok-clause-tells
returns-in_ok-push-in-Ok-clause-tells c =
    λ names table.
    ok-more c.number_line.result
    (λ text is.
    tells-opened c.args.program.now names c.args.desk.now _ text.items c.args.query c.args.budget c.in-Ok.id table c.in-Ok.ensures.reply
    c.in_ok-push-in-Ok.ensures.items is)
    c.number_line.ensures

pub returns-in-Err-NoQuery-clause-tells : goal.returns-in-Err-NoQuery-clause-tells
returns-in-Err-NoQuery-clause-tells c =
    λ names table.
    ok-more c.number_line-in-Err-NoQuery.result
    (λ text is.
    tells-no-query c.args.program.now names c.args.desk.now _ text.items c.args.query c.args.budget table
    (rw c.in-Err-NoQuery.field-0-is at c.in-Err-NoQuery.ensures.reply) refl is)
    c.number_line-in-Err-NoQuery.ensures

pub returns-in-Err-Full-clause-tells : goal.returns-in-Err-Full-clause-tells
returns-in-Err-Full-clause-tells c =
    λ names table.
    ok-more c.full_line.result
    (λ text is.
    tells-full c.args.program.now names c.args.desk.now _ text.items c.args.query c.args.budget table
    (rw c.in-Err-Full.field-0-is at c.in-Err-Full.ensures.reply) refl is)
    c.full_line.ensures
