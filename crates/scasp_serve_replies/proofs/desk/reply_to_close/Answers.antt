use Rattle.std.proofs.Common.{refl}
use Rattle.scasp_serve_replies.proofs.ReplyLemmas.{ok-more, tells-closed, tells-not-closed}
use Rattle.scasp_serve_replies.proofs.desk.reply_to_close.Goals as goal

pub returns-in-Ok-clause-tells : goal.returns-in-Ok-clause-tells
returns-in-Ok-clause-tells c =
    λ p names.
    ok-more c.number_line.result
    (λ text is. tells-closed p names c.args.desk.now _ text.items c.args.id c.in-Ok.ensures.reply refl is)
    c.number_line.ensures

pub returns-in-Err-clause-tells : goal.returns-in-Err-clause-tells
returns-in-Err-clause-tells c =
    λ p names.
    ok-more c.number_line-in-Err.result
    (λ text is. tells-not-closed p names c.args.desk.now _ text.items c.args.id c.in-Err.ensures.reply.0 c.in-Err.ensures.reply.1 refl is)
    c.number_line-in-Err.ensures
