use Rattle.std.proofs.Common.{◌∙◌, ap, refl, sym}
use Rattle.scasp_serve_replies.proofs.ReplyLemmas.{calls-none, ok-more, tells-not-open, tells-overflow}
use Rattle.scasp_serve_replies.specs.Texts.{session_line}
use Rattle.scasp_serve_replies.proofs.desk.reply_again.Goals as goal

pub returns-in-Some : goal.returns-in-Some
returns-in-Some c =
    λ p names calls.
    ok-more c.session_line.result
    (λ text is.
    tells-overflow p names c.args.desk.now c.args.desk.now text.items c.args.id calls c.in-Some.field-0 (sym c.calls.ensures ∙ c.in-Some.is) c.requires refl refl
    (is ∙ ap (session_line c.args.id) c.word_of.ensures))
    c.session_line.ensures

pub returns-in-None : goal.returns-in-None
returns-in-None c =
    λ p names calls.
    ok-more c.number_line.result
    (λ text is.
    tells-not-open p names c.args.desk.now c.args.desk.now text.items c.args.id calls
    (calls-none c.args.id c.args.desk.now.sessions (sym c.calls.ensures ∙ c.in-None.is)) refl refl is)
    c.number_line.ensures
