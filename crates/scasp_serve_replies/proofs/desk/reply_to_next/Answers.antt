use Rattle.std.proofs.Common.{◌∙◌, ap, refl, sym}
use Rattle.scasp_serve_replies.proofs.ReplyLemmas.{ok-more, tells-answer, tells-not-open, tells-without}
use Rattle.scasp_serve_replies.specs.Tallies.{tally_of}
use Rattle.scasp_serve_replies.specs.declared.desk.Desk.{Desk}
use Rattle.scasp_serve_replies.specs.declared.tallies.Tally.{Tally}
use Rattle.scasp_serve_replies.proofs.desk.reply_to_next.Goals as goal

pub returns-then-tally_of-clause-tells : goal.returns-then-tally_of-clause-tells
returns-then-tally_of-clause-tells c = λ names table. c.reply_again.ensures c.args.program.now names c.args.calls

pub returns-in-Some-Answer-clause-tells : goal.returns-in-Some-Answer-clause-tells
returns-in-Some-Answer-clause-tells c =
    let mid : Desk = record { sessions = c.go_on.new.sessions; tallies = c.args.desk.now.tallies; table = c.args.desk.now.table } in
    let none = sym (ap (λ (t : Tally). t.overflowed) (c.tally_of.ensures ∙ ap (tally_of c.args.id) c.as_slice.ensures.value)) ∙ c.if-tally_of.false in
    let found = rw c.in-Some-Answer.is at c.in_ok-cert.ensures in
    let goes = rw c.in-Some-Answer.field-0-is at found in
    λ names table.
    ok-more c.reply_with_answer.result
    (λ text a.
    tells-answer c.args.program.now names c.args.desk.now c.reply_with_answer.new.desk text.items c.args.id c.args.calls c.in-Some-Answer.cert mid none goes refl
    c.reply_with_answer.ensures.sessions a)
    (c.reply_with_answer.ensures.text names table)

pub returns-in-Some-Without-clause-tells : goal.returns-in-Some-Without-clause-tells
returns-in-Some-Without-clause-tells c =
    let none = sym (ap (λ (t : Tally). t.overflowed) (c.tally_of.ensures ∙ ap (tally_of c.args.id) c.as_slice.ensures.value)) ∙ c.if-tally_of.false in
    let found = rw c.in-Some-Without.is at c.in_ok-cert.ensures in
    let goes = rw c.in-Some-Without.field-0-is at found in
    λ names table.
    ok-more c.reply_without.result
    (λ text is.
    tells-without c.args.program.now names c.args.desk.now c.reply_without.new.desk text.items c.args.id c.args.calls c.in-Some-Without.none c.go_on.new.sessions none goes
    (ap (λ (d : Desk). d.sessions) c.reply_without.ensures.desk) c.reply_without.ensures.tallies is)
    c.reply_without.ensures.text

pub returns-in-None-clause-tells : goal.returns-in-None-clause-tells
returns-in-None-clause-tells c =
    let found = rw c.in-None.is at c.in_ok-cert.ensures in
    λ names table.
    ok-more c.number_line.result
    (λ text is. tells-not-open c.args.program.now names c.args.desk.now _ text.items c.args.id c.args.calls found.0 found.1 refl is)
    c.number_line.ensures
