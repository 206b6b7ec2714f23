-- Replies as they are written, computed.
use Rattle.std.specs.Prelude.{◌≡◌, [], ◌∷◌, codes, decimal, refl}
use Rattle.std.proofs.Common.{lit<}
use Rattle.std.proofs.lemmas.Fmt.{decimal_digit}
use Rattle.scasp_serve_replies.specs.Replies.{closed, full, no_query, no_session, opened, without}
use Rattle.scasp_serve_replies.specs.Texts.{replies_text}
use Rattle.scasp_serve_replies.specs.declared.coming.NoAnswer.TheVariants.{Paused, Ended, Spent, Overflow}

d7 : decimal 7 ≡ 55 ∷ []
d7 = decimal_digit 7 (lit< tt)

lines : replies_text (opened 7 ∷ no_query 7 ∷ full ∷ without 7 Paused ∷ without 7 Ended ∷ without 7 Spent ∷ without 7 Overflow ∷ no_session 7 ∷ closed 7 ∷ [])
    ≡ codes "opened 7\nno query 7\nfull\n7 paused\n7 ended\n7 spent\n7 overflow\nno session 7\nclosed 7\n"
lines = simp (d7) refl
