-- How replies are written.
use Rattle.std.specs.Prelude.{ℕ, List, ◌++◌, codes, decimal, flat_map}
use Rattle.scasp_cert.specs.Certificate.{Certificate}
use Rattle.scasp_cert.specs.Text.Block.{block_text}
use Rattle.scasp_serve_replies.specs.Replies.{Reply, answer, closed, full, no_query, no_session, opened, without}
use Rattle.scasp_serve_replies.specs.declared.coming.NoAnswer.{NoAnswer}
use Rattle.scasp_serve_replies.specs.declared.coming.NoAnswer.TheVariants.{Paused, Ended, Spent, Overflow}

abbrev pub number_line : List ℕ → ℕ → List ℕ
number_line words number = words ++ codes " " ++ decimal number ++ codes "\n"

abbrev pub session_line : ℕ → List ℕ → List ℕ
session_line id word = decimal id ++ codes " " ++ word ++ codes "\n"

abbrev pub word_of : NoAnswer → List ℕ
word_of Paused = codes "paused"
word_of Ended = codes "ended"
word_of Spent = codes "spent"
word_of Overflow = codes "overflow"

-- the line of an answer, and its block
abbrev pub answer_text : List (List ℕ) → ℕ → ℕ → Certificate → List ℕ
answer_text names id number c = session_line id (codes "answer") ++ block_text names c number

abbrev pub reply_text : Reply → List ℕ
reply_text (opened id) = number_line (codes "opened") id
reply_text (no_query query) = number_line (codes "no query") query
reply_text full = codes "full\n"
reply_text (answer id number names c) = answer_text names id number c
reply_text (without id none) = session_line id (word_of none)
reply_text (no_session id) = number_line (codes "no session") id
reply_text (closed id) = number_line (codes "closed") id

abbrev pub replies_text : List Reply → List ℕ
replies_text replies = flat_map reply_text replies
