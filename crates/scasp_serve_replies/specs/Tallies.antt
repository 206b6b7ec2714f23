-- What was told of each session that was opened, in the order of their numbers, from 1.
use Rattle.std.specs.Prelude.{ℕ, ◌-◌, true, List, slice_get, slice_set, unwrap_or}
use Rattle.scasp_serve_replies.specs.declared.coming.NoAnswer.{NoAnswer}
use Rattle.scasp_serve_replies.specs.declared.coming.NoAnswer.TheVariants.{Paused, Ended, Spent, Overflow}
use Rattle.scasp_serve_replies.specs.declared.tallies.Tally.{Tally}
use Rattle.scasp_serve_replies.specs.declared.tallies.TheConstants.{NOTHING}

-- of the session with the number
abbrev pub tally_of : ℕ → List Tally → Tally
tally_of id tallies = unwrap_or (slice_get tallies (id - 1)) NOTHING

-- with another one for the session with the number
abbrev pub with_tally : ℕ → Tally → List Tally → List Tally
with_tally id tally tallies = slice_set tallies (id - 1) tally

-- of a session that has come to no answer
abbrev pub behind : NoAnswer → Tally → Tally
behind Paused tally = tally
behind Ended tally = tally
behind Spent tally = tally
behind Overflow tally = record tally { overflowed = true }
