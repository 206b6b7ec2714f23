-- What a reply makes of what the code keeps.
use Rattle.std.specs.Prelude.{◌≡◌, ℕ, ◌+◌, List, length}
use Rattle.scasp_serve_replies.specs.Replies.{Replies, Reply, Standing}
use Rattle.scasp_serve_replies.specs.Texts.{reply_text}
use Rattle.scasp_serve_replies.specs.declared.desk.Desk.{Desk}
use Rattle.scasp_serve_words.specs.declared.command.Command.{Command}
use Rattle.scasp_syntax.specs.declared.program.Program.{Program}

abbrev pub standing : Desk → Standing
standing d = record { table = d.sessions; tallies = d.tallies.items }

-- as many sessions were opened as there are tallies
abbrev pub IsCounted : Desk → Type 0
IsCounted d = d.sessions.next ≡ length d.tallies.items + 1

-- the text is that of the reply to the command
pub record Tells (p : Program) (names : List (List ℕ)) (old : Desk) (command : Command) (text : List ℕ) (new : Desk) : Type 0 where
  pub told : Reply
  pub replies : Replies p names (standing old) command told (standing new)
  pub text_is : text ≡ reply_text told
