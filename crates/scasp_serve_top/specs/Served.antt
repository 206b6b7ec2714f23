-- The replies to all commands.
use Rattle.std.specs.Prelude.{◌≡◌, ℕ, Option, None, Some, IfSome, List, length}
use Rattle.scasp_command_inputs.specs.declared.status.Status.{Status}
use Rattle.scasp_command_inputs.specs.declared.status.Status.TheVariants.{Done, Memory}
use Rattle.scasp_serve_replies.specs.Replies.{RepliesAll, Reply, at_start}
use Rattle.scasp_serve_replies.specs.Texts.{replies_text}
use Rattle.scasp_serve_words.specs.declared.command.Command.{Command}
use Rattle.scasp_syntax.specs.declared.program.Program.{Program}

-- The text is that of the replies to the commands, in order. Without an end it is cut off behind some of them.
pub record IsServed (p : Program) (names : List (List ℕ)) (commands : List Command) (text : List ℕ) (end : Option Unit) : Type 0 where
  pub told : List Reply
  pub replies : RepliesAll p names at_start commands told
  pub text_is : text ≡ replies_text told
  pub whole : IfSome end (λ _. length told ≡ length commands)

abbrev pub end_status : Option Unit → Status
end_status None = Memory
end_status (Some done) = Done

-- the commands are served so, all of them or up to a want of memory
pub record Serves (p : Program) (names : List (List ℕ)) (commands : List Command) (text : List ℕ) (status : Status) : Type 0 where
  pub end : Option Unit
  pub served : IsServed p names commands text end
  pub ending : status ≡ end_status end
