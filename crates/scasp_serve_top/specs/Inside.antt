-- The replies so far.
use Rattle.std.specs.Prelude.{◌≡◌, ℕ, Option, List, ◌++◌, drop, length}
use Rattle.scasp_io.specs.Bytes.{behind}
use Rattle.scasp_serve_replies.specs.Replies.{RepliesAll, Reply, Standing, at_start}
use Rattle.scasp_serve_replies.specs.Texts.{replies_text}
use Rattle.scasp_serve_words.specs.declared.command.Command.{Command}
use Rattle.scasp_syntax.specs.declared.program.Program.{Program}

-- the first commands, so many, have their replies, which were taken, and this stands behind them
pub record Going (p : Program) (names : List (List ℕ)) (commands : List Command) (count : ℕ) (s : Standing) (old new : Option (List ℕ)) : Type 0 where
  pub told : List Reply
  pub counted : length told ≡ count
  pub taken : new ≡ behind old (replies_text told)
  pub continues : (more : List Reply) → RepliesAll p names s (drop count commands) more → RepliesAll p names at_start commands (told ++ more)
