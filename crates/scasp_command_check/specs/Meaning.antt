-- What the texts and answers of a check mean.
use Rattle.std.specs.Prelude.{◌≡◌, ◌↔◌, ⊤, ℕ, All, List}
use Rattle.scasp_syntax.specs.declared.program.Program.{Program}
use Rattle.scasp_cert.specs.Certificate.{Certificate}
use Rattle.scasp_checker_rules.specs.Accepted.{Accepts}
use Rattle.scasp_answers.specs.Blocks.States.{Entry, block, ended_entry, rejected_entry}
use Rattle.scasp_command_check.specs.Texts.{line_by, rechecked_of}
use Rattle.scasp_command_check.specs.declared.checking.Rechecked.TheVariants.{Accepted}
use Rattle.scasp_command_check.specs.declared.worth.Worth.{Worth}
use Rattle.scasp_command_check.specs.declared.worth.Worth.TheVariants.{Right}

-- the certificate is accepted, where the entry is a block
abbrev pub IsAccepted : Program → Entry → Type 0
IsAccepted p (block n c) = Accepts p c
IsAccepted p (ended_entry e q) = ⊤
IsAccepted p (rejected_entry q n at why) = ⊤

-- a check answers that all blocks are accepted exactly where they are
abbrev pub AcceptedMeans : Type 0
AcceptedMeans = (p : Program) (entries : List Entry) → (rechecked_of p entries ≡ Accepted) ↔ All (IsAccepted p) entries

-- no block that is not right has the line of one that is
abbrev pub RightMeans : Type 0
RightMeans = (worth : Worth) (n : ℕ) (c : Certificate) → line_by worth n c ≡ line_by Right n c → worth ≡ Right
