-- What a tree of the search comes to: a right answer with its nodes, or none.
use Rattle.std.specs.Prelude.{◌≡◌}
use Rattle.scasp_checker_rules.specs.Accepted.{Accepts}
use Rattle.scasp_cert.specs.Certificate.{Certificate}
use Rattle.scasp_cert.specs.Skeleton.{skeleton}
use Rattle.scasp_fill.specs.Filling.Filled.{filled}
use Rattle.scasp_syntax.specs.declared.program.Program.{Program}
use Rattle.scasp_checker.specs.Verdict.Right.{IsRight}

-- The certificate is right, and it is the given one with the hints and clash lines that are found; so it is the given one but for these.
pub record Completes (p : Program) (tree c : Certificate) : Type 0 where
  pub is : c ≡ filled p tree
  pub same : skeleton c ≡ skeleton tree
  pub right : IsRight p c

-- no hints and clash lines make it accepted
abbrev pub HasNoAccepted : Program → Certificate → Type 0
HasNoAccepted p tree = (c : Certificate) → skeleton c ≡ skeleton tree → ¬ Accepts p c
