-- What pairs are tested against.
use Rattle.std.specs.Prelude.{◌≡◌, ℕ}
use Rattle.scasp_checker_rules.specs.Pairs.{clash_of}
use Rattle.scasp_checker.specs.Pairs.Inside.Clashes.{clash_in}
use Rattle.scasp_checker.specs.declared.pairs.clash_lines.Against.{Against}

-- the clash line of each two lines is found
abbrev pub Finds : Against → Type 0
Finds a = (i j : ℕ) → clash_in a.clashes i j ≡ clash_of i j a.cert.now.clashes
