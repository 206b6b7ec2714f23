-- Clash lines by the numbers of their two lines.
use Rattle.std.specs.Borrow.{Bor}
use Rattle.std.specs.HashMap.{HashMap, get}
use Rattle.std.specs.Prelude.{ℕ, Bool, ◌&&◌, nat_eq, if◌then◌else◌, Option, Some, min, max, option_copied}
use Rattle.scasp_checker_rules.specs.Pairs.{is_clash_at}
use Rattle.scasp_cert.specs.declared.certificate.Clash.{Clash}

-- the test of keys
abbrev pub same_lines : ℕ × ℕ → ℕ × ℕ → Bool
same_lines k j = nat_eq k.0 j.0 && nat_eq k.1 j.1

-- the clash line in place of another one, where it is of the two lines
abbrev pub with_clash : Clash → ℕ → ℕ → Option Clash → Option Clash
with_clash k i j o = if is_clash_at i j k then Some k else o

module _ {S : Type 0} where
  -- the clash line of two lines, by the smaller number and the greater one
  abbrev pub clash_in : HashMap (ℕ × ℕ) (Bor Clash) S → ℕ → ℕ → Option Clash
  clash_in m i j = option_copied (get same_lines m (min i j, max i j))
