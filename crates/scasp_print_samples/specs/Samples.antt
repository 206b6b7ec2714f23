-- The names of samples: in place of a free variable without a number stands a name that the program lacks.
use Rattle.std.specs.Prelude.{◌≡◌, ℕ, zero, suc, ◌+◌, ◌≤◌, List, ◌++◌, length, codes, decimal}
use Rattle.scasp_cert.specs.Certificate.{Certificate}
use Rattle.scasp_name.specs.Texts.{with_text}
use Rattle.scasp_syntax.specs.Tm.{items}

-- the table, to which so many of the texts `w0`, `w1` and so on were added, but for those that it had
abbrev pub with_samples : List (List ℕ) → ℕ → List (List ℕ)
with_samples names zero = names
with_samples names (suc n) = with_text (with_samples names n) (codes "w" ++ decimal n)

-- The table has a text for each name of the certificate's sample: those of the program's table, and one for each free variable behind them.
pub record NamesSample (names table : List (List ℕ)) (c : Certificate) : Type 0 where
  pub tried : ℕ
  pub table_is : table ≡ with_samples names tried
  pub enough : length names + length (items c.sample) ≤ length table
