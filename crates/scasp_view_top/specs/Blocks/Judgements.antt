-- A block with what is said of it, and what tells its answer from others.
use Rattle.std.specs.Prelude.{ℕ, Bool, true, List, ◌++◌, flat_map, codes}
use Rattle.scasp_cert.specs.Certificate.{Certificate}
use Rattle.scasp_cert.specs.Text.Block.{given_line}
use Rattle.scasp_cert.specs.Text.Terms.{terms_text}

-- The line of its verdict; the line that blocks of its query with this verdict share; whether it is accepted; its query with terms for the
-- variables; and its certificate.
pub record Judgement : Type 0 where
  pub verdict : List ℕ
  pub worth : List ℕ
  pub accepted : Bool
  pub query : List ℕ
  pub certificate : Certificate

-- what is given, a line each
abbrev pub given_text : List (List ℕ) → Certificate → List ℕ
given_text names c = flat_map (given_line names) c.given

-- what tells an answer from others: its query and its verdict, its terms, and what is given
unfoldable pub key_of : List (List ℕ) → Judgement → List ℕ
key_of names j = j.worth ++ terms_text names true j.certificate.terms ++ codes "\n" ++ given_text names j.certificate
