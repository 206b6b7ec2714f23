-- What it means that members are read of a file.
use Rattle.std.specs.Prelude.{◌≡◌, ℕ, List, [], map, Some, Ok}
use Rattle.scasp_syntax.specs.Tm.{Tm}
use Rattle.scasp_reader_terms.specs.Names.{place_in}
use Rattle.scasp_answers.specs.Blocks.Files.{split_lines}
use Rattle.scasp_domain_text.specs.Domains.{domain_in, term_in}

-- each line has its end, and they are the members' lines, in order
pub record AreLines (names : List (List ℕ)) (bytes : List ℕ) (members : List Tm) : Type 0 where
  pub ended : (split_lines bytes).rest ≡ []
  pub spelled : map (term_in (place_in names)) (split_lines bytes).lines ≡ map Some members

abbrev pub LinesAreMembers : Type 0
LinesAreMembers = (names : List (List ℕ)) (bytes : List ℕ) (members : List Tm) → domain_in names bytes ≡ Ok members → AreLines names bytes members
