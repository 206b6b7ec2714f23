-- Which tables, and which texts of variables, let a clause be read back.
use Rattle.std.specs.Prelude.{ℕ, Bool, true, not, ◌&&◌, ◌||◌, List, [], ◌∷◌, codes, IsTrue}
use Rattle.std.specs.Str.{IsUtf8, bytes_eq}
use Rattle.scasp_list.specs.Each.{Each}
use Rattle.scasp_name.specs.Texts.{has_text, AreDistinct, BeginWithLists}
use Rattle.scasp_print_program.specs.Terms.{Style}
use Rattle.scasp_law_program_text.specs.Readback.Endings.{is_variable_text}

-- `_`, which stands for another variable each time
abbrev pub is_anonymous : List ℕ → Bool
is_anonymous text = bytes_eq text (codes "_")

-- texts of variables, of which none but `_` stands twice
abbrev pub are_variables : List (List ℕ) → Bool
are_variables [] = true
are_variables (text ∷ texts) = is_variable_text text && (is_anonymous text || not (has_text texts text)) && are_variables texts

-- The names are UTF-8, none stands twice, and those of lists stand first.
pub record IsTable (names : List (List ℕ)) : Type 0 where
  pub utf8 : Each IsUtf8 names
  pub distinct : AreDistinct names
  pub lists : BeginWithLists names

-- such a table, and variables with texts of their own
pub record IsStyle (w : Style) : Type 0 where
  pub table : IsTable w.names
  pub variables : IsTrue (are_variables w.variables)
