-- Readers of texts, and the styles in which what they read is written.
use Rattle.std.specs.Prelude.{◌≡◌, ℕ, ◌≤◌, true, false, List, length, slice_get, Option, None, Some}
use Rattle.std.specs.Str.{IsUtf8}
use Rattle.scasp_list.specs.Each.{Each}
use Rattle.scasp_reader_tokens.specs.declared.token.Token.{Token}
use Rattle.scasp_reader_tokens.specs.declared.token.Token.TheVariants as token
use Rattle.scasp_reader_tokens.specs.declared.token.Placed.{Placed}
use Rattle.scasp_num.specs.Number.{Number}
use Rattle.scasp_reader_terms.specs.declared.reader.TheConstants.{VARIABLE_LIMIT}
use Rattle.scasp_reader_terms.specs.Steps.{State}
use Rattle.scasp_print_program.specs.Terms.{Style, variable_text}
use Rattle.scasp_law_program_text.specs.Readback.Endings.{is_variable_text}
use Rattle.scasp_law_program_text.specs.CompoundReadback.Styles.{is_anonymous, IsStyle}
use Rattle.scasp_law_program_text.specs.CompoundReadback.Fitting.{number_fits}

-- ---- tokens

-- the number lies within M, where there is one
abbrev pub IsSmall : Option Number → Type 0
IsSmall None = Unit {0}
IsSmall (Some q) = number_fits q ≡ true

-- A token of a text: a name is UTF-8, a variable has the text of one, a number lies within M.
abbrev pub IsToken : Token → Type 0
IsToken (token.Name text) = IsUtf8 text
IsToken (token.Variable text) = is_variable_text text ≡ true
IsToken (token.Number q) = IsSmall q
IsToken t = Unit {0}

abbrev pub AreTokens : List Placed → Type 0
AreTokens tokens = Each (λ t. IsToken t.token) tokens

-- ---- readers

-- the names and the variables that a reader knows
abbrev pub known : State → Style
known s = record { names = s.names; variables = s.variables }

-- A reader of a text: it has tokens of one, a table and texts of variables as they are, and of these no more than
-- there may be, or a fault was noted.
pub record IsReader (s : State) : Type 0 where
  pub tokens : AreTokens s.tokens
  pub style : IsStyle (known s)
  pub limit : s.fault ≡ None → length s.variables ≤ VARIABLE_LIMIT

-- ---- styles

-- what stands in the one list stands at the same places in the other
abbrev pub Keeps : List (List ℕ) → List (List ℕ) → Type 0
Keeps texts others = (i : ℕ) (text : List ℕ) → slice_get texts i ≡ Some text → slice_get others i ≡ Some text

-- A style for what was read with these names and variables: it has these names, and as many variables or more;
-- of those that have a name none is `_`.
pub record Covers (w k : Style) : Type 0 where
  pub names : Keeps k.names w.names
  pub number : length k.variables ≤ length w.variables
  pub named : (x : ℕ) (text : List ℕ) → slice_get k.variables x ≡ Some text → is_anonymous text ≡ false → is_anonymous (variable_text w x) ≡ false
