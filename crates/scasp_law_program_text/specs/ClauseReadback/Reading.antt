-- What may stand behind an item.
use Rattle.std.specs.Prelude.{◌≡◌, ℕ, List, None}
use Rattle.scasp_syntax.specs.declared.clause.Item.{Item}
use Rattle.scasp_syntax.specs.declared.clause.Item.TheVariants as form
use Rattle.scasp_reader_tokens.specs.Tokens.{tokens_behind}
use Rattle.scasp_reader_terms.specs.Steps.{token_of}
use Rattle.scasp_reader.specs.Bodies.Items.{equation_sign, relation}
use Rattle.scasp_law_program_text.specs.TermReadback.Reading.{EndsTerm}
use Rattle.scasp_law_program_text.specs.LinearReadback.Ending.{EndsExpression}

-- behind a literal or an equation: what may stand behind its last term, and no sign of an equation or a relation as the next token
pub record EndsPlain (rest : List ℕ) : Type 0 where
  pub term : EndsTerm rest
  pub no_equation : (at : ℕ) → equation_sign (token_of (tokens_behind 0 at rest)) ≡ None
  pub no_relation : (at : ℕ) → relation (token_of (tokens_behind 0 at rest)) ≡ None

-- behind the item; a linear one ends with an expression
abbrev pub EndsItem : Item → List ℕ → Type 0
EndsItem (form.Call l) rest = EndsPlain rest
EndsItem (form.Equal t s) rest = EndsPlain rest
EndsItem (form.Differ t s) rest = EndsPlain rest
EndsItem (form.Linear l) rest = EndsExpression rest
