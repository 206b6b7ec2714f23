-- What private functions alone speak of.
use Rattle.std.specs.Prelude.{◌≡◌, ⊤, ℕ, ◌+◌, List, [], ◌∷◌, Option, None, Some}
use Rattle.scasp_cert.specs.Certificate.{Certificate}
use Rattle.scasp_extend_parts.specs.declared.errors.ExtendErr.{ExtendErr}
use Rattle.scasp_extend_parts.specs.declared.errors.ExtendErr.TheVariants.{Refused, Joins, Given, TooLarge, Overflow, NotClosed, Memory}
use Rattle.scasp_command_extend.specs.Ends.{end_by, model_count, models_in, whole_end}
use Rattle.scasp_command_extend.specs.Outcomes.{Outcome}
use Rattle.scasp_command_extend.specs.Texts.{block_text}
use Rattle.scasp_command_extend.specs.declared.ends.Extended.{Extended}
use Rattle.scasp_command_extend.specs.declared.ends.Extended.TheVariants as end
use Rattle.scasp_command_extend.specs.declared.ends.Tally.{Tally}
use Rattle.scasp_command_extend.specs.declared.reports.Report.{Report}

-- how both end
abbrev pub worst : Extended → Extended → Extended
worst end.Refused other = end.Refused
worst end.NoModel end.Models = end.NoModel
worst end.NoModel end.NoModel = end.NoModel
worst end.NoModel end.Refused = end.Refused
worst end.Models other = other

-- what has been found where blocks end so
abbrev pub tally_of : List Extended → Tally
tally_of ends = record { models = model_count ends; extended = whole_end ends }

-- and with one more
abbrev pub with_end : Tally → Extended → Tally
with_end t e = record { models = t.models + models_in e; extended = worst e t.extended }

abbrev pub ends_in : Option Extended → List Extended
ends_in None = []
ends_in (Some e) = e ∷ []

abbrev pub with_ends : Tally → Option Extended → Tally
with_ends t None = t
with_ends t (Some e) = with_end t e

-- the report of answer n, of which this came
pub record Reported (names : List (List ℕ)) (n : ℕ) (c : Certificate) (outcome : Outcome) (report : Report) : Type 0 where
  pub text : report.text.items ≡ block_text names outcome n c
  pub end : report.end ≡ end_by outcome

-- something stands in the way
abbrev pub IsInTheWay : ExtendErr → Type 0
IsInTheWay (Refused fault) = ⊤
IsInTheWay (Joins fault) = ⊤
IsInTheWay Given = ⊤
IsInTheWay TooLarge = ⊤
IsInTheWay Overflow = ⊤
IsInTheWay (NotClosed at) = ⊤
IsInTheWay Memory = ⊥
