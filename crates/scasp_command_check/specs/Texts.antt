-- The text of a file's blocks: a line each, with what it is worth, and their number.
use Rattle.std.specs.Prelude.{ℕ, Bool, true, false, if◌then◌else◌, List, [], ◌∷◌, ◌++◌, length, codes, decimal}
use Rattle.std.specs.List.{concat, flat_map, list_all}
use Rattle.scasp_syntax.specs.declared.program.Program.{Program}
use Rattle.scasp_cert.specs.Certificate.{Certificate}
use Rattle.scasp_cert.specs.Flat.{is_flat}
use Rattle.scasp_checker_rules.specs.declared.refusal.Reason.{Reason}
use Rattle.scasp_checker_rules.specs.declared.refusal.Reason.TheVariants as reason
use Rattle.scasp_answers.specs.Blocks.States.{Entry, block, ended_entry, rejected_entry}
use Rattle.scasp_command_check.specs.Worths.{worth_of}
use Rattle.scasp_command_check.specs.declared.checking.Rechecked.{Rechecked}
use Rattle.scasp_command_check.specs.declared.checking.Rechecked.TheVariants.{Accepted, Refused}
use Rattle.scasp_command_check.specs.declared.worth.Worth.{Worth}
use Rattle.scasp_command_check.specs.declared.worth.Worth.TheVariants as worth

abbrev pub reason_words : Reason → List ℕ
reason_words reason.WrongQuery = codes "wrong query"
reason_words reason.WrongVariable = codes "wrong variable"
reason_words reason.WrongNode = codes "wrong node"
reason_words reason.WrongLiteral = codes "wrong literal"
reason_words reason.WrongRule = codes "wrong rule"
reason_words reason.WrongInstance = codes "wrong instance"
reason_words reason.WrongChildren = codes "wrong children"
reason_words reason.UncoveredCase = codes "uncovered case"
reason_words reason.WrongItem = codes "wrong item"
reason_words reason.WrongSplit = codes "wrong split"
reason_words reason.NoAncestor = codes "no ancestor"
reason_words reason.LoopWithoutNegation = codes "loop without negation"
reason_words reason.NotInScope = codes "not in scope"
reason_words reason.HintStep = codes "hint step"
reason_words reason.HintOverflow = codes "hint overflow"
reason_words reason.HintNotReached = codes "hint not reached"
reason_words reason.Clash = codes "clash"
reason_words reason.Sample = codes "sample"
reason_words reason.WrongCheck = codes "wrong check"
reason_words reason.WrongMap = codes "wrong map"

-- whether the certificate speaks of any domain, or of closed ones
abbrev pub domain_words : Certificate → List ℕ
domain_words c = if is_flat c then codes " any" else codes " closed"

abbrev pub worth_words : Worth → Certificate → List ℕ
worth_words worth.Right c = codes "right" ++ domain_words c
worth_words (worth.Joins fault) c = codes "joins " ++ decimal fault.rule ++ domain_words c
worth_words (worth.Refused fault) c = codes "refused " ++ decimal fault.at ++ codes " " ++ reason_words fault.reason

-- the line of answer n, worth so much
unfoldable pub line_by : Worth → ℕ → Certificate → List ℕ
line_by w n c = decimal c.query ++ codes "." ++ decimal n ++ codes " " ++ worth_words w c ++ codes "\n"

-- the line of an entry that is a block
abbrev pub entry_lines : Program → Entry → List (List ℕ)
entry_lines p (block n c) = line_by (worth_of p c) n c ∷ []
entry_lines p (ended_entry e q) = []
entry_lines p (rejected_entry q n at why) = []

abbrev pub block_lines : Program → List Entry → List (List ℕ)
block_lines p entries = flat_map (entry_lines p) entries

unfoldable pub checked_line : ℕ → List ℕ
checked_line n = codes "checked " ++ decimal n ++ codes "\n"

-- a line for each block, and behind them how many there are
abbrev pub recheck_text : Program → List Entry → List ℕ
recheck_text p entries = concat (block_lines p entries) ++ checked_line (length (block_lines p entries))

-- ---- whether all are accepted

abbrev pub is_accepted : Worth → Bool
is_accepted worth.Right = true
is_accepted (worth.Joins fault) = true
is_accepted (worth.Refused fault) = false

-- the entry is no block that is refused
abbrev pub passes : Program → Entry → Bool
passes p (block n c) = is_accepted (worth_of p c)
passes p (ended_entry e q) = true
passes p (rejected_entry q n at why) = true

abbrev pub rechecked_of : Program → List Entry → Rechecked
rechecked_of p entries = if list_all (passes p) entries then Accepted else Refused
