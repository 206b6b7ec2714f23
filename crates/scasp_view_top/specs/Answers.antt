-- What is shown of an answer file under a program: each block below the line that `check` tells of it.
use Rattle.std.specs.Prelude.{ℕ, ◌==◌, Bool, true, if◌then◌else◌, Option, None, Some, List, [], ◌∷◌, flat_map, map}
use Rattle.scasp_answers.specs.Blocks.States.{Entry, block, ended_entry, rejected_entry}
use Rattle.scasp_cert.specs.Certificate.{Certificate}
use Rattle.scasp_command_check.specs.Texts.{is_accepted, line_by}
use Rattle.scasp_command_check.specs.Worths.{worth_of}
use Rattle.scasp_command_check.specs.declared.worth.Worth.{Worth}
use Rattle.scasp_syntax.specs.declared.program.Program.{Program}
use Rattle.scasp_view_top.specs.Blocks.Blocks.{are_accepted, blocks_text}
use Rattle.scasp_view_top.specs.Blocks.Judgements.{Judgement}
use Rattle.scasp_view_top.specs.Clauses.Clauses.{in_words}
use Rattle.scasp_view_top.specs.Clauses.Queries.{query_line}
use Rattle.scasp_view_top.specs.Trees.Settings.{Setting}
use Rattle.scasp_view_top.specs.declared.words.options.Options.{Options}

-- ---- what is said of a block

-- of answer n, whose certificate is worth so much; in the line that is shared the answer has the number 0
abbrev pub judgement_by : Worth → Program → List (List ℕ) → ℕ → Certificate → Judgement
judgement_by w p names n c = record {
  verdict = line_by w n c;
  worth = line_by w 0 c;
  accepted = is_accepted w;
  query = query_line p names c.query c.terms;
  certificate = c;
}

unfoldable pub judgement : Program → List (List ℕ) → ℕ → Certificate → Judgement
judgement p names n c = judgement_by (worth_of p c) p names n c

-- ---- which blocks are shown

abbrev pub asks : Option ℕ → ℕ → Bool
asks None q = true
asks (Some asked) q = asked == q

-- the block, where its query is asked for
abbrev pub judged_block : Program → List (List ℕ) → Option ℕ → ℕ → Certificate → List Judgement
judged_block p names asked n c = if asks asked c.query then judgement p names n c ∷ [] else []

abbrev pub judged_in : Program → List (List ℕ) → Option ℕ → Entry → List Judgement
judged_in p names asked (block n c) = judged_block p names asked n c
judged_in p names asked (ended_entry e q) = []
judged_in p names asked (rejected_entry q n at why) = []

abbrev pub judged : Program → List (List ℕ) → Option ℕ → List Entry → List Judgement
judged p names asked entries = flat_map (judged_in p names asked) entries

-- ---- their text

abbrev pub setting_of : Program → List (List ℕ) → Bool → Setting
setting_of p names plain = record { names = names; clauses = map (in_words names) p.clauses; plain = plain }

abbrev pub judged_text : Program → List (List ℕ) → Options → List Judgement → List ℕ
judged_text p names o js = blocks_text (setting_of p names o.plain) o.checks o.once js

abbrev pub answers_text : Program → List (List ℕ) → Options → List Entry → List ℕ
answers_text p names o entries = judged_text p names o (judged p names o.query entries)

-- whether each block that is asked for is accepted
abbrev pub accepted_all : Program → List (List ℕ) → Options → List Entry → Bool
accepted_all p names o entries = are_accepted (judged p names o.query entries)
