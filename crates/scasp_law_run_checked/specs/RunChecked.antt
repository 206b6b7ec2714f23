-- What a check finds of the text that a run has printed.
use Rattle.std.specs.Prelude.{◌≡◌, ℕ, suc, ◌≤◌, true, List, [], ◌∷◌, ◌++◌, flat_map, length, map, Option, Ok}
use Rattle.std.specs.List.{concat, list_all}
use Rattle.scasp_answers.specs.Blocks.Blocks.{block_lines}
use Rattle.scasp_answers.specs.Blocks.Files.{byte_limit}
use Rattle.scasp_answers.specs.Blocks.States.{Entry}
use Rattle.scasp_cert.specs.Certificate.{Certificate}
use Rattle.scasp_command_check.specs.Texts.{checked_line, line_by, recheck_text, rechecked_of}
use Rattle.scasp_command_check.specs.declared.checking.Rechecked.TheVariants.{Accepted}
use Rattle.scasp_command_check.specs.declared.worth.Worth.TheVariants.{Right}
use Rattle.scasp_command_inputs.specs.Inputs.{IsProgram, answers_in}
use Rattle.scasp_command_run.specs.Jobs.{Job}
use Rattle.scasp_command_run.specs.Queries.{Printed, Shown}
use Rattle.scasp_command_run.specs.Runs.{IsRun}
use Rattle.scasp_command_run.specs.declared.ends.RunEnd.{RunEnd}
use Rattle.scasp_command_words.specs.declared.format.Format.TheVariants.{Whole}
use Rattle.scasp_law_checked.specs.Checked.{IsFoundRight}
use Rattle.scasp_law_printable.specs.Places.{has_places}
use Rattle.scasp_list.specs.Each.{Each}
use Rattle.scasp_syntax.specs.declared.program.Program.{Program}

-- ---- what was printed

-- the answers with their numbers, of which the first has this one
abbrev pub numbered_from : ℕ → List Printed → List (ℕ × Certificate)
numbered_from n [] = []
numbered_from n (one ∷ more) = (n, one.certificate) ∷ numbered_from (suc n) more

-- the answers that a run has printed, in order, each with its number among those to its query
abbrev pub printed_answers : List Shown → List (ℕ × Certificate)
printed_answers all = flat_map (λ s. numbered_from 1 s.answers) all

-- the variables and counts of the answer are within the limits of answer files
abbrev pub IsPlaced : ℕ × Certificate → Type 0
IsPlaced a = list_all (λ l. has_places l.line) (block_lines a.1 a.0) ≡ true

-- ---- what a check prints

-- the line of an answer that is right
abbrev pub right_line : ℕ × Certificate → List ℕ
right_line a = line_by Right a.0 a.1

-- the text of a check where each of these answers is right
abbrev pub right_text : List (ℕ × Certificate) → List ℕ
right_text answers = concat (map right_line answers) ++ checked_line (length answers)

-- A check reads the text. Each block that it reads is right, and it prints the lines of these answers, in order; it ends as one where all blocks are
-- accepted.
pub record IsReadBack (p : Program) (names : List (List ℕ)) (text : List ℕ) (answers : List (ℕ × Certificate)) : Type 0 where
  pub entries : List Entry
  pub read : answers_in names text ≡ Ok entries
  pub right : Each (IsFoundRight p) entries
  pub prints : recheck_text p entries ≡ right_text answers
  pub ends : rechecked_of p entries ≡ Accepted

-- the run of a program with these names, whose answers are written whole
abbrev pub whole_job : Program → List (List ℕ) → ℕ → Option ℕ → Job
whole_job p names budget asked = record { program = p; names = names; budget = budget; answers = asked; format = Whole }

-- So it is with what a run of a program that is read has printed, whole or cut off, where the variables and counts of its answers are within the
-- limits, and its bytes within those of a file.
abbrev pub RunsAreFoundRight : Type 0
RunsAreFoundRight =
    (told : Option (List ℕ)) (p : Program) (names : List (List ℕ)) → IsProgram told p names
    → (budget : ℕ) (asked : Option ℕ) (text : List ℕ) (end : Option RunEnd) (run : IsRun (whole_job p names budget asked) text end)
    → Each IsPlaced (printed_answers run.all) → length text ≤ byte_limit → IsReadBack p names text (printed_answers run.all)
