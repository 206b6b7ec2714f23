-- What is printed of answers under one program after another, each in a file, and the status with which it ends.
use Rattle.std.specs.Prelude.{◌≡◌, ◌⊎◌, ◌&&◌, ◌+◌, ℕ, Bool, if◌then◌else◌, All, List, [], ◌∷◌, ◌++◌}
use Rattle.std.specs.List.{list_all}
use Rattle.scasp_syntax.specs.declared.program.Program.{Program}
use Rattle.scasp_answers.specs.Blocks.States.{Entry}
use Rattle.scasp_command_check.specs.Outputs.{KeepsWorth}
use Rattle.scasp_command_check.specs.Texts.{passes}
use Rattle.scasp_command_inputs.specs.Inputs.{Failed, HasAnswers, IsNoAnswers, IsNoProgram, IsNoProgramBehind, IsProgram, IsProgramBehind, Outside, Says}
use Rattle.scasp_command_inputs.specs.declared.status.Status.{Status}
use Rattle.scasp_command_inputs.specs.declared.status.Status.TheVariants.{Done, Memory, Refused}
use Rattle.scasp_command_recheck.specs.Texts.{first_text, next_text}

-- behind the last program, by whether each block was accepted under each
abbrev pub course_status : Bool → Status
course_status accepted = if accepted then Done else Refused

-- From the turn of a program on: nothing, for want of memory; or why its file, read behind these names, has no program; or the text of this
-- program, and then what comes behind it.
pub data Turn (o : Outside) (names : List (List ℕ)) (file : List ℕ) (own : Program → List ℕ) (Rest : Program → List (List ℕ) → List ℕ → Status → Type 0)
    (text : List ℕ) (status : Status) : Type 0 where
  cut_off : Says [] Memory text status → Turn o names file own Rest text status
  no_program : IsNoProgramBehind names o file text status → Turn o names file own Rest text status
  goes_on : (p : Program) (table : List (List ℕ)) (rest : List ℕ) → IsProgramBehind names (o.told file) p table → text ≡ own p ++ rest
      → Rest p table rest status → Turn o names file own Rest text status

-- Behind the n-th program, p, where the table of names is this one, and each block was accepted under each program or not: the turns of the files
-- that are left.
abbrev pub Course : Outside → List Entry → List (List ℕ) → ℕ → Program → List (List ℕ) → Bool → List ℕ → Status → Type 0
Course o entries [] n p names accepted text status = Says [] (course_status accepted) text status
Course o entries (file ∷ files) n p names accepted text status =
    Turn o names file (λ q. next_text (n + 1) p q entries)
    (λ q table rest end. Course o entries files (n + 1) q table (accepted && list_all (passes q) entries) rest end) text status

-- From the first program on, behind which the answers are read. What the line of a block says under any program holds.
pub data FirstTurn (o : Outside) (answers file : List ℕ) (files : List (List ℕ)) (text : List ℕ) (status : Status) : Type 0 where
  cut_first : Says [] Memory text status → FirstTurn o answers file files text status
  no_first : IsNoProgram o file text status → FirstTurn o answers file files text status
  no_answers : (p : Program) (names : List (List ℕ)) → IsProgram (o.told file) p names → IsNoAnswers o answers names text status
      → FirstTurn o answers file files text status
  goes_first : (p : Program) (names : List (List ℕ)) (entries : List Entry) (table : List (List ℕ)) (rest : List ℕ) → IsProgram (o.told file) p names
      → HasAnswers (o.told answers) names entries table → ((q : Program) → All (KeepsWorth q) entries) → text ≡ first_text p entries ++ rest
      → Course o entries files 1 p table (list_all (passes p) entries) rest status → FirstTurn o answers file files text status

-- the answers under the programs in these files
abbrev pub Rechecks : Outside → List ℕ → List (List ℕ) → List ℕ → Status → Type 0
Rechecks o answers [] text status = Says [] Done text status
Rechecks o answers (file ∷ files) text status = FirstTurn o answers file files text status

-- a read of one of the files failed
abbrev pub AnyFailed : Outside → List (List ℕ) → Type 0
AnyFailed o [] = ⊥
AnyFailed o (file ∷ files) = Failed o file ⊎ AnyFailed o files
