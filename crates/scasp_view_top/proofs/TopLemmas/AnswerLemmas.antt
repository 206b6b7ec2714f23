-- What is told of the blocks of a file.
use Rattle.std.proofs.Common.{◌≡◌, ◌≤◌, ◌∙◌, ℕ, Bool, Option, List, ap, subst}
use Rattle.std.specs.Prelude.{All}
use Rattle.scasp_answers.specs.Blocks.States.{Entry}
use Rattle.scasp_command_check.specs.Outputs.{KeepsWorth}
use Rattle.scasp_command_inputs.proofs.InputLemmas.{line-widen, no_answers-since}
use Rattle.scasp_command_inputs.specs.Halts.{IfLine}
use Rattle.scasp_command_inputs.specs.Inputs.{HasAnswers, IsNoAnswers, IsNoProgram, IsProgram, Says, outside}
use Rattle.scasp_command_inputs.specs.declared.halt.Halt.{Halt}
use Rattle.scasp_syntax.specs.declared.program.Program.{Program}
use Rattle.scasp_view_top.specs.Answers.{accepted_all, answers_text}
use Rattle.scasp_view_top.specs.Top.Answers.{ShowsBlocks, TellsAnswers, blocks, no_answers, status_of, under_none}
use Rattle.scasp_view_top.specs.declared.words.options.Options.{Options}

pub blocks-line : (p : Program) (names : List (List ℕ)) (options : Options) (entries : List Entry) (text : List ℕ) (accepted : Bool) (h : Halt)
    → text ≡ answers_text p names options entries → accepted ≡ accepted_all p names options entries → All (KeepsWorth p) entries
    → IfLine h (Says text (status_of accepted)) → IfLine h (ShowsBlocks p names options entries)
blocks-line p names options entries text accepted h is all holds line =
    line-widen h (Says text (status_of accepted)) (ShowsBlocks p names options entries) line
    (λ t s says. record {
      shows = record { line_is = says.line_is ∙ is; ending_is = says.ending_is ∙ ap status_of all };
      holds = holds;
    })

module _ (told told' : List ℕ → Option (List ℕ)) (first before after : List ℕ → ℕ) (program answers : List ℕ) (options : Options) (h : Halt) where
  pub without-program : IfLine h (IsNoProgram (outside told first after) program) → IfLine h (TellsAnswers (outside told first after) program answers options)
  without-program line =
      line-widen h (IsNoProgram (outside told first after) program) (TellsAnswers (outside told first after) program answers options) line
      (λ text status no. under_none no)

  pub without-answers : (p : Program) (names : List (List ℕ)) → told' answers ≡ told answers → first answers ≤ before answers → IsProgram (told program) p names
      → IfLine h (IsNoAnswers (outside told' before after) answers names) → IfLine h (TellsAnswers (outside told first after) program answers options)
  without-answers p names stays counts is line =
      line-widen h (IsNoAnswers (outside told' before after) answers names) (TellsAnswers (outside told first after) program answers options) line
      (λ text status no. no_answers p names is (no_answers-since told told' first before after answers names text status stays counts no))

  pub with-answers : (p : Program) (names : List (List ℕ)) (entries : List Entry) (table : List (List ℕ)) → told' answers ≡ told answers → IsProgram (told program) p names
      → HasAnswers (told' answers) names entries table → IfLine h (ShowsBlocks p table options entries)
      → IfLine h (TellsAnswers (outside told first after) program answers options)
  with-answers p names entries table stays is has line =
      line-widen h (ShowsBlocks p table options entries) (TellsAnswers (outside told first after) program answers options) line
      (λ text status shows. blocks p names entries table is (subst (λ (t : Option (List ℕ)). HasAnswers t names entries table) stays has) shows)
