-- What the sink took of an extension.
use Rattle.std.proofs.Common.{◌≡◌, ◌∙◌, ◌≤◌, ℕ, Option, None, Some, List, All, refl, subst}
use Rattle.scasp_answers.specs.Blocks.States.{Entry}
use Rattle.scasp_command_check.specs.Outputs.{TakesLines}
use Rattle.scasp_command_inputs.specs.Domains.{HasMembers, IsNoDomain}
use Rattle.scasp_command_inputs.specs.Halts.{IfLine, Tells}
use Rattle.scasp_command_inputs.specs.Inputs.{HasAnswers, IsNoAnswers, IsNoProgram, IsProgram, outside}
use Rattle.scasp_command_inputs.specs.Reports.{Reports, part, whole}
use Rattle.scasp_command_inputs.specs.declared.halt.Halt.{Halt}
use Rattle.scasp_command_inputs.specs.declared.status.Status.{Status}
use Rattle.scasp_command_inputs.specs.declared.status.Status.TheVariants.{Memory, Write}
use Rattle.scasp_command_inputs.proofs.DomainLemmas.{no_domain-since}
use Rattle.scasp_command_inputs.proofs.InputLemmas.{no_answers-since}
use Rattle.scasp_command_inputs.proofs.ReportLemmas.{reports-widen, tells-widen}
use Rattle.scasp_io.specs.Bytes.{behind, TakesPrefix}
use Rattle.scasp_io.specs.Counts.{Rose}
use Rattle.scasp_syntax.specs.Tm.{Tm}
use Rattle.scasp_syntax.specs.declared.program.Program.{Program}
use Rattle.scasp_command_extend.specs.Commands.{Extends, ExtendsBlocks, extend_status, extended, nothing_extended, without_answers, without_domain, without_program}
use Rattle.scasp_command_extend.specs.Ends.{extended_of}
use Rattle.scasp_command_extend.specs.Outputs.{KeepsOutcome}
use Rattle.scasp_command_extend.specs.Texts.{block_texts, extend_text}
use Rattle.scasp_command_extend.specs.declared.ends.Extended.{Extended}

-- ---- the blocks

module _ (names : List (List ℕ)) (p : Program) (d : List Tm) (entries : List Entry) (before after : Option (List ℕ)) (faults faults' : ℕ) (says : All (KeepsOutcome p d) entries) where
  -- it ended
  pub takes-all : (end : Extended) (status : Status) → after ≡ behind before (extend_text names p d entries) → end ≡ extended_of p d entries
      → status ≡ extend_status (Some end) → Reports (ExtendsBlocks names p d entries) before after faults faults' status
  takes-all end status taken is ending =
      whole (record {
        text = extend_text names p d entries;
        may = record { end = Some end; extension = (refl, is); ending_is = ending; says = says };
        taken = taken;
      })

  -- it was cut off by want of memory
  pub takes-first : TakesLines before after (block_texts names p d entries) → Reports (ExtendsBlocks names p d entries) before after faults faults' Memory
  takes-first t = whole (record { text = _; may = record { end = None; extension = (t.count, refl); ending_is = refl; says = says }; taken = t.taken })

  -- a write failed
  pub takes-part : TakesPrefix before after (extend_text names p d entries) → Rose faults faults'
      → Reports (ExtendsBlocks names p d entries) before after faults faults' Write
  takes-part t rose =
      let end : Extended = extended_of p d entries in
      part refl rose (record {
        text = extend_text names p d entries;
        may = (extend_status (Some end), record { end = Some end; extension = (refl, refl); ending_is = refl; says = says });
        part = t;
      })

-- ---- the files

module _ (program answers domain : List ℕ) (told : List ℕ → Option (List ℕ)) (first after : List ℕ → ℕ) (taken taken' : Option (List ℕ)) (faults faults' : ℕ) (status : Status) where
  -- of the whole call
  abbrev Whole : Type 0
  Whole = Reports (Extends (outside told first after) program answers domain) taken taken' faults faults' status

  -- a line is told in the place of a file
  told-line : (may : List ℕ → Status → Type 0) (h : Halt) → ((text : List ℕ) (s : Status) → may text s → Extends (outside told first after) program answers domain text s)
      → IfLine h may → Reports (Tells h) taken taken' faults faults' status → Whole
  told-line may h more line =
      reports-widen (Tells h) (Extends (outside told first after) program answers domain) taken taken' faults faults' status
      (tells-widen may (Extends (outside told first after) program answers domain) h line more (λ text s says. nothing_extended says))

  pub stops-at-program : (h : Halt) → IfLine h (IsNoProgram (outside told first after) program) → Reports (Tells h) taken taken' faults faults' status → Whole
  stops-at-program h line = told-line (IsNoProgram (outside told first after) program) h (λ text s no. without_program no) line

  module _ (p : Program) (names : List (List ℕ)) (is : IsProgram (told program) p names) where
    pub stops-at-answers : (told' : List ℕ → Option (List ℕ)) (before : List ℕ → ℕ) (h : Halt) → told' answers ≡ told answers → first answers ≤ before answers
        → IfLine h (IsNoAnswers (outside told' before after) answers names) → Reports (Tells h) taken taken' faults faults' status → Whole
    stops-at-answers told' before h stays counts line =
        told-line (IsNoAnswers (outside told' before after) answers names) h
        (λ text s no. without_answers p names is (no_answers-since told told' first before after answers names text s stays counts no)) line

    module _ (entries : List Entry) (table : List (List ℕ)) (told' : List ℕ → Option (List ℕ)) (same : told' answers ≡ told answers)
        (has : HasAnswers (told' answers) names entries table) where
      their : HasAnswers (told answers) names entries table
      their = subst (λ (t : Option (List ℕ)). HasAnswers t names entries table) same has

      pub stops-at-domain : (told'' : List ℕ → Option (List ℕ)) (before : List ℕ → ℕ) (h : Halt) → told'' domain ≡ told domain → first domain ≤ before domain
          → IfLine h (IsNoDomain (outside told'' before after) domain table) → Reports (Tells h) taken taken' faults faults' status → Whole
      stops-at-domain told'' before h stays counts line =
          told-line (IsNoDomain (outside told'' before after) domain table) h
          (λ text s no. without_domain p names entries table is their (no_domain-since told told'' first before after domain table text s stays counts no)) line

      pub goes-on : (d : List Tm) (last : List (List ℕ)) (told'' : List ℕ → Option (List ℕ)) → told'' domain ≡ told domain → HasMembers (told'' domain) table d last
          → Reports (ExtendsBlocks last p d entries) taken taken' faults faults' status → Whole
      goes-on d last told'' stays members =
          reports-widen (ExtendsBlocks last p d entries) (Extends (outside told first after) program answers domain) taken taken' faults faults' status
          (λ text s e. extended p names entries table d last is their (subst (λ (t : Option (List ℕ)). HasMembers t table d last) stays members) e)
