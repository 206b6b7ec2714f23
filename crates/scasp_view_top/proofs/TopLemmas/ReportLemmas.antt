-- What is shown, and the cause of each status.
use Rattle.std.proofs.Common.{◌≡◌, ◌⊎◌, inl, inr, ℕ, Bool, true, false, Option, None, Some, List, refl, sym, subst, ◌∙◌, ap}
use Rattle.scasp_command_inputs.proofs.InputLemmas.{line-widen}
use Rattle.scasp_command_inputs.proofs.ReportLemmas.{reports-widen, tells-widen}
use Rattle.scasp_command_inputs.specs.Halts.{IfLine, Tells as TellsHalt}
use Rattle.scasp_command_inputs.specs.Inputs.{Outside, Says, unread as unread_program, refused, refused_answers, unread_answers, without_faults}
use Rattle.scasp_command_inputs.specs.Reports.{Reports, whole, part}
use Rattle.scasp_command_inputs.specs.Texts.{Refusal, answers_refusal, program_refusal, refusal_status}
use Rattle.scasp_command_inputs.specs.declared.halt.Halt.{Halt}
use Rattle.scasp_command_inputs.specs.declared.status.Status.{Status}
use Rattle.scasp_command_inputs.specs.declared.status.Status.TheVariants as status
use Rattle.scasp_io.specs.Counts.{Rose}
use Rattle.scasp_io.specs.Taken.{TakesWhole}
use Rattle.scasp_view_top.specs.Answers.{accepted_all}
use Rattle.scasp_view_top.specs.Top.Answers.{blocks, no_answers, status_of, under_none}
use Rattle.scasp_view_top.specs.Top.Outputs.{HasFault, HasReadFault, Outputs, Tells, nothing, shown, usage, usage_line}
use Rattle.scasp_view_top.specs.Top.Places.{past, place as at_place, read, too_long, unread}
use Rattle.scasp_view_top.specs.Top.Programs.{no_program, program}
use Rattle.scasp_view_top.specs.declared.words.asked.Asked.{Asked}
use Rattle.scasp_view_top.specs.declared.words.asked.Asked.TheVariants.{Answers, Place, Program}

-- ---- lines that are shown

module _ (asked : Option Asked) (o : Outside) (h : Halt) where
  pub line-shown : (a : Asked) → asked ≡ Some a → IfLine h (Tells a o) → IfLine h (Outputs asked o)
  line-shown a is line = line-widen h (Tells a o) (Outputs asked o) line (λ text s t. shown a is t)

  pub usage-shown : asked ≡ None → IfLine h (Says usage_line status.Usage) → IfLine h (Outputs asked o)
  usage-shown is line = line-widen h (Says usage_line status.Usage) (Outputs asked o) line (λ text s says. usage is says)

-- ---- the cause of each status

-- the status of a fault of the outside
is_fault : Status → Bool
is_fault status.Done = false
is_fault status.NoAnswer = false
is_fault status.Usage = false
is_fault status.Text = false
is_fault status.Read = true
is_fault status.Write = true
is_fault status.Spent = false
is_fault status.Overflow = false
is_fault status.Memory = false
is_fault status.Refused = false
is_fault status.Limit = false
is_fault status.NoModel = false

refusal-calm : (r : Refusal) → is_fault (refusal_status r) ≡ false
unfolding is_fault
refusal-calm r = elim (r.limit) as (λ b. is_fault (refusal_status (record { limit = b; word = r.word })) ≡ false) [ true ↦ refl | false ↦ refl ]

status-calm : (b : Bool) → is_fault (status_of b) ≡ false
unfolding is_fault
status-calm true = refl
status-calm false = refl

-- The status of no fault, and the same may be told where no read can fail; or that of a failed read.
Cause : Asked → Outside → List ℕ → Status → Type 0
Cause a o text s = ((is_fault s ≡ false) × Tells a (without_faults o) text s) ⊎ ((s ≡ status.Read) × HasFault a o)

calm : (a : Asked) (o : Outside) (text : List ℕ) (s t : Status) → s ≡ t → is_fault t ≡ false → Tells a (without_faults o) text s → Cause a o text s
unfolding Cause
calm a o text s t is h tells = inl (ap is_fault is ∙ h, tells)

cause-of : (a : Asked) (o : Outside) (text : List ℕ) (s : Status) → Tells a o text s → Cause a o text s
unfolding is_fault Cause
cause-of (Place p) o text s (unread rose says) = inr (says.ending_is, rose)
cause-of (Place p) o text s (too_long bytes are longer says) = calm (Place p) o text s _ says.ending_is refl (too_long bytes are longer says)
cause-of (Place p) o text s (read bytes are within (past beyond says)) = calm (Place p) o text s _ says.ending_is refl (read bytes are within (past beyond says))
cause-of (Place p) o text s (read bytes are within (at_place there says)) = calm (Place p) o text s _ says.ending_is refl (read bytes are within (at_place there says))
cause-of (Program file) o text s (no_program (unread_program rose says)) = inr (says.ending_is, rose)
cause-of (Program file) o text s (no_program (refused bytes are r)) =
    calm (Program file) o text s _ (r.says).ending_is (refusal-calm (program_refusal (r.fault).kind)) (no_program (refused bytes are r))
cause-of (Program file) o text s (program p names is says) = calm (Program file) o text s _ says.ending_is refl (program p names is says)
cause-of (Answers file answers options) o text s (under_none (unread_program rose says)) = inr (says.ending_is, inl rose)
cause-of (Answers file answers options) o text s (under_none (refused bytes are r)) =
    calm (Answers file answers options) o text s _ (r.says).ending_is (refusal-calm (program_refusal (r.fault).kind)) (under_none (refused bytes are r))
cause-of (Answers file answers options) o text s (no_answers p names is (unread_answers rose says)) = inr (says.ending_is, inr rose)
cause-of (Answers file answers options) o text s (no_answers p names is (refused_answers bytes are r)) =
    calm (Answers file answers options) o text s _ (r.says).ending_is (refusal-calm (answers_refusal (r.fault).kind))
    (no_answers p names is (refused_answers bytes are r))
cause-of (Answers file answers options) o text s (blocks p names entries table is has b) =
    calm (Answers file answers options) o text s _ (b.shows).ending_is (status-calm (accepted_all p table options entries)) (blocks p names entries table is has b)

fault-of : (asked : Option Asked) (o : Outside) (a : Asked) → asked ≡ Some a → HasFault a o → HasReadFault asked o
fault-of asked o a is h = let P : Option Asked → Type 0 = λ x. HasReadFault x o in subst P (sym is) h

module _ (asked : Option Asked) (o : Outside) (text : List ℕ) (s : Status) where
  read-fault : Outputs asked o text s → s ≡ status.Read → HasReadFault asked o
  unfolding is_fault Cause
  read-fault (nothing says) e = absurd (cc (says.ending_is, e))
  read-fault (usage is says) e = absurd (cc (says.ending_is, e))
  read-fault (shown a is t) e = by (cause-of a o text s t)
    where
      by : Cause a o text s → HasReadFault asked o
      by (inl h) = absurd (cc (h.0, ap is_fault e))
      by (inr h) = fault-of asked o a is h.1

  never-write : Outputs asked o text s → s ≡ status.Write → ⊥
  unfolding is_fault Cause
  never-write (nothing says) e = cc (says.ending_is, e)
  never-write (usage is says) e = cc (says.ending_is, e)
  never-write (shown a is t) e = by (cause-of a o text s t)
    where
      by : Cause a o text s → ⊥
      by (inl h) = cc (h.0, ap is_fault e)
      by (inr h) = cc (h.0, e)

  -- where no read fails, what is shown is so too where none can fail
  without : ¬ HasReadFault asked o → Outputs asked o text s → Outputs asked (without_faults o) text s
  unfolding Cause
  without fine (nothing says) = nothing says
  without fine (usage is says) = usage is says
  without fine (shown a is t) = by (cause-of a o text s t)
    where
      by : Cause a o text s → Outputs asked (without_faults o) text s
      by (inl h) = shown a is h.1
      by (inr h) = absurd (fine (fault-of asked o a is h.1))

-- ---- the clauses

module _ (asked : Option Asked) (o : Outside) (before after : Option (List ℕ)) (faults faults' : ℕ) (s : Status) where
  pub halt-reports : (h : Halt) → IfLine h (Outputs asked o) → Reports (TellsHalt h) before after faults faults' s → Reports (Outputs asked o) before after faults faults' s
  halt-reports h line =
      reports-widen (TellsHalt h) (Outputs asked o) before after faults faults' s
      (tells-widen (Outputs asked o) (Outputs asked o) h line (λ text t shown. shown) (λ text t says. nothing says))

  pub read-cause : Reports (Outputs asked o) before after faults faults' s → s ≡ status.Read → HasReadFault asked o
  read-cause (whole w) e = read-fault asked o w.text s w.may e
  read-cause (part is rose w) e = absurd (cc (is, e))

  pub write-cause : Reports (Outputs asked o) before after faults faults' s → s ≡ status.Write → Rose faults faults'
  write-cause (whole w) e = absurd (never-write asked o w.text s w.may e)
  write-cause (part is rose w) e = rose

  pub completes : Reports (Outputs asked o) before after faults faults' s → ¬ HasReadFault asked o → ¬ Rose faults faults'
      → TakesWhole (λ text. Outputs asked (without_faults o) text s) before after
  completes (whole w) fine writes = record { text = w.text; may = without asked o w.text s fine w.may; taken = w.taken }
  completes (part is rose w) fine writes = absurd (writes rose)
