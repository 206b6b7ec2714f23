-- The status of each text that is printed.
use Rattle.std.proofs.Common.{◌≡◌, ◌⊎◌, inl, inr, ℕ, Bool, true, false, Option, None, Some, List, refl, sym, subst, ◌∙◌, ap}
use Rattle.scasp_command_inputs.specs.Inputs.{IsNoProgram, Outside, Says, unread as unread_program, refused as refused_program, without_faults}
use Rattle.scasp_command_inputs.specs.Reports.{Reports, whole, part}
use Rattle.scasp_command_inputs.specs.Texts.{Refusal, program_refusal, refusal_status}
use Rattle.scasp_command_inputs.specs.declared.status.Status.{Status}
use Rattle.scasp_command_inputs.specs.declared.status.Status.TheVariants as status
use Rattle.scasp_io.specs.Counts.{Rose}
use Rattle.scasp_io.specs.Taken.{TakesWhole}
use Rattle.scasp_serve_top.specs.Inputs.{HasNoCommands, refused, too_long, unread}
use Rattle.scasp_serve_top.specs.Outputs.{Asked, HasReadFault, Outputs, no_commands, no_program, nothing, serves, usage}
use Rattle.scasp_serve_top.specs.Served.{end_status}
use Rattle.scasp_serve_top.specs.Statuses.{IsServeStatus, status_of}
use Rattle.scasp_serve_top.specs.declared.status.ServeStatus.{ServeStatus}
use Rattle.scasp_serve_top.specs.declared.status.ServeStatus.TheVariants as serve

-- A status of `serve` that belongs to no fault of the outside; or that of a failed read, with its cause.
pub data Cause (asked : Option Asked) (o : Outside) : Status → Type 0 where
  done : Cause asked o status.Done
  no_words : Cause asked o status.Usage
  no_text : Cause asked o status.Text
  past : Cause asked o status.Limit
  no_room : Cause asked o status.Memory
  no_read : HasReadFault asked o → Cause asked o status.Read

said : (asked : Option Asked) (o : Outside) (s t : Status) → s ≡ t → Cause asked o t → Cause asked o s
said asked o s t is c = subst (Cause asked o) (sym is) c

refusal-cause : (asked : Option Asked) (o : Outside) (r : Refusal) → Cause asked o (refusal_status r)
refusal-cause asked o r = elim (r.limit) as (λ b. Cause asked o (refusal_status (record { limit = b; word = r.word }))) [ true ↦ past | false ↦ no_text ]

end-cause : (asked : Option Asked) (o : Outside) (end : Option Unit) → Cause asked o (end_status end)
end-cause asked o None = no_room
end-cause asked o (Some e) = done

fault-of : (asked : Option Asked) (o : Outside) (a : Asked) → asked ≡ Some a → HasReadFault (Some a) o → HasReadFault asked o
fault-of asked o a is h = let P : Option Asked → Type 0 = λ x. HasReadFault x o in subst P (sym is) h

cause-of : (asked : Option Asked) (o : Outside) (text : List ℕ) (s : Status) → Outputs asked o text s → Cause asked o s
cause-of asked o text s (nothing says) = said asked o s _ says.ending_is no_room
cause-of asked o text s (usage is says) = said asked o s _ says.ending_is no_words
cause-of asked o text s (no_program a is (unread_program rose says)) = said asked o s _ says.ending_is (no_read (fault-of asked o a is (inl rose)))
cause-of asked o text s (no_program a is (refused_program bytes are r)) = said asked o s _ (r.says).ending_is (refusal-cause asked o (program_refusal (r.fault).kind))
cause-of asked o text s (no_commands a p names is read (unread rose says)) = said asked o s _ says.ending_is (no_read (fault-of asked o a is (inr rose)))
cause-of asked o text s (no_commands a p names is read (too_long bytes are longer says)) = said asked o s _ says.ending_is past
cause-of asked o text s (no_commands a p names is read (refused bytes are within r)) = said asked o s _ (r.says).ending_is no_text
cause-of asked o text s (serves a p names commands is read has r) = said asked o s _ r.ending (end-cause asked o r.end)

cause-status : (asked : Option Asked) (o : Outside) (s : Status) → Cause asked o s → IsServeStatus s
cause-status asked o s done = tt
cause-status asked o s no_words = tt
cause-status asked o s no_text = tt
cause-status asked o s past = tt
cause-status asked o s no_room = tt
cause-status asked o s (no_read h) = tt

read-fault : (asked : Option Asked) (o : Outside) (s : Status) → Cause asked o s → s ≡ status.Read → HasReadFault asked o
read-fault asked o s done e = absurd (cc e)
read-fault asked o s no_words e = absurd (cc e)
read-fault asked o s no_text e = absurd (cc e)
read-fault asked o s past e = absurd (cc e)
read-fault asked o s no_room e = absurd (cc e)
read-fault asked o s (no_read h) e = h

never-write : (asked : Option Asked) (o : Outside) (s : Status) → Cause asked o s → s ≡ status.Write → ⊥
never-write asked o s done e = cc e
never-write asked o s no_words e = cc e
never-write asked o s no_text e = cc e
never-write asked o s past e = cc e
never-write asked o s no_room e = cc e
never-write asked o s (no_read h) e = cc e

-- where no read fails, what is printed is so too where none can fail
without : (asked : Option Asked) (o : Outside) (text : List ℕ) (s : Status) → ¬ HasReadFault asked o → Outputs asked o text s → Outputs asked (without_faults o) text s
without asked o text s fine (nothing says) = nothing says
without asked o text s fine (usage is says) = usage is says
without asked o text s fine (no_program a is (unread_program rose says)) = absurd (fine (fault-of asked o a is (inl rose)))
without asked o text s fine (no_program a is (refused_program bytes are r)) = no_program a is (refused_program bytes are r)
without asked o text s fine (no_commands a p names is read (unread rose says)) = absurd (fine (fault-of asked o a is (inr rose)))
without asked o text s fine (no_commands a p names is read (too_long bytes are longer says)) = no_commands a p names is read (too_long bytes are longer says)
without asked o text s fine (no_commands a p names is read (refused bytes are within r)) = no_commands a p names is read (refused bytes are within r)
without asked o text s fine (serves a p names commands is read has r) = serves a p names commands is read has r

-- ---- the clauses

module _ (asked : Option Asked) (o : Outside) (before after : Option (List ℕ)) (faults faults' : ℕ) (s : Status) where
  pub is-serve-status : Reports (Outputs asked o) before after faults faults' s → IsServeStatus s
  is-serve-status (whole w) = cause-status asked o s (cause-of asked o w.text s w.may)
  is-serve-status (part is rose w) = subst IsServeStatus (sym is) tt

  pub read-cause : Reports (Outputs asked o) before after faults faults' s → s ≡ status.Read → HasReadFault asked o
  read-cause (whole w) read = read-fault asked o s (cause-of asked o w.text s w.may) read
  read-cause (part is rose w) read = absurd (cc (is, read))

  pub write-cause : Reports (Outputs asked o) before after faults faults' s → s ≡ status.Write → Rose faults faults'
  write-cause (whole w) write = absurd (never-write asked o s (cause-of asked o w.text s w.may) write)
  write-cause (part is rose w) write = rose

  pub completes : Reports (Outputs asked o) before after faults faults' s → ¬ HasReadFault asked o → ¬ Rose faults faults'
      → TakesWhole (λ text. Outputs asked (without_faults o) text s) before after
  completes (whole w) fine writes = record { text = w.text; may = without asked o w.text s fine w.may; taken = w.taken }
  completes (part is rose w) fine writes = absurd (writes rose)

-- the same, of the status of `serve`
module _ (asked : Option Asked) (o : Outside) (before after : Option (List ℕ)) (faults faults' : ℕ) (s : Status) (t : ServeStatus) (is : status_of t ≡ s)
    (reports : Reports (Outputs asked o) before after faults faults' s) where
  pub serve-reports : Reports (Outputs asked o) before after faults faults' (status_of t)
  serve-reports = subst (Reports (Outputs asked o) before after faults faults') (sym is) reports

  pub serve-read : t ≡ serve.Read → HasReadFault asked o
  serve-read e = read-cause asked o before after faults faults' (status_of t) serve-reports (ap status_of e)

  pub serve-write : t ≡ serve.Write → Rose faults faults'
  serve-write e = write-cause asked o before after faults faults' (status_of t) serve-reports (ap status_of e)

  pub serve-completes : ¬ HasReadFault asked o → ¬ Rose faults faults' → (t ≡ serve.Memory) ⊎ TakesWhole (λ text. Outputs asked (without_faults o) text (status_of t)) before after
  serve-completes fine writes = inr (completes asked o before after faults faults' (status_of t) serve-reports fine writes)
