-- The status where a file is not read, and what is printed where no read fails.
use Rattle.std.proofs.Common.{◌≡◌, ◌≢◌, ◌∙◌, ◌⊎◌, inl, inr, ℕ, Bool, true, false, List, sym}
use Rattle.scasp_command_inputs.specs.Domains.{IsNoDomain, domain_refusal, refused_domain, unread_domain}
use Rattle.scasp_command_inputs.specs.Inputs.{Failed, IsNoAnswers, IsNoProgramBehind, Outside, refused, refused_answers, unread, unread_answers, without_faults}
use Rattle.scasp_command_inputs.specs.Texts.{answers_refusal, program_refusal, Refusal, refusal_status}
use Rattle.scasp_command_inputs.specs.declared.status.Status.{Status}
use Rattle.scasp_command_inputs.specs.declared.status.Status.TheVariants.{Limit, Memory, Read, Text, Write}

-- the status of no fault
abbrev pub IsQuiet : Status → Type 0
IsQuiet s = (s ≢ Read) × (s ≢ Write)

-- the same; or that of a failed read, with its cause
abbrev pub EndsBy : Type 0 → Status → Type 0
EndsBy Fault s = IsQuiet s ⊎ ((s ≡ Read) × Fault)

pub quiet : (Fault : Type 0) (s t : Status) → s ≡ t → IsQuiet t → EndsBy Fault s
quiet Fault s t is h = inl (λ e. h.0 (sym is ∙ e), λ e. h.1 (sym is ∙ e))

pub wider : (Fault Other : Type 0) (s : Status) → (Fault → Other) → EndsBy Fault s → EndsBy Other s
wider Fault Other s more (inl h) = inl h
wider Fault Other s more (inr h) = inr (h.0, more h.1)

pub memory-quiet : IsQuiet Memory
memory-quiet = (λ e. cc, λ e. cc)

pub refusal-quiet : (r : Refusal) → IsQuiet (refusal_status r)
refusal-quiet r =
    elim (r.limit) as (λ b. (refusal_status (record { limit = b; word = r.word }) ≢ Read) × (refusal_status (record { limit = b; word = r.word }) ≢ Write))
    [ true ↦ (λ (e : Limit ≡ Read). cc, λ (e : Limit ≡ Write). cc) | false ↦ (λ (e : Text ≡ Read). cc, λ (e : Text ≡ Write). cc) ]

module _ (o : Outside) (names : List (List ℕ)) (file text : List ℕ) (s : Status) where
  pub program-ends : IsNoProgramBehind names o file text s → EndsBy (Failed o file) s
  program-ends (unread rose says) = inr (says.ending_is, rose)
  program-ends (refused bytes are r) =
      quiet (Failed o file) s (refusal_status (program_refusal (r.fault).kind)) (r.says).ending_is (refusal-quiet (program_refusal (r.fault).kind))

  pub answers-end : IsNoAnswers o file names text s → EndsBy (Failed o file) s
  answers-end (unread_answers rose says) = inr (says.ending_is, rose)
  answers-end (refused_answers bytes are r) =
      quiet (Failed o file) s (refusal_status (answers_refusal (r.fault).kind)) (r.says).ending_is (refusal-quiet (answers_refusal (r.fault).kind))

  pub domain-ends : IsNoDomain o file names text s → EndsBy (Failed o file) s
  domain-ends (unread_domain rose says) = inr (says.ending_is, rose)
  domain-ends (refused_domain bytes are r) =
      quiet (Failed o file) s (refusal_status (domain_refusal (r.fault).kind)) (r.says).ending_is (refusal-quiet (domain_refusal (r.fault).kind))

  -- ---- where no read fails, what is printed is so too where none can fail

  pub program-without : ¬ Failed o file → IsNoProgramBehind names o file text s → IsNoProgramBehind names (without_faults o) file text s
  program-without fine (unread rose says) = absurd (fine rose)
  program-without fine (refused bytes are r) = refused bytes are r

  pub answers-without : ¬ Failed o file → IsNoAnswers o file names text s → IsNoAnswers (without_faults o) file names text s
  answers-without fine (unread_answers rose says) = absurd (fine rose)
  answers-without fine (refused_answers bytes are r) = refused_answers bytes are r

  pub domain-without : ¬ Failed o file → IsNoDomain o file names text s → IsNoDomain (without_faults o) file names text s
  domain-without fine (unread_domain rose says) = absurd (fine rose)
  domain-without fine (refused_domain bytes are r) = refused_domain bytes are r
