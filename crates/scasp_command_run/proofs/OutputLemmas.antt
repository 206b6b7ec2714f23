-- What a sink took, piece by piece.
use Rattle.std.proofs.Common.{◌≡◌, ◌∙◌, ℕ, List, [], ◌++◌, Option, None, Some, Result, Ok, Err, IfOk, refl, ap, sym}
use Rattle.std.proofs.lemmas.List.{append-nil}
use Rattle.scasp_io.specs.Bytes.{TakesPrefix, behind}
use Rattle.scasp_io.specs.Inside.Behind.{TakesPrefix-append, behind-append}
use Rattle.scasp_io.specs.Taken.{TakesFirst, TakesWhole, Writes}
use Rattle.scasp_io.specs.declared.errors.OutputErr.{OutputErr}
use Rattle.scasp_io.specs.declared.errors.OutputErr.TheVariants.{Memory, Write}
use Rattle.scasp_command_run.specs.Inside.Continuing.{IsText}

-- nothing was taken
pub behind-nil : (old : Option (List ℕ)) → old ≡ behind old []
behind-nil None = refl
behind-nil (Some text) = ap (λ (t : List ℕ). Some t) (sym (append-nil text))

pub behind-both : (old mid new : Option (List ℕ)) (start text : List ℕ) → mid ≡ behind old start → new ≡ behind mid text → new ≡ behind old (start ++ text)
behind-both old mid new start text first second =
    second ∙ ap (λ (o : Option (List ℕ)). behind o text) first ∙ sym (behind-append old start text)

module _ {R S : Type 0} (May : List ℕ → Option R → Type 0) (Must : List ℕ → Option S → Type 0) (start : List ℕ) (old mid new : Option (List ℕ)) where
  -- behind a text that was taken whole another one was
  pub ok-behind : (r : R) (s : S) → mid ≡ behind old start → ((text : List ℕ) → May text (Some r) → Must (start ++ text) (Some s))
      → Writes May mid new (Ok r) → Writes Must old new (Ok s)
  ok-behind r s before gives w = record {
    text = start ++ w.text;
    may = gives w.text w.may;
    taken = behind-both old mid new start w.text before w.taken;
  }

  -- behind it another one was cut off, or a first part of one was taken
  pub err-behind : (e : OutputErr) → mid ≡ behind old start → ((text : List ℕ) → May text None → Must (start ++ text) None)
      → ((text : List ℕ) (r : Option R) → May text r → (s : Option S) × Must (start ++ text) s)
      → Writes May mid new (Err e) → Writes Must old new (Err e)
  err-behind Memory before cut gives w = record {
    text = start ++ w.text;
    may = cut w.text w.may;
    taken = behind-both old mid new start w.text before w.taken;
  }
  err-behind Write before cut gives w = record {
    text = start ++ w.text;
    may = gives w.text w.may.0 w.may.1;
    part = TakesPrefix-append old mid new start w.text before w.part;
  }

-- ---- one text

pub text-written : (all : List ℕ) (old new : Option (List ℕ)) (bytes : List ℕ) → bytes ≡ all → new ≡ behind old bytes → Writes (IsText all) old new (Ok tt)
text-written all old new bytes same taken = record { text = bytes; may = same; taken = taken }

pub text-broken : (all : List ℕ) (old new : Option (List ℕ)) (bytes : List ℕ) → bytes ≡ all → TakesPrefix old new bytes → Writes (IsText all) old new (Err Write)
text-broken all old new bytes same part = record { text = bytes; may = (Some tt, same); part = part }

pub text-none : (all : List ℕ) (old : Option (List ℕ)) → Writes (IsText all) old old (Err Memory)
text-none all old = record { text = []; may = refl; taken = behind-nil old }

-- what follows of each value from a fact holds where there is one
pub ok-always : {A E G : Type 0} {P : A → Type 0} (r : Result A E) → ((x : A) → G → P x) → G → IfOk r P
ok-always (Ok x) each g = each x g
ok-always (Err e) each g = tt
