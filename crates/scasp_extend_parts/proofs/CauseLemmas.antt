-- Obstacles that come one behind the other.
use Rattle.std.proofs.Common.{◌≡◌, ◌∙◌, Bool, true, false, Option, None, Some, refl, ap, subst, sym}
use Rattle.std.specs.Option.{option_or}
use Rattle.std.specs.Prelude.{Result, Ok, Err}
use Rattle.scasp_ground.specs.Told.{Limits}
use Rattle.scasp_ground.specs.declared.error.GroundErr.{GroundErr}
use Rattle.scasp_ground.specs.declared.error.GroundErr.TheVariants as grounding
use Rattle.scasp_extend_parts.specs.Causes.{Explains, IsCause, of_ground}
use Rattle.scasp_extend_parts.specs.Obstacles.{overflow_if, too_large_if}
use Rattle.scasp_extend_parts.specs.declared.errors.ExtendErr.{ExtendErr}
use Rattle.scasp_extend_parts.specs.declared.errors.ExtendErr.TheVariants.{Refused, Joins, Given, TooLarge, Overflow, NotClosed, Memory}

or-first : (e : ExtendErr) (why rest : Option ExtendErr) → why ≡ Some e → option_or why rest ≡ Some e
or-first e why rest h = ap (λ o. option_or o rest) h

-- the first obstacle counts
pub cause-first : (e : ExtendErr) (why rest : Option ExtendErr) → IsCause e why → IsCause e (option_or why rest)
cause-first (Refused r) why rest h = or-first (Refused r) why rest h
cause-first (Joins f) why rest h = or-first (Joins f) why rest h
cause-first Given why rest h = or-first Given why rest h
cause-first TooLarge why rest h = or-first TooLarge why rest h
cause-first Overflow why rest h = or-first Overflow why rest h
cause-first (NotClosed at) why rest h = or-first (NotClosed at) why rest h
cause-first Memory why rest h = h

or-later : (why rest : Option ExtendErr) → why ≡ None → option_or why rest ≡ rest
or-later why rest h = ap (λ o. option_or o rest) h

-- and where there is none, the next
pub cause-later : (e : ExtendErr) (why rest : Option ExtendErr) → why ≡ None → IsCause e rest → IsCause e (option_or why rest)
cause-later (Refused r) why rest n h = or-later why rest n ∙ h
cause-later (Joins f) why rest n h = or-later why rest n ∙ h
cause-later Given why rest n h = or-later why rest n ∙ h
cause-later TooLarge why rest n h = or-later why rest n ∙ h
cause-later Overflow why rest n h = or-later why rest n ∙ h
cause-later (NotClosed at) why rest n h = or-later why rest n ∙ h
cause-later Memory why rest n h = h

pub explains-later : {A : Type 0} (r : Result A ExtendErr) (why rest : Option ExtendErr) → why ≡ None → Explains r rest → Explains r (option_or why rest)
explains-later (Ok x) why rest n h = or-later why rest n ∙ h
explains-later (Err e) why rest n h = cause-later e why rest n h

pub explains-same : {A : Type 0} (r : Result A ExtendErr) (why rest : Option ExtendErr) → why ≡ rest → Explains r why → Explains r rest
explains-same (Ok x) why rest e h = sym e ∙ h
explains-same (Err error) why rest e h = subst (IsCause error) e h

pub none-both : (why rest : Option ExtendErr) → why ≡ None → rest ≡ None → option_or why rest ≡ None
none-both why rest n h = or-later why rest n ∙ h

-- the limits of a grounding
pub limit-cause : (A : Type 0) (e : GroundErr) (large past : Bool) → Limits {A = A} (Err e) large past
    → IsCause (of_ground e) (option_or (too_large_if large) (overflow_if past))
limit-cause A grounding.TooLarge large past h = ap (λ b. option_or (too_large_if b) (overflow_if past)) h
limit-cause A grounding.Overflow large past h =
    ap (λ b. option_or (too_large_if b) (overflow_if past)) h.0 ∙ ap overflow_if h.1
limit-cause A grounding.Memory large past h = h

pub limit-none : (large past : Bool) → large ≡ false → past ≡ false → option_or (too_large_if large) (overflow_if past) ≡ None
limit-none large past l p = ap (λ b. option_or (too_large_if b) (overflow_if past)) l ∙ ap overflow_if p
