-- Faults, and which of two is told.
use Rattle.std.specs.Prelude.{ℕ, Bool, true, false, not, ◌&&◌, ◌||◌, ◌==◌, nat_lt, if◌then◌else◌, Option, None, Some}
use Rattle.scasp_reader_terms.specs.declared.fault.Fault.{Fault}
use Rattle.scasp_reader_terms.specs.declared.fault.Kind.{Kind}
use Rattle.scasp_reader_terms.specs.declared.fault.Kind.TheVariants.{BadByte, Unclosed, Expected, Unsupported, NotLinear, NumberTooLarge, Limit}

abbrev pub fault_at : ℕ → Kind → Fault
fault_at at k = record { at = at; kind = k }

abbrev pub is_limit : Kind → Bool
is_limit (Limit c) = true
is_limit BadByte = false
is_limit Unclosed = false
is_limit Expected = false
is_limit Unsupported = false
is_limit NotLinear = false
is_limit NumberTooLarge = false

-- the fault of the two that is told: of the lesser place; at one place a limit, and then the one noted first
abbrev pub first_of_two : Fault → Fault → Fault
first_of_two f g = if nat_lt g.at f.at || (g.at == f.at && (is_limit g.kind && not (is_limit f.kind))) then g else f

abbrev pub with_fault : Option Fault → Fault → Fault
with_fault None g = g
with_fault (Some f) g = first_of_two f g
