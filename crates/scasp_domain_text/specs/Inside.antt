-- What private functions alone speak of.
use Rattle.std.specs.Prelude.{◌≡◌, ℕ, List, Option, None, Some, Result, Ok, Err}
use Rattle.scasp_syntax.specs.Tm.{Tm, Tms, items}
use Rattle.scasp_syntax.specs.View.{tm_of}
use Rattle.scasp_syntax.specs.declared.term.Term.{Term}
use Rattle.scasp_answers_terms.specs.declared.tokens.stop.Stop.{Stop}
use Rattle.scasp_answers_terms.specs.declared.tokens.stop.Stop.TheVariants as stop
use Rattle.scasp_domain_text.specs.declared.fault.DomainErr.{DomainErr}
use Rattle.scasp_domain_text.specs.declared.fault.DomainErr.TheVariants as error
use Rattle.scasp_domain_text.specs.declared.fault.DomainKind.TheVariants as kind

-- the code answers the term that is found, or that there is none
abbrev pub Finds : Option Tm → Result Term Stop → Type 0
Finds found (Ok term) = found ≡ Some (tm_of term)
Finds found (Err stop.NoForm) = found ≡ None
Finds found (Err stop.Memory) = Unit {0}

-- the code has the members, or there are none, and the line at this byte is at fault
abbrev pub Joins : ℕ → Option (List Tm) → Result Unit DomainErr → Tms → Type 0
Joins at members (Ok done) domain = members ≡ Some (items domain)
Joins at members (Err (error.At fault)) domain = (members ≡ None) × (fault ≡ record { at = at; kind = kind.Line })
Joins at members (Err error.Memory) domain = Unit {0}
