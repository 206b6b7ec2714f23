-- What the code answers of a file.
use Rattle.std.specs.Prelude.{◌≡◌, Result, Ok, Err}
use Rattle.scasp_syntax.specs.Tm.{Tms, items}
use Rattle.scasp_domain_text.specs.Domains.{Reading}
use Rattle.scasp_domain_text.specs.declared.fault.DomainErr.{DomainErr}
use Rattle.scasp_domain_text.specs.declared.fault.DomainErr.TheVariants as error

-- What the code answers is what is read of a file. Want of memory is free.
abbrev pub Told : Reading → Result Tms DomainErr → Type 0
Told reading (Ok members) = reading ≡ Ok (items members)
Told reading (Err (error.At fault)) = reading ≡ Err fault
Told reading (Err error.Memory) = Unit {0}
