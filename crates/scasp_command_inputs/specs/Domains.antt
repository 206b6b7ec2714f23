-- The domain file of a command: what is read of it, and what is printed where it is not read.
use Rattle.std.specs.Prelude.{◌≡◌, ℕ, Option, List, Ok, Err, codes}
use Rattle.scasp_domain_text.specs.Domains.{Reading, domain_in}
use Rattle.scasp_domain_text.specs.Names.{domain_names}
use Rattle.scasp_domain_text.specs.declared.fault.DomainFault.{DomainFault}
use Rattle.scasp_domain_text.specs.declared.fault.DomainKind.{DomainKind}
use Rattle.scasp_domain_text.specs.declared.fault.DomainKind.TheVariants as kind
use Rattle.scasp_syntax.specs.Tm.{Tm}
use Rattle.scasp_command_inputs.specs.Inputs.{AreBytes, Failed, Outside, Says}
use Rattle.scasp_command_inputs.specs.Texts.{Refusal, off_grammar, past_limit, read_line, refusal_line, refusal_status}
use Rattle.scasp_command_inputs.specs.declared.refusals.Input.TheVariants as input
use Rattle.scasp_command_inputs.specs.declared.status.Status.{Status}
use Rattle.scasp_command_inputs.specs.declared.status.Status.TheVariants.{Read}

-- what is told of a domain file that is refused
abbrev pub domain_refusal : DomainKind → Refusal
domain_refusal kind.Line = off_grammar (codes "Line")
domain_refusal kind.Limit = past_limit (codes "bytes")

-- what is read of a domain file behind these names
abbrev pub members_in : List (List ℕ) → List ℕ → Reading
members_in names bytes = domain_in (domain_names names bytes) bytes

-- the file, of which these bytes are told, has these members, and the table of names is this one then
pub record HasMembers (told : Option (List ℕ)) (names : List (List ℕ)) (members : List Tm) (table : List (List ℕ)) : Type 0 where
  pub bytes : List ℕ
  pub are : AreBytes told bytes
  pub read : members_in names bytes ≡ Ok members
  pub table_is : table ≡ domain_names names bytes

-- the bytes are no domain file: the first fault is told
pub record RefusesDomain (names : List (List ℕ)) (bytes text : List ℕ) (status : Status) : Type 0 where
  pub fault : DomainFault
  pub is : members_in names bytes ≡ Err fault
  pub says : Says (refusal_line input.Domain fault.at (domain_refusal fault.kind)) (refusal_status (domain_refusal fault.kind)) text status

-- the file could not be read, or it is no domain file
pub data IsNoDomain (o : Outside) (file : List ℕ) (names : List (List ℕ)) (text : List ℕ) (status : Status) : Type 0 where
  unread_domain : Failed o file → Says (read_line input.Domain) Read text status → IsNoDomain o file names text status
  refused_domain : (bytes : List ℕ) → AreBytes (o.told file) bytes → RefusesDomain names bytes text status → IsNoDomain o file names text status
