-- Domain files that are read, and such as are longer than may be.
use Rattle.std.proofs.Common.{◌≡◌, ℕ, ◌<◌, ◌≤◌, Option, IfSome, List, length, refl, sym, subst, Result, Ok, Err, IfOk, IfErr}
use Rattle.std.proofs.lemmas.Bool.{lt-ltb}
use Rattle.scasp_domain_text.specs.Domains.{byte_limit, domain_in, fault}
use Rattle.scasp_domain_text.specs.Names.{domain_names}
use Rattle.scasp_domain_text.specs.declared.fault.DomainFault.{DomainFault}
use Rattle.scasp_domain_text.specs.declared.fault.DomainKind.TheVariants as kind
use Rattle.scasp_syntax.specs.Tm.{Tm}
use Rattle.scasp_command_inputs.specs.Domains.{HasMembers, IsNoDomain, RefusesDomain, domain_refusal, members_in, refused_domain, unread_domain}
use Rattle.scasp_command_inputs.specs.Halts.{IfLine}
use Rattle.scasp_command_inputs.specs.Inputs.{AreBytes, Says, outside}
use Rattle.scasp_command_inputs.specs.Texts.{refusal_line, refusal_status}
use Rattle.scasp_command_inputs.specs.declared.halt.Halt.{Halt}
use Rattle.scasp_command_inputs.specs.declared.refusals.Input.TheVariants as input
use Rattle.scasp_command_inputs.specs.declared.status.Status.{Status}
use Rattle.scasp_command_inputs.proofs.InputLemmas.{line-widen, longer-told, rose-earlier}

members-too_long : (names : List (List ℕ)) (bytes : List ℕ) → byte_limit < length bytes → members_in names bytes ≡ fault byte_limit kind.Limit
unfolding domain_in
members-too_long names bytes longer = rw (lt-ltb byte_limit (length bytes) longer) refl

refused-file : (told : List ℕ → Option (List ℕ)) (before after : List ℕ → ℕ) (file : List ℕ) (names : List (List ℕ)) (bytes : List ℕ) (h : Halt)
    → AreBytes (told file) bytes → IfLine h (RefusesDomain names bytes) → IfLine h (IsNoDomain (outside told before after) file names)
refused-file told before after file names bytes h are says =
    line-widen h (RefusesDomain names bytes) (IsNoDomain (outside told before after) file names) says (λ text status s. refused_domain bytes are s)

line-domain : (names : List (List ℕ)) (bytes : List ℕ) (f : DomainFault) (h : Halt) → members_in names bytes ≡ Err f
    → IfLine h (Says (refusal_line input.Domain f.at (domain_refusal f.kind)) (refusal_status (domain_refusal f.kind))) → IfLine h (RefusesDomain names bytes)
line-domain names bytes f h is says =
    line-widen h (Says (refusal_line input.Domain f.at (domain_refusal f.kind)) (refusal_status (domain_refusal f.kind))) (RefusesDomain names bytes) says
    (λ text status s. record { fault = f; is = is; says = s })

pub long-domain : (told : List ℕ → Option (List ℕ)) (before after : List ℕ → ℕ) (file : List ℕ) (names : List (List ℕ)) (h : Halt)
    → IfSome (told file) (λ bytes. byte_limit < length bytes)
    → IfLine h (Says (refusal_line input.Domain byte_limit (domain_refusal kind.Limit)) (refusal_status (domain_refusal kind.Limit)))
    → IfLine h (IsNoDomain (outside told before after) file names)
long-domain told before after file names h longer says =
    let l = longer-told (told file) byte_limit longer in
    refused-file told before after file names l.bytes h l.are
    (line-domain names l.bytes (record { at = byte_limit; kind = kind.Limit }) h (members-too_long names l.bytes l.longer) says)

-- bytes that were read, and are refused
pub members-refused : {X : Type 0} (told : List ℕ → Option (List ℕ)) (before after : List ℕ → ℕ) (file : List ℕ) (names : List (List ℕ)) (items bytes : List ℕ) (r : Result X Halt)
    → bytes ≡ items → AreBytes (told file) items → IfErr r (λ halt. IfLine halt (RefusesDomain names bytes))
    → IfErr r (λ halt. IfLine halt (IsNoDomain (outside told before after) file names))
members-refused told before after file names items bytes (Ok x) same are h = h
members-refused told before after file names items bytes (Err halt) same are h =
    refused-file told before after file names bytes halt (subst (AreBytes (told file)) (sym same) are) h

-- members that were read, and the table of names behind them
pub members-had : {X : Type 0} (told : Option (List ℕ)) (names : List (List ℕ)) (items bytes : List ℕ) (members : X → List Tm) (table : X → List (List ℕ)) (r : Result X Halt)
    → bytes ≡ items → AreBytes told items → IfOk r (λ x. members_in names bytes ≡ Ok (members x)) → IfOk r (λ x. table x ≡ domain_names names bytes)
    → IfOk r (λ x. HasMembers told names (members x) (table x))
members-had told names items bytes members table (Ok x) same are h t = record {
  bytes = bytes;
  are = subst (AreBytes told) (sym same) are;
  read = h;
  table_is = t;
}
members-had told names items bytes members table (Err halt) same are h t = h

-- what is so where earlier files have been read is so of the whole call
pub no_domain-since : (told told' : List ℕ → Option (List ℕ)) (first before after : List ℕ → ℕ) (file : List ℕ) (names : List (List ℕ)) (text : List ℕ) (status : Status)
    → told' file ≡ told file → first file ≤ before file → IsNoDomain (outside told' before after) file names text status
    → IsNoDomain (outside told first after) file names text status
no_domain-since told told' first before after file names text status stays counts (unread_domain rose says) =
    unread_domain (rose-earlier (first file) (before file) (after file) counts rose) says
no_domain-since told told' first before after file names text status stays counts (refused_domain bytes are r) =
    refused_domain bytes (subst (λ (t : Option (List ℕ)). AreBytes t bytes) stays are) r
