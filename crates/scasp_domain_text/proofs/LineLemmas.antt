-- One line of a domain file.
use Rattle.std.proofs.Common.{◌≡◌, ◌∙◌, ℕ, ◌+◌, ◌<◌, ◌≤◌, List, [], ◌∷◌, length, take, drop, Option, None, Some, Err, refl, sym, ap, arith}
use Rattle.std.proofs.lemmas.List.{length-take-le}
use Rattle.scasp_syntax.specs.Tm.{Tm, Tms}
use Rattle.scasp_answers.specs.Blocks.Files.{split_lines}
use Rattle.scasp_answers.specs.Files.Inside.{Splits}
use Rattle.scasp_domain_text.specs.Domains.{Reading, fault, joined, members_from, proceeds, term_in}
use Rattle.scasp_domain_text.specs.Inside.{Joins}
use Rattle.scasp_domain_text.specs.View.{Told}
use Rattle.scasp_domain_text.specs.declared.fault.DomainErr.{DomainErr}
use Rattle.scasp_domain_text.specs.declared.fault.DomainErr.TheVariants as error
use Rattle.scasp_domain_text.specs.declared.fault.DomainKind.TheVariants as kind

-- what is read of these bytes from here on
abbrev pub read_on : (List ℕ → ℕ) → List Tm → ℕ → List ℕ → Reading
read_on place members at bytes = members_from place members at (split_lines bytes).lines (split_lines bytes).rest

line-read : (place : List ℕ → ℕ) (members : List Tm) (at len : ℕ) (bytes : List ℕ) → len < length bytes → Splits bytes (Some len)
    → read_on place members at bytes ≡ proceeds at (joined members (term_in place (take len bytes))) (λ more. read_on place more (at + (len + 1)) (drop (len + 1) bytes))
line-read place members at len bytes within e =
    let others = split_lines (drop (len + 1) bytes) in
    let fits : len ≤ length bytes = omega (arith, within) in
    let n : at + length (take len bytes) + 1 ≡ at + (len + 1) = omega (arith, length-take-le len bytes fits) in
    ap (λ x. members_from place members at x.lines x.rest) e
    ∙ ap (λ m. proceeds at (joined members (term_in place (take len bytes))) (λ more. members_from place more m others.lines others.rest)) n

-- the term of the first line joins the members
pub reads_on : (place : List ℕ → ℕ) (members more : List Tm) (at len : ℕ) (bytes : List ℕ) → len < length bytes → Splits bytes (Some len)
    → joined members (term_in place (take len bytes)) ≡ Some more → read_on place members at bytes ≡ read_on place more (at + (len + 1)) (drop (len + 1) bytes)
reads_on place members more at len bytes within e j =
    line-read place members at len bytes within e
    ∙ ap (λ o. proceeds at o (λ all. read_on place all (at + (len + 1)) (drop (len + 1) bytes))) j

-- it does not
pub stops_there : (place : List ℕ → ℕ) (members : List Tm) (at len : ℕ) (bytes : List ℕ) → len < length bytes → Splits bytes (Some len)
    → joined members (term_in place (take len bytes)) ≡ None → read_on place members at bytes ≡ fault at kind.Line
stops_there place members at len bytes within e j =
    line-read place members at len bytes within e
    ∙ ap (λ o. proceeds at o (λ all. read_on place all (at + (len + 1)) (drop (len + 1) bytes))) j

-- no line ends
pub ends_there : (place : List ℕ → ℕ) (members : List Tm) (at : ℕ) (bytes : List ℕ) → Splits bytes None → read_on place members at bytes ≡ members_from place members at [] bytes
ends_there place members at bytes e = ap (λ x. members_from place members at x.lines x.rest) e

-- what is told where the first line is at fault
pub told_stop : (place : List ℕ → ℕ) (members : List Tm) (at len : ℕ) (bytes : List ℕ) (all : Reading) (e : DomainErr) (domain : Tms) → len < length bytes
    → Splits bytes (Some len) → Joins at (joined members (term_in place (take len bytes))) (Err e) domain → read_on place members at bytes ≡ all → Told all (Err e)
told_stop place members at len bytes all (error.At fault) domain within e j same =
    sym same ∙ stops_there place members at len bytes within e j.0 ∙ ap Err (sym j.1)
told_stop place members at len bytes all error.Memory domain within e j same = tt
