-- What is read from the bytes of a domain file: a ground term a line, or the first fault with its place.
use Rattle.std.specs.Prelude.{ℕ, ◌+◌, nat_lt, ◌&&◌, not, if◌then◌else◌, List, [], ◌∷◌, ◌++◌, length, Option, None, Some, Result, Ok, Err}
use Rattle.scasp_num.specs.Arithmetic.{◌>>=◌}
use Rattle.scasp_syntax.specs.Tm.{Tm}
use Rattle.scasp_syntax.specs.Values.{is_ground}
use Rattle.scasp_tables.specs.Tables.{is_member}
use Rattle.scasp_reader_terms.specs.Names.{place_in}
use Rattle.scasp_answers_terms.specs.Tokens.Tokens.{Token, tokens_in}
use Rattle.scasp_answers_terms.specs.Tokens.Terms.{term_at}
use Rattle.scasp_answers.specs.Blocks.Files.{split_lines}
use Rattle.scasp_domain_text.specs.declared.fault.DomainFault.{DomainFault}
use Rattle.scasp_domain_text.specs.declared.fault.DomainKind.{DomainKind}
use Rattle.scasp_domain_text.specs.declared.fault.DomainKind.TheVariants as kind

-- what is read of a file: its members in order, or its first fault
abbrev pub Reading : Type 0
Reading = Result (List Tm) DomainFault

abbrev pub fault : ℕ → DomainKind → Reading
fault at kind = Err (record { at = at; kind = kind })

-- ---- a line

abbrev pub nothing_behind : Tm → List Token → Option Tm
nothing_behind t [] = Some t
nothing_behind t (x ∷ xs) = None

-- the term that a line is, without its line feed, if it is one
unfoldable pub term_in : (List ℕ → ℕ) → List ℕ → Option Tm
term_in place line = term_at place (tokens_in line) >>= (λ r. nothing_behind r.0 r.1)

-- the members with the term of a line, where it is ground and none of them yet
abbrev pub joined : List Tm → Option Tm → Option (List Tm)
joined members None = None
joined members (Some t) = if is_ground t && not (is_member members t) then Some (members ++ t ∷ []) else None

-- ---- a file

-- reading goes on with the members, or the line at this byte is at fault
abbrev pub proceeds : ℕ → Option (List Tm) → (List Tm → Reading) → Reading
proceeds at None behind = fault at kind.Line
proceeds at (Some members) behind = behind members

-- Behind these members the lines from the byte `at` on are read; `rest` is what stands behind the last line feed.
abbrev pub members_from : (List ℕ → ℕ) → List Tm → ℕ → List (List ℕ) → List ℕ → Reading
members_from place members at [] [] = Ok members
members_from place members at [] (b ∷ bs) = fault at kind.Line
members_from place members at (line ∷ lines) rest =
    proceeds at (joined members (term_in place line)) (λ more. members_from place more (at + length line + 1) lines rest)

-- the longest file that is read
abbrev pub byte_limit : ℕ
byte_limit = 4194304

-- what is read of these bytes, with the names in the table
unfoldable pub domain_in : List (List ℕ) → List ℕ → Reading
domain_in names bytes =
    if nat_lt byte_limit (length bytes) then fault byte_limit kind.Limit
    else members_from (place_in names) [] 0 (split_lines bytes).lines (split_lines bytes).rest
