-- Whole texts: clauses, queries and directives up to the end.
use Rattle.std.specs.Prelude.{◌≡◌, ℕ, zero, suc, ◌+◌, Bool, true, false, nat_lt, nat_le, List, [], ◌∷◌, ◌++◌, length, if◌then◌else◌, Option, None, Some, Result, Ok, Err}
use Rattle.scasp_syntax.specs.Programs.{first_occurrences}
use Rattle.scasp_reader_tokens.specs.declared.token.Token.{Token}
use Rattle.scasp_reader_tokens.specs.declared.token.Token.TheVariants as token
use Rattle.scasp_reader_tokens.specs.declared.token.Placed.{Placed}
use Rattle.scasp_reader_tokens.specs.Tokens.{tokens_of}
use Rattle.scasp_reader_terms.specs.declared.fault.Count.TheVariants as count
use Rattle.scasp_reader_terms.specs.declared.fault.Fault.{Fault}
use Rattle.scasp_reader_terms.specs.declared.fault.Kind.TheVariants as kind
use Rattle.scasp_reader_terms.specs.declared.fault.Stop.{Stop}
use Rattle.scasp_reader_terms.specs.declared.fault.Stop.TheVariants.{At, Memory}
use Rattle.scasp_reader_terms.specs.Faults.{fault_at}
use Rattle.scasp_reader_terms.specs.Steps.{State, Read, ◌>>=◌, give, stop_at, place_of, token_of, unexpected, take, start}
use Rattle.scasp_reader.specs.declared.texts.clauses.Part.{Part}
use Rattle.scasp_reader.specs.declared.texts.clauses.Part.TheVariants as part
use Rattle.scasp_reader.specs.declared.texts.texts.Parts.{Parts}
use Rattle.scasp_reader.specs.declared.texts.texts.Reading.{Reading}
use Rattle.scasp_reader.specs.declared.texts.texts.TheConstants.{BYTE_LIMIT, CLAUSE_LIMIT}
use Rattle.scasp_reader.specs.Texts.Clauses.{clause}

-- ---- one part

-- one more clause, of any kind, behind so many
abbrev pub limited_clause : ℕ → Read Part
limited_clause n s = if nat_le CLAUSE_LIMIT n then stop_at (place_of s.tokens) (kind.Limit count.Clauses) s else clause s

abbrev pub skipped : Read Part
skipped = do
  t ← take
  give part.Directive

-- what stands behind so many clauses, of any kind
abbrev pub part_at : ℕ → ℕ → Option Token → Read Part
part_at n at (Some token.End) = give part.End
part_at n at (Some token.SkippedDirective) = skipped
part_at n at (Some token.UnclosedDirective) = stop_at at kind.Unclosed
part_at n at (Some token.OtherDirective) = stop_at at kind.Unsupported
part_at n at (Some token.BadByte) = stop_at at kind.BadByte
part_at n at (Some token.Unclosed) = stop_at at kind.Unclosed
part_at n at t = limited_clause n

unfoldable pub next_part : ℕ → Read Part
next_part n s = part_at n (place_of s.tokens) (token_of s.tokens) s

-- ---- all parts

abbrev pub no_parts : Parts
no_parts = record { clauses = []; queries = []; abducibles = [] }

abbrev pub part_count : Parts → ℕ
part_count p = length p.clauses + length p.queries + length p.abducibles

abbrev pub with_part : Parts → Part → Parts
with_part p (part.Clause c) = record p { clauses = p.clauses ++ c ∷ [] }
with_part p (part.Query q) = record p { queries = p.queries ++ q ∷ [] }
with_part p (part.Abducible a) = record p { abducibles = p.abducibles ++ a ∷ [] }
with_part p part.Directive = p
with_part p part.End = p

abbrev pub is_end : Part → Bool
is_end (part.Clause c) = false
is_end (part.Query q) = false
is_end (part.Abducible a) = false
is_end part.Directive = false
is_end part.End = true

-- all parts behind these up to the end, cut off after a number of steps
abbrev pub parts_within : ℕ → Parts → Read Parts
parts_within zero p = unexpected
parts_within (suc n) p = do
  q ← next_part (part_count p)
  if is_end q then give p else parts_within n (with_part p q)

-- no more steps than there are tokens
unfoldable pub parts : Read Parts
parts s = parts_within (length s.tokens) no_parts s

-- ---- the text

-- what was read: each abducible predicate stands where it first occurs
abbrev pub read_parts : Parts → List (List ℕ) → Reading
read_parts p names = record { clauses = p.clauses; queries = p.queries; abducibles = first_occurrences p.abducibles; names = names }

-- where no fault was noted
abbrev pub settled : Parts → State → Option Fault → Result Reading Fault
settled p s None = Ok (read_parts p s.names)
settled p s (Some f) = Err f

abbrev pub told : Result (Parts × State) Fault → Result Reading Fault
told (Err f) = Err f
told (Ok x) = settled x.0 x.1 x.1.fault

-- what tokens are read as, with the table of names before
abbrev pub reading_of : List Placed → List (List ℕ) → Result Reading Fault
reading_of tokens names = told (parts (start tokens names))

-- what a text is read as, with the table of names before
unfoldable pub read : List (List ℕ) → List ℕ → Result Reading Fault
read names bytes =
    if nat_lt BYTE_LIMIT (length bytes) then Err (fault_at BYTE_LIMIT (kind.Limit count.Bytes)) else reading_of (tokens_of bytes) names

-- what the code answers is what is read; want of memory is free
abbrev pub Answers : Result Reading Stop → Result Reading Fault → Type 0
Answers (Ok reading) r = r ≡ Ok reading
Answers (Err (At f)) r = r ≡ Err f
Answers (Err Memory) r = Unit {0}
