-- What a reader knows, and its steps: it goes on over tokens, notes faults, and stops at a token that cannot stand.
use Rattle.std.specs.Prelude.{◌≡◌, ℕ, zero, suc, Bool, true, false, ◌&&◌, List, [], ◌∷◌, ◌++◌, length, drop, codes, if◌then◌else◌, Option, None, Some, Result, Ok, Err}
use Rattle.std.specs.Str.{bytes_eq}
use Rattle.scasp_reader_tokens.specs.declared.sign.Sign.{Sign}
use Rattle.scasp_reader_tokens.specs.declared.sign.Sign.TheVariants as sign
use Rattle.scasp_reader_tokens.specs.declared.token.Token.{Token}
use Rattle.scasp_reader_tokens.specs.declared.token.Token.TheVariants as token
use Rattle.scasp_reader_tokens.specs.declared.token.Placed.{Placed}
use Rattle.scasp_reader_terms.specs.declared.fault.Fault.{Fault}
use Rattle.scasp_reader_terms.specs.declared.fault.Kind.{Kind}
use Rattle.scasp_reader_terms.specs.declared.fault.Kind.TheVariants as kind
use Rattle.scasp_reader_terms.specs.declared.fault.Stop.{Stop}
use Rattle.scasp_reader_terms.specs.declared.fault.Stop.TheVariants.{At, Memory}
use Rattle.scasp_reader_terms.specs.Faults.{fault_at, with_fault}
use Rattle.scasp_reader_terms.specs.SameSign.{same_sign}

-- The tokens that are left; whether the token before them may be an operand; whether the innermost open
-- bracket is that of a list; the table of names; the texts of the clause's variables, by their numbers;
-- the fault to tell, of those noted.
pub record State : Type 0 where
  pub tokens : List Placed
  pub is_behind_operand : Bool
  pub is_in_list : Bool
  pub names : List (List ℕ)
  pub variables : List (List ℕ)
  pub fault : Option Fault

-- a reader of these tokens, which has read nothing
abbrev pub start : List Placed → List (List ℕ) → State
start tokens names = record { tokens = tokens; is_behind_operand = false; is_in_list = false; names = names; variables = []; fault = None }

-- a step of the reader: it gives something, or stops with the fault to tell
abbrev pub Read : Type 0 → Type 0
Read A = State → Result (A × State) Fault

abbrev pub then_read : {A B : Type 0} → Result (A × State) Fault → (A → Read B) → Result (B × State) Fault
then_read (Ok x) f = f x.0 x.1
then_read (Err e) f = Err e

infixl 10 ◌>>=◌
abbrev pub ◌>>=◌ : {A B : Type 0} → Read A → (A → Read B) → Read B
m >>= f = λ s. then_read (m s) f

abbrev pub give : {A : Type 0} → A → Read A
give x s = Ok (x, s)

abbrev pub get : {A : Type 0} → (State → A) → Read A
get f s = Ok (f s, s)

-- ---- the next token, where one is left

abbrev pub place_of : List Placed → ℕ
place_of [] = 0
place_of (t ∷ tokens) = t.at

abbrev pub token_of : List Placed → Option Token
token_of [] = None
token_of (t ∷ tokens) = Some t.token

-- ---- faults

abbrev pub noted : Fault → State → State
noted f s = record s { fault = Some (with_fault s.fault f) }

-- the fault is noted, and reading goes on
abbrev pub note : ℕ → Kind → Read (Unit {0})
note at k s = Ok (tt, noted (fault_at at k) s)

abbrev pub note_if : Bool → ℕ → Kind → Read (Unit {0})
note_if test at k = if test then note at k else give tt

-- the fault that is told where reading stops by this one
abbrev pub told : ℕ → Kind → State → Fault
told at k s = with_fault s.fault (fault_at at k)

abbrev pub stop_at : {A : Type 0} → ℕ → Kind → Read A
stop_at at k s = Err (told at k s)

-- why this sign cannot stand where it is
abbrev pub kind_of_sign : Bool → Sign → Kind
kind_of_sign is_in_list sign.Foreign = kind.Unsupported
kind_of_sign is_in_list sign.Bar = if is_in_list then kind.Expected else kind.Unsupported
kind_of_sign is_in_list s = kind.Expected

-- why this token cannot stand where it is
abbrev pub kind_of : State → Option Token → Kind
kind_of s (Some (token.Sign t)) = kind_of_sign s.is_in_list t
kind_of s (Some (token.Name text)) = if s.is_behind_operand && bytes_eq text (codes "is") then kind.Unsupported else kind.Expected
kind_of s (Some token.BadByte) = kind.BadByte
kind_of s (Some token.Unclosed) = kind.Unclosed
kind_of s t = kind.Expected

-- the fault of a next token that cannot stand where it is
abbrev pub unexpected_fault : State → Fault
unexpected_fault s = told (place_of s.tokens) (kind_of s (token_of s.tokens)) s

abbrev pub unexpected : {A : Type 0} → Read A
unexpected s = Err (unexpected_fault s)

-- ---- taking tokens

abbrev pub is_operand_sign : Sign → Bool
is_operand_sign sign.Close = true
is_operand_sign sign.CloseList = true
is_operand_sign s = false

abbrev pub is_operand : Option Token → Bool
is_operand (Some (token.Name text)) = true
is_operand (Some (token.Variable text)) = true
is_operand (Some (token.Number q)) = true
is_operand (Some (token.Sign s)) = is_operand_sign s
is_operand t = false

-- the state behind the next token
abbrev pub behind : State → State
behind s = record s { tokens = drop 1 s.tokens; is_behind_operand = is_operand (token_of s.tokens) }

abbrev pub take : Read (Unit {0})
take s = Ok (tt, behind s)

abbrev pub is_sign : Sign → Option Token → Bool
is_sign s (Some (token.Sign t)) = same_sign s t
is_sign s t = false

-- takes the sign, where it is the next token, and tells whether it was
abbrev pub taken : Sign → Read Bool
taken sign s = if is_sign sign (token_of s.tokens) then Ok (true, behind s) else Ok (false, s)

-- the sign must be the next token
abbrev pub expect : Sign → Read (Unit {0})
expect sign s = if is_sign sign (token_of s.tokens) then Ok (tt, behind s) else unexpected s

-- what the code of a step answers, seen by `view`, is what the step gives; want of memory is free
abbrev pub Does : {A B : Type 0} → (B → A) → Read A → State → Result B Stop → State → Type 0
Does view step old (Ok x) new = step old ≡ Ok (view x, new)
Does view step old (Err (At f)) new = step old ≡ Err f
Does view step old (Err Memory) new = Unit {0}

-- ---- brackets and lists

abbrev pub set_list : Bool → Read (Unit {0})
set_list is_list s = Ok (tt, record s { is_in_list = is_list })

-- what stands between the two brackets; those of a list, or others
abbrev pub between : {A : Type 0} → Bool → Sign → Sign → Read A → Read A
between is_list opening closing inner = do
  outer ← get (λ s. s.is_in_list)
  o ← expect opening
  l ← set_list is_list
  x ← inner
  c ← expect closing
  b ← set_list outer
  give x

-- One thing or more, with commas between; each is read with those before it known. Cut off after a number of them.
abbrev pub series : {A : Type 0} → (List A → Read A) → ℕ → List A → Read (List A)
series one zero before = unexpected
series one (suc n) before = do
  x ← one before
  comma ← taken sign.Comma
  if comma then series one n (before ++ x ∷ []) else give (before ++ x ∷ [])

-- no more of them than there are tokens
abbrev pub separated : {A : Type 0} → (List A → Read A) → Read (List A)
separated one s = series one (length s.tokens) [] s
