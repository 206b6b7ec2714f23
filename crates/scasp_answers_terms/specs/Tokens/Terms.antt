-- Reading terms, with the open brackets on a stack.
use Rattle.std.specs.Prelude.{ℕ, ◌^◌, ◌==◌, nat_lt, Bool, true, false, ◌&&◌, if◌then◌else◌, List, [], ◌∷◌, ◌++◌, codes, Option, None, Some, option_map, ℤ, pos, neg_ℤ}
use Rattle.scasp_num.specs.Arithmetic.{◌>>=◌, in_range, number}
use Rattle.scasp_syntax.specs.Tm.{Tm, Tms, var, num, app, nil, cons, listed}
use Rattle.scasp_syntax.specs.declared.atom.Atom.{Atom}
use Rattle.scasp_syntax.specs.declared.atom.Lit.{Lit}
use Rattle.scasp_cert.specs.Text.Terms.{is_pair}
use Rattle.scasp_reader_terms.specs.Terms.{list_of}
use Rattle.scasp_answers_terms.specs.Tokens.Tokens.{Token, word, quoted, variable, digits, fraction, minus, comma, bar, paren, close, bracket, unbracket}
use Rattle.scasp_answers_terms.specs.Tokens.Readers.{Parsed, made, until, past_text}
use Rattle.scasp_answers_terms.specs.Tokens.Bounds.{bounded_place}
use Rattle.scasp_answers_terms.specs.Tokens.Names.{name_of, name_at}

-- An open bracket: what stands in front of it, and the terms before that on the level around.
pub data Bracket : Type 0 where
  call : ℕ → List Tm → Bracket  -- `f(`
  elements : List Tm → Bracket  -- `[`
  tail : List Tm → List Tm → Bracket  -- `[a,b|`, with its elements

-- the name with these arguments is a list
abbrev pub is_list_call : ℕ → Tms → Bool
is_list_call f nil = f == 0
is_list_call f (cons t ts) = is_pair f (cons t ts)

-- a term that goes on a list: it is never written behind a bar
abbrev pub is_list : Tm → Bool
is_list (var x) = false
is_list (num q) = false
is_list (app f ts) = is_list_call f ts

-- the name with these arguments, where it is written by its name
abbrev pub called : ℕ → List Tm → Option Tm
called f ts = if is_list_call f (listed ts) then None else Some (app f (listed ts))

abbrev pub constant : Option ℕ → Option Tm
constant None = None
constant (Some f) = called f []

-- stands for each number and each variable that is too large
abbrev pub unfit : Tm
unfit = var (bounded_place (2 ^ 63))

abbrev pub variable_term : ℕ → Tm
variable_term x = var (bounded_place x)

abbrev pub whole : ℤ → Option Tm
whole n = if in_range n then option_map num (number n (pos 1)) else Some unfit

-- n/d, where that is how a number is written. Of one with an integer that is too large only its digits are judged.
abbrev pub quotient : ℤ → ℕ → Option Tm
quotient n d =
    if nat_lt 1 d
    then (if in_range n && in_range (pos d) then option_map num (number n (pos d)) else Some unfit)
    else None

abbrev mutual
  -- a term is to begin; `before` are those before it on its level
  pub wants : (List ℕ → ℕ) → List Bracket → List Tm → List Token → Parsed (List Tm)
  wants place opens before (variable x ∷ ts) = ends place opens before (Some (variable_term x)) ts
  wants place opens before (digits n ∷ ts) = ends place opens before (whole (pos n)) ts
  wants place opens before (fraction n d ∷ ts) = ends place opens before (quotient (pos n) d) ts
  wants place opens before (minus ∷ digits n ∷ ts) = if n == 0 then None else ends place opens before (whole (neg_ℤ (pos n))) ts
  wants place opens before (minus ∷ fraction n d ∷ ts) = ends place opens before (quotient (neg_ℤ (pos n)) d) ts
  wants place opens before (bracket ∷ unbracket ∷ ts) = ends place opens before (Some (app 0 nil)) ts
  wants place opens before (bracket ∷ ts) = wants place (elements before ∷ opens) [] ts
  wants place opens before (word w ∷ paren ∷ ts) = elim (name_of (word w)) [ None ↦ None | Some text ↦ wants place (call (place text) before ∷ opens) [] ts ]
  wants place opens before (quoted q ∷ paren ∷ ts) = wants place (call (place q) before ∷ opens) [] ts
  wants place opens before (word w ∷ ts) = ends place opens before (constant (option_map place (name_of (word w)))) ts
  wants place opens before (quoted q ∷ ts) = ends place opens before (constant (Some (place q))) ts
  wants place opens before _ = None

  -- a term has ended, if it is one
  pub ends : (List ℕ → ℕ) → List Bracket → List Tm → Option Tm → List Token → Parsed (List Tm)
  ends place opens before None ts = None
  ends place (tail es around ∷ opens) before (Some t) (unbracket ∷ ts) = if is_list t then None else ends place opens around (Some (list_of es t)) ts
  ends place (tail es around ∷ opens) before (Some t) _ = None
  ends place opens before (Some t) (comma ∷ ts) = wants place opens (before ++ t ∷ []) ts
  ends place (call f around ∷ opens) before (Some t) (close ∷ ts) = ends place opens around (called f (before ++ t ∷ [])) ts
  ends place (elements around ∷ opens) before (Some t) (bar ∷ ts) = wants place (tail (before ++ t ∷ []) around ∷ opens) [] ts
  ends place (elements around ∷ opens) before (Some t) (unbracket ∷ ts) = ends place opens around (Some (list_of (before ++ t ∷ []) (app 0 nil))) ts
  ends place [] before (Some t) ts = Some (before ++ t ∷ [], ts)
  ends place _ before (Some t) _ = None

-- one term or more, with commas between them
unfoldable pub terms_at : (List ℕ → ℕ) → List Token → Parsed (List Tm)
terms_at place ts = wants place [] [] ts

abbrev pub only_one : List Tm → List Token → Parsed Tm
only_one (t ∷ []) ts = Some (t, ts)
only_one _ ts = None

abbrev pub term_at : (List ℕ → ℕ) → List Token → Parsed Tm
term_at place ts = terms_at place ts >>= (λ r. only_one r.0 r.1)

-- one term or more, and the text behind them
abbrev pub listed_until : List ℕ → (List ℕ → ℕ) → List Token → Parsed Tms
listed_until text place ts = made listed (until text (terms_at place) ts)

-- what stands behind the open bracket of `[t1,..,tn]`
abbrev pub elements_at : (List ℕ → ℕ) → List Token → Parsed Tms
elements_at place (unbracket ∷ ts) = Some (nil, ts)
elements_at place ts = listed_until (codes "]") place ts

-- `[t1,..,tn]`
abbrev pub list_at : (List ℕ → ℕ) → List Token → Parsed Tms
list_at place ts = past_text (codes "[") ts >>= elements_at place

-- the arguments behind a name: `(t1,..,tn)`, or nothing
abbrev pub arguments_at : (List ℕ → ℕ) → List Token → Parsed Tms
arguments_at place (paren ∷ ts) = listed_until (codes ")") place ts
arguments_at place ts = Some (nil, ts)

abbrev pub atom_of : Bool → ℕ → Tms → Atom
atom_of negative f ts = record { minus = negative; name = f; args = ts }

abbrev pub lit_of : Bool → Atom → Lit
lit_of positive a = record { positive = positive; atom = a }

abbrev pub unsigned_atom_at : (List ℕ → ℕ) → Bool → List Token → Parsed Atom
unsigned_atom_at place negative ts =
    name_at place ts >>= (λ f. made (atom_of negative f.0) (arguments_at place f.1))

-- `p(a,V0)`, `-p`
abbrev pub atom_at : (List ℕ → ℕ) → List Token → Parsed Atom
atom_at place (minus ∷ ts) = unsigned_atom_at place true ts
atom_at place ts = unsigned_atom_at place false ts

abbrev pub lit_at : (List ℕ → ℕ) → List Token → Parsed Lit
lit_at place ts =
    elim (past_text (codes "not ") ts) [ None ↦ made (lit_of true) (atom_at place ts) | Some rest ↦ made (lit_of false) (atom_at place rest) ]
