-- Atoms.
--     atom := ["-"] name ["(" term {"," term} ")"]
use Rattle.std.specs.Prelude.{ℕ, Bool, false, ◌&&◌, ◌||◌, ◌==◌, List, [], ◌∷◌, length, codes, Option, Some}
use Rattle.std.specs.Str.{bytes_eq}
use Rattle.scasp_syntax.specs.Tm.{Tms, items, listed}
use Rattle.scasp_syntax.specs.declared.atom.Atom.{Atom}
use Rattle.scasp_reader_tokens.specs.declared.sign.Sign.TheVariants as sign
use Rattle.scasp_reader_tokens.specs.declared.token.Token.{Token}
use Rattle.scasp_reader_tokens.specs.declared.token.Token.TheVariants as token
use Rattle.scasp_reader_terms.specs.declared.fault.Kind.TheVariants as kind
use Rattle.scasp_reader_terms.specs.Steps.{Read, ◌>>=◌, give, get, note_if, place_of, token_of, unexpected, take, taken}
use Rattle.scasp_reader_terms.specs.Names.{interned}
use Rattle.scasp_reader_terms.specs.Terms.{arguments, term, below}
use Rattle.scasp_reader.specs.declared.bodies.atoms.TheConstants.{DEPTH_LIMIT}

-- a predicate of Prolog that the language lacks
pub record Reserved : Type 0 where
  pub text : List ℕ
  pub arity : ℕ

abbrev pub reserved_of : List ℕ → ℕ → Reserved
reserved_of text arity = record { text = text; arity = arity }

abbrev pub reserved : List Reserved
reserved =
    reserved_of (codes "assert") 1 ∷ reserved_of (codes "asserta") 1 ∷ reserved_of (codes "assertz") 1 ∷ reserved_of (codes "retract") 1
    ∷ reserved_of (codes "findall") 3 ∷ reserved_of (codes "forall") 2 ∷ reserved_of (codes "op") 3 ∷ reserved_of (codes "module") 2
    ∷ reserved_of (codes "use_module") 1 ∷ reserved_of (codes "use_module") 2 ∷ []

abbrev pub is_reserved : List Reserved → List ℕ → ℕ → Bool
is_reserved [] text arity = false
is_reserved (r ∷ rs) text arity = (bytes_eq text r.text && r.arity == arity) || is_reserved rs text arity

abbrev pub atom_of : Bool → ℕ → Tms → Atom
atom_of minus f ts = record { minus = minus; name = f; args = ts }

-- an atom that begins at this place; one of a reserved predicate is noted
abbrev pub checked_atom : ℕ → Bool → List ℕ → ℕ → Tms → Read Atom
checked_atom at minus text f ts = do
  n ← note_if (is_reserved reserved text (length (items ts))) at kind.Unsupported
  give (atom_of minus f ts)

-- a name that is next, and its arguments
abbrev pub named_atom : ℕ → Bool → List ℕ → Read Atom
named_atom at minus text = do
  t ← take
  f ← interned text
  ts ← arguments (below term DEPTH_LIMIT)
  checked_atom at minus text f (listed ts)

abbrev pub atom_behind : ℕ → Bool → Option Token → Read Atom
atom_behind at minus (Some (token.Name text)) = named_atom at minus text
atom_behind at minus t = unexpected

abbrev pub atom : Read Atom
atom = do
  at ← get (λ s. place_of s.tokens)
  minus ← taken sign.Minus
  λ s. atom_behind at minus (token_of s.tokens) s
