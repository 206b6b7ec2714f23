-- What is known while a tree is worked out: the table of names, and the texts of the clause's variables, by their numbers.
use Rattle.std.specs.Prelude.{ℕ, List, [], ◌∷◌, ◌++◌, length, nat_le, if◌then◌else◌, Option, None, Some}
use Rattle.scasp_name.specs.Texts.{with_text}
use Rattle.scasp_reader_terms.specs.declared.reader.TheConstants.{VARIABLE_LIMIT}
use Rattle.scasp_reader_terms.specs.Names.{place_in, known_variable}

pub record Known : Type 0 where
  pub names : List (List ℕ)
  pub variables : List (List ℕ)

-- a meaning, and what is known behind it; or none
abbrev pub Make : Type 0 → Type 0
Make A = Known → Option (A × Known)

abbrev pub then_make : {A B : Type 0} → Option (A × Known) → (A → Make B) → Option (B × Known)
then_make None f = None
then_make (Some x) f = f x.0 x.1

infixl 10 ◌>>=◌
abbrev pub ◌>>=◌ : {A B : Type 0} → Make A → (A → Make B) → Make B
m >>= f = λ k. then_make (m k) f

abbrev pub means : {A : Type 0} → A → Make A
means x k = Some (x, k)

abbrev pub nothing : {A : Type 0} → Make A
nothing k = None

-- what there is, if anything
abbrev pub only : {A : Type 0} → Option A → Make A
only None = nothing
only (Some x) = means x

-- the place of a name in the table, which gets it where it lacks it
abbrev pub named : List ℕ → Make ℕ
named text k = Some (place_in k.names text, record k { names = with_text k.names text })

abbrev pub new_number : List ℕ → Make ℕ
new_number text k =
    if nat_le VARIABLE_LIMIT (length k.variables) then None else Some (length k.variables, record k { variables = k.variables ++ text ∷ [] })

-- The number of a variable: they are numbered as they first occur, and each `_` is a new one. There may be only so many.
abbrev pub numbered : List ℕ → Make ℕ
numbered text k = elim (known_variable text k.variables) [ None ↦ new_number text k | Some x ↦ Some (x, k) ]
