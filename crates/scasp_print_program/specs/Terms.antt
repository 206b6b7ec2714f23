-- How terms, atoms and literals of a program are written.
use Rattle.std.specs.Prelude.{ℕ, ◌-◌, Bool, true, false, ◌==◌, List, [], ◌++◌, if◌then◌else◌, slice_get, unwrap_or, codes}
use Rattle.scasp_syntax.specs.Tm.{Tm, Tms, var, num, app, nil, cons}
use Rattle.scasp_syntax.specs.declared.atom.Atom.{Atom}
use Rattle.scasp_syntax.specs.declared.atom.Lit.{Lit}
use Rattle.scasp_cert.specs.Text.Names.{name_text}
use Rattle.scasp_cert.specs.Text.Separators.{separator_text}
use Rattle.scasp_cert.specs.Text.Terms.{number_text, is_pair, called_text, minus_text}
use Rattle.scasp_reader.specs.declared.bodies.atoms.TheConstants.{DEPTH_LIMIT}

-- the table of names, and the texts of a clause's variables by their numbers
pub record Style : Type 0 where
  pub names : List (List ℕ)
  pub variables : List (List ℕ)

abbrev pub variable_text : Style → ℕ → List ℕ
variable_text w x = unwrap_or (slice_get w.variables x) []

-- A name without arguments, as a term, where so many brackets may be opened. The empty list is written with
-- brackets; where none may be opened, as a name.
abbrev pub constant_text : Style → ℕ → ℕ → List ℕ
constant_text w room f = if f == 0 then (if room == 0 then codes "'[]'" else codes "[]") else name_text w.names f

-- a name with arguments, whose texts are given: as they stand with commas between, and as those of a list
abbrev pub app_text : Style → ℕ → ℕ → Tms → List ℕ → List ℕ → List ℕ
app_text w room f nil arguments elements = constant_text w room f
app_text w room f (cons t ts) arguments elements =
    if is_pair f (cons t ts) then codes "[" ++ elements ++ codes "]" else called_text w.names f (cons t ts) arguments

-- the same as the rest of a list whose first elements are written: nothing, `,b|V1`, or `|` and the term
abbrev pub rest_text : Style → ℕ → Tms → List ℕ → List ℕ → List ℕ
rest_text w f nil arguments elements = if f == 0 then [] else codes "|" ++ name_text w.names f
rest_text w f (cons t ts) arguments elements =
    if is_pair f (cons t ts) then codes "," ++ elements else codes "|" ++ called_text w.names f (cons t ts) arguments

abbrev mutual
  -- a term, where so many brackets may be opened
  pub term_text : Style → ℕ → Tm → List ℕ
  term_text w room (var x) = variable_text w x
  term_text w room (num q) = number_text q
  term_text w room (app f ts) = app_text w room f ts (terms_text w (room - 1) true ts) (pair_text w (room - 1) true ts)

  -- a term as the rest of a list, in whose bracket so many may be opened
  pub tail_text : Style → ℕ → Tm → List ℕ
  tail_text w room (var x) = codes "|" ++ variable_text w x
  tail_text w room (num q) = codes "|" ++ number_text q
  tail_text w room (app f ts) = rest_text w f ts (terms_text w (room - 1) true ts) (pair_text w room true ts)

  -- terms with commas between them
  pub terms_text : Style → ℕ → Bool → Tms → List ℕ
  terms_text w room is_first nil = []
  terms_text w room is_first (cons t ts) =
      separator_text is_first (codes ",") ++ term_text w room t ++ terms_text w room false ts

  -- the two arguments of a pair: its first element, and then the rest
  pub pair_text : Style → ℕ → Bool → Tms → List ℕ
  pair_text w room is_first nil = []
  pair_text w room is_first (cons t ts) =
      (if is_first then term_text w room t else tail_text w room t) ++ pair_text w room false ts

-- `p(a,V0)`, `-p`
unfoldable pub atom_text : Style → Atom → List ℕ
atom_text w a = minus_text a.minus ++ called_text w.names a.name a.args (terms_text w (DEPTH_LIMIT - 1) true a.args)

-- an atom, or `not` and an atom
unfoldable pub lit_text : Style → Lit → List ℕ
lit_text w l = (if l.positive then [] else codes "not ") ++ atom_text w l.atom
