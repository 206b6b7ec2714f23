-- How terms, lists of terms, atoms and literals are written.
use Rattle.std.specs.Prelude.{ℕ, Bool, true, false, ◌&&◌, ◌==◌, List, [], ◌++◌, length, if◌then◌else◌, pos, codes, decimal}
use Rattle.std.specs.Fmt.{signed_decimal}
use Rattle.std.specs.Ordering.{int_eq}
use Rattle.scasp_num.specs.Number.{Number}
use Rattle.scasp_syntax.specs.Tm.{Tm, Tms, var, num, app, nil, cons, items}
use Rattle.scasp_syntax.specs.declared.atom.Atom.{Atom}
use Rattle.scasp_syntax.specs.declared.atom.Lit.{Lit}
use Rattle.scasp_cert.specs.Text.Separators.{separator_text}
use Rattle.scasp_cert.specs.Text.Names.{name_text, constant_text}

-- `V0`
abbrev pub var_text : ℕ → List ℕ
var_text x = codes "V" ++ decimal x

-- `7`, `-7/19`
abbrev pub number_text : Number → List ℕ
number_text q = signed_decimal q.num ++ (if int_eq q.den (pos 1) then [] else codes "/" ++ signed_decimal q.den)

-- the term `[h|t]`: name 1 with two arguments
abbrev pub is_pair : ℕ → Tms → Bool
is_pair f ts = f == 1 && length (items ts) == 2

-- a name with its arguments' text: `f(a,V0)`; without arguments the name alone
abbrev pub called_text : List (List ℕ) → ℕ → Tms → List ℕ → List ℕ
called_text names f nil arguments = name_text names f
called_text names f (cons t ts) arguments = name_text names f ++ codes "(" ++ arguments ++ codes ")"

-- the same as a term: `[]`, and `[a,b|V1]` for a list
abbrev pub app_text : List (List ℕ) → ℕ → Tms → List ℕ → List ℕ → List ℕ
app_text names f nil arguments elements = constant_text names f
app_text names f (cons t ts) arguments elements =
    if is_pair f (cons t ts) then codes "[" ++ elements ++ codes "]" else called_text names f (cons t ts) arguments

-- the same as the rest of a list whose first elements are written: nothing, `,b|V1`, or `|` and the term
abbrev pub rest_text : List (List ℕ) → ℕ → Tms → List ℕ → List ℕ → List ℕ
rest_text names f nil arguments elements = if f == 0 then [] else codes "|" ++ name_text names f
rest_text names f (cons t ts) arguments elements =
    if is_pair f (cons t ts) then codes "," ++ elements else codes "|" ++ called_text names f (cons t ts) arguments

abbrev mutual
  -- a term
  pub term_text : List (List ℕ) → Tm → List ℕ
  term_text names (var x) = var_text x
  term_text names (num q) = number_text q
  term_text names (app f ts) = app_text names f ts (terms_text names true ts) (pair_text names true ts)

  -- a term as the rest of a list
  pub tail_text : List (List ℕ) → Tm → List ℕ
  tail_text names (var x) = codes "|" ++ var_text x
  tail_text names (num q) = codes "|" ++ number_text q
  tail_text names (app f ts) = rest_text names f ts (terms_text names true ts) (pair_text names true ts)

  -- terms with commas between them
  pub terms_text : List (List ℕ) → Bool → Tms → List ℕ
  terms_text names is_first nil = []
  terms_text names is_first (cons t ts) =
      separator_text is_first (codes ",") ++ term_text names t ++ terms_text names false ts

  -- the two arguments of a pair: its first element, and then the rest
  pub pair_text : List (List ℕ) → Bool → Tms → List ℕ
  pair_text names is_first nil = []
  pair_text names is_first (cons t ts) =
      (if is_first then term_text names t else tail_text names t) ++ pair_text names false ts

-- `[t1,..,tn]`
unfoldable pub list_text : List (List ℕ) → Tms → List ℕ
list_text names ts = codes "[" ++ terms_text names true ts ++ codes "]"

-- the minus sign of a predicate
abbrev pub minus_text : Bool → List ℕ
minus_text minus = if minus then codes "-" else []

-- `p(a,V0)`, `-p`
unfoldable pub atom_text : List (List ℕ) → Atom → List ℕ
atom_text names a = minus_text a.minus ++ called_text names a.name a.args (terms_text names true a.args)

-- an atom, or `not` and an atom
unfoldable pub lit_text : List (List ℕ) → Lit → List ℕ
lit_text names l = (if l.positive then [] else codes "not ") ++ atom_text names l.atom
