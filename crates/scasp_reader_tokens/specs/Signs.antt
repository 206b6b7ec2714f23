-- The signs of the language, and those that it lacks.
use Rattle.std.specs.Prelude.{ℕ, true, false, nat_eq, List, [], ◌∷◌, ◌++◌, map, codes, if◌then◌else◌, Option, None, Some}
use Rattle.std.specs.List.{starts_with}
use Rattle.scasp_num.specs.declared.linear.Op.TheVariants as op
use Rattle.scasp_reader_tokens.specs.declared.sign.Sign.{Sign}
use Rattle.scasp_reader_tokens.specs.declared.sign.Sign.TheVariants as sign

-- a text, and the sign that it is
pub record Entry : Type 0 where
  pub text : List ℕ
  pub sign : Sign

abbrev pub entry : List ℕ → Sign → Entry
entry text s = record { text = text; sign = s }

abbrev pub relations : List Entry
relations =
    entry (codes ".=<.") (sign.Relation op.Le false) ∷ entry (codes ".>=.") (sign.Relation op.Le true)
    ∷ entry (codes ".<>.") (sign.Relation op.Ne false) ∷ entry (codes "#=<") (sign.Relation op.Le false)
    ∷ entry (codes "#>=") (sign.Relation op.Le true) ∷ entry (codes "#<>") (sign.Relation op.Ne false)
    ∷ entry (codes ".=.") (sign.Relation op.Eq false) ∷ entry (codes ".<.") (sign.Relation op.Lt false)
    ∷ entry (codes ".>.") (sign.Relation op.Lt true) ∷ entry (codes "#=") (sign.Relation op.Eq false)
    ∷ entry (codes "#<") (sign.Relation op.Lt false) ∷ entry (codes "#>") (sign.Relation op.Lt true) ∷ []

abbrev pub foreign : List (List ℕ) → List Entry
foreign texts = map (λ text. entry text sign.Foreign) texts

-- all signs; of two that begin alike the longer one comes first
abbrev pub signs : List Entry
signs =
    relations
    ++ (foreign (codes "=:=" ∷ codes "=\\=" ∷ codes "\\==" ∷ codes "=<" ∷ codes ">=" ∷ codes "==" ∷ codes "->" ∷ [])
    ++ (entry (codes ":-") sign.If ∷ entry (codes "?-") sign.Query ∷ entry (codes "\\=") sign.Differ
    ∷ entry (codes "(") sign.Open ∷ entry (codes ")") sign.Close ∷ entry (codes "[") sign.OpenList ∷ entry (codes "]") sign.CloseList
    ∷ entry (codes ",") sign.Comma ∷ entry (codes "|") sign.Bar ∷ entry (codes "+") sign.Plus ∷ entry (codes "-") sign.Minus
    ∷ entry (codes "*") sign.Times ∷ entry (codes "/") sign.Over ∷ entry (codes "=") sign.Equal ∷ entry (codes ".") sign.Stop ∷ []
    ++ foreign (codes "!" ∷ codes ";" ∷ codes "<" ∷ codes ">" ∷ codes "\"" ∷ codes "{" ∷ codes "}" ∷ codes "@" ∷ codes "^"
    ∷ codes "&" ∷ codes ":" ∷ codes "`" ∷ [])))

-- the first entry whose text stands at the front of the bytes
abbrev pub entry_at : List Entry → List ℕ → Option Entry
entry_at [] bytes = None
entry_at (e ∷ entries) bytes = if starts_with nat_eq bytes e.text then Some e else entry_at entries bytes
