-- Bodies.
--     body := item {"," item}
use Rattle.std.specs.Prelude.{◌≡◌, ℕ, ◌+◌, ◌<◌, ◌⊎◌, nat_lt, List, [], ◌∷◌, ◌++◌, length}
use Rattle.std.specs.List.{flat_map}
use Rattle.scasp_syntax.specs.Flat.{flat_body, unseen}
use Rattle.scasp_syntax.specs.declared.clause.Item.{Item}
use Rattle.scasp_syntax.specs.declared.clause.Item.TheVariants.{Call, Equal, Differ, Linear}
use Rattle.scasp_reader_terms.specs.declared.fault.Count.TheVariants as count
use Rattle.scasp_reader_terms.specs.declared.fault.Kind.TheVariants as kind
use Rattle.scasp_reader_terms.specs.Steps.{Read, ◌>>=◌, give, get, note_if, place_of, separated}
use Rattle.scasp_reader.specs.declared.bodies.bodies.FlatCount.{FlatCount}
use Rattle.scasp_reader.specs.declared.bodies.bodies.TheConstants.{ITEM_LIMIT}
use Rattle.scasp_reader.specs.Bodies.Items.{item}

-- the variables that the items list
abbrev pub listed_variables : Item → List ℕ
listed_variables (Call l) = []
listed_variables (Equal t u) = []
listed_variables (Differ t u) = []
listed_variables (Linear l) = l.vars

-- the count of a body's flat items: exact, with the variables that its items list, or past the limit as the body is
abbrev pub Counts : FlatCount → List Item → Type 0
Counts c before =
    ((c.number ≡ length (flat_body before)) × (c.seen ≡ flat_map listed_variables before))
    ⊎ ((ITEM_LIMIT < c.number) × (ITEM_LIMIT < length (flat_body before)))

-- the count with a linear item more, of these variables
abbrev pub counted_linear : List ℕ → FlatCount → FlatCount
counted_linear xs c = record { number = c.number + (length (unseen c.seen xs) + 1); seen = c.seen ++ xs }

-- an item behind these; of flat items there may be only so many
abbrev pub counted_item : List Item → Read Item
counted_item before = do
  at ← get (λ s. place_of s.tokens)
  i ← item
  n ← note_if (nat_lt ITEM_LIMIT (length (flat_body (before ++ i ∷ [])))) at (kind.Limit count.Items)
  give i

unfoldable pub body : Read (List Item)
body = separated counted_item
