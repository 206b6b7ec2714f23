-- A page: what has been written on it, and the number of the next row.
use Rattle.std.specs.Prelude.{ℕ, ◌+◌, List, [], ◌∷◌, ◌++◌, codes, decimal}
use Rattle.scasp_view_top.specs.Trees.Rows.{Row, shown, hidden}

pub record Written : Type 0 where
  pub text : List ℕ
  pub line : ℕ

abbrev pub page_of : List ℕ → Written
page_of text = record { text = text; line = 1 }

-- the number of the row, a tab, and what stands on it
abbrev pub with_row : Written → Row → Written
with_row p (shown lead label) = record { text = p.text ++ (decimal p.line ++ codes "\t" ++ lead ++ label); line = p.line + 1 }
with_row p hidden = record { text = p.text; line = p.line + 1 }

-- one row below the other
abbrev pub with_rows : Written → List Row → Written
with_rows p [] = p
with_rows p (r ∷ rs) = with_rows (with_row p r) rs
