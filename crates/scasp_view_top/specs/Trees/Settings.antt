-- What trees are shown by.
use Rattle.std.specs.Prelude.{ℕ, Bool, List}
use Rattle.scasp_view_top.specs.declared.trees.wording.Wording.{Wording}

-- The table of names; each clause in words, with its body and the items of its flat body; and whether blanks alone show how deep a line stands.
pub record Setting : Type 0 where
  pub names : List (List ℕ)
  pub clauses : List Wording
  pub plain : Bool
