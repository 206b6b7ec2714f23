-- What calls on the parts do to their lists and marks.
use Rattle.std.specs.Prelude.{◌≡◌, true, ◌∷◌}
use Rattle.scasp_search_trail.specs.States.{Lists, Marks}
use Rattle.scasp_trail.specs.Past.{is_marked}

-- ---- marks

-- one mark more, which has these lists
abbrev pub with_mark : Lists → Marks → Marks
with_mark l m = record {
  made = l.made ∷ m.made;
  bound = l.bound ∷ m.bound;
  given = l.given ∷ m.given;
  covers = l.covers ∷ m.covers;
  literals = l.literals ∷ m.literals;
  pieces = l.pieces ∷ m.pieces;
  work = l.work ∷ m.work;
}

-- each part has a mark
pub record AllMarked (m : Marks) : Type 0 where
  pub made : is_marked m.made ≡ true
  pub bound : is_marked m.bound ≡ true
  pub given : is_marked m.given ≡ true
  pub covers : is_marked m.covers ≡ true
  pub literals : is_marked m.literals ≡ true
  pub pieces : is_marked m.pieces ≡ true
  pub work : is_marked m.work ≡ true
