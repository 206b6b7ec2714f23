-- When changes can be taken back.
use Rattle.std.specs.Prelude.{◌≡◌, ◌<◌, List, [], ◌∷◌, ◌++◌, length, ⊤}
use Rattle.scasp_bind.specs.Kept.{Kept, all_taken_back, taken_back}
use Rattle.scasp_bind.specs.declared.variable.Change.{Change}
use Rattle.scasp_bind.specs.declared.variable.Change.TheVariants as change
use Rattle.scasp_bind.specs.declared.variable.Variable.{Variable}

-- the variable that was changed is there
abbrev pub Speaks : Change → List Variable → Type 0
Speaks change.Made vs = 0 < length vs
Speaks (change.Depth x before) vs = x < length vs
Speaks (change.Term x before) vs = x < length vs

abbrev pub CanUndo : List Change → List Variable → Type 0
CanUndo [] vs = ⊤
CanUndo (c ∷ cs) vs = Speaks c (all_taken_back cs vs) × CanUndo cs vs

-- the latest change was taken back
pub record TakesBack (before after : Kept) : Type 0 where
  pub latest : Change
  pub changes : before.changes ≡ after.changes ++ latest ∷ []
  pub variables : after.variables ≡ taken_back latest before.variables
