-- Tasks of which the first is taken.
use Rattle.std.specs.Prelude.{◌≡◌, Option, None, Some, List, [], ◌∷◌}
use Rattle.scasp_search_rules.specs.declared.states.tasks.Task.{Task}

-- the first of the tasks is taken away, if there is one
abbrev pub Takes : List Task → List Task → Option Task → Type 0
Takes [] new None = new ≡ []
Takes [] new (Some u) = ⊥
Takes (t ∷ ts) new None = ⊥
Takes (t ∷ ts) new (Some u) = (u ≡ t) × (new ≡ ts)
