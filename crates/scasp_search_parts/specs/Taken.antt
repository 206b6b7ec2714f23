-- Frames of which the one that was put last is taken.
use Rattle.std.specs.Prelude.{◌≡◌, Option, None, Some, [], ◌∷◌, ◌++◌}
use Rattle.scasp_search_parts.specs.Times.{after}
use Rattle.scasp_search_parts.specs.declared.frame.Frame.{Frame}
use Rattle.scasp_trail.specs.Past.{Past}

-- none exactly where nothing is pending, which changes nothing
abbrev pub Takes : Option Frame → Past Frame → Past Frame → Type 0
Takes None old new = (old.now ≡ []) × (new ≡ old)
Takes (Some f) old new = (old.now ≡ new.now ++ f ∷ []) × (new ≡ after old new.now)
