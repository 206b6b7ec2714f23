use Rattle.std.proofs.Common.{◌≡◌, ◌++◌, ◌∷◌, [], drop, map}
use Rattle.scasp_project.proofs.choices.push_extended.Given as goal

abbrev pub invariant-loop-option : goal.invariant-loop-option
invariant-loop-option l = l.lists ++ map (λ o. l.list ++ o ∷ []) (drop l.option-index l.options) ≡ l.fn.lists ++ map (λ o. l.list ++ o ∷ []) l.options
