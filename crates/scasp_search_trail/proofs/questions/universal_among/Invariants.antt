use Rattle.std.proofs.Common.{◌≡◌, ◌++◌, drop, filter, slice_get}
use Rattle.scasp_search_rules.specs.Successors.Variables.{is_kind_universal, made_or}
use Rattle.scasp_search_trail.proofs.questions.universal_among.Given as goal

abbrev pub invariant-loop-x : goal.invariant-loop-x
invariant-loop-x l =
    l.found ++ filter (λ x. is_kind_universal (made_or (slice_get l.variables.now x)).kind) (drop l.x-index l.xs) ≡ filter (λ x. is_kind_universal (made_or (slice_get l.variables.now x)).kind) l.xs
