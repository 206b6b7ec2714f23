use Rattle.std.proofs.Common.{◌≡◌, drop}
use Rattle.std.specs.List.{list_any}
use Rattle.scasp_shorten.specs.Evident.{tells_alone}
use Rattle.scasp_shorten.proofs.evident.is_told_by_one.Given as goal

abbrev pub invariant-loop-one : goal.invariant-loop-one
invariant-loop-one l = list_any (λ d. tells_alone d l.constraint) (drop l.one-index l.list) ≡ list_any (λ d. tells_alone d l.constraint) l.list
