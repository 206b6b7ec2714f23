use Rattle.std.proofs.Common.{◌≡◌, ◌+◌, drop}
use Rattle.scasp_search_rules.specs.Successors.Numbering.{place_of}
use Rattle.scasp_sample.proofs.renaming.place_of.Given as goal

abbrev pub invariant-loop-place : goal.invariant-loop-place
invariant-loop-place l = l.place + place_of l.x (drop l.place l.all) ≡ place_of l.x l.all
