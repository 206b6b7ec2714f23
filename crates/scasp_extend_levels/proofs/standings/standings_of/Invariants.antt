use Rattle.std.proofs.Common.{◌≡◌, ◌++◌, drop, map}
use Rattle.scasp_map.specs.Entries.{level_in, plus_in}
use Rattle.scasp_extend_levels.specs.Numbered.{standing_of}
use Rattle.scasp_extend_levels.proofs.standings.standings_of.Given as goal

abbrev pub invariant-loop-atom : goal.invariant-loop-atom
invariant-loop-atom l =
    l.made ++ map (standing_of (level_in l.entries) (plus_in l.entries) l.level l.below) (drop l.atom-index l.atoms)
    ≡ map (standing_of (level_in l.entries) (plus_in l.entries) l.level l.below) l.atoms
