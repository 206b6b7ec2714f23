use Rattle.std.proofs.Common.{◌≡◌, ◌++◌, drop, take}
use Rattle.scasp_rows.specs.Elimination.{first_equation, others}
use Rattle.scasp_rows.proofs.replacing.equation_place.Given as goal

abbrev pub invariant-loop-i : goal.invariant-loop-i
invariant-loop-i l = (first_equation l.x (drop l.i l.rows) ≡ first_equation l.x l.rows) × (take l.i l.rows ++ others l.x (drop l.i l.rows) ≡ others l.x l.rows)
