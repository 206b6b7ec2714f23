-- A walk over the lines that are left ends.
use Rattle.std.proofs.Common.{◌≡◌, ◌+◌, ◌<◌, Bool, true, false, cond, length, arith, refl}
use Rattle.scasp_fill.specs.Filling.Inside.Left.{left_if}
use Rattle.scasp_lines_walk.specs.Traversal.View.{lines_left}
use Rattle.scasp_lines_walk.specs.declared.traversal.cursor.Lines.{Lines}

pub one-less : (more : Bool) (new old : Lines) → (more ≡ true → length (lines_left new) < length (lines_left old))
    → length (left_if more new) + cond more 1 0 < length (left_if true old) + 1
one-less true new old h = let k = h refl in omega (arith, k)
one-less false new old h = omega arith
