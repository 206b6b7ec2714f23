use Rattle.scasp_rows.proofs.Ranges.{whole-none}
use Rattle.std.proofs.Common.{◌*ℤ◌}
use Rattle.std.proofs.lemmas.Int.{to_z-of_z}
use Rattle.scasp_rows.proofs.steps.whole_product.Goals as goal

pub returns-in-None : goal.returns-in-None
returns-in-None c =
    let a = c.ranges.a in
    let b = c.ranges.c in
    whole-none (c.args.a *ℤ c.args.c) (simp to_z-of_z at c.in-None.ensures)
