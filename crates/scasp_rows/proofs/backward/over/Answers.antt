use Rattle.std.proofs.lemmas.Int.{to_z-of_z}
use Rattle.scasp_rows.proofs.Ranges.{whole-nonzero}
use Rattle.scasp_rows.proofs.backward.over.Goals as goal

pub div-requires : goal.div-requires
div-requires c =
    let fits = c.ranges.c in
    whole-nonzero c.args.c c.in_ok-divisor.divisor (simp to_z-of_z at c.in_ok-divisor.ensures) c.requires
