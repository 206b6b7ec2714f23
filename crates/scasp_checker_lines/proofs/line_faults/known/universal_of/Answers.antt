use Rattle.std.proofs.Common.{refl}
use Rattle.scasp_lines.specs.Places.{is_universal}
use Rattle.scasp_lines_places.specs.Places.View.{place_of}
use Rattle.scasp_checker_lines.proofs.line_faults.known.universal_of.Goals as goal

pub returns : goal.returns
returns c = record {
  known = λ i. is_universal (c.args.common.now.free i) (c.args.common.now.top i) (place_of c.args.here.now);
  here = refl;
}
