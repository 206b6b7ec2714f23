use Rattle.scasp_lines.specs.Places.{in_scope}
use Rattle.scasp_lines_places.specs.Places.View.{place_of}
use Rattle.scasp_checker_lines.proofs.line_faults.known.scope_of.Goals as goal

pub returns : goal.returns
returns c = λ i. in_scope (c.args.common.now.free i) (c.args.common.now.top i) (place_of c.args.here.now)
