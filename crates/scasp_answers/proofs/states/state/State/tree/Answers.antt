use Rattle.std.proofs.Common.{refl}
use Rattle.scasp_answers_terms.specs.Tokens.Bounds.{line_fits}
use Rattle.scasp_answers.proofs.states.state.State.tree.Goals as goal

pub open-requires : goal.open-requires
unfolding line_fits
open-requires c = refl
