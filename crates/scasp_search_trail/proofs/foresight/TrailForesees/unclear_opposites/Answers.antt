use Rattle.std.proofs.Common.{ap, refl, sym}
use Rattle.scasp_hint.specs.Satisfying.{sat}
use Rattle.scasp_trail.specs.Past.{Past}
use Rattle.scasp_unify.specs.declared.bindings.Binding.{Binding}
use Rattle.scasp_search_trail.specs.States.{now_of}
use Rattle.scasp_search_trail.proofs.foresight.TrailForesees.unclear_opposites.Goals as goal

pub returns : goal.returns
returns c = c.in_ok-made.ensures (now_of c.args.self.now) refl (ap (λ (p : Past Binding). p.now) (sym c.bound-bound.ensures)) refl sat
