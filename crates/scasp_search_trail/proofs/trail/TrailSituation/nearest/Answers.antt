use Rattle.std.proofs.Common.{ap, refl, sym}
use Rattle.scasp_trail.specs.Past.{Past}
use Rattle.scasp_unify.specs.declared.bindings.Binding.{Binding}
use Rattle.scasp_search_trail.specs.States.{now_of}
use Rattle.scasp_search_trail.proofs.trail.TrailSituation.nearest.Goals as goal

pub returns : goal.returns
returns c = c.nearest.ensures (now_of c.args.self.now) refl (ap (λ (p : Past Binding). p.now) (sym c.bound.ensures))
