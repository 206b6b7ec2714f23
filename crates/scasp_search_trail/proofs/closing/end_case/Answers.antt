use Rattle.std.proofs.Common.{ap, refl, sym}
use Rattle.scasp_readings.specs.Readings.{reading}
use Rattle.scasp_trail.specs.Past.{Past}
use Rattle.scasp_unify.specs.declared.bindings.Binding.{Binding}
use Rattle.scasp_search_trail.proofs.closing.end_case.Goals as goal

pub returns-clause-literals : goal.returns-clause-literals
returns-clause-literals c =
    c.in_ok-end_case.ensures.now (record (reading c.args.store.now.bound.now) { literals = c.args.loops.now.now }) refl (ap (λ (p : Past Binding). p.now) (sym c.bound.ensures))
