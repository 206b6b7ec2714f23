use Rattle.std.proofs.Common.{ap, refl, reverse, sym, ◌∙◌}
use Rattle.scasp_trail.specs.Past.{Past}
use Rattle.scasp_unify.specs.declared.bindings.Binding.{Binding}
use Rattle.scasp_search_trail.proofs.CoverLemmas.{same_cases}
use Rattle.scasp_search_trail.specs.States.{others, state_of}
use Rattle.scasp_search_trail.proofs.covers.seen.Goals as goal

pub returns : goal.returns
returns c =
    let parts = c.args.parts.now in
    c.seen.ensures (state_of parts) refl (ap (λ (p : Past Binding). p.now) (sym c.bound.ensures))
    (same_cases (reverse parts.scopes.now) (others (reverse parts.told.now)) ∙ sym c.in_ok-cases.ensures ∙ sym c.as_slice.ensures)
