use Rattle.std.proofs.Common.{ℕ, slice_get, ap, sym, ◌∙◌}
use Rattle.scasp_trail.specs.Past.{Past}
use Rattle.scasp_unify.specs.Solving.{sub_of}
use Rattle.scasp_store.proofs.OpenLemmas.{one_settled}
use Rattle.scasp_store.proofs.opening.settle_at.Goals as goal

pub returns-clause-good : goal.returns-clause-good
returns-clause-good c = λ bs h.
    let r = c.fix_at.new.rest in
    let good = c.in_ok-fix_at.ensures.good bs h in
    let there = c.place_at-place.ensures ∙ ap (λ xs. slice_get xs c.args.at) (c.as_slice.ensures ∙ sym (ap (λ (p : Past ℕ). p.now) c.fix_at.ensures.places)) in
    record {
      triangular = good.triangular;
      reads = good.reads;
      places = one_settled (sub_of r.reading.now) c.args.given.now r.places.now c.take_away.new.places.now c.args.at c.place_at-place.result there (λ d g. c.in_ok-is_settled_at.ensures d good.reads.triangular g c.if-not-branch.false) c.take_away.ensures.stay good.places;
      plain = good.plain;
    }
