use Rattle.std.proofs.Common.{◌≡◌, ◌<◌, ◌+◌, ℕ, ap, length, subst, sym}
use Rattle.scasp_told.specs.Inside.Cuts.{cut}
use Rattle.scasp_told.proofs.CutLemmas.{inside, put_inside}
use Rattle.scasp_told.proofs.told.Told.insert.Goals as goal

pub insert_in-requires-clause-number : goal.insert_in-requires-clause-number
insert_in-requires-clause-number g c =
    let e : length (cut c.self.inside.counts.now c.self.inside.items.now) ≡ length c.args.self.now.now = ap (λ p. length p.now) c.self.view_is in
    inside c.args.number c.self.inside.counts.now c.self.inside.items.now (subst (λ (k : ℕ). c.args.number + 1 < k) (sym e) c.requires)

pub returns-clause-now : goal.returns-clause-now
returns-clause-now g c =
    let e : length (cut c.self.inside.counts.now c.self.inside.items.now) ≡ length c.args.self.now.now = ap (λ p. length p.now) c.self.view_is in
    let h = inside c.args.number c.self.inside.counts.now c.self.inside.items.now (subst (λ (k : ℕ). c.args.number + 1 < k) (sym e) c.requires) in
    rw (c.in_ok-insert_in.ensures.counts, c.in_ok-insert_in.ensures.items, ← c.self.view_is) (put_inside c.args.number c.self.inside.counts.now c.self.inside.items.now c.args.item h c.self.invariant.now)
