use Rattle.std.proofs.Common.{◌≡◌, ◌<◌, ℕ, ap, length, subst, sym}
use Rattle.scasp_told.specs.Inside.Cuts.{cut}
use Rattle.scasp_told.specs.Pieces.{last_of}
use Rattle.scasp_told.proofs.PlaceLemmas.{within_last}
use Rattle.scasp_told.proofs.told.Told.set.Goals as goal

pub place_in_last-place-requires : goal.place_in_last-place-requires
place_in_last-place-requires g c =
    let e : length (last_of (cut c.self.inside.counts.now c.self.inside.items.now)) ≡ length (last_of c.args.self.now.now) = ap (λ p. length (last_of p.now)) c.self.view_is in
    rw (c.as_slice.ensures, c.len.ensures.len) (within_last c.args.at c.self.inside.counts.now c.self.inside.items.now (subst (λ (k : ℕ). c.args.at < k) (sym e) c.requires))

pub set-requires : goal.set-requires
set-requires g c =
    let e : length (last_of (cut c.self.inside.counts.now c.self.inside.items.now)) ≡ length (last_of c.args.self.now.now) = ap (λ p. length (last_of p.now)) c.self.view_is in
    rw (c.place_in_last-place.ensures, c.as_slice.ensures) (within_last c.args.at c.self.inside.counts.now c.self.inside.items.now (subst (λ (k : ℕ). c.args.at < k) (sym e) c.requires))
