use Rattle.std.proofs.Common.{◌≡◌, ◌<◌, ℕ, ap, length, subst, sym}
use Rattle.scasp_told.specs.Inside.Cuts.{cut}
use Rattle.scasp_told.proofs.CutLemmas.{inside_all}
use Rattle.scasp_told.proofs.told.Told.piece.Goals as goal

pub piece_of-requires-clause-number : goal.piece_of-requires-clause-number
piece_of-requires-clause-number g c =
    let e : length (cut c.self.inside.counts.now c.self.inside.items.now) ≡ length c.args.self.now.now = ap (λ p. length p.now) c.self.view_is in
    rw c.as_slice-2.ensures (inside_all c.args.number c.self.inside.counts.now c.self.inside.items.now (subst (λ (k : ℕ). c.args.number < k) (sym e) c.requires))
