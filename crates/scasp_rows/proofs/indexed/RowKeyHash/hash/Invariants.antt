use Rattle.std.proofs.Common.{◌≡◌, drop, fold}
use Rattle.scasp_rows.specs.Inside.Keys.{terms_writes}
use Rattle.scasp_rows.proofs.indexed.RowKeyHash.hash.Given as goal

abbrev pub invariant-loop-k : goal.invariant-loop-k
invariant-loop-k g l = fold g.H.Hasher.write l.state (terms_writes (drop l.k-index l.k-items)) ≡ fold g.H.Hasher.write l.initial.state (terms_writes l.k-items)
