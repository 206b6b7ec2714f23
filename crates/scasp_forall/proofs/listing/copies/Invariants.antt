use Rattle.std.proofs.Common.{◌≡◌, ◌≤◌, ◌-◌, length, take}
use Rattle.scasp_forall.specs.Inside.Kept.{covers_from}
use Rattle.scasp_forall.proofs.listing.copies.Given as goal

abbrev pub invariant-covers : goal.invariant-covers
invariant-covers l = record {
  now : l.made ≡ take l.at (covers_from 1 l.scopes);
  within : l.at ≤ length l.scopes;
}

abbrev pub decreases-covers : goal.decreases-covers
decreases-covers l = length l.scopes - l.at
