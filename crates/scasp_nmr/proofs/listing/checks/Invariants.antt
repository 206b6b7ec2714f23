use Rattle.std.proofs.Common.{◌≡◌, ◌+◌, ◌++◌, drop}
use Rattle.scasp_nmr.specs.Checks.{checks_from, checks_of}
use Rattle.scasp_nmr.proofs.BesideLemmas.{Coming}
use Rattle.scasp_nmr.proofs.listing.checks.Given as goal

abbrev pub invariant-loop-place : goal.invariant-loop-place
invariant-loop-place l =
    record {
      coming : Coming (l.place + 1) l.odd;
      listed : l.items ++ checks_from l.odd (l.place + 1) (drop l.place l.clause-items) ≡ checks_of l.program l.analysis.odd_rules;
    }
