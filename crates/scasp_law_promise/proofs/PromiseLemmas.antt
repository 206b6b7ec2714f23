-- An accepted certificate keeps all of its promise, where the rows that stand in it are in normal form.
use Rattle.std.proofs.Common.{◌≡◌, Bool, true}
use Rattle.scasp_syntax.specs.declared.program.Program.{Program}
use Rattle.scasp_cert.specs.Certificate.{Certificate}
use Rattle.scasp_checker_rules.specs.Accepted.{AcceptsWhere}
use Rattle.scasp_law_promise.specs.Kept.{KeepsPromise}
use Rattle.scasp_law_promise.specs.OwnRows.{has_normal_rows}
use Rattle.scasp_law_promise.proofs.ClosedLemmas.{closed-above}
use Rattle.scasp_law_promise.proofs.GoodLemmas.{accepted-good}
use Rattle.scasp_law_promise.proofs.OwnRowLemmas.{rows-normal}
use Rattle.scasp_law_promise.proofs.RightLemmas.{right-good}

pub keeps-promise : (b : Bool) (p : Program) (c : Certificate) → has_normal_rows c ≡ true → AcceptsWhere b p c → KeepsPromise p c
keeps-promise b p c n h =
    let normal = rows-normal p c n in
    record {
      good = accepted-good b p c normal h;
      right = λ k. right-good b p c normal h k;
      domains = λ flat. closed-above b p c h flat;
    }
