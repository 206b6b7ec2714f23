-- An accepted certificate keeps its promise.
use Rattle.std.proofs.Common.{◌≡◌, Bool, true}
use Rattle.scasp_syntax.specs.declared.program.Program.{Program}
use Rattle.scasp_model.specs.Grounding.{ground_program}
use Rattle.scasp_cert.specs.Certificate.{Certificate}
use Rattle.scasp_lines.specs.Said.{false_atoms, is_closed_over, true_atoms}
use Rattle.scasp_sound.specs.Support.{Supports}
use Rattle.scasp_sound.proofs.JoinLemmas.{joined}
use Rattle.scasp_checker_rules.specs.Accepted.{AcceptsWhere}
use Rattle.scasp_checker_rules.specs.Normality.{AreRowsNormal}
use Rattle.scasp_law_promise.specs.Good.{Good, GoodAt}
use Rattle.scasp_law_promise.specs.Premises.{Premises}
use Rattle.scasp_law_promise.proofs.DisjointLemmas.{apart-said}
use Rattle.scasp_law_promise.proofs.FoundedLemmas.{founded}
use Rattle.scasp_law_promise.proofs.QueryLemmas.{query-holds}
use Rattle.scasp_law_promise.proofs.RefutedLemmas.{refuted}

module _ (b : Bool) (p : Program) (c : Certificate) (m : Premises b p c) (closed : is_closed_over p c m.free.of m.domain ≡ true) where
  -- what is said is supported by the program over the domain
  pub supported : Supports (ground_program m.domain p) (true_atoms p c m.free.of m.domain) (false_atoms p c m.free.of m.domain)
  supported =
      record {
        apart = apart-said b p c m;
        founded = founded b p c m closed;
        refuted = λ g a i e f. refuted b p c m g a i e f;
      }

  good-at : GoodAt p c m.free.of m.domain
  good-at =
      record {
        apart = apart-said b p c m;
        query = m.accepted.query;
        asked = m.accepted.named;
        holds = query-holds b p c m;
        joins = joined (ground_program m.domain p) (true_atoms p c m.free.of m.domain) (false_atoms p c m.free.of m.domain) supported;
      }

pub accepted-good : (b : Bool) (p : Program) (c : Certificate) → AreRowsNormal p c → AcceptsWhere b p c → Good p c
accepted-good b p c n h =
    λ v meets d is closed. good-at b p c (record { accepted = h; normal = n; free = v; meets = meets; domain = d; distinct = is }) closed
