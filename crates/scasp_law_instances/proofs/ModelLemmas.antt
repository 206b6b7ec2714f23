-- A flat certificate that is right has a model.
use Rattle.std.proofs.Common.{◌≡◌, Bool, true, List}
use Rattle.scasp_syntax.specs.Tm.{Tm}
use Rattle.scasp_syntax.specs.declared.program.Program.{Program}
use Rattle.scasp_graph.specs.Map.{MapHolds}
use Rattle.scasp_model.specs.Grounding.{is_domain}
use Rattle.scasp_cert.specs.Certificate.{Certificate}
use Rattle.scasp_cert.specs.Flat.{is_flat}
use Rattle.scasp_sound.specs.MapLevels.{covered}
use Rattle.scasp_checker_rules.specs.Accepted.{AcceptsWhere}
use Rattle.scasp_law_promise.specs.OwnRows.{has_normal_rows}
use Rattle.scasp_law_promise.proofs.PromiseLemmas.{keeps-promise}
use Rattle.scasp_law_instances.specs.Instances.{HasModelAbove}
use Rattle.scasp_law_instances.proofs.InstanceLemmas.{has-instance}

pub has-model : (b : Bool) (p : Program) (c : Certificate) → has_normal_rows c ≡ true → AcceptsWhere b p c → MapHolds p (covered c) c.map → is_flat c ≡ true
    → (given : List Tm) → is_domain given ≡ true → HasModelAbove p c given
has-model b p c normal h map flat given distinct =
    let kept = keeps-promise b p c normal h in
    let i = has-instance b p c h in
    let d = kept.domains flat i.by i.meets given distinct in
    let right = kept.right map in
    let good = right.0 i.by i.meets d.domain d.is d.closed in
    let left = right.1 i.by i.meets d.domain d.is d.closed in
    record { instance = i; closed = d; good = good; others = left.0; model = good.joins left.0 left.1 }
