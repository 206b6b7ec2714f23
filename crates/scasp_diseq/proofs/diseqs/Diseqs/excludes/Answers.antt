use Rattle.std.proofs.Common.{◌≡◌, sym, ap, ◌∙◌}
use Rattle.std.specs.List.{list_any}
use Rattle.scasp_diseq.specs.Inside.Indexed.{is_shape}
use Rattle.scasp_diseq.proofs.FindingLemmas.{shapes-contained}
use Rattle.scasp_diseq.proofs.diseqs.Diseqs.excludes.Goals as goal

pub returns : goal.returns
returns c =
    let q = is_shape c.args.x c.args.name c.args.arity in
    let both = shapes-contained c.args.x c.args.name c.args.arity c.args.self.now in
    let same : c.is_excluded.result ≡ list_any q c.args.self.now = c.is_excluded.ensures ∙ ap (list_any q) c.self.view_is in
    (λ t. both.0 (sym same ∙ t), λ k. same ∙ both.1 k)
