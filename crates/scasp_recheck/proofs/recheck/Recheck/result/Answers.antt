use Rattle.std.proofs.Common.{◌∙◌, ap, sym}
use Rattle.std.specs.List.{slice_get}
use Rattle.std.proofs.lemmas.Option.{slice_get-map}
use Rattle.scasp_recheck.specs.Checks.{checked_of}
use Rattle.scasp_recheck.specs.Meaning.{certs_in, program_of}
use Rattle.scasp_recheck.proofs.recheck.Recheck.result.Goals as goal

pub returns : goal.returns
returns c =
    let r = c.args.self.now in
    sym (slice_get-map (checked_of (program_of r)) (certs_in r) c.args.i) ∙ ap (λ z. slice_get z c.args.i) (sym r.up_to_date) ∙ sym c.in-Some.ensures
