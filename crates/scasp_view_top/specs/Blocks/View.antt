-- The block that the product's `Judged` is.
use Rattle.scasp_cert.specs.Certificate.{certificate_of}
use Rattle.scasp_view_top.specs.Blocks.Judgements.{Judgement}
use Rattle.scasp_view_top.specs.declared.blocks.judged.Judged.{Judged}

abbrev pub judgement_of : Judged → Judgement
judgement_of j = record { verdict = j.verdict.items; worth = j.worth.items; accepted = j.accepted; query = j.query.items; certificate = certificate_of j.cert.now }
