use Rattle.std.proofs.Common.{◌≡◌, ◌&&◌, Bool, map, subst}
use Rattle.std.specs.Prelude.{IfOk}
use Rattle.scasp_cert.specs.Certificate.{Certificate, certificate_of}
use Rattle.scasp_fill.specs.Filling.Inside.Pieces.{hinted_value}
use Rattle.scasp_fill.proofs.FillingLemmas.RebuiltLemmas.{filled-made}
use Rattle.scasp_fill.proofs.filling.filling.fill.Goals as goal

pub returns-clause-filled : goal.returns-clause-filled
returns-clause-filled c =
    subst (λ (x : Certificate). IfOk c.filled_with.result (λ made. certificate_of made.cert ≡ x))
    (filled-made c.args.program.now (certificate_of c.args.cert.now) (map hinted_value c.in_ok-hinted.hinted.all.items) c.in_ok-clashing.clashing.clashes
    c.in_ok-hinted.ensures.lines c.in_ok-clashing.ensures.clashes)
    c.filled_with.ensures.cert

pub returns-clause-known : goal.returns-clause-known
returns-clause-known c =
    let hints = c.in_ok-hinted.ensures.known in
    let clashes = c.in_ok-clashing.ensures.known in
    subst (λ (x : Bool). IfOk c.filled_with.result (λ made. made.known ≡ x)) (λ i. hints i && clashes i) c.filled_with.ensures.known
