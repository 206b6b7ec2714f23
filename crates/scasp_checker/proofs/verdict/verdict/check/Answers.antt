use Rattle.std.proofs.Common.{rules, ◌≡◌, ◌∙◌, [], ap, sym}
use Rattle.std.proofs.lemmas.Result.{err_from_is_err_and}
use Rattle.scasp_cert.specs.Certificate.{certificate_of}
use Rattle.scasp_graph.specs.Map.{map_faults}
use Rattle.scasp_checker.proofs.VerdictLemmas.VerdictLemmas.{refuted, no_fault-accepted, no_fault-kept}
use Rattle.scasp_checker.proofs.verdict.verdict.check.Goals as goal

pub returns-in_err-accept-clause-refused : goal.returns-in_err-accept-clause-refused
returns-in_err-accept-clause-refused c =
    let p = err_from_is_err_and c.from_residual.result c.from_residual.ensures.1 in
    rw (p.1, p.2) (refuted c.args.program.now (certificate_of c.args.cert.now) _ c.in_err-accept.ensures)

pub returns-in-None-clause-accepted : goal.returns-in-None-clause-accepted
returns-in-None-clause-accepted c = no_fault-accepted c.args.program.now (certificate_of c.args.cert.now) c.in_ok-accept.ensures

pub returns-in-None-clause-good : goal.returns-in-None-clause-good
returns-in-None-clause-good c = (no_fault-kept c.args.program.now (certificate_of c.args.cert.now) c.see_rows.ensures c.in_ok-accept.ensures).good

pub returns-in-None-clause-domains : goal.returns-in-None-clause-domains
returns-in-None-clause-domains c = (no_fault-kept c.args.program.now (certificate_of c.args.cert.now) c.see_rows.ensures c.in_ok-accept.ensures).domains

pub returns-in-None-clause-right : goal.returns-in-None-clause-right
returns-in-None-clause-right c =
    let kept : map_faults c.args.program.now c.in_ok-covered.covered c.args.cert.now.map ≡ [] = search rules in
    λ _. (no_fault-kept c.args.program.now (certificate_of c.args.cert.now) c.see_rows.ensures c.in_ok-accept.ensures).right
    (ap (λ rules. map_faults c.args.program.now rules c.args.cert.now.map) (sym c.in_ok-covered.ensures) ∙ kept)

pub returns-clause-accepted : goal.returns-clause-accepted
returns-clause-accepted c = no_fault-accepted c.args.program.now (certificate_of c.args.cert.now) c.in_ok-accept.ensures

pub returns-clause-good : goal.returns-clause-good
returns-clause-good c = (no_fault-kept c.args.program.now (certificate_of c.args.cert.now) c.see_rows.ensures c.in_ok-accept.ensures).good

pub returns-clause-domains : goal.returns-clause-domains
returns-clause-domains c = (no_fault-kept c.args.program.now (certificate_of c.args.cert.now) c.see_rows.ensures c.in_ok-accept.ensures).domains
