use Rattle.std.proofs.Common.{◌≡◌, ◌∙◌, [], ◌∷◌, refl, ap}
use Rattle.scasp_cert.specs.Certificate.{certificate_of, checks_of}
use Rattle.scasp_cert.specs.Trees.{listed}
use Rattle.scasp_cert.specs.View.{trees_of}
use Rattle.scasp_lines.specs.Dues.{query_dues}
use Rattle.scasp_lines.specs.Lines.{setting}
use Rattle.scasp_lines.specs.Places.{start}
use Rattle.scasp_syntax.specs.Programs.{numbered}
use Rattle.scasp_lines_walk.specs.Traversal.Pending.{checks, nodes}
use Rattle.scasp_lines_walk.specs.Traversal.View.{setting_of}
use Rattle.scasp_lines_walk.proofs.TraversalLemmas.CursorLemmas.{all-left}
use Rattle.scasp_lines_walk.proofs.TraversalLemmas.GoingLemmas.{ready-first}
use Rattle.scasp_lines_walk.proofs.traversal.cursor.Lines.of.Goals as goal

pub returns-clause-lines : goal.returns-clause-lines
returns-clause-lines c =
    let p = c.args.program.now in
    let cert = c.args.cert.now in
    let free = c.len.ensures in
    let top = c.in_ok-top.ensures in
    let bounded : setting_of p (record { free = c.len.result; top = c.in_ok-top.field-0 }) ≡ setting p.clauses (certificate_of cert) =
    λ i. record { clauses = p.clauses; free = free i; top = top i } in
    all-left _ p (certificate_of cert) refl bounded refl free
    (c.in_ok-all_waiting.ensures
    ∙ ap (λ m. (0, nodes (start m) (query_dues (numbered p.queries cert.query) cert.terms) (listed (trees_of cert.trees))) ∷ (0, checks (start m) (checks_of cert.checks)) ∷ []) top)

pub returns-clause-ready : goal.returns-clause-ready
returns-clause-ready c = ready-first _ _ _ _ _ c.in_ok-all_waiting.ensures
