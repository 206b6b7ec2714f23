use Rattle.std.proofs.Common.{◌≡◌, ◌∙◌, ◌++◌, nat_eq, ap}
use Rattle.std.specs.List.{flat_map}
use Rattle.indexmap.specs.IndexSet.{insert_all}
use Rattle.scasp_cert.specs.Certificate.{checks_of}
use Rattle.scasp_cert.specs.Trees.{listed}
use Rattle.scasp_cert.specs.View.{trees_of}
use Rattle.scasp_graph.specs.Inside.Growing.{grown}
use Rattle.scasp_touched.specs.Inside.{with_named}
use Rattle.scasp_touched.specs.Named.{clauses_below, clauses_under, preds_below, preds_under}
use Rattle.scasp_touched.specs.declared.named.Named.{Named}
use Rattle.scasp_touched.proofs.NamedLemmas.{named-then}
use Rattle.scasp_touched.proofs.named.Named.of.Goals as goal

pub returns : goal.returns
returns c =
    let trees = listed (trees_of c.args.cert.now.trees) in
    let checks = checks_of c.args.cert.now.checks in
    let ks = flat_map clauses_under checks in
    let ps = flat_map preds_under checks in
    let none : Named = record { clauses = c.new.result; preds = c.new-2.result } in
    let all = c.as_slice.ensures in
    let first : c.name_all.new.named ≡ with_named none (clauses_below trees) (preds_below trees) =
    c.in_ok-name_all.ensures ∙ (λ i. with_named none (clauses_below (listed (all i))) (preds_below (listed (all i)))) in
    let e = named-then none c.name_all.new.named c.name_checks.new.named (clauses_below trees) ks (preds_below trees) ps first c.in_ok-name_checks.ensures in
    record {
      clauses = ap (λ z. z.clauses) e ∙ ap (λ z. insert_all nat_eq z (clauses_below trees ++ ks)) c.new.ensures;
      preds = ap (λ z. z.preds) e ∙ ap (λ z. grown z (preds_below trees ++ ps)) c.new-2.ensures;
    }
