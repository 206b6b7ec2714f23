use Rattle.std.proofs.Common.{List, ℕ, ap, subst, ◌∙◌}
use Rattle.std.specs.List.{flat_map}
use Rattle.scasp_checker_rules.specs.Told.{Told, all_told}
use Rattle.scasp_search_constraints.specs.Assuming.Taken.{Gives}
use Rattle.scasp_cert.specs.Certificate.{certificate_of}
use Rattle.scasp_search_ends.specs.Ends.Inside.Apart.{all_fail, pairs_of}
use Rattle.scasp_lines.specs.Lines.{lines}
use Rattle.scasp_lines_walk.proofs.ShownLemmas.StandingLemmas.{standings-tell}
use Rattle.scasp_lines_walk.specs.Shown.Standings.{told_by}
use Rattle.scasp_syntax.specs.declared.con.Con.{Con}
use Rattle.scasp_search_ends.proofs.ends.pairs.all_apart.Goals as goal

pub returns : goal.returns
returns c =
    let told_all = all_told (lines c.args.program.now (certificate_of c.args.cert.now)) in
    let told = c.in_ok-sayings.ensures ∙ ap (flat_map told_by) c.in_ok-table.ensures
    ∙ standings-tell (lines c.args.program.now (certificate_of c.args.cert.now)) in
    subst (λ (n : ℕ). Gives c.are_apart.result (all_fail (pairs_of n c.args.cert.now.given told_all)) (pairs_of n c.args.cert.now.given told_all)) c.len-free.ensures
    (subst (λ (gs : List Con). Gives c.are_apart.result (all_fail (pairs_of c.len-free.result gs told_all)) (pairs_of c.len-free.result gs told_all)) c.as_slice.ensures
    (subst (λ (ts : List Told). Gives c.are_apart.result (all_fail (pairs_of c.len-free.result c.as_slice.result.now ts)) (pairs_of c.len-free.result c.as_slice.result.now ts)) told
    c.are_apart.ensures))
