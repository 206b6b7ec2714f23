-- Pairs by the numbers of lines.
use Rattle.std.proofs.Common.{◌≡◌, ◌∙◌, ℕ, List, Option, ap, sym}
use Rattle.scasp_checker_rules.specs.Told.{Told, all_told}
use Rattle.scasp_cert.specs.Certificate.{Certificate}
use Rattle.scasp_disjoint.specs.ByLines.{pair_of, pair_on}
use Rattle.scasp_lines.proofs.WalkLemmas.{certificate-runs}
use Rattle.scasp_lines.specs.Lines.{lines}
use Rattle.scasp_lines_walk.proofs.ShownLemmas.StandingLemmas.{line-told}
use Rattle.scasp_lines_walk.specs.Shown.Standings.{Standing, standings, told_where}
use Rattle.scasp_syntax.specs.Programs.{numbered}
use Rattle.scasp_syntax.specs.declared.program.Program.{Program}

-- the pair that the table tells of is that on the lines
pub pair_found : (p : Program) (c : Certificate) (i j : ℕ) (table : List Standing) (o : Option (Told × Told)) → table ≡ standings (lines p c)
    → o ≡ pair_of (told_where (numbered table i)) (told_where (numbered table j)) → o ≡ pair_on p c i j
pair_found p c i j table o t e =
    let counts = (certificate-runs p.clauses p.queries c).counts in
    let first = line-told i (lines p c) counts in
    let second = line-told j (lines p c) counts in
    e ∙ ap (λ (st : List Standing). pair_of (told_where (numbered st i)) (told_where (numbered st j))) t ∙ (λ k. pair_of (sym first k) (sym second k))
