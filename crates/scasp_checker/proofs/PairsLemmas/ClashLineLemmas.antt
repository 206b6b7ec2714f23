-- Clash lines, which are to be of pairs.
use Rattle.std.proofs.Common.{◌≡◌, ◌∙◌, ℕ, Bool, min, List, ap, sym}
use Rattle.scasp_checker_rules.specs.Pairs.{is_of_pair, is_pair, other_clash}
use Rattle.scasp_checker_rules.specs.Refusals.{of_some, wants}
use Rattle.scasp_checker_rules.specs.Told.{all_told}
use Rattle.scasp_checker_rules.specs.declared.refusal.Reason.TheVariants as reason
use Rattle.scasp_cert.specs.Certificate.{Certificate}
use Rattle.scasp_cert.specs.declared.certificate.Clash.{Clash}
use Rattle.scasp_lines.proofs.WalkLemmas.{certificate-runs}
use Rattle.scasp_lines.specs.Lines.{lines}
use Rattle.scasp_lines_walk.proofs.ShownLemmas.StandingLemmas.{line-told}
use Rattle.scasp_lines_walk.specs.Shown.Standings.{Standing, standings, told_where}
use Rattle.scasp_syntax.specs.Programs.{numbered}
use Rattle.scasp_syntax.specs.declared.program.Program.{Program}

-- whether the rows of a table have a pair on the two lines of a clash line
abbrev pub is_pair_in : List Standing → Clash → Bool
is_pair_in table k = of_some (told_where (numbered table k.first)) (λ a. of_some (told_where (numbered table k.second)) (is_pair a))

-- the refusal of a clash line, by the table of the lines
pub clash-told : (p : Program) (c : Certificate) (table : List Standing) (k : Clash) (at : ℕ) (ok : Bool) → table ≡ standings (lines p c)
    → at ≡ min k.first k.second → ok ≡ is_pair_in table k → wants at reason.Clash ok ≡ other_clash (all_told (lines p c)) k
clash-told p c table k at ok t n e =
    let counts = (certificate-runs p.clauses p.queries c).counts in
    let first = line-told k.first (lines p c) counts in
    let second = line-told k.second (lines p c) counts in
    let same : is_pair_in table k ≡ is_of_pair (all_told (lines p c)) k =
    ap (λ (ss : List Standing). is_pair_in ss k) t ∙ (λ i. of_some (sym first i) (λ a. of_some (sym second i) (is_pair a))) in
    λ i. wants (n i) reason.Clash ((e ∙ same) i)
