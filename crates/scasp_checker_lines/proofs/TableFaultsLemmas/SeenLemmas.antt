-- The test of a literal that was shown before.
use Rattle.std.proofs.Common.{◌≡◌, ◌∙◌, ℕ, Bool, true, List, Result, refl, ap, subst}
use Rattle.scasp_checker_rules.specs.LineFaults.{is_kind, node_faults}
use Rattle.scasp_checker_rules.specs.Refusals.{of_some}
use Rattle.scasp_checker_rules.specs.Targets.{is_target}
use Rattle.scasp_checker_rules.specs.Wholes.{Whole}
use Rattle.scasp_cert.specs.Trees.{seen_tree}
use Rattle.scasp_lines.specs.Dues.{Due, goal, fact, nothing}
use Rattle.scasp_lines.specs.Places.{Place}
use Rattle.scasp_checker_rules.specs.declared.refusal.Refusal.{Refusal}
use Rattle.scasp_checker_answer.specs.Judged.{Judges}
use Rattle.scasp_checker_answer.specs.declared.judged.CheckErr.{CheckErr}
use Rattle.scasp_checker_lines.specs.NodeFaults.Nodes.{seen_tests}
use Rattle.scasp_syntax.specs.Programs.{numbered}
use Rattle.scasp_syntax.specs.declared.atom.Lit.{Lit}

kind-seen : (due : Due) (lit : Lit) (to : ℕ) → is_kind true due (seen_tree lit 0) ≡ is_kind true due (seen_tree lit to)
kind-seen (goal l) lit to = refl
kind-seen (fact o) lit to = refl
kind-seen nothing lit to = refl

pub seen-faults : (w : Whole) (at : ℕ) (here : Place) (due : Due) (lit : Lit) (to : ℕ) → w.positives ≡ true
    → seen_tests w at here due lit (of_some (numbered w.lines to) (is_target lit at here)) ≡ node_faults w at here due (seen_tree lit to)
seen-faults w at here due lit to e = rw (e, kind-seen due lit to) refl

-- the judgement of the test where it is told whether the literal was shown
pub seen-judged : (w : Whole) (at : ℕ) (here : Place) (due : Due) (lit : Lit) (to : ℕ) (shown : Bool) (r : Result (Unit {0}) CheckErr) → w.positives ≡ true
    → shown ≡ of_some (numbered w.lines to) (is_target lit at here) → Judges r (seen_tests w at here due lit shown) → Judges r (node_faults w at here due (seen_tree lit to))
seen-judged w at here due lit to shown r e f h =
    subst (λ (rs : List Refusal). Judges r rs) (ap (seen_tests w at here due lit) f ∙ seen-faults w at here due lit to e) h
