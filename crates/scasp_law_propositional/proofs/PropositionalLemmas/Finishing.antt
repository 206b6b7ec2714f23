-- A tree that is accepted as it stands, of a program that keeps its map, is neither passed over nor an overflow.
use Rattle.std.specs.Prelude.{◌≡◌, ℕ, true, not, Some, List, [], ◌++◌}
use Rattle.std.specs.List.{list_all, list_any}
use Rattle.std.proofs.Common.{◌∙◌, refl, ap}
use Rattle.scasp_cert.specs.Certificate.{Certificate}
use Rattle.scasp_fill.specs.Finishing.Finishes.{IsSearched, Finishes}
use Rattle.scasp_fill.specs.declared.finishing.finishing.Finished.{Finished}
use Rattle.scasp_fill.specs.declared.finishing.finishing.Finished.TheVariants.{Answer, Passed, Overflow}
use Rattle.scasp_graph.specs.Map.{MapHolds}
use Rattle.scasp_graph.specs.declared.analysis.Analysis.{Analysis}
use Rattle.scasp_hint.specs.Finding.{overflows_in}
use Rattle.scasp_hint.specs.Satisfying.{sat}
use Rattle.scasp_law_outcomes.specs.Problems.{IsAnalysed, IsAnswer}
use Rattle.scasp_law_outcomes.proofs.Walking.{answers-keep-map}
use Rattle.scasp_law_propositional.proofs.PropositionalLemmas.Answering.{Right, answers-right}
use Rattle.scasp_law_propositional.specs.Propositional.Finished.{IsAnAnswer}
use Rattle.scasp_law_propositional.specs.Propositional.Problems.{HasTests}
use Rattle.scasp_law_propositional.specs.Propositional.Propositional.{is_propositional}
use Rattle.scasp_sound.specs.MapLevels.{covered}
use Rattle.scasp_search_rules.specs.Successors.Answers.{hint_lists, pair_lists}
use Rattle.scasp_search_rules.specs.Successors.Problems.{Problem}
use Rattle.scasp_syntax.specs.Programs.{numbered}
use Rattle.scasp_syntax.specs.declared.clause.Query.{Query}
use Rattle.scasp_syntax.specs.declared.con.Con.{Con}
use Rattle.scasp_syntax.specs.declared.program.Program.{Program}

searched : (p : Program) (c : Certificate) → Right p c → MapHolds p (covered c) c.map → IsSearched p c
searched p c h maps = record { apart = ap (list_all (λ cs. not (sat cs))) h.no_pair; map = maps }

finished : (p : Program) (c : Certificate) → Right p c → MapHolds p (covered c) c.map → (f : Finished) → Finishes p c f → IsAnAnswer f
finished p c h maps (Answer cert) k = (cert, refl)
finished p c h maps Passed k = absurd (k (searched p c h maps) c refl h.accepted)
finished p c h maps Overflow k =
    let none : (pair_lists p c ++ hint_lists p c) ≡ [] = ap (λ (z : List (List Con)). z ++ hint_lists p c) h.no_pair ∙ h.no_hint in
    absurd (cc (k (searched p c h maps), ap (list_any overflows_in) none))

pub none-passed : (p : Problem) (a : Analysis) → HasTests p → IsAnalysed p a → is_propositional p.program ≡ true → (q : Query)
    → numbered p.program.queries p.query ≡ Some q → (budget : ℕ) (c : Certificate) → IsAnswer p q budget c
    → (f : Finished) → Finishes p.program c f → IsAnAnswer f
none-passed p a tests is e q named budget c met f k =
    finished p.program c (answers-right p a tests is e q named budget c met) (answers-keep-map p a is q budget c met) f k
