-- For propositional programs no finished tree of the written search is refused.
use Rattle.std.specs.Prelude.{◌≡◌, ℕ, IsTrue, Some}
use Rattle.scasp_checker_rules.specs.Accepted.{Accepts}
use Rattle.scasp_cert.specs.Certificate.{Certificate}
use Rattle.scasp_graph.specs.declared.analysis.Analysis.{Analysis}
use Rattle.scasp_law_outcomes.specs.Problems.{IsAnalysed, IsAnswer}
use Rattle.scasp_law_propositional.specs.Propositional.Problems.{HasTests}
use Rattle.scasp_law_propositional.specs.Propositional.Propositional.{is_propositional}
use Rattle.scasp_search_rules.specs.Successors.Problems.{Problem}
use Rattle.scasp_syntax.specs.Programs.{numbered}
use Rattle.scasp_syntax.specs.declared.clause.Query.{Query}

-- each answer that the search for a query of a propositional program meets is accepted as it stands, without any hint
abbrev pub PropositionalTreesAreAccepted : Type 0
PropositionalTreesAreAccepted =
    (p : Problem) (a : Analysis) → HasTests p → IsAnalysed p a → IsTrue (is_propositional p.program) → (q : Query) → numbered p.program.queries p.query ≡ Some q
    → (budget : ℕ) (c : Certificate) → IsAnswer p q budget c → Accepts p.program c
