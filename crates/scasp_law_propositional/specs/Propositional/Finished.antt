-- For propositional programs each finished tree of the written search becomes an answer.
use Rattle.std.specs.Prelude.{◌≡◌, ℕ, IsTrue, Some}
use Rattle.scasp_cert.specs.Certificate.{Certificate}
use Rattle.scasp_cert.specs.declared.certificate.Cert.{Cert}
use Rattle.scasp_fill.specs.Finishing.Finishes.{Finishes}
use Rattle.scasp_fill.specs.declared.finishing.finishing.Finished.{Finished}
use Rattle.scasp_fill.specs.declared.finishing.finishing.Finished.TheVariants.{Answer}
use Rattle.scasp_graph.specs.declared.analysis.Analysis.{Analysis}
use Rattle.scasp_law_outcomes.specs.Problems.{IsAnalysed, IsAnswer}
use Rattle.scasp_law_propositional.specs.Propositional.Problems.{HasTests}
use Rattle.scasp_law_propositional.specs.Propositional.Propositional.{is_propositional}
use Rattle.scasp_search_rules.specs.Successors.Problems.{Problem}
use Rattle.scasp_syntax.specs.Programs.{numbered}
use Rattle.scasp_syntax.specs.declared.clause.Query.{Query}

abbrev pub IsAnAnswer : Finished → Type 0
IsAnAnswer f = (cert : Cert) × (f ≡ Answer cert)

-- what each answer of the search comes to, by any code that finishes trees as it should, is an answer: it is not passed over, and no overflow
abbrev pub NoneIsPassedOver : Type 0
NoneIsPassedOver =
    (p : Problem) (a : Analysis) → HasTests p → IsAnalysed p a → IsTrue (is_propositional p.program) → (q : Query) → numbered p.program.queries p.query ≡ Some q
    → (budget : ℕ) (c : Certificate) → IsAnswer p q budget c → (f : Finished) → Finishes p.program c f → IsAnAnswer f
