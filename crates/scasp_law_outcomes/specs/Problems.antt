-- What an answer has of the problem that its search is about.
use Rattle.std.specs.Prelude.{◌≡◌, ℕ, [], ◌∷◌, map}
use Rattle.scasp_cert.specs.Certificate.{Certificate}
use Rattle.scasp_graph.specs.Analyses.{IsAnalysis}
use Rattle.scasp_graph.specs.Map.{MapHolds}
use Rattle.scasp_graph.specs.declared.analysis.Analysis.{Analysis}
use Rattle.scasp_nmr.specs.Checks.{checks_of, clause_in}
use Rattle.scasp_sound.specs.MapLevels.{covered}
use Rattle.scasp_search_rules.specs.Successors.Problems.{Problem}
use Rattle.scasp_search_rules.specs.Successors.Search.{search_for, start}
use Rattle.scasp_syntax.specs.declared.clause.Query.{Query}
use Rattle.scasp_law_outcomes.specs.Giving.{GivesAnswer}

-- It names the problem's query, checks the problem's clauses in their order, and has the problem's map.
pub record IsOfProblem (p : Problem) (c : Certificate) : Type 0 where
  pub query : c.query ≡ p.query
  pub checks : covered c ≡ map clause_in p.checks
  pub map : c.map ≡ p.map

-- The problem's checks and its map are those that the analysis of its program gives.
pub record IsAnalysed (p : Problem) (a : Analysis) : Type 0 where
  pub analysis : IsAnalysis p.program a
  pub checks : p.checks ≡ checks_of p.program a.odd_rules
  pub map : p.map ≡ a.map

-- the search for answers to the query, from its start, meets this answer
abbrev pub IsAnswer : Problem → Query → ℕ → Certificate → Type 0
IsAnswer p q budget c = GivesAnswer (search_for p q) budget c (start q p.checks ∷ []) 0

abbrev pub AnswersAreOfProblem : Type 0
AnswersAreOfProblem = (p : Problem) (q : Query) (budget : ℕ) (c : Certificate) → IsAnswer p q budget c → IsOfProblem p c

abbrev pub AnswersKeepMap : Type 0
AnswersKeepMap =
    (p : Problem) (a : Analysis) → IsAnalysed p a → (q : Query) (budget : ℕ) (c : Certificate) → IsAnswer p q budget c
    → MapHolds p.program (covered c) c.map
