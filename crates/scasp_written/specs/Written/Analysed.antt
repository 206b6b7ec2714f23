-- The goal of a search of a program, by the program's analysis.
use Rattle.std.specs.Prelude.{◌≡◌, ℕ}
use Rattle.scasp_graph.specs.Analyses.{IsAnalysis}
use Rattle.scasp_graph.specs.declared.analysis.Analysis.{Analysis}
use Rattle.scasp_nmr.specs.Checks.{checks_of}
use Rattle.scasp_written.specs.declared.written.goal.Goal.{Goal}
use Rattle.scasp_syntax.specs.declared.program.Program.{Program}

-- the goal has the checks and the map of the program's analysis
pub record IsGoalOf (program : Program) (query queried fresh : ℕ) (goal : Goal) : Type 0 where
  pub analysis : Analysis
  pub is : IsAnalysis program analysis
  pub goal_is : goal ≡ record { program = program; query = query; queried = queried; checks = checks_of program analysis.odd_rules; map = analysis.map; fresh = fresh }
