-- What stands on the stacks of a tree in the making.
use Rattle.std.specs.Prelude.{ℕ, List, [], ◌∷◌, drop, map, reverse}
use Rattle.scasp_cert.specs.Certificate.{check_of}
use Rattle.scasp_cert.specs.Trees.{Tree, Branch}
use Rattle.scasp_cert.specs.View.{branch_of, cover_of, tree_of}
use Rattle.scasp_cert.specs.declared.certificate.Check.{Check}
use Rattle.scasp_cert.specs.declared.tree.Case.{Case}
use Rattle.scasp_cert.specs.declared.tree.Cover.{Cover}
use Rattle.scasp_cert.specs.declared.tree.Node.{Node}
use Rattle.scasp_search_trees.specs.declared.stacks.Stacks.{Stacks}
use Rattle.scasp_search_rules.specs.Successors.Trees.{Built, first_case}

abbrev pub nodes_in : List Node → List Tree
nodes_in ns = reverse (map tree_of ns)

abbrev pub cases_in : List Case → List Branch
cases_in cs = reverse (map branch_of cs)

abbrev pub covers_in : List Cover → List (ℕ × Branch)
covers_in cs = reverse (map cover_of cs)

abbrev pub checks_in : List Check → List (ℕ × Branch)
checks_in cs = reverse (map check_of cs)

abbrev pub built_of : Stacks → Built
built_of s = record {
  nodes = nodes_in s.nodes.items;
  cases = cases_in s.cases.items;
  covers = covers_in s.covers.items;
  checks = checks_in s.checks.items;
}

abbrev pub without_covers : ℕ → Built → Built
without_covers n b = record b { covers = drop n b.covers }

-- a rule under a negated literal, or a check, over the first case
abbrev pub with_rule : ℕ → Built → Built
with_rule k b = record b { covers = (k, first_case b.cases) ∷ b.covers; cases = drop 1 b.cases }

abbrev pub with_check : ℕ → Built → Built
with_check k b = record b { checks = (k, first_case b.cases) ∷ b.checks; cases = drop 1 b.cases }
