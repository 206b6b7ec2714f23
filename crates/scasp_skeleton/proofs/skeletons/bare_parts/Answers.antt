use Rattle.scasp_cert.specs.Certificate.{certificate_of, checks_of}
use Rattle.scasp_cert.specs.View.{trees_of}
use Rattle.scasp_search_trees.specs.Stacked.{built_of}
use Rattle.scasp_skeleton.proofs.LineLemmas.{checks_made, trees_made}
use Rattle.scasp_skeleton.proofs.skeletons.bare_parts.Goals as goal

pub returns-clause-trees : goal.returns-clause-trees
returns-clause-trees c =
    trees_made (certificate_of c.args.cert.now) c.in_ok-lines.lines.items (built_of c.in_ok-stacks.stacks) (trees_of c.in_ok-trees.trees)
    c.in_ok-lines.ensures c.in_ok-stacks.ensures c.in_ok-trees.ensures.trees

pub returns-clause-checks : goal.returns-clause-checks
returns-clause-checks c =
    checks_made (certificate_of c.args.cert.now) c.in_ok-lines.lines.items (built_of c.in_ok-stacks.stacks) (checks_of c.in_ok-trees.checks)
    c.in_ok-lines.ensures c.in_ok-stacks.ensures c.in_ok-trees.ensures.checks
