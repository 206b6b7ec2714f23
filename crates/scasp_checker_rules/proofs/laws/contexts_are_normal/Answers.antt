use Rattle.scasp_lines.specs.Lines.{lines}
use Rattle.scasp_checker_rules.specs.Normality.{LineNormal}
use Rattle.scasp_unify.proofs.Members.{Each-member}
use Rattle.scasp_checker_rules.proofs.NormalityLemmas.{context-normal, opened-normal}
use Rattle.scasp_checker_rules.proofs.laws.contexts_are_normal.Goals as goal

pub returns : goal.returns
returns x p c n l h =
    context-normal c.given l.here.opened n.given (opened-normal p c (λ k i. Each-member LineNormal (lines p c) k n.lines_normal i) l h)
