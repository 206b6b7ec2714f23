use Rattle.std.proofs.Common.{List, [], ◌∷◌, ◌++◌, sym, ap, subst, ◌∙◌}
use Rattle.scasp_list.specs.Each.{Each}
use Rattle.scasp_num.specs.declared.hints.Step.{Step}
use Rattle.scasp_rows.specs.Steps.{StepInRange}
use Rattle.scasp_simplex.specs.Reached.{AddsFalse}
use Rattle.scasp_simplex.proofs.DoubledLemmas.{double, double-added}
use Rattle.scasp_simplex.proofs.fallback.doubled.Goals as goal

pub returns-in-Ok : goal.returns-in-Ok
returns-in-Ok c =
    subst (λ (steps : List Step). AddsFalse c.args.rows.now steps × Each StepInRange steps)
    (sym (c.in-Ok.ensures.ok ∙ ap (λ (steps : List Step). steps ++ double c.args.number ∷ []) c.new-steps.ensures))
    (double-added c.args.rows.now c.args.number c.requires.rows c.requires.number)
