use Rattle.std.proofs.Common.{◌∙◌, ◌++◌, ap}
use Rattle.std.specs.Prelude.{decimal}
use Rattle.scasp_command_extend.proofs.LineLemmas.{four_put}
use Rattle.scasp_command_extend.proofs.lines.put_model.Goals as goal

pub returns : goal.returns
returns c = λ set same.
    four_put _ _ _ _ _ _ _ _ _ c.in_ok-put.ensures
    (c.in_ok-put_number.ensures ∙ ap (λ n. c.put.new.out.items ++ decimal n) (c.count_atoms.ensures set same)) c.in_ok-put-2.ensures
    (c.in_ok-put_atom_lines.ensures set same)
