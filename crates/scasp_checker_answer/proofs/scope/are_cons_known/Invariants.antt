use Rattle.std.proofs.Common.{◌≡◌, drop}
use Rattle.std.specs.List.{list_all}
use Rattle.scasp_lines.specs.Known.{is_con_known}
use Rattle.scasp_checker_answer.proofs.scope.are_cons_known.Given as goal

abbrev pub invariant-loop-con : goal.invariant-loop-con
invariant-loop-con g l =
    list_all (is_con_known (g.S.Scope.known l.scope)) (drop l.con-index l.con-items) ≡ list_all (is_con_known (g.S.Scope.known l.scope)) l.cons
