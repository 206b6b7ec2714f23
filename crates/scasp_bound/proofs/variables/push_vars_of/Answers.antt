use Rattle.std.proofs.Common.{arith}
use Rattle.scasp_bound.proofs.PieceLemmas.{args_next, none_left, num_passed, var_found}
use Rattle.scasp_bound.proofs.variables.push_vars_of.Goals as goal

pub pieces-preserved-in-None : goal.pieces-preserved-in-None
pieces-preserved-in-None c =
    none_left c.args.bindings.now c.pop.new.self.items c.pieces.pieces.items c.in-Some.piece c.pieces.found _ c.in-Some.ensures.items (omega (arith, c.in-None.ensures.cases))
    c.pieces.invariant

pub pieces-preserved-in-Continue-branch-3 : goal.pieces-preserved-in-Continue-branch-3
pieces-preserved-in-Continue-branch-3 c =
    var_found c.args.bindings.now c.pop.new.self.items c.pieces.pieces.items c.push-in-Some-split_first.new.self.items c.in-Some.piece c.in-Var.x
    c.in-Some-split_first.term.now c.in-Some-split_first.left c.pieces.found c.push-in-Var.new.self _ c.in-Some.ensures.items c.in-Some-split_first.ensures.cases.0
    c.in_ok-push-in-Some-split_first.ensures.items c.in-Var.ensures c.in_ok-push-in-Var.ensures.ok c.pieces.invariant

pub pieces-preserved-in-Num : goal.pieces-preserved-in-Num
pieces-preserved-in-Num c =
    num_passed c.args.bindings.now c.pop.new.self.items c.pieces.pieces.items c.push-in-Some-split_first.new.self.items c.in-Some.piece c.in-Num.field-0
    c.in-Some-split_first.term.now c.in-Some-split_first.left c.pieces.found _ c.in-Some.ensures.items c.in-Some-split_first.ensures.cases.0
    c.in_ok-push-in-Some-split_first.ensures.items c.in-Num.ensures c.pieces.invariant

pub pieces-preserved : goal.pieces-preserved
pieces-preserved c =
    args_next c.args.bindings.now c.pop.new.self.items c.pieces.pieces.items c.push-in-Some-split_first.new.self.items c.push-in-Name.new.self.items c.in-Some.piece c.in-Name.args
    c.in-Name.field-0 c.in-Some-split_first.term.now c.in-Some-split_first.left c.pieces.found _ c.in-Some.ensures.items c.in-Some-split_first.ensures.cases.0
    c.in_ok-push-in-Some-split_first.ensures.items c.in-Name.ensures c.in_ok-push-in-Name.ensures.items c.pieces.invariant
