use Rattle.std.proofs.Common.{arith}
use Rattle.scasp_search_terms.proofs.VarLemmas.{args_next, name_passed}
use Rattle.scasp_search_terms.proofs.constraints.push_all_vars.Goals as goal

pub terms-preserved-in-Continue-branch-2 : goal.terms-preserved-in-Continue-branch-2
terms-preserved-in-Continue-branch-2 c =
    args_next c.terms.walk c.next.new.self c.enter.new.self c.in-App.args c.in-Some.term.now c.in-App.field-0 c.terms.found _ c.in-Some.ensures c.in-App.is
    c.in_ok-enter-in-App.ensures c.terms.invariant

pub terms-preserved : goal.terms-preserved
terms-preserved c =
    name_passed c.terms.walk c.next.new.self c.in-App.args c.in-Some.term.now c.in-App.field-0 c.terms.found _ c.in-Some.ensures c.in-App.is
    (omega (arith, c.len.ensures, c.if-len-gt0.false)) c.terms.invariant
