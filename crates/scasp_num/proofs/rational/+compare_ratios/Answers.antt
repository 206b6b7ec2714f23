use Rattle.std.proofs.Common.{◌∙◌, inl, inr}
use Rattle.scasp_num.proofs.Ratios.{whole-differ, rests-zero, rests-compare}
use Rattle.scasp_num.proofs.rational.+compare_ratios.Goals as goal
use Rattle.scasp_num.proofs.rational.+compare_ratios.Goals.{then-left_rest-eq0-via-then-left_rest-eq0, then-left_rest-eq0-via-else-left_rest-eq0+then-right_rest-eq0}

pub returns-then-left-right : goal.returns-then-left-right
returns-then-left-right t c =
    let a = c.args in
    c.cmp.ensures ∙ whole-differ a.a a.b a.c a.d c.requires.first c.requires.second c.if-left-right.true

pub returns-then-left_rest-eq0 : goal.returns-then-left_rest-eq0
returns-then-left_rest-eq0 t c =
    let a = c.args in
    c.cmp-then-left_rest-eq0.ensures ∙ rests-zero a.a a.b a.c a.d c.requires.first c.requires.second c.if-left-right.false
    (elim c.then-left_rest-eq0.branch [ then-left_rest-eq0-via-then-left_rest-eq0 w ↦ inl w.if-left_rest-eq0.true | then-left_rest-eq0-via-else-left_rest-eq0+then-right_rest-eq0 w ↦ inr w.if-right_rest-eq0.true ])

pub returns : goal.returns
returns t c =
    let a = c.args in
    c.compare_ratios.ensures ∙ rests-compare a.a a.b a.c a.d c.if-left-right.false
