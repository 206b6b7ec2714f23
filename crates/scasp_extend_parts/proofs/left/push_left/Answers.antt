use Rattle.std.proofs.Common.{◌∙◌, ap, sym}
use Rattle.scasp_extend_parts.proofs.LeftLemmas.{put-kept, put-known, put-wrong}
use Rattle.scasp_extend_parts.proofs.left.push_left.Goals as goal

pub returns-then-branch : goal.returns-then-branch
returns-then-branch c =
    λ map g sorted.
    put-known c.args.told.now.trues c.args.told.now.falses c.args.instance map c.args.made.now g (sym c.in_ok-knows.ensures ∙ c.if-branch.true) sorted

pub returns-in_ok-push-in-Some : goal.returns-in_ok-push-in-Some
returns-in_ok-push-in-Some c =
    λ map g sorted.
    put-kept c.args.told.now.trues c.args.told.now.falses c.args.instance c.in-Some.body map c.push.new.self g (sym c.in_ok-knows.ensures ∙ c.if-branch.false)
    (sym c.in_ok-body.ensures ∙ c.in-Some.is) (c.in_ok-push-in-Some.ensures map g sorted)

pub returns-in-None : goal.returns-in-None
returns-in-None c =
    λ map g sorted.
    put-wrong c.args.told.now.trues c.args.told.now.falses c.args.instance map c.args.made.now g (sym c.in_ok-body.ensures ∙ c.in-None.is) sorted
