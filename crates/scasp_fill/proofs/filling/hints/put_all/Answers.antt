use Rattle.std.proofs.Common.{◌∙◌, ◌+◌, ◌<◌, ◌++◌, ◌&&◌, Bool, ap, cond, length, map, subst, sym}
use Rattle.std.proofs.Math.Bool.{and-true}
use Rattle.std.proofs.lemmas.List.{append-nil}
use Rattle.scasp_fill.specs.Filling.Inside.Findings.{all_known, lists_asked}
use Rattle.scasp_fill.specs.Filling.Inside.Left.{left_if}
use Rattle.scasp_fill.specs.Filling.Inside.Pieces.{hinted_at, hinted_value}
use Rattle.scasp_fill.proofs.FillingLemmas.LeftLemmas.{one-less}
use Rattle.scasp_fill.proofs.filling.hints.put_all.Goals as goal

pub loop-more-preserved : goal.loop-more-preserved
loop-more-preserved c =
    let given = c.args.given.now in
    let old = c.loop-more in
    record {
      lines =
          c.in_ok-more.ensures.lines ∙ ap (λ (b : Bool). map hinted_value old.made.all.items ++ map (hinted_at given) (left_if b old.left)) (sym c.loop-more-test.true)
          ∙ old.invariant.lines;
      known =
          c.in_ok-more.ensures.known ∙ ap (λ (b : Bool). old.made.known && all_known (lists_asked given (left_if b old.left))) (sym c.loop-more-test.true)
          ∙ old.invariant.known;
    }

pub loop-more-smaller : goal.loop-more-smaller
loop-more-smaller c =
    subst (λ (b : Bool). length (left_if c.in_ok-more.more c.put_next.new.left) + cond c.in_ok-more.more 1 0 < length (left_if b c.loop-more.left) + cond b 1 0)
    (sym c.loop-more-test.true) (one-less c.in_ok-more.more c.put_next.new.left c.loop-more.left c.in_ok-more.ensures.less)

pub returns-clause-lines : goal.returns-clause-lines
returns-clause-lines c =
    let old = c.loop-more in
    sym (append-nil (map hinted_value old.made.all.items))
    ∙ ap (λ (b : Bool). map hinted_value old.made.all.items ++ map (hinted_at c.args.given.now) (left_if b old.left)) (sym c.loop-more-test.false)
    ∙ old.invariant.lines

pub returns-clause-known : goal.returns-clause-known
returns-clause-known c =
    let old = c.loop-more in
    sym (and-true old.made.known)
    ∙ ap (λ (b : Bool). old.made.known && all_known (lists_asked c.args.given.now (left_if b old.left))) (sym c.loop-more-test.false)
    ∙ old.invariant.known
