use Rattle.std.proofs.Common.{◌≡◌, ◌∷◌, [], reverse, sym, ap, ◌∙◌, arith}
use Rattle.std.proofs.lemmas.List.{nil_from_length}
use Rattle.scasp_syntax.specs.Tm.{Tm}
use Rattle.scasp_syntax.specs.Values.{under}
use Rattle.scasp_syntax.specs.View.{tm_of}
use Rattle.scasp_bind.specs.Inside.Heads.{assembled, tops}
use Rattle.scasp_bind.specs.Inside.Soundness.{resolver}
use Rattle.scasp_bind.proofs.HeadLemmas.{tops-last, whole_again}
use Rattle.scasp_bind.proofs.resolving.resolved.Goals as goal

pub unreachable-requires : goal.unreachable-requires
unreachable-requires c =
    let u : Tm = under (resolver c.args.store.now) (tm_of c.args.term.now) in
    let all : tops c.assemble.new.done.items ≡ u ∷ [] =
    c.in_ok-assemble.ensures ∙ ap (λ ds. assembled (reverse c.in_ok-heads.heads.items) (tops ds)) c.new-done.ensures.items ∙ whole_again u c.in_ok-heads.heads.items c.in_ok-heads.ensures in
    let empty : c.assemble.new.done.items ≡ [] = nil_from_length c.assemble.new.done.items (omega (arith, c.in-None.ensures.cases.0)) in
    let bad : [] ≡ u ∷ [] = sym (ap tops empty) ∙ all in
    cc

pub returns : goal.returns
returns c =
    let u : Tm = under (resolver c.args.store.now) (tm_of c.args.term.now) in
    let all : tops c.assemble.new.done.items ≡ u ∷ [] =
    c.in_ok-assemble.ensures ∙ ap (λ ds. assembled (reverse c.in_ok-heads.heads.items) (tops ds)) c.new-done.ensures.items ∙ whole_again u c.in_ok-heads.heads.items c.in_ok-heads.ensures in
    let one : tm_of c.in-Some.made ∷ tops c.pop.new.self.items ≡ u ∷ [] = sym (tops-last c.pop.new.self.items c.in-Some.made) ∙ ap tops (sym c.in-Some.ensures.items) ∙ all in
    cc
