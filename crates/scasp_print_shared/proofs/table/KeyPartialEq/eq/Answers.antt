use Rattle.std.proofs.Common.{◌∙◌, ◌&&◌, sym, ap}
use Rattle.std.specs.Str.{bytes_eq}
use Rattle.scasp_print_shared.proofs.KeyLemmas.{equal-parts}
use Rattle.scasp_print_shared.proofs.table.KeyPartialEq.eq.Goals as goal

pub returns-then-eq : goal.returns-then-eq
returns-then-eq c =
    let x = c.args.self.now in
    let y = c.args.other.now in
    c.eq-then-eq.ensures
    ∙ sym (ap (λ t. t && bytes_eq x.below.items y.below.items) (sym c.eq.ensures ∙ c.if-eq.true))
    ∙ sym (equal-parts x.words.now y.words.now x.below.items y.below.items)

pub returns-else-eq : goal.returns-else-eq
returns-else-eq c =
    let x = c.args.self.now in
    let y = c.args.other.now in
    c.if-eq.false
    ∙ sym (ap (λ t. t && bytes_eq x.below.items y.below.items) (sym c.eq.ensures ∙ c.if-eq.false))
    ∙ sym (equal-parts x.words.now y.words.now x.below.items y.below.items)
