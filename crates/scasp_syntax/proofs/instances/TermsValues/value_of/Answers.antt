use Rattle.std.proofs.Common.{ap, sym, ◌∙◌, ◌-◌}
use Rattle.std.specs.Option.{option_map, option_copied}
use Rattle.scasp_syntax.specs.Tm.{items, var}
use Rattle.scasp_syntax.proofs.TermLemmas.{giving-at, giving-behind}
use Rattle.scasp_syntax.specs.View.{tm_of}
use Rattle.scasp_syntax.proofs.instances.TermsValues.value_of.Goals as goal

pub returns-in_ok-copy-in-Some : goal.returns-in_ok-copy-in-Some
returns-in_ok-copy-in-Some c =
    ap tm_of c.in_ok-copy-in-Some.ensures
    ∙ sym (giving-at (items c.args.self.now) c.args.x (tm_of c.in-Some.value.now) (sym c.get.ensures ∙ ap (λ o. option_map tm_of (option_copied o)) c.in-Some.is))

pub returns-in-None : goal.returns-in-None
returns-in-None c =
    ap (λ n. var (c.args.x - n)) c.len.ensures
    ∙ sym (giving-behind (items c.args.self.now) c.args.x (sym c.get.ensures ∙ ap (λ o. option_map tm_of (option_copied o)) c.in-None.is))
