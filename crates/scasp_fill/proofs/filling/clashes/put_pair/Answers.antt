use Rattle.std.proofs.Common.{◌≡◌, ◌∙◌, ap, subst, sym}
use Rattle.std.specs.Prelude.{OnOk}
use Rattle.scasp_fill.specs.Filling.Inside.Findings.{found_of}
use Rattle.scasp_fill.specs.declared.filling.clashes.Clashing.{Clashing}
use Rattle.scasp_hint_steps.specs.Pruned.{found_pruned}
use Rattle.scasp_checker.proofs.PartnersLemmas.NamedLemmas.{named-apart}
use Rattle.scasp_lines_walk.specs.Shown.TableView.{told_of}
use Rattle.scasp_fill.proofs.FillingLemmas.ClashFoundLemmas.{by-hint, by-terms, by-unknown}
use Rattle.scasp_fill.proofs.filling.clashes.put_pair.Goals as goal

pub returns-then-branch : goal.returns-then-branch
returns-then-branch c =
    let a = told_of c.args.first.now in
    let b = told_of c.args.second.now in
    by-terms c.args.free c.args.given.now a b c.args.made.now (named-apart c.args.free c.args.given.now a b (sym c.in_ok-differ_by_names.ensures ∙ c.if-branch.true))

pub returns-in-Shown : goal.returns-in-Shown
returns-in-Shown c =
    subst (λ (x : Clashing). OnOk c.put_shown.result (c.put_shown.new.made ≡ x))
    (by-hint c.args.free c.args.given.now (told_of c.args.first.now) (told_of c.args.second.now) c.args.made.now c.in-Shown.hint
    (sym (ap found_of c.in-Shown.is) ∙ c.in_ok-hint.ensures ∙ ap found_pruned (c.as_slice.ensures ∙ c.in_ok-list.ensures)))
    c.put_shown.ensures

pub returns : goal.returns
returns c =
    subst (λ (x : Clashing). OnOk c.put_turned-in-Unknown.result (c.put_turned-in-Unknown.new.made ≡ x))
    (by-unknown c.args.free c.args.given.now (told_of c.args.first.now) (told_of c.args.second.now) c.args.made.now
    (sym (ap found_of c.in-Unknown.is) ∙ c.in_ok-hint.ensures ∙ ap found_pruned (c.as_slice.ensures ∙ c.in_ok-list.ensures)))
    c.put_turned-in-Unknown.ensures
