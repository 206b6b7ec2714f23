use Rattle.std.proofs.Common.{◌≡◌, ◌∙◌, ◌+◌, ◌<◌, ◌≤◌, List, [], ◌∷◌, ◌++◌, arith, get_or, length, map, subst, sym, take}
use Rattle.std.specs.Prelude.{All}
use Rattle.std.proofs.lemmas.List.{map_more, take_all}
use Rattle.std.proofs.lemmas.List.Elements.{All-push}
use Rattle.scasp_answers.specs.Files.View.{entry_of}
use Rattle.scasp_answers.specs.declared.states.state.Entry.{Entry}
use Rattle.scasp_syntax.specs.Tm.{Tm, items}
use Rattle.scasp_command_extend.specs.Outputs.{KeepsOutcome}
use Rattle.scasp_command_extend.proofs.laws.see_outcomes.Goals as goal

pub loop-entry-preserved : goal.loop-entry-preserved
loop-entry-preserved c =
    let seen = c.as_slice-entry-items.result.now in
    let i = c.loop-entry.entry-index in
    let x = c.entry-item.result in
    let d : List Tm = items c.args.domain.now in
    let below : i < length seen = omega (arith, c.loop-entry-test.true) in
    let more : map entry_of (take (i + 1) seen) ≡ map entry_of (take i seen) ++ entry_of (get_or seen i x) ∷ [] = map_more entry_of seen i x below in
    λ p.
    subst (All (KeepsOutcome p d)) (sym more)
    (All-push (KeepsOutcome p d) (map entry_of (take i seen)) (entry_of (get_or seen i x)) (c.loop-entry.invariant p)
    (subst (λ (e : Entry). KeepsOutcome p d (entry_of e)) c.entry-item.is (c.see_entry.ensures p)))

pub returns : goal.returns
returns c =
    let seen = c.as_slice-entry-items.result.now in
    let i = c.loop-entry.entry-index in
    let none : length seen ≤ i = omega (arith, c.loop-entry-test.false) in
    let whole : take i seen ≡ c.args.entries.now = take_all i seen none ∙ c.as_slice-entry-items.ensures in
    λ p. subst (λ (es : List Entry). All (KeepsOutcome p (items c.args.domain.now)) (map entry_of es)) whole (c.loop-entry.invariant p)
