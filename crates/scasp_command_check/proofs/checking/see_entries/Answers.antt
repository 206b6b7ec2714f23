use Rattle.std.proofs.Common.{◌≡◌, ◌∙◌, ◌+◌, ◌<◌, ◌≤◌, List, [], ◌∷◌, ◌++◌, arith, get_or, length, map, subst, sym, take}
use Rattle.std.specs.Prelude.{All}
use Rattle.std.proofs.lemmas.List.{map_more, take_all}
use Rattle.std.proofs.lemmas.List.Elements.{All-push}
use Rattle.scasp_answers.specs.Files.View.{entry_of}
use Rattle.scasp_answers.specs.declared.states.state.Entry.{Entry}
use Rattle.scasp_command_check.specs.Outputs.{KeepsWorth}
use Rattle.scasp_command_check.proofs.checking.see_entries.Goals as goal

pub loop-entry-preserved : goal.loop-entry-preserved
loop-entry-preserved c =
    let items = c.as_slice-entry-items.result.now in
    let i = c.loop-entry.entry-index in
    let x = c.entry-item.result in
    let below : i < length items = omega (arith, c.loop-entry-test.true) in
    let more : map entry_of (take (i + 1) items) ≡ map entry_of (take i items) ++ entry_of (get_or items i x) ∷ [] = map_more entry_of items i x below in
    λ p.
    subst (All (KeepsWorth p)) (sym more)
    (All-push (KeepsWorth p) (map entry_of (take i items)) (entry_of (get_or items i x)) (c.loop-entry.invariant p)
    (subst (λ (e : Entry). KeepsWorth p (entry_of e)) c.entry-item.is (c.see_entry.ensures p)))

pub returns : goal.returns
returns c =
    let items = c.as_slice-entry-items.result.now in
    let i = c.loop-entry.entry-index in
    let none : length items ≤ i = omega (arith, c.loop-entry-test.false) in
    let whole : take i items ≡ c.args.entries.now = take_all i items none ∙ c.as_slice-entry-items.ensures in
    λ p. subst (λ (es : List Entry). All (KeepsWorth p) (map entry_of es)) whole (c.loop-entry.invariant p)
