use Rattle.std.proofs.Common.{◌≡◌, string_bytes, sym, ap, ◌∙◌}
use Rattle.scasp_abduce.specs.NewNames.{named, negated}
use Rattle.scasp_abduce.proofs.NewNameLemmas.{name_in, put-made, try-falls, try-goes_on, try-stops}
use Rattle.scasp_abduce.proofs.new_names.new_name.Goals as goal

pub loop-text-smaller : goal.loop-text-smaller
loop-text-smaller c =
    let text = string_bytes c.loop-text.text in
    let made = string_bytes c.in_ok-text.text in
    let put : name_in c.intern.new.self c.in_ok-name.name ≡ named c.loop-text.names (negated text) =
    put-made c.loop-text.names c.intern.new.self text _ made _ c.in_ok-name.name c.as_str.ensures.value c.in_ok-text.ensures c.as_str-in-loop-text.ensures.value c.in_ok-name.ensures.texts c.in_ok-name.ensures.place c.len-count.ensures.distinct in
    let same : made ≡ negated text = c.in_ok-text.ensures ∙ ap negated c.as_str.ensures.value in
    try-falls c.args.taken.now c.loop-text.names c.intern.new.self text made c.in_ok-name.name put same (sym c.contains.ensures ∙ c.if-not-contains.false)

pub loop-text-preserved : goal.loop-text-preserved
loop-text-preserved c =
    let text = string_bytes c.loop-text.text in
    let made = string_bytes c.in_ok-text.text in
    let put : name_in c.intern.new.self c.in_ok-name.name ≡ named c.loop-text.names (negated text) =
    put-made c.loop-text.names c.intern.new.self text _ made _ c.in_ok-name.name c.as_str.ensures.value c.in_ok-text.ensures c.as_str-in-loop-text.ensures.value c.in_ok-name.ensures.texts c.in_ok-name.ensures.place c.len-count.ensures.distinct in
    let same : made ≡ negated text = c.in_ok-text.ensures ∙ ap negated c.as_str.ensures.value in
    try-goes_on c.args.taken.now c.loop-text.names c.intern.new.self text made c.in_ok-name.name put same (sym c.contains.ensures ∙ c.if-not-contains.false) ∙ c.loop-text.invariant

pub returns-then-not-contains : goal.returns-then-not-contains
returns-then-not-contains c =
    let text = string_bytes c.loop-text.text in
    let made = string_bytes c.in_ok-text.text in
    let put : name_in c.intern.new.self c.in_ok-name.name ≡ named c.loop-text.names (negated text) =
    put-made c.loop-text.names c.intern.new.self text _ made _ c.in_ok-name.name c.as_str.ensures.value c.in_ok-text.ensures c.as_str-in-loop-text.ensures.value c.in_ok-name.ensures.texts c.in_ok-name.ensures.place c.len-count.ensures.distinct in
    let same : made ≡ negated text = c.in_ok-text.ensures ∙ ap negated c.as_str.ensures.value in
    try-stops c.args.taken.now c.loop-text.names c.intern.new.self text made c.in_ok-name.name put same (sym c.contains.ensures ∙ c.if-not-contains.true) ∙ c.loop-text.invariant
