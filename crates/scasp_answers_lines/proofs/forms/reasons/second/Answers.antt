use Rattle.std.proofs.Common.{◌≡◌, ◌∙◌, ℕ, List, drop, map, codes, refl, sym, subst}
use Rattle.scasp_answers_terms.specs.Tokens.Readers.{Parsed, alone, any_of}
use Rattle.scasp_answers_terms.specs.Tokens.Reasons.{reasons}
use Rattle.scasp_answers_terms.specs.Tokens.Tokens.{Token}
use Rattle.scasp_answers_terms.specs.Tokens.View.{Reads}
use Rattle.scasp_answers_lines.proofs.FormsLemmas.ConLemmas.{skip-one}
use Rattle.scasp_answers_lines.proofs.forms.reasons.second.Goals as goal

abbrev readers : List (List ℕ) → List (List Token → Parsed (List ℕ))
readers rs = map (λ r. alone r r) rs

pub returns : goal.returns
returns c =
    let others : any_of (readers (drop 5 reasons)) c.args.cursor.now ≡ any_of (readers (drop 10 reasons)) c.skips-5.new.self =
    skip-one (codes "wrong instance") (readers (drop 6 reasons)) c.args.cursor.now c.skips.new.self c.if-skips.ensures.passes (c.if-skips.ensures.kept refl)
    ∙ skip-one (codes "wrong children") (readers (drop 7 reasons)) c.skips.new.self c.skips-2.new.self c.if-skips-2.ensures.passes (c.if-skips-2.ensures.kept refl)
    ∙ skip-one (codes "uncovered case") (readers (drop 8 reasons)) c.skips-2.new.self c.skips-3.new.self c.if-skips-3.ensures.passes (c.if-skips-3.ensures.kept refl)
    ∙ skip-one (codes "wrong item") (readers (drop 9 reasons)) c.skips-3.new.self c.skips-4.new.self c.if-skips-4.ensures.passes (c.if-skips-4.ensures.kept refl)
    ∙ skip-one (codes "wrong split") (readers (drop 10 reasons)) c.skips-4.new.self c.skips-5.new.self c.if-skips-5.ensures.passes (c.if-skips-5.ensures.kept refl) in
    subst (λ read. Reads (λ r. r.now) read c.third.result c.third.new.cursor) (sym others) c.third.ensures
