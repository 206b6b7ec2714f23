use Rattle.std.proofs.Common.{arith, ◌≡◌, ◌<◌, ◌≤◌, ℕ, length, map, drop, get_or, string_bytes, Global, List, [], ◌∷◌, None, Some, refl, sym, ◌∙◌, String}
use Rattle.std.proofs.lemmas.List.{take_rest}
use Rattle.scasp_command_words.specs.Options.{with_option, with_options}
use Rattle.scasp_command_words.specs.declared.options.Options.{Options}
use Rattle.scasp_command_words.proofs.options.+with_options.Goals as goal

one-word : {S : Type 0} (v : S → List ℕ) (given : Options) (words : List S) → 1 ≤ length words → length words < 2 → None ≡ with_options given (map v words)
one-word v given [] some few = absurd (omega arith)
one-word v given (w ∷ []) some few = refl
one-word v given (w ∷ x ∷ ws) some few = absurd (omega arith)

more-words : {S : Type 0} (v : S → List ℕ) (given next : Options) (words : List S) (name number : S) → 2 ≤ length words
    → name ≡ get_or words 0 name → number ≡ get_or words 1 number → with_option given (v name) (v number) ≡ Some next
    → with_options next (map v (drop 2 words)) ≡ with_options given (map v words)
more-words v given next [] name number some first second found = absurd (omega arith)
more-words v given next (w ∷ []) name number some first second found = absurd (omega arith)
more-words v given next (a ∷ b ∷ ws) name number some first second found =
    let same : with_option given (v a) (v b) ≡ Some next = cc in
    rw same refl

pub returns-in-len1 : goal.returns-in-len1
returns-in-len1 t c = one-word (string_bytes {Z = Global}) c.args.given c.args.words.now (omega arith) (omega arith)

pub returns-in_ok-with_option-in-len2-up : goal.returns-in_ok-with_option-in-len2-up
returns-in_ok-with_option-in-len2-up t c =
    let words = c.args.words.now in
    let v : String Global → List ℕ = string_bytes {Z = Global} in
    let next = c.in_ok-with_option-in-len2-up.field-0 in
    let found : with_option c.args.given (v c.name-item.result) (v c.number-item.result) ≡ Some next =
    rw (c.as_str.ensures.value, c.as_str-in-len2-up.ensures.value) at (sym c.in_ok-with_option-in-len2-up.ensures) in
    let rest : c.with_options.result ≡ with_options next (map v (drop 2 words)) = rw (take_rest words 2) at c.with_options.ensures in
    rest ∙ more-words v c.args.given next words c.name-item.result c.number-item.result c.in-len2-up.len_at_least c.name-item.is c.number-item.is found
