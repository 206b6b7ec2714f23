-- Parts are put below the innermost line, the last of the code's list.
use Rattle.std.proofs.Common.{◌≡◌, ◌∙◌, ℕ, ◌+◌, ◌-◌, ◌<◌, List, [], ◌∷◌, ◌++◌, length, map, reverse, take, sym, ap, arith, slice_index_or, slice_set, take_all, length-take-le}
use Rattle.std.proofs.lemmas.List.{reverse-append, map_push, take_more, set_at}
use Rattle.scasp_answers.specs.Blocks.Open as spec
use Rattle.scasp_answers.specs.declared.parts.open_line.Open.{Open}
use Rattle.scasp_answers.specs.Parts.View.{open_of}
use Rattle.scasp_answers.specs.Opens.View.{filled}

last_first : (lines : List Open) (line : Open) → reverse (map open_of (lines ++ line ∷ [])) ≡ open_of line ∷ reverse (map open_of lines)
last_first lines line = ap reverse (map_push open_of lines line) ∙ reverse-append (map open_of lines) (open_of line ∷ [])

pub fills_last : (lines : List Open) (n : ℕ) (top new : Open) (ps : List spec.Part) → n ≡ length lines → 0 < n → top ≡ slice_index_or lines (n - 1) top
    → open_of new ≡ spec.with_parts (open_of top) ps → reverse (map open_of (slice_set lines (n - 1) new)) ≡ filled (reverse (map open_of lines)) ps
fills_last lines n top new ps l h t e =
    let around = take (n - 1) lines in
    let old : lines ≡ around ++ top ∷ [] = sym (take_all (n - 1 + 1) lines (omega (arith, l, h))) ∙ take_more lines (n - 1) top (omega (arith, l, h)) ∙ ap (λ o. around ++ o ∷ []) (sym t) in
    let changed : slice_set lines (n - 1) new ≡ around ++ new ∷ [] = ap (λ ls. slice_set ls (n - 1) new) old ∙ set_at around top [] new (n - 1) (length-take-le (n - 1) lines (omega (arith, l))) in
    ap (λ ls. reverse (map open_of ls)) changed ∙ last_first around new ∙ ap (λ o. o ∷ reverse (map open_of around)) e
    ∙ sym (ap (λ ls. filled (reverse (map open_of ls)) ps) old ∙ ap (λ os. filled os ps) (last_first around top))
