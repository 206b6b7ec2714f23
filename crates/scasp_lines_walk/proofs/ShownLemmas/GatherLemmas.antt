-- What ended below a line, one after the other.
use Rattle.std.proofs.Common.{◌≡◌, ◌∙◌, ℕ, zero, suc, ◌-◌, ◌<◌, Bool, true, false, ◌&&◌, List, [], ◌∷◌, ◌++◌, length, drop, reverse, refl, ap, arith}
use Rattle.std.proofs.lemmas.List.{length-map, reverse-append}
use Rattle.scasp_cert.specs.Trees.{Branch, covering}
use Rattle.scasp_lines.proofs.CountLemmas.{numbers-covering}
use Rattle.scasp_lines.specs.Below.{rule_numbers}
use Rattle.scasp_lines_walk.specs.Shown.Inside.Ends.{gathered}
use Rattle.scasp_lines_walk.specs.declared.shown.ends.Ended.{Ended}

-- the first of them is taken
pub gathered_next : (e x : Ended) (n : ℕ) (es xs : List Ended) → 0 < n → es ≡ x ∷ xs → gathered e n es ≡ gathered (record { behind = x.behind; firm = e.firm && x.firm }) (n - 1) xs
gathered_next e x zero es xs h is = absurd (omega arith)
gathered_next e x (suc n) es xs h is =
    let k : n ≡ suc n - 1 = omega arith in
    ap (gathered e (suc n)) is ∙ ap (λ m. gathered (record { behind = x.behind; firm = e.firm && x.firm }) m xs) k

pub dropped_next : (x : Ended) (n : ℕ) (es xs : List Ended) → 0 < n → es ≡ x ∷ xs → drop n es ≡ drop (n - 1) xs
dropped_next x zero es xs h is = absurd (omega arith)
dropped_next x (suc n) es xs h is = let k : n ≡ suc n - 1 = omega arith in ap (drop (suc n)) is ∙ ap (λ m. drop m xs) k

pub and_false : (a b : Bool) → a ≡ false → (a && b) ≡ a
and_false true b e = cc
and_false false b e = refl

-- none is left
pub gathered_none : (e : Ended) (n : ℕ) (es : List Ended) → es ≡ [] → gathered e n es ≡ e
gathered_none e zero es is = refl
gathered_none e (suc n) es is = ap (gathered e (suc n)) is

-- what ended last is the first
pub end_last : (es : List Ended) (e : Ended) → reverse (es ++ e ∷ []) ≡ e ∷ reverse es
end_last es e = reverse-append es (e ∷ [])

-- as many rules stand below as there are
pub covering-counted : (cs : List (ℕ × Branch)) → length (rule_numbers (covering cs)) ≡ length cs
covering-counted cs = ap length (numbers-covering cs) ∙ length-map cs (λ (c : ℕ × Branch). c.0)
