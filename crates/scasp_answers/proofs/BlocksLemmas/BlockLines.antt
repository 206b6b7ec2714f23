-- The text of a block is the text of its lines.
use Rattle.std.specs.Prelude.{◌≡◌, ℕ, List, [], ◌∷◌, ◌++◌, map, flat_map, codes}
use Rattle.std.proofs.Common.{refl, ap, ◌∙◌, append_assoc}
use Rattle.scasp_cert.specs.Trees.{listed}
use Rattle.scasp_cert.specs.Certificate.{Certificate}
use Rattle.scasp_cert.specs.Text.Terms.{list_text}
use Rattle.scasp_cert.specs.Text.Trees.{line_text, trees_text}
use Rattle.scasp_cert.specs.Text.Block.{answer_line as answer_text, given_line as given_text, check_text, clash_line as clash_text, map_line as map_text, block_text}
use Rattle.scasp_answers_terms.specs.Tokens.Lines.{words_of, answer_line, given_line, sample_line, tree_line, end_line, clash_line, map_line}
use Rattle.scasp_answers.specs.Blocks.Blocks.{Placed, at, placed_text, trees_lines, check_lines, block_lines}
use Rattle.scasp_answers.proofs.BlocksLemmas.TreeLines.{joined, trees-lines}
use Rattle.scasp_answers.proofs.BlocksLemmas.OtherLines.{mapped, answer-lines, given-lines, clash-lines, map-lines, check-lines}

pub nested :
    {A B : Type 0} (f : A → List ℕ) (g : B → List ℕ) (h : A → List B) → ((x : A) → f x ≡ flat_map g (h x)) → (xs : List A)
    → flat_map f xs ≡ flat_map g (flat_map h xs)
nested f g h e [] = refl
nested f g h e (x ∷ xs) = joined g (h x) (flat_map h xs) (f x) (flat_map f xs) (e x) (nested f g h e xs)

regrouped : (a b c d e : List ℕ) → a ++ b ++ c ++ d ++ e ≡ a ++ (b ++ c ++ d ++ e)
regrouped a b c d e = simp append_assoc refl

cut_in_two : (a b c d e : List ℕ) → a ++ b ++ (c ++ d) ++ e ≡ a ++ b ++ c ++ (d ++ e)
cut_in_two a b c d e = simp append_assoc refl

-- the first lines, up to the given ones
answers : (names : List (List ℕ)) (c : Certificate) (n : ℕ)
    → answer_text names c n ++ flat_map (given_text names) c.given
    ≡ flat_map (placed_text names) (at 0 (answer_line c.query n c.terms) ∷ map (λ g. at 0 (given_line g)) c.given)
answers names c n =
    ap (λ l. l ++ flat_map (given_text names) c.given) (answer-lines names c n)
    ∙ ap (λ l. placed_text names (at 0 (answer_line c.query n c.terms)) ++ l) (mapped (given_text names) (placed_text names) (λ g. at 0 (given_line g)) (given-lines names) c.given)

-- the sample, and the query items below `tree`
items : (names : List (List ℕ)) (c : Certificate)
    → codes "sample " ++ list_text names c.sample ++ codes "\ntree\n" ++ trees_text names 1 (listed c.trees)
    ≡ flat_map (placed_text names) (at 0 (sample_line c.sample) ∷ at 0 tree_line ∷ trees_lines 1 (listed c.trees))
unfolding line_text words_of
items names c =
    ap (λ l. codes "sample " ++ list_text names c.sample ++ codes "\ntree\n" ++ l) (trees-lines names 1 (listed c.trees))
    ∙ cut_in_two (codes "sample ") (list_text names c.sample) (codes "\n") (codes "tree\n") (flat_map (placed_text names) (trees_lines 1 (listed c.trees)))

last : (names : List (List ℕ)) → codes "end\n" ≡ flat_map (placed_text names) (at 0 end_line ∷ [])
unfolding line_text words_of
last names = refl

pub block-lines : (names : List (List ℕ)) (c : Certificate) (n : ℕ) → block_text names c n ≡ flat_map (placed_text names) (block_lines c n)
block-lines names c n =
    let f : Placed → List ℕ = placed_text names in
    let a : List Placed = at 0 (answer_line c.query n c.terms) ∷ map (λ g. at 0 (given_line g)) c.given in
    let t : List Placed = at 0 (sample_line c.sample) ∷ at 0 tree_line ∷ trees_lines 1 (listed c.trees) in
    let k : List Placed = flat_map check_lines c.checks in
    let l : List Placed = map (λ x. at 0 (clash_line x)) c.clashes in
    let m : List Placed = map (λ x. at 0 (map_line x)) c.map in
    let start = answer_text names c n ++ flat_map (given_text names) c.given in
    let front =
    regrouped start (codes "sample ") (list_text names c.sample) (codes "\ntree\n") (trees_text names 1 (listed c.trees))
    ∙ joined f a t _ _ (answers names c n) (items names c) in
    let checks = joined f (a ++ t) k _ _ front (nested (check_text names) f check_lines (check-lines names) c.checks) in
    let clashes = joined f (a ++ t ++ k) l _ _ checks (mapped clash_text f (λ x. at 0 (clash_line x)) (clash-lines names) c.clashes) in
    let maps = joined f (a ++ t ++ k ++ l) m _ _ clashes (mapped (map_text names) f (λ x. at 0 (map_line x)) (map-lines names) c.map) in
    joined f (a ++ t ++ k ++ l ++ m) (at 0 end_line ∷ []) _ _ maps (last names)
