-- The other lines of a block, each the text of its line.
use Rattle.std.specs.Prelude.{◌≡◌, ℕ, Bool, true, false, List, [], ◌∷◌, ◌++◌, map, flat_map, if◌then◌else◌, codes, decimal}
use Rattle.std.proofs.Common.{refl, ap, ◌∙◌, append_assoc}
use Rattle.scasp_syntax.specs.declared.con.Con.{Con}
use Rattle.scasp_syntax.specs.declared.predicate_map.PredMap.{PredMap}
use Rattle.scasp_cert.specs.Trees.{Branch}
use Rattle.scasp_cert.specs.Certificate.{Certificate}
use Rattle.scasp_cert.specs.declared.certificate.Clash.{Clash}
use Rattle.scasp_cert.specs.Text.Trees.{line_text}
use Rattle.scasp_cert.specs.Text.Block.{answer_line as answer_text, given_line as given_text, check_text, clash_line as clash_text, map_line as map_text, pred_text}
use Rattle.scasp_answers_terms.specs.Tokens.Lines.{words_of, answer_line, given_line, clash_line, map_line}
use Rattle.scasp_answers.specs.Blocks.Blocks.{at, placed_text, check_lines}
use Rattle.scasp_answers.proofs.BlocksLemmas.TreeLines.{branch-lines}

pub mapped :
    {A B : Type 0} (f : A → List ℕ) (g : B → List ℕ) (h : A → B) → ((x : A) → f x ≡ g (h x)) → (xs : List A)
    → flat_map f xs ≡ flat_map g (map h xs)
mapped f g h e [] = refl
mapped f g h e (x ∷ xs) = ap (λ l. l ++ flat_map f xs) (e x) ∙ ap (λ l. g (h x) ++ l) (mapped f g h e xs)

pub answer-lines : (names : List (List ℕ)) (c : Certificate) (n : ℕ) → answer_text names c n ≡ placed_text names (at 0 (answer_line c.query n c.terms))
unfolding answer_text line_text words_of
answer-lines names c n = simp append_assoc refl

pub given-lines : (names : List (List ℕ)) (g : Con) → given_text names g ≡ placed_text names (at 0 (given_line g))
unfolding given_text line_text words_of
given-lines names g = simp append_assoc refl

pub clash-lines : (names : List (List ℕ)) (c : Clash) → clash_text c ≡ placed_text names (at 0 (clash_line c))
unfolding clash_text line_text words_of
clash-lines names c = simp append_assoc refl

pub check-lines : (names : List (List ℕ)) (c : ℕ × Branch) → check_text names c ≡ flat_map (placed_text names) (check_lines c)
unfolding check_text line_text words_of
check-lines names c = ap (λ l. codes "check " ++ decimal c.0 ++ codes "\n" ++ l) (branch-lines names 1 c.1)

-- the sign of a level, in front of the line's end
sign-line : (text : List ℕ) (b : Bool) → text ++ (if b then codes " +\n" else codes " -\n") ≡ text ++ (if b then codes " +" else codes " -") ++ codes "\n"
sign-line text true = simp append_assoc refl
sign-line text false = simp append_assoc refl

pub map-lines : (names : List (List ℕ)) (m : PredMap) → map_text names m ≡ placed_text names (at 0 (map_line m))
unfolding map_text line_text words_of
map-lines names m = sign-line (codes "map " ++ pred_text names m.pred ++ codes " " ++ decimal m.level) m.plus
