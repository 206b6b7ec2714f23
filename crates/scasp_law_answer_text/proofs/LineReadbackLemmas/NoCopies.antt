-- No line is written as a copy, or as the header of version 2.
use Rattle.std.proofs.Common.{◌≡◌, ℕ, ◌+◌, ◌==◌, Bool, true, false, List, [], ◌∷◌, ◌++◌, codes, decimal, refl, sym, ap, ◌∙◌, arith, lit<}
use Rattle.std.proofs.lemmas.Bool.{eqb-true}
use Rattle.std.proofs.lemmas.Fmt.{decimal_by_steps_wide}
use Rattle.scasp_copies.specs.Copies.{begins}
use Rattle.scasp_answers_terms.specs.Tokens.Lines.{ended, stopped, spent, overflow, Line, header_line, ending_line, rejected_line, answer_line, given_line, sample_line, tree_line, check_line, clash_line, map_line, end_line, pos_line, neg_line, loop_line, seen_line, test_line, rule_line, split_line, void_line, leaf_line, head_line, words_of}
use Rattle.scasp_answers.specs.Blocks.Files.{is_second}
use Rattle.scasp_law_answer_text.specs.LineReadback.Writable.{is_written}

pub one_text : decimal 1 ≡ codes "1"
one_text = decimal_by_steps_wide (λ n ds. n ≡ 1 → ds ≡ codes "1") (λ n h e. ap (λ k. (48 + k) ∷ []) e) (λ n ds h s e. absurd (omega (arith, h, e))) 1 (lit< tt) refl

-- neither a copy nor the header of version 2
abbrev IsPlain : List ℕ → Type 0
IsPlain words = (begins (codes "copy ") words ≡ false) × (is_second words ≡ false)

pub no-copy : (names : List (List ℕ)) (count : ℕ) (l : Line) → is_written count l ≡ true → IsPlain (words_of names l)
unfolding words_of is_written
no-copy names count (header_line v) e =
    let text : decimal v ≡ codes "1" = ap decimal (eqb-true v 1 e) ∙ one_text in
    (refl, ap (λ ds. is_second (codes "scasp " ++ ds)) text)
no-copy names count (ending_line ended q) e = (refl, refl)
no-copy names count (ending_line stopped q) e = (refl, refl)
no-copy names count (ending_line spent q) e = (refl, refl)
no-copy names count (ending_line overflow q) e = (refl, refl)
no-copy names count (rejected_line q n at reason) e = (refl, refl)
no-copy names count (answer_line q n ts) e = (refl, refl)
no-copy names count (given_line c) e = (refl, refl)
no-copy names count (sample_line ts) e = (refl, refl)
no-copy names count tree_line e = (refl, refl)
no-copy names count (check_line k) e = (refl, refl)
no-copy names count (clash_line c) e = (refl, refl)
no-copy names count (map_line m) e = (refl, refl)
no-copy names count end_line e = (refl, refl)
no-copy names count (pos_line a rule ts) e = (refl, refl)
no-copy names count (neg_line a) e = (refl, refl)
no-copy names count (loop_line l at) e = (refl, refl)
no-copy names count (seen_line l at) e = (refl, refl)
no-copy names count (test_line c h) e = (refl, refl)
no-copy names count (rule_line k) e = (refl, refl)
no-copy names count (split_line c) e = (refl, refl)
no-copy names count (void_line h) e = (refl, refl)
no-copy names count (leaf_line k) e = (refl, refl)
no-copy names count head_line e = (refl, refl)
