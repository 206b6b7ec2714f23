-- The numbers of lines that fit have 64 bits.
use Rattle.std.proofs.Common.{◌≡◌, ◌^◌, ◌<◌, ℕ, List, Bool, true, arith}
use Rattle.std.specs.Prelude.{◌&&◌}
use Rattle.std.proofs.lemmas.Bool.{and_parts, ltb-true}
use Rattle.scasp_syntax.specs.Tm.{Tms}
use Rattle.scasp_syntax.specs.declared.atom.Atom.{Atom}
use Rattle.scasp_syntax.specs.declared.atom.Lit.{Lit}
use Rattle.scasp_answers_terms.specs.Tokens.Bounds.{line_fits, is_place, is_count, terms_fit}
use Rattle.scasp_answers_terms.specs.Tokens.Lines.{End, ending_line, rejected_line, answer_line, check_line, pos_line, loop_line, seen_line, rule_line, leaf_line}

count-fits : (n : ℕ) → is_count n ≡ true → n < 2 ^ 64
count-fits n e = ltb-true n (2 ^ 64) e

place-fits : (n : ℕ) → is_place n ≡ true → n < 2 ^ 64
place-fits n e = let h = ltb-true n (2 ^ 63) e in omega (arith, h)

first : (a b c : Bool) → ((a && b) && c) ≡ true → a ≡ true
first a b c e = (and_parts a b (and_parts (a && b) c e).0).0

second : (a b c : Bool) → ((a && b) && c) ≡ true → b ≡ true
second a b c e = (and_parts a b (and_parts (a && b) c e).0).1

pub ending-fits : (end : End) (query : ℕ) → line_fits (ending_line end query) ≡ true → query < 2 ^ 64
unfolding line_fits
ending-fits end query e = count-fits query e

pub rejected-fits : (query answer at : ℕ) (reason : List ℕ) → line_fits (rejected_line query answer at reason) ≡ true → (query < 2 ^ 64) × (answer < 2 ^ 64) × (at < 2 ^ 64)
unfolding line_fits
rejected-fits query answer at reason e =
    (count-fits query (first _ _ _ e), count-fits answer (second _ _ _ e), place-fits at (and_parts (is_count query && is_count answer) (is_place at) e).1)

pub answer-fits : (query answer : ℕ) (ts : Tms) → line_fits (answer_line query answer ts) ≡ true → (query < 2 ^ 64) × (answer < 2 ^ 64)
unfolding line_fits
answer-fits query answer ts e = (count-fits query (first _ _ _ e), count-fits answer (second _ _ _ e))

pub check-fits : (clause : ℕ) → line_fits (check_line clause) ≡ true → clause < 2 ^ 64
unfolding line_fits
check-fits clause e = count-fits clause e

pub pos-fits : (a : Atom) (rule : ℕ) (ts : Tms) → line_fits (pos_line a rule ts) ≡ true → rule < 2 ^ 64
unfolding line_fits
pos-fits a rule ts e = place-fits rule (second _ _ _ e)

pub loop-fits : (l : Lit) (at : ℕ) → line_fits (loop_line l at) ≡ true → at < 2 ^ 64
unfolding line_fits
loop-fits l at e = place-fits at (and_parts (terms_fit l.atom.args) (is_place at) e).1

pub seen-fits : (l : Lit) (at : ℕ) → line_fits (seen_line l at) ≡ true → at < 2 ^ 64
unfolding line_fits
seen-fits l at e = place-fits at (and_parts (terms_fit l.atom.args) (is_place at) e).1

pub rule-fits : (rule : ℕ) → line_fits (rule_line rule) ≡ true → rule < 2 ^ 64
unfolding line_fits
rule-fits rule e = place-fits rule e

pub leaf-fits : (item : ℕ) → line_fits (leaf_line item) ≡ true → item < 2 ^ 64
unfolding line_fits
leaf-fits item e = count-fits item e
