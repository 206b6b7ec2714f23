-- No text of a line holds a line feed.
use Rattle.std.proofs.Common.{◌≡◌, ℕ, zero, suc, ◌+◌, ◌/◌, ◌%◌, ◌<◌, nat_lt, Bool, true, false, not, ◌&&◌, ◌==◌, List, [], ◌∷◌, ◌++◌, codes, decimal, flat_map, ℤ, pos, negsuc, refl, ap, ◌∙◌, arith}
use Rattle.std.specs.Prelude.{if◌then◌else◌, int_lt}
use Rattle.std.specs.Fmt.{digit_glyph, digits, digits_onto, signed_decimal}
use Rattle.std.specs.List.{list_all}
use Rattle.std.specs.Ordering.{int_eq}
use Rattle.std.proofs.lemmas.Bool.{and_parts, and_from}
use Rattle.std.proofs.lemmas.Bool.Decides.{nat_tests}
use Rattle.std.proofs.lemmas.List.Folds.{list_all-append}
use Rattle.scasp_list.specs.Each.{Each}
use Rattle.scasp_num.specs.Number.{Number}
use Rattle.scasp_num.specs.Linear.{Linear}
use Rattle.scasp_num.specs.declared.linear.Coeff.{Coeff}
use Rattle.scasp_num.specs.declared.linear.Op.{Op}
use Rattle.scasp_num.specs.declared.linear.Op.TheVariants as op
use Rattle.scasp_num.specs.declared.hints.Step.{Step}
use Rattle.scasp_syntax.specs.Tm.{Tm, Tms, var, num, app, nil, cons}
use Rattle.scasp_syntax.specs.View.{tm_of}
use Rattle.scasp_syntax.specs.declared.atom.Atom.{Atom}
use Rattle.scasp_syntax.specs.declared.atom.Lit.{Lit}
use Rattle.scasp_syntax.specs.declared.atom.Pred.{Pred}
use Rattle.scasp_syntax.specs.declared.con.Con.{Con}
use Rattle.scasp_syntax.specs.declared.con.Con.TheVariants as con
use Rattle.scasp_syntax.specs.declared.hint.Hint.{Hint}
use Rattle.scasp_syntax.specs.declared.hint.Hint.TheVariants as hint
use Rattle.scasp_cert.specs.Text.Separators.{separator_text}
use Rattle.scasp_cert.specs.Text.Names.{text_at, is_plain, is_word_byte, escaped, quoted_text, name_text, constant_text}
use Rattle.scasp_cert.specs.Text.Terms.{var_text, number_text, is_pair, called_text, app_text, rest_text, term_text, tail_text, terms_text, pair_text, list_text, minus_text, atom_text, lit_text}
use Rattle.scasp_cert.specs.Text.Constraints.{plus_text, factor_text, summand_text, summands_text, constant_part, relation_text, row_text, shape_text, con_text}
use Rattle.scasp_cert.specs.Text.Hints.{step_text, steps_text, step_lists_text, hint_text}
use Rattle.scasp_cert.specs.Text.Block.{pred_text}
use Rattle.scasp_reader_tokens.specs.Bytes.{is_of_line}
use Rattle.scasp_answers_terms.specs.Tokens.Reasons.{reasons}
use Rattle.scasp_answers_terms.specs.Tokens.Lines.{End, ended, stopped, spent, overflow, end_text, place_text, Line, header_line, ending_line, rejected_line, answer_line, given_line, sample_line, tree_line, check_line, clash_line, map_line, end_line, pos_line, neg_line, loop_line, seen_line, test_line, rule_line, split_line, void_line, leaf_line, head_line, words_of}
use Rattle.scasp_law_answer_text.specs.LineReadback.Endings.{begins_lower}
use Rattle.scasp_law_answer_text.specs.LineReadback.Writable.{is_written}
use Rattle.scasp_law_answer_text.proofs.LineReadbackLemmas.Words.{plain-bytes}
use Rattle.scasp_law_answer_text.proofs.LineReadbackLemmas.Lines.{among}

abbrev pub IsClean : List ℕ → Type 0
IsClean text = list_all is_of_line text ≡ true

pub clean-append : (a b : List ℕ) → IsClean a → IsClean b → IsClean (a ++ b)
clean-append a b g h = list_all-append is_of_line a b ∙ and_from (list_all is_of_line a) (list_all is_of_line b) g h

-- three and more
clean-3 : (a b c : List ℕ) → IsClean a → IsClean b → IsClean c → IsClean (a ++ b ++ c)
clean-3 a b c ha hb hc = clean-append (a ++ b) c (clean-append a b ha hb) hc

clean-4 : (a b c d : List ℕ) → IsClean a → IsClean b → IsClean c → IsClean d → IsClean (a ++ b ++ c ++ d)
clean-4 a b c d ha hb hc hd = clean-append (a ++ b ++ c) d (clean-3 a b c ha hb hc) hd

clean-5 : (a b c d e : List ℕ) → IsClean a → IsClean b → IsClean c → IsClean d → IsClean e → IsClean (a ++ b ++ c ++ d ++ e)
clean-5 a b c d e ha hb hc hd he = clean-append (a ++ b ++ c ++ d) e (clean-4 a b c d ha hb hc hd) he

clean-6 : (a b c d e f : List ℕ) → IsClean a → IsClean b → IsClean c → IsClean d → IsClean e → IsClean f → IsClean (a ++ b ++ c ++ d ++ e ++ f)
clean-6 a b c d e f ha hb hc hd he hf = clean-append (a ++ b ++ c ++ d ++ e) f (clean-5 a b c d e ha hb hc hd he) hf

clean-if : (t : Bool) (a b : List ℕ) → IsClean a → IsClean b → IsClean (if t then a else b)
clean-if true a b g h = g
clean-if false a b g h = h

-- ---- numbers

far-clean : (b : ℕ) → 10 < b → is_of_line b ≡ true
far-clean b h = grind (arith, nat_tests, h)

glyph-clean : (d : ℕ) → is_of_line (digit_glyph false d) ≡ true
glyph-clean d = by (nat_lt d 10)
  where
    by : (t : Bool) → is_of_line (if t then 48 + d else 87 + d) ≡ true
    by true = far-clean (48 + d) (omega arith)
    by false = far-clean (87 + d) (omega arith)

-- digits in front of a text
onto-clean : (k n : ℕ) (text : List ℕ) → IsClean text → IsClean (digits_onto k 10 false n text)
onto-clean zero n text h = h
onto-clean (suc k) n text h =
    let more : IsClean (digit_glyph false (n % 10) ∷ text) = and_from (is_of_line (digit_glyph false (n % 10))) (list_all is_of_line text) (glyph-clean (n % 10)) h in
    clean-if (n / 10 == 0) (digit_glyph false (n % 10) ∷ text) (digits_onto k 10 false (n / 10) (digit_glyph false (n % 10) ∷ text)) more (onto-clean k (n / 10) (digit_glyph false (n % 10) ∷ text) more)

pub clean-decimal : (n : ℕ) → IsClean (decimal n)
unfolding digits
clean-decimal n = onto-clean 64 n [] refl

clean-signed : (z : ℤ) → IsClean (signed_decimal z)
clean-signed (pos n) = clean-decimal n
clean-signed (negsuc n) = clean-decimal (suc n)

-- ---- names

word-clean : (b : ℕ) → is_word_byte b ≡ true → is_of_line b ≡ true
word-clean b e = grind (arith, nat_tests)

words-clean : (text : List ℕ) → list_all is_word_byte text ≡ true → IsClean text
words-clean [] e = refl
words-clean (b ∷ text) e = let p = and_parts (is_word_byte b) (list_all is_word_byte text) e in and_from (is_of_line b) (list_all is_of_line text) (word-clean b p.0) (words-clean text p.1)

escape-clean : (c : ℕ) → IsClean (escaped c)
escape-clean c = by (c == 39) (c == 92) (c == 10) (c == 9) refl
  where
    by : (q b n t : Bool) → (c == 10) ≡ n → IsClean (if q then codes "\\'" else if b then codes "\\\\" else if n then codes "\\n" else if t then codes "\\t" else c ∷ [])
    by true b n t e = refl
    by false true n t e = refl
    by false false true t e = refl
    by false false false true e = refl
    by false false false false e = ap (λ x. not x && true) e

escapes-clean : (text : List ℕ) → IsClean (flat_map escaped text)
escapes-clean [] = refl
escapes-clean (c ∷ text) = clean-append (escaped c) (flat_map escaped text) (escape-clean c) (escapes-clean text)

clean-quoted : (text : List ℕ) → IsClean (quoted_text text)
clean-quoted text = by (is_plain text) refl
  where
    by : (t : Bool) → is_plain text ≡ t → IsClean (if t then text else codes "'" ++ flat_map escaped text ++ codes "'")
    by true e = words-clean text (plain-bytes text e)
    by false e = clean-append (flat_map escaped text) (codes "'") (escapes-clean text) refl

module _ (names : List (List ℕ)) where
  clean-name : (f : ℕ) → IsClean (name_text names f)
  clean-name f = clean-quoted (text_at names f)

  clean-constant : (f : ℕ) → IsClean (constant_text names f)
  clean-constant f = clean-if (f == 0) (codes "[]") (name_text names f) refl (clean-name f)

  -- ---- terms

  clean-number : (q : Number) → IsClean (number_text q)
  clean-number q =
      clean-append (signed_decimal q.num) (if int_eq q.den (pos 1) then [] else codes "/" ++ signed_decimal q.den) (clean-signed q.num)
      (clean-if (int_eq q.den (pos 1)) [] (codes "/" ++ signed_decimal q.den) refl (clean-signed q.den))

  clean-called : (f : ℕ) (ts : Tms) (args : List ℕ) → IsClean args → IsClean (called_text names f ts args)
  clean-called f nil args h = clean-name f
  clean-called f (cons t ts) args h = clean-4 (name_text names f) (codes "(") args (codes ")") (clean-name f) refl h refl

  clean-app : (f : ℕ) (ts : Tms) (args elems : List ℕ) → IsClean args → IsClean elems → IsClean (app_text names f ts args elems)
  clean-app f nil args elems h g = clean-constant f
  clean-app f (cons t ts) args elems h g =
      clean-if (is_pair f (cons t ts)) (codes "[" ++ elems ++ codes "]") (called_text names f (cons t ts) args) (clean-append elems (codes "]") g refl) (clean-called f (cons t ts) args h)

  clean-rest : (f : ℕ) (ts : Tms) (args elems : List ℕ) → IsClean args → IsClean elems → IsClean (rest_text names f ts args elems)
  clean-rest f nil args elems h g = clean-if (f == 0) [] (codes "|" ++ name_text names f) refl (clean-name f)
  clean-rest f (cons t ts) args elems h g =
      clean-if (is_pair f (cons t ts)) (codes "," ++ elems) (codes "|" ++ called_text names f (cons t ts) args) g (clean-called f (cons t ts) args h)

  clean-separator : (b : Bool) → IsClean (separator_text b (codes ","))
  clean-separator true = refl
  clean-separator false = refl

  mutual
    pub clean-term : (t : Tm) → IsClean (term_text names t)
    clean-term (var x) = clean-decimal x
    clean-term (num q) = clean-number q
    clean-term (app g ts) = clean-app g ts (terms_text names true ts) (pair_text names true ts) (clean-terms ts true) (clean-pair ts true)

    clean-tail : (t : Tm) → IsClean (tail_text names t)
    clean-tail (var x) = clean-decimal x
    clean-tail (num q) = clean-number q
    clean-tail (app g ts) = clean-rest g ts (terms_text names true ts) (pair_text names true ts) (clean-terms ts true) (clean-pair ts true)

    clean-terms : (ts : Tms) (b : Bool) → IsClean (terms_text names b ts)
    clean-terms nil b = refl
    clean-terms (cons t ts) b = clean-3 (separator_text b (codes ",")) (term_text names t) (terms_text names false ts) (clean-separator b) (clean-term t) (clean-terms ts false)

    clean-pair : (ts : Tms) (b : Bool) → IsClean (pair_text names b ts)
    clean-pair nil b = refl
    clean-pair (cons t ts) b =
        clean-append (if b then term_text names t else tail_text names t) (pair_text names false ts) (clean-if b (term_text names t) (tail_text names t) (clean-term t) (clean-tail t)) (clean-pair ts false)

  clean-list : (ts : Tms) → IsClean (list_text names ts)
  unfolding list_text
  clean-list ts = clean-append (terms_text names true ts) (codes "]") (clean-terms ts true) refl

  clean-minus : (m : Bool) → IsClean (minus_text m)
  clean-minus true = refl
  clean-minus false = refl

  clean-atom : (a : Atom) → IsClean (atom_text names a)
  unfolding atom_text
  clean-atom a =
      clean-append (minus_text a.minus) (called_text names a.name a.args (terms_text names true a.args)) (clean-minus a.minus)
      (clean-called a.name a.args (terms_text names true a.args) (clean-terms a.args true))

  clean-lit : (l : Lit) → IsClean (lit_text names l)
  unfolding lit_text
  clean-lit l = clean-append (if l.positive then [] else codes "not ") (atom_text names l.atom) (clean-if l.positive [] (codes "not ") refl refl) (clean-atom l.atom)

  -- ---- rows

  clean-plus : (c : ℤ) → IsClean (plus_text c)
  clean-plus c = clean-if (int_lt c (pos 0)) [] (codes "+") refl refl

  clean-factor : (c : ℤ) → IsClean (factor_text c)
  clean-factor c =
      clean-if (int_eq c (pos 1)) [] (if int_eq c (negsuc 0) then codes "-" else signed_decimal c ++ codes "*") refl
      (clean-if (int_eq c (negsuc 0)) (codes "-") (signed_decimal c ++ codes "*") refl (clean-append (signed_decimal c) (codes "*") (clean-signed c) refl))

  clean-summands : (b : Bool) (ks : List Coeff) → IsClean (summands_text b ks)
  clean-summands b [] = refl
  clean-summands b (k ∷ ks) =
      clean-append (summand_text b k) (summands_text false ks)
      (clean-3 (if b then [] else plus_text k.c) (factor_text k.c) (var_text k.x) (clean-if b [] (plus_text k.c) refl (clean-plus k.c)) (clean-factor k.c) (clean-decimal k.x)) (clean-summands false ks)

  clean-part : (ks : List Coeff) (c : ℤ) → IsClean (constant_part ks c)
  clean-part [] c = clean-signed c
  clean-part (k ∷ ks) c = clean-if (int_eq c (pos 0)) [] (plus_text c ++ signed_decimal c) refl (clean-append (plus_text c) (signed_decimal c) (clean-plus c) (clean-signed c))

  clean-relation : (o : Op) → IsClean (relation_text o)
  clean-relation op.Eq = refl
  clean-relation op.Lt = refl
  clean-relation op.Le = refl
  clean-relation op.Ne = refl

  clean-row : (r : Linear) → IsClean (row_text r)
  clean-row r =
      clean-5 (summands_text true r.coeffs) (constant_part r.coeffs r.constant) (codes " ") (relation_text r.op) (codes " 0") (clean-summands true r.coeffs) (clean-part r.coeffs r.constant) refl
      (clean-relation r.op) refl

  -- ---- constraints and hints

  clean-shape : (f n : ℕ) → IsClean (shape_text names f n)
  clean-shape f n =
      clean-if (n == 0) (constant_text names f) (name_text names f ++ codes "/" ++ decimal n) (clean-constant f) (clean-3 (name_text names f) (codes "/") (decimal n) (clean-name f) refl (clean-decimal n))

  pub clean-con : (c : Con) → IsClean (con_text names c)
  clean-con (con.Eq t s) = clean-3 (term_text names (tm_of t)) (codes " = ") (term_text names (tm_of s)) (clean-term (tm_of t)) refl (clean-term (tm_of s))
  clean-con (con.Neq t s) = clean-3 (term_text names (tm_of t)) (codes " \\= ") (term_text names (tm_of s)) (clean-term (tm_of t)) refl (clean-term (tm_of s))
  clean-con (con.NotShape x f n) = clean-3 (var_text x) (codes " \\= ") (shape_text names f n) (clean-decimal x) refl (clean-shape f n)
  clean-con (con.Num t) = clean-append (term_text names (tm_of t)) (codes ")") (clean-term (tm_of t)) refl
  clean-con (con.NotNum t) = clean-append (term_text names (tm_of t)) (codes ")") (clean-term (tm_of t)) refl
  clean-con (con.Row r) = clean-row r

clean-step : (s : Step) → IsClean (step_text s)
unfolding step_text
clean-step s =
    clean-append (signed_decimal s.a ++ codes "*" ++ decimal s.p ++ codes "+" ++ signed_decimal s.b ++ codes "*") (decimal s.q)
    (clean-6 (signed_decimal s.a) (codes "*") (decimal s.p) (codes "+") (signed_decimal s.b) (codes "*") (clean-signed s.a) refl (clean-decimal s.p) refl (clean-signed s.b) refl)
    (clean-decimal s.q)

clean-steps : (b : Bool) (ss : List Step) → IsClean (steps_text b ss)
clean-steps b [] = refl
clean-steps b (s ∷ ss) = clean-3 (separator_text b (codes ",")) (step_text s) (steps_text false ss) (clean-if b [] (codes ",") refl refl) (clean-step s) (clean-steps false ss)

clean-lists : (b : Bool) (ls : List (List Step)) → IsClean (step_lists_text b ls)
clean-lists b [] = refl
clean-lists b (l ∷ ls) = clean-3 (separator_text b (codes ";")) (steps_text true l) (step_lists_text false ls) (clean-if b [] (codes ";") refl refl) (clean-steps true l) (clean-lists false ls)

clean-hint : (h : Hint) → IsClean (hint_text h)
clean-hint hint.Terms = refl
clean-hint (hint.Rows ss) = clean-append (steps_text true ss) (codes "]") (clean-steps true ss) refl
clean-hint (hint.Same n ls) = clean-4 (decimal n) (codes " [") (step_lists_text true ls) (codes "]") (clean-decimal n) refl (clean-lists true ls) refl

-- ---- lines

clean-place_text : (q n : ℕ) → IsClean (place_text q n)
clean-place_text q n = clean-3 (decimal q) (codes ".") (decimal n) (clean-decimal q) refl (clean-decimal n)

clean-end : (e : End) → IsClean (end_text e)
clean-end ended = refl
clean-end stopped = refl
clean-end spent = refl
clean-end overflow = refl

clean-reasons : Each IsClean reasons
clean-reasons = (refl, (refl, (refl, (refl, (refl, (refl, (refl, (refl, (refl, (refl, (refl, (refl, (refl, (refl, (refl, (refl, (refl, (refl, (refl, (refl, tt))))))))))))))))))))

clean-pred : (names : List (List ℕ)) (p : Pred) → IsClean (pred_text names p)
unfolding pred_text
clean-pred names p = clean-4 (minus_text p.minus) (name_text names p.name) (codes "/") (decimal p.arity) (clean-minus names p.minus) (clean-name names p.name) refl (clean-decimal p.arity)

pub words-clean_line : (names : List (List ℕ)) (count : ℕ) (l : Line) → is_written count l ≡ true → IsClean (words_of names l)
unfolding words_of is_written
words-clean_line names count (header_line v) w = clean-decimal v
words-clean_line names count (ending_line e q) w = clean-append (end_text e) (decimal q) (clean-end e) (clean-decimal q)
words-clean_line names count (rejected_line q n at reason) w =
    clean-5 (place_text q n) (codes " ") (decimal at) (codes " ") reason (clean-place_text q n) refl (clean-decimal at) refl (among IsClean reasons reason clean-reasons w)
words-clean_line names count (answer_line q n ts) w = clean-3 (place_text q n) (codes " ") (list_text names ts) (clean-place_text q n) refl (clean-list names ts)
words-clean_line names count (given_line c) w = clean-con names c
words-clean_line names count (sample_line ts) w = clean-list names ts
words-clean_line names count tree_line w = refl
words-clean_line names count (check_line k) w = clean-decimal k
words-clean_line names count (clash_line k) w =
    clean-5 (decimal k.first) (codes " ") (decimal k.second) (codes " ") (hint_text k.hint) (clean-decimal k.first) refl (clean-decimal k.second) refl (clean-hint k.hint)
words-clean_line names count (map_line m) w =
    clean-4 (pred_text names m.pred) (codes " ") (decimal m.level) (if m.plus then codes " +" else codes " -") (clean-pred names m.pred) refl (clean-decimal m.level)
    (clean-if m.plus (codes " +") (codes " -") refl refl)
words-clean_line names count end_line w = refl
words-clean_line names count (pos_line a rule ts) w =
    clean-5 (atom_text names a) (codes " rule ") (decimal rule) (codes " ") (list_text names ts) (clean-atom names a) refl (clean-decimal rule) refl (clean-list names ts)
words-clean_line names count (neg_line a) w = clean-atom names a
words-clean_line names count (loop_line l at) w = clean-3 (lit_text names l) (codes " at ") (decimal at) (clean-lit names l) refl (clean-decimal at)
words-clean_line names count (seen_line l at) w = clean-3 (lit_text names l) (codes " at ") (decimal at) (clean-lit names l) refl (clean-decimal at)
words-clean_line names count (test_line c h) w = clean-3 (con_text names c) (codes " ") (hint_text h) (clean-con names c) refl (clean-hint h)
words-clean_line names count (rule_line k) w = clean-decimal k
words-clean_line names count (split_line c) w = clean-con names c
words-clean_line names count (void_line h) w = clean-hint h
words-clean_line names count (leaf_line k) w = clean-decimal k
words-clean_line names count head_line w = refl

-- a line begins with a letter
pub words-begin : (names : List (List ℕ)) (l : Line) → begins_lower (words_of names l) ≡ true
unfolding words_of
words-begin names (header_line v) = refl
words-begin names (ending_line ended q) = refl
words-begin names (ending_line stopped q) = refl
words-begin names (ending_line spent q) = refl
words-begin names (ending_line overflow q) = refl
words-begin names (rejected_line q n at reason) = refl
words-begin names (answer_line q n ts) = refl
words-begin names (given_line c) = refl
words-begin names (sample_line ts) = refl
words-begin names tree_line = refl
words-begin names (check_line k) = refl
words-begin names (clash_line k) = refl
words-begin names (map_line m) = refl
words-begin names end_line = refl
words-begin names (pos_line a rule ts) = refl
words-begin names (neg_line a) = refl
words-begin names (loop_line l at) = refl
words-begin names (seen_line l at) = refl
words-begin names (test_line c h) = refl
words-begin names (rule_line k) = refl
words-begin names (split_line c) = refl
words-begin names (void_line h) = refl
words-begin names (leaf_line k) = refl
words-begin names head_line = refl
