-- The text of a line asks for no names of a table but those of the line.
use Rattle.std.specs.Prelude.{◌≡◌, ℕ, nat_lt, Bool, true, false, not, ◌&&◌, ◌==◌, if◌then◌else◌, List, [], ◌++◌, codes, decimal}
use Rattle.std.proofs.Common.{ap, refl}
use Rattle.std.proofs.lemmas.Bool.{and_parts, ltb-true}
use Rattle.scasp_answers_terms.specs.Tokens.Lines.{Line, header_line, ending_line, rejected_line, answer_line, given_line, sample_line, tree_line, check_line, clash_line, map_line, end_line, pos_line, neg_line, loop_line, seen_line, test_line, rule_line, split_line, void_line, leaf_line, head_line, place_text, words_of}
use Rattle.scasp_cert.specs.Text.Block.{pred_text}
use Rattle.scasp_cert.specs.Text.Constraints.{con_text}
use Rattle.scasp_cert.specs.Text.Hints.{hint_text}
use Rattle.scasp_cert.specs.Text.Names.{name_text, quoted_text, text_at}
use Rattle.scasp_cert.specs.Text.Separators.{separator_text}
use Rattle.scasp_cert.specs.Text.Terms.{app_text, atom_text, called_text, is_pair, list_text, lit_text, minus_text, pair_text, rest_text, tail_text, term_text, terms_text, var_text}
use Rattle.scasp_law_answer_text.specs.LineReadback.Writable.{are_named, is_hint, is_named, is_shape, is_spelled, is_written}
use Rattle.scasp_syntax.specs.Tm.{Tm, Tms, var, num, app, nil, cons}
use Rattle.scasp_syntax.specs.View.{tm_of}
use Rattle.scasp_syntax.specs.declared.atom.Atom.{Atom}
use Rattle.scasp_syntax.specs.declared.atom.Pred.{Pred}
use Rattle.scasp_syntax.specs.declared.con.Con.{Con}
use Rattle.scasp_syntax.specs.declared.con.Con.TheVariants as con
use Rattle.scasp_law_tables.specs.Tables.{Agree}

module _ (count : ℕ) (names table : List (List ℕ)) (same : Agree count names table) where
  one : (f : ℕ) → nat_lt f count ≡ true → text_at names f ≡ text_at table f
  one f e = same f (ltb-true f count e)

  pub name-same : (f : ℕ) → nat_lt f count ≡ true → name_text names f ≡ name_text table f
  name-same f e = ap quoted_text (one f e)

  constant-same : (f : ℕ) → nat_lt f count ≡ true → (if f == 0 then codes "[]" else name_text names f) ≡ (if f == 0 then codes "[]" else name_text table f)
  constant-same f e = ap (λ (z : List ℕ). if f == 0 then codes "[]" else z) (name-same f e)

  -- ---- terms

  pub called-same : (f : ℕ) (ts : Tms) (a b : List ℕ) → nat_lt f count ≡ true → a ≡ b → called_text names f ts a ≡ called_text table f ts b
  called-same f nil a b e p = name-same f e
  called-same f (cons t ts) a b e p = λ i. name-same f e i ++ codes "(" ++ p i ++ codes ")"

  app-same : (f : ℕ) (ts : Tms) (a b c d : List ℕ) → nat_lt f count ≡ true → a ≡ b → c ≡ d → app_text names f ts a c ≡ app_text table f ts b d
  app-same f nil a b c d e p q = constant-same f e
  app-same f (cons t ts) a b c d e p q = λ i. if is_pair f (cons t ts) then codes "[" ++ q i ++ codes "]" else called-same f (cons t ts) a b e p i

  rest-same : (f : ℕ) (ts : Tms) (a b c d : List ℕ) → nat_lt f count ≡ true → a ≡ b → c ≡ d → rest_text names f ts a c ≡ rest_text table f ts b d
  rest-same f nil a b c d e p q = λ i. if f == 0 then [] else codes "|" ++ name-same f e i
  rest-same f (cons t ts) a b c d e p q = λ i. if is_pair f (cons t ts) then codes "," ++ q i else codes "|" ++ called-same f (cons t ts) a b e p i

  mutual
    pub term-same : (t : Tm) → is_named count t ≡ true → term_text names t ≡ term_text table t
    term-same (var x) e = refl
    term-same (num q) e = refl
    term-same (app f ts) e = let h = and_parts (nat_lt f count) (are_named count ts) e in app-same f ts _ _ _ _ h.0 (terms-same true ts h.1) (pair-same true ts h.1)

    tail-same : (t : Tm) → is_named count t ≡ true → tail_text names t ≡ tail_text table t
    tail-same (var x) e = refl
    tail-same (num q) e = refl
    tail-same (app f ts) e = let h = and_parts (nat_lt f count) (are_named count ts) e in rest-same f ts _ _ _ _ h.0 (terms-same true ts h.1) (pair-same true ts h.1)

    pub terms-same : (first : Bool) (ts : Tms) → are_named count ts ≡ true → terms_text names first ts ≡ terms_text table first ts
    terms-same first nil e = refl
    terms-same first (cons t ts) e = let h = and_parts (is_named count t) (are_named count ts) e in λ i. separator_text first (codes ",") ++ term-same t h.0 i ++ terms-same false ts h.1 i

    pair-same : (first : Bool) (ts : Tms) → are_named count ts ≡ true → pair_text names first ts ≡ pair_text table first ts
    pair-same first nil e = refl
    pair-same first (cons t ts) e = let h = and_parts (is_named count t) (are_named count ts) e in λ i. (if first then term-same t h.0 i else tail-same t h.0 i) ++ pair-same false ts h.1 i

  -- ---- lists, atoms, literals, constraints

  list-same : (ts : Tms) → are_named count ts ≡ true → list_text names ts ≡ list_text table ts
  unfolding list_text
  list-same ts e = λ i. codes "[" ++ terms-same true ts e i ++ codes "]"

  atom-same : (a : Atom) → (nat_lt a.name count && are_named count a.args) ≡ true → atom_text names a ≡ atom_text table a
  unfolding atom_text
  atom-same a e =
      let h = and_parts (nat_lt a.name count) (are_named count a.args) e in
      λ i. minus_text a.minus ++ called-same a.name a.args (terms_text names true a.args) (terms_text table true a.args) h.0 (terms-same true a.args h.1) i

  pred-same : (p : Pred) → nat_lt p.name count ≡ true → pred_text names p ≡ pred_text table p
  unfolding pred_text
  pred-same p e = λ i. minus_text p.minus ++ name-same p.name e i ++ codes "/" ++ decimal p.arity

  pub con-same : (c : Con) → is_spelled count c ≡ true → con_text names c ≡ con_text table c
  con-same (con.Eq t s) e =
      let h = and_parts (is_named count (tm_of t)) (is_named count (tm_of s)) e in
      λ i. term-same (tm_of t) h.0 i ++ codes " = " ++ term-same (tm_of s) h.1 i
  con-same (con.Neq t s) e =
      let k = and_parts (is_named count (tm_of t) && is_named count (tm_of s)) (not (is_shape (tm_of t) (tm_of s))) e in
      let h = and_parts (is_named count (tm_of t)) (is_named count (tm_of s)) k.0 in
      λ i. term-same (tm_of t) h.0 i ++ codes " \\= " ++ term-same (tm_of s) h.1 i
  con-same (con.NotShape x f n) e = λ i. var_text x ++ codes " \\= " ++ (if n == 0 then constant-same f e i else name-same f e i ++ codes "/" ++ decimal n)
  con-same (con.Num t) e = λ i. codes "num(" ++ term-same (tm_of t) e i ++ codes ")"
  con-same (con.NotNum t) e = λ i. codes "not num(" ++ term-same (tm_of t) e i ++ codes ")"
  con-same (con.Row r) e = refl

  -- ---- lines

  pub words-same : (l : Line) → is_written count l ≡ true → words_of names l ≡ words_of table l
  unfolding is_written words_of lit_text
  words-same (header_line v) e = refl
  words-same (ending_line end q) e = refl
  words-same (rejected_line q n at reason) e = refl
  words-same (answer_line q n ts) e = λ i. codes "answer " ++ place_text q n ++ codes " " ++ list-same ts e i
  words-same (given_line c) e = λ i. codes "given " ++ con-same c e i
  words-same (sample_line ts) e = λ i. codes "sample " ++ list-same ts e i
  words-same tree_line e = refl
  words-same (check_line k) e = refl
  words-same (clash_line c) e = refl
  words-same (map_line m) e = λ i. codes "map " ++ pred-same m.pred e i ++ codes " " ++ decimal m.level ++ (if m.plus then codes " +" else codes " -")
  words-same end_line e = refl
  words-same (pos_line a rule ts) e =
      let h = and_parts (nat_lt a.name count && are_named count a.args) (are_named count ts) e in
      λ i. codes "pos " ++ atom-same a h.0 i ++ codes " rule " ++ decimal rule ++ codes " " ++ list-same ts h.1 i
  words-same (neg_line a) e = λ i. codes "neg " ++ atom-same a e i
  words-same (loop_line l at) e = λ i. codes "loop " ++ ((if l.positive then [] else codes "not ") ++ atom-same l.atom e i) ++ codes " at " ++ decimal at
  words-same (seen_line l at) e = λ i. codes "seen " ++ ((if l.positive then [] else codes "not ") ++ atom-same l.atom e i) ++ codes " at " ++ decimal at
  words-same (test_line c h) e = let k = and_parts (is_spelled count c) (is_hint h) e in λ i. codes "test " ++ con-same c k.0 i ++ codes " " ++ hint_text h
  words-same (rule_line k) e = refl
  words-same (split_line c) e = λ i. codes "split " ++ con-same c e i
  words-same (void_line h) e = refl
  words-same (leaf_line k) e = refl
  words-same head_line e = refl
