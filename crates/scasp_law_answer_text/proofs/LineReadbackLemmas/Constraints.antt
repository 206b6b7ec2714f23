-- Constraints are read back.
use Rattle.std.proofs.Common.{◌≡◌, ℕ, zero, suc, Bool, true, false, cond, not, ◌&&◌, ◌==◌, nat_lt, ◌<◌, ◌^◌, List, [], ◌∷◌, ◌++◌, length, codes, decimal, Option, None, Some, refl, sym, ap, subst, ◌∙◌, arith, append_assoc}
use Rattle.std.specs.Prelude.{if◌then◌else◌, option_map}
use Rattle.std.proofs.lemmas.Bool.{and_parts, false≢true}
use Rattle.std.proofs.lemmas.Bool.Decides.{nat_tests}
use borrow.Author.Tests.{eqb-true}
use Rattle.scasp_num.specs.Arithmetic.{◌>>=◌}
use Rattle.scasp_num.specs.Linear.{Linear, is_normal}
use Rattle.scasp_syntax.specs.Tm.{Tm, Tms, var, num, app, nil, cons}
use Rattle.scasp_syntax.specs.View.{tm_of}
use Rattle.scasp_syntax.specs.declared.term.Term.{Term}
use Rattle.scasp_syntax.specs.declared.term.Term.TheVariants.{Var, Num, App}
use Rattle.scasp_syntax.specs.declared.con.Con.{Con}
use Rattle.scasp_syntax.specs.declared.con.Con.TheVariants as con
use Rattle.scasp_cert.specs.Text.Names.{text_at, name_text, constant_text}
use Rattle.scasp_cert.specs.Text.Terms.{var_text, term_text}
use Rattle.scasp_cert.specs.Text.Constraints.{shape_text, con_text, row_text}
use Rattle.scasp_reader_terms.specs.Names.{place_in}
use Rattle.scasp_answers_terms.specs.Tokens.Tokens.{Token, word, variable, digits, paren, close, sign, tokens_in}
use Rattle.scasp_answers_terms.specs.Tokens.Readers.{Parsed, made, past_text, keyed, both, until, any_of, only, number_at}
use Rattle.scasp_answers_terms.specs.Tokens.Names.{name_at}
use Rattle.scasp_answers_terms.specs.Tokens.Bounds.{is_place, is_count, row_fits, con_fits, term_fits}
use Rattle.scasp_answers_terms.specs.Tokens.Rows.{row_at}
use Rattle.scasp_answers_terms.specs.Tokens.Terms.{Bracket, call, wants, ends, called, is_list_call, terms_at, term_at, only_one}
use Rattle.scasp_answers_terms.specs.Tokens.Constraints.{term_of, unfit_con, row_con, shape_con, shape_at, behind_variable, not_shape_at, unequal, related_to, related_at, typed_at, con_at}
use Rattle.scasp_law_program_text.proofs.ReadbackLemmas.NameReading.{not-true}
use Rattle.scasp_law_answer_text.specs.LineReadback.Endings.{ends_part}
use Rattle.scasp_law_answer_text.specs.LineReadback.Writable.{IsTable, is_shape, is_named, is_spelled}
use Rattle.scasp_law_answer_text.proofs.LineReadbackLemmas.Fronts.{ends-name, ends-digits, close-read}
use Rattle.scasp_law_answer_text.proofs.LineReadbackLemmas.Words.{name_token, name-read}
use Rattle.scasp_law_answer_text.proofs.LineReadbackLemmas.Numerals.{digits-read, variable-read}
use Rattle.scasp_law_answer_text.proofs.LineReadbackLemmas.Leaves.{place-below, count-below}
use Rattle.scasp_law_answer_text.proofs.LineReadbackLemmas.Table.{text-utf8, text-place}
use Rattle.scasp_law_answer_text.proofs.LineReadbackLemmas.Terms.{Fine, term-read}
use Rattle.scasp_law_answer_text.proofs.LineReadbackLemmas.Lists.{name_at-read, comma_free, top-ends, term_at-read, past-close}
use Rattle.scasp_law_answer_text.proofs.LineReadbackLemmas.Rows.{row-read}
use Rattle.scasp_law_answer_text.proofs.LineReadbackLemmas.NoRows.{equal-no_relation, differ-no_relation, term-no_row, other-no_shape, other-shape, constant-other}

-- ---- one reading of several

pub skips : {A : Type 0} (r : List Token → Parsed A) (rs : List (List Token → Parsed A)) (ts : List Token) → r ts ≡ None → any_of (r ∷ rs) ts ≡ any_of rs ts
skips r rs ts e = ap (λ o. elim o [ None ↦ any_of rs ts | Some found ↦ Some found ]) e

pub finds : {A : Type 0} (r : List Token → Parsed A) (rs : List (List Token → Parsed A)) (ts : List Token) (found : A × List Token) → r ts ≡ Some found → any_of (r ∷ rs) ts ≡ Some found
finds r rs ts found e = ap (λ o. elim o [ None ↦ any_of rs ts | Some found ↦ Some found ]) e

same-term : (t : Term) → term_of (tm_of t) ≡ t
same-term (Var x) = refl
same-term (Num q) = refl
same-term (App f ts) = refl

abbrev rows : List Token → Parsed Con
rows ts = made row_con (row_at ts)

-- the four forms, one behind the other
module _ (place : List ℕ → ℕ) (ts : List Token) where
  first-form : (found : Con × List Token) → rows ts ≡ Some found → con_at place ts ≡ Some found
  first-form found e = finds rows (not_shape_at place ∷ related_at place ∷ typed_at place ∷ []) ts found e

  second-form : (found : Con × List Token) → row_at ts ≡ None → not_shape_at place ts ≡ Some found → con_at place ts ≡ Some found
  second-form found r e =
      skips rows (not_shape_at place ∷ related_at place ∷ typed_at place ∷ []) ts (ap (made row_con) r) ∙ finds (not_shape_at place) (related_at place ∷ typed_at place ∷ []) ts found e

  third-form : (found : Con × List Token) → row_at ts ≡ None → not_shape_at place ts ≡ None → related_at place ts ≡ Some found → con_at place ts ≡ Some found
  third-form found r n e =
      skips rows (not_shape_at place ∷ related_at place ∷ typed_at place ∷ []) ts (ap (made row_con) r) ∙ skips (not_shape_at place) (related_at place ∷ typed_at place ∷ []) ts n
      ∙ finds (related_at place) (typed_at place ∷ []) ts found e

  fourth-form : (found : Con × List Token) → row_at ts ≡ None → not_shape_at place ts ≡ None → related_at place ts ≡ None → typed_at place ts ≡ Some found → con_at place ts ≡ Some found
  fourth-form found r n l e =
      skips rows (not_shape_at place ∷ related_at place ∷ typed_at place ∷ []) ts (ap (made row_con) r) ∙ skips (not_shape_at place) (related_at place ∷ typed_at place ∷ []) ts n
      ∙ skips (related_at place) (typed_at place ∷ []) ts l ∙ finds (typed_at place) [] ts found e

-- what may stand behind a constraint: neither a term nor a constraint goes on there
pub record EndsCon (place : List ℕ → ℕ) (rest : List ℕ) : Type 0 where
  pub part : ends_part rest ≡ true
  pub free : comma_free rest ≡ true
  pub unrelated : (t : Tm) → related_to place t (tokens_in rest) ≡ None

pub ends-line : (place : List ℕ → ℕ) → EndsCon place []
unfolding past_text tokens_in
ends-line place = record { part = refl; free = refl; unrelated = λ t. refl }

grouped : (a b c rest : List ℕ) → ((a ++ b) ++ c) ++ rest ≡ a ++ (b ++ (c ++ rest))
grouped a b c rest = simp append_assoc

equal-tokens : (rest : List ℕ) → tokens_in (codes " = " ++ rest) ≡ sign 32 ∷ sign 61 ∷ sign 32 ∷ tokens_in rest
unfolding tokens_in
equal-tokens rest = refl

differ-tokens : (rest : List ℕ) → tokens_in (codes " \\= " ++ rest) ≡ sign 32 ∷ sign 92 ∷ sign 61 ∷ sign 32 ∷ tokens_in rest
unfolding tokens_in
differ-tokens rest = refl

past-equal : (ts : List Token) → past_text (codes " = ") (sign 32 ∷ sign 61 ∷ sign 32 ∷ ts) ≡ Some ts
unfolding past_text tokens_in
past-equal ts = refl

equal-no_differ : (ts : List Token) → past_text (codes " \\= ") (sign 32 ∷ sign 61 ∷ ts) ≡ None
unfolding past_text tokens_in
equal-no_differ ts = refl

differ-no_equal : (ts : List Token) → past_text (codes " = ") (sign 32 ∷ sign 92 ∷ ts) ≡ None
unfolding past_text tokens_in
differ-no_equal ts = refl

past-differ : (ts : List Token) → past_text (codes " \\= ") (sign 32 ∷ sign 92 ∷ sign 61 ∷ sign 32 ∷ ts) ≡ Some ts
unfolding past_text tokens_in
past-differ ts = refl

module _ (names : List (List ℕ)) (table : IsTable names) (rest : List ℕ) (end : EndsCon (place_in names) rest) where
  abbrev place : List ℕ → ℕ
  place = place_in names

  -- what is read of this text, before what is left
  abbrev IsCon : List ℕ → Con → Type 0
  IsCon text c = con_at place (tokens_in (text ++ rest)) ≡ Some (c, tokens_in rest)

  -- ---- equations

  equal-related : (t s : Tm) → Fine names table t → Fine names table s
      → related_at place (tokens_in (term_text names t ++ (codes " = " ++ (term_text names s ++ rest)))) ≡ Some (con.Eq (term_of t) (term_of s), tokens_in rest)
  equal-related t s g h =
      let behind = term_text names s ++ rest in
      ap (λ o. o >>= (λ r. related_to place r.0 r.1)) (term_at-read names table t (codes " = " ++ behind) g refl refl)
      ∙ ap (related_to place t) (equal-tokens behind)
      ∙ ap (λ o. elim o [ None ↦ keyed (codes " \\= ") (term_at place) (unequal t) (sign 32 ∷ sign 61 ∷ sign 32 ∷ tokens_in behind) | Some r ↦ made (λ s. con.Eq (term_of t) (term_of s)) (term_at place r) ])
      (past-equal (tokens_in behind))
      ∙ ap (made (λ s. con.Eq (term_of t) (term_of s))) (term_at-read names table s rest h end.part end.free)

  equal-no_shape : (t : Tm) (bytes : List ℕ) → Fine names table t → not_shape_at place (tokens_in (term_text names t ++ (codes " = " ++ bytes))) ≡ None
  equal-no_shape (var x) bytes g =
      ap (not_shape_at place) (variable-read x (codes " = " ++ bytes) (place-below x g.1) (ends-digits (codes " = " ++ bytes) refl) ∙ ap (λ ts. variable x ∷ ts) (equal-tokens bytes))
      ∙ ap (λ o. o >>= (λ r. made (shape_con x) (shape_at place r))) (equal-no_differ (sign 32 ∷ tokens_in bytes))
  equal-no_shape (num q) bytes g = other-no_shape names table (num q) (codes " = " ++ bytes) refl g refl
  equal-no_shape (app f ts) bytes g = other-no_shape names table (app f ts) (codes " = " ++ bytes) refl g refl

  equal-read : (t s : Term) → Fine names table (tm_of t) → Fine names table (tm_of s) → IsCon (con_text names (con.Eq t s)) (con.Eq t s)
  equal-read t s g h =
      let behind = term_text names (tm_of s) ++ rest in
      ap (λ bytes. con_at place (tokens_in bytes)) (grouped (term_text names (tm_of t)) (codes " = ") (term_text names (tm_of s)) rest)
      ∙ third-form place (tokens_in (term_text names (tm_of t) ++ (codes " = " ++ behind))) _
      (term-no_row names table (tm_of t) 61 (sign 32 ∷ tokens_in behind) (codes " = " ++ behind) g refl (equal-no_relation (sign 32 ∷ tokens_in behind)) (equal-tokens behind))
      (equal-no_shape (tm_of t) behind g) (equal-related (tm_of t) (tm_of s) g h)
      ∙ (λ i. Some (con.Eq (same-term t i) (same-term s i), tokens_in rest))

  -- ---- disequations

  differ-related : (t s : Tm) → Fine names table t → Fine names table s
      → related_at place (tokens_in (term_text names t ++ (codes " \\= " ++ (term_text names s ++ rest)))) ≡ Some (unequal t s, tokens_in rest)
  differ-related t s g h =
      let behind = term_text names s ++ rest in
      let ts = sign 32 ∷ sign 92 ∷ sign 61 ∷ sign 32 ∷ tokens_in behind in
      ap (λ o. o >>= (λ r. related_to place r.0 r.1)) (term_at-read names table t (codes " \\= " ++ behind) g refl refl)
      ∙ ap (related_to place t) (differ-tokens behind)
      ∙ ap (λ o. elim o [ None ↦ keyed (codes " \\= ") (term_at place) (unequal t) ts | Some r ↦ made (λ s. con.Eq (term_of t) (term_of s)) (term_at place r) ]) (differ-no_equal (sign 61 ∷ sign 32 ∷ tokens_in behind))
      ∙ ap (λ o. o >>= (λ r. made (unequal t) (term_at place r))) (past-differ (tokens_in behind))
      ∙ ap (made (unequal t)) (term_at-read names table s rest h end.part end.free)

  -- a variable, where no shape stands behind it
  variable-no_shape : (x : ℕ) (bytes : List ℕ) → is_place x ≡ true → shape_at place (tokens_in bytes) ≡ None → not_shape_at place (tokens_in (var_text x ++ (codes " \\= " ++ bytes))) ≡ None
  variable-no_shape x bytes h n =
      ap (not_shape_at place) (variable-read x (codes " \\= " ++ bytes) (place-below x h) (ends-digits (codes " \\= " ++ bytes) refl) ∙ ap (λ ts. variable x ∷ ts) (differ-tokens bytes))
      ∙ ap (λ o. o >>= (λ r. made (shape_con x) (shape_at place r))) (past-differ (tokens_in bytes))
      ∙ ap (made (shape_con x)) n

  differ-no_shape : (t s : Tm) → is_shape t s ≡ false → Fine names table t → Fine names table s → not_shape_at place (tokens_in (term_text names t ++ (codes " \\= " ++ (term_text names s ++ rest)))) ≡ None
  differ-no_shape (var x) s n g h = variable-no_shape x (term_text names s ++ rest) g.1 (other-shape names table x s rest n h end.part)
  differ-no_shape (num q) s n g h = other-no_shape names table (num q) (codes " \\= " ++ (term_text names s ++ rest)) refl g refl
  differ-no_shape (app f ts) s n g h = other-no_shape names table (app f ts) (codes " \\= " ++ (term_text names s ++ rest)) refl g refl

  unequal-same : (t s : Tm) → is_shape t s ≡ false → unequal t s ≡ con.Neq (term_of t) (term_of s)
  unequal-same (var x) (var y) n = refl
  unequal-same (var x) (num q) n = refl
  unequal-same (var x) (app f nil) n = absurd (false≢true (sym n))
  unequal-same (var x) (app f (cons t ts)) n = refl
  unequal-same (num q) s n = refl
  unequal-same (app f ts) s n = refl

  differ-read : (t s : Term) → is_shape (tm_of t) (tm_of s) ≡ false → Fine names table (tm_of t) → Fine names table (tm_of s) → IsCon (con_text names (con.Neq t s)) (con.Neq t s)
  differ-read t s n g h =
      let behind = term_text names (tm_of s) ++ rest in
      ap (λ bytes. con_at place (tokens_in bytes)) (grouped (term_text names (tm_of t)) (codes " \\= ") (term_text names (tm_of s)) rest)
      ∙ third-form place (tokens_in (term_text names (tm_of t) ++ (codes " \\= " ++ behind))) _
      (term-no_row names table (tm_of t) 92 (sign 61 ∷ sign 32 ∷ tokens_in behind) (codes " \\= " ++ behind) g refl (differ-no_relation (sign 61 ∷ sign 32 ∷ tokens_in behind)) (differ-tokens behind))
      (differ-no_shape (tm_of t) (tm_of s) n g h) (differ-related (tm_of t) (tm_of s) g h)
      ∙ ap (λ c. Some (c, tokens_in rest)) (unequal-same (tm_of t) (tm_of s) n)
      ∙ (λ i. Some (con.Neq (same-term t i) (same-term s i), tokens_in rest))

  -- ---- shapes

  -- without arguments: a constant
  constant-shape : (x f : ℕ) → is_place x ≡ true → nat_lt f (length names) ≡ true → IsCon (var_text x ++ codes " \\= " ++ constant_text names f) (con.NotShape x f 0)
  constant-shape x f hx hf =
      let behind = constant_text names f ++ rest in
      let g : Fine names table (var x) = (refl, hx) in
      let h : Fine names table (app f nil) = (ap (λ t. t && true) hf, refl) in
      ap (λ bytes. con_at place (tokens_in bytes)) (grouped (var_text x) (codes " \\= ") (constant_text names f) rest)
      ∙ third-form place (tokens_in (var_text x ++ (codes " \\= " ++ behind))) _
      (term-no_row names table (var x) 92 (sign 61 ∷ sign 32 ∷ tokens_in behind) (codes " \\= " ++ behind) g refl (differ-no_relation (sign 61 ∷ sign 32 ∷ tokens_in behind)) (differ-tokens behind))
      (variable-no_shape x behind hx (constant-other names table f rest hf end.part)) (differ-related (var x) (app f nil) g h)

  slash-tokens : (bytes : List ℕ) → tokens_in (47 ∷ bytes) ≡ sign 47 ∷ tokens_in bytes
  unfolding tokens_in
  slash-tokens bytes = refl

  past-slash : (ts : List Token) → past_text (codes "/") (sign 47 ∷ ts) ≡ Some ts
  unfolding past_text tokens_in
  past-slash ts = refl

  shape-read : (f n : ℕ) → nat_lt f (length names) ≡ true → is_count n ≡ true → nat_lt 0 n ≡ true
      → shape_at place (tokens_in (name_text names f ++ (47 ∷ (decimal n ++ rest)))) ≡ Some ((f, n), tokens_in rest)
  shape-read f n hf hn above =
      let behind = 47 ∷ (decimal n ++ rest) in
      let text = text_at names f in
      ap (shape_at place) (name-read text behind (text-utf8 names table f hf) refl)
      ∙ ap (λ o. o >>= (λ r. past_text (codes "/") r.1 >>= (λ rest. option_map (λ q. ((r.0, q.0), q.1)) (only (λ n. nat_lt 0 n) number_at rest)))) (name_at-read place text (tokens_in behind))
      ∙ ap (λ ts. past_text (codes "/") ts >>= (λ rest. option_map (λ q. ((place text, q.0), q.1)) (only (λ n. nat_lt 0 n) number_at rest)))
      (slash-tokens (decimal n ++ rest) ∙ ap (λ ts. sign 47 ∷ ts) (digits-read n rest (count-below n hn) (ends-digits rest end.part)))
      ∙ ap (λ o. o >>= (λ rest. option_map (λ q. ((place text, q.0), q.1)) (only (λ n. nat_lt 0 n) number_at rest))) (past-slash (digits n ∷ tokens_in rest))
      ∙ rw above (ap (λ g. Some ((g, n), tokens_in rest)) (text-place names table f hf))

  full-shape : (x f n : ℕ) → is_place x ≡ true → is_count n ≡ true → nat_lt f (length names) ≡ true → nat_lt 0 n ≡ true
      → IsCon (var_text x ++ codes " \\= " ++ (name_text names f ++ codes "/" ++ decimal n)) (con.NotShape x f n)
  full-shape x f n hx hn hf above =
      let behind = name_text names f ++ (47 ∷ (decimal n ++ rest)) in
      ap (λ bytes. con_at place (tokens_in bytes)) (shape-grouped (var_text x) (codes " \\= ") (name_text names f) (codes "/") (decimal n))
      ∙ second-form place (tokens_in (var_text x ++ (codes " \\= " ++ behind))) _
      (term-no_row names table (var x) 92 (sign 61 ∷ sign 32 ∷ tokens_in behind) (codes " \\= " ++ behind) (refl, hx) refl (differ-no_relation (sign 61 ∷ sign 32 ∷ tokens_in behind)) (differ-tokens behind))
      (ap (not_shape_at place) (variable-read x (codes " \\= " ++ behind) (place-below x hx) (ends-digits (codes " \\= " ++ behind) refl) ∙ ap (λ ts. variable x ∷ ts) (differ-tokens behind))
      ∙ ap (λ o. o >>= (λ r. made (shape_con x) (shape_at place r))) (past-differ (tokens_in behind))
      ∙ ap (made (shape_con x)) (shape-read f n hf hn above))
      ∙ rw (hx, hn) refl
    where
      shape-grouped : (v d f s n : List ℕ) → ((v ++ d) ++ ((f ++ s) ++ n)) ++ rest ≡ v ++ (d ++ (f ++ (s ++ (n ++ rest))))
      shape-grouped v d f s n = simp append_assoc

  shapes-read : (x f n : ℕ) → is_place x ≡ true → is_count n ≡ true → nat_lt f (length names) ≡ true → IsCon (con_text names (con.NotShape x f n)) (con.NotShape x f n)
  shapes-read x f n hx hn hf = by (n == 0) refl
    where
      positive : (n == 0) ≡ false → nat_lt 0 n ≡ true
      positive e = grind (arith, nat_tests)

      by : (t : Bool) → (n == 0) ≡ t → IsCon (var_text x ++ codes " \\= " ++ (if t then constant_text names f else name_text names f ++ codes "/" ++ decimal n)) (con.NotShape x f n)
      by true e = constant-shape x f hx hf ∙ ap (λ m. Some (con.NotShape x f m, tokens_in rest)) (sym (eqb-true n 0 e))
      by false e = full-shape x f n hx hn hf (positive e)

  -- ---- types

  num-tokens : (bytes : List ℕ) → tokens_in (codes "num(" ++ bytes) ≡ word (codes "num") ∷ paren ∷ tokens_in bytes
  unfolding tokens_in
  num-tokens bytes = refl

  not_num-tokens : (bytes : List ℕ) → tokens_in (codes "not num(" ++ bytes) ≡ word (codes "not") ∷ sign 32 ∷ word (codes "num") ∷ paren ∷ tokens_in bytes
  unfolding tokens_in
  not_num-tokens bytes = refl

  past-num : (ts : List Token) → past_text (codes "num(") (word (codes "num") ∷ paren ∷ ts) ≡ Some ts
  unfolding past_text tokens_in
  past-num ts = refl

  not-no_num : (ts : List Token) → past_text (codes "num(") (word (codes "not") ∷ ts) ≡ None
  unfolding past_text tokens_in
  not-no_num ts = refl

  past-not_num : (ts : List Token) → past_text (codes "not num(") (word (codes "not") ∷ sign 32 ∷ word (codes "num") ∷ paren ∷ ts) ≡ Some ts
  unfolding past_text tokens_in
  past-not_num ts = refl

  -- a term in brackets
  inner-read : (t : Tm) → Fine names table t → until (codes ")") (term_at place) (tokens_in (term_text names t ++ (41 ∷ rest))) ≡ Some (t, tokens_in rest)
  inner-read t g =
      ap (λ o. o >>= (λ r. option_map (λ rest. (r.0, rest)) (past_text (codes ")") r.1))) (term_at-read names table t (41 ∷ rest) g refl refl)
      ∙ ap (option_map (λ rest. (t, rest))) (past-close names table rest)

  no-pair : (f : ℕ) (t : Tm) → called f (t ∷ []) ≡ Some (app f (cons t nil))
  no-pair f t = by (f == 1)
    where
      by : (b : Bool) → (if b && false then None else Some (app f (cons t nil))) ≡ Some (app f (cons t nil))
      by true = refl
      by false = refl

  -- `num(t)` is a term, but neither an equation nor a disequation stands there
  num-unrelated : (t : Tm) → Fine names table t → related_at place (word (codes "num") ∷ paren ∷ tokens_in (term_text names t ++ (41 ∷ rest))) ≡ None
  unfolding terms_at
  num-unrelated t g =
      let f = place (codes "num") in
      ap (λ o. o >>= (λ r. only_one r.0 r.1) >>= (λ r. related_to place r.0 r.1))
      (term-read names table t g (41 ∷ rest) refl (call f [] ∷ []) [] ∙ ap (ends place (call f [] ∷ []) [] (Some t)) (close-read rest)
      ∙ ap (λ o. ends place [] [] o (tokens_in rest)) (no-pair f t) ∙ top-ends place [] (app f (cons t nil)) rest end.part end.free)
      ∙ end.unrelated (app f (cons t nil))

  num-read : (t : Term) → Fine names table (tm_of t) → IsCon (con_text names (con.Num t)) (con.Num t)
  num-read t g =
      let behind = term_text names (tm_of t) ++ (41 ∷ rest) in
      ap (λ bytes. con_at place (tokens_in bytes)) (grouped (codes "num(") (term_text names (tm_of t)) (codes ")") rest)
      ∙ ap (con_at place) (num-tokens behind)
      ∙ fourth-form place (word (codes "num") ∷ paren ∷ tokens_in behind) _ refl refl (num-unrelated (tm_of t) g)
      (ap (λ o. elim o [ None ↦ keyed (codes "not num(") (until (codes ")") (term_at place)) (λ t. con.NotNum (term_of t)) (word (codes "num") ∷ paren ∷ tokens_in behind) | Some r ↦ made (λ t. con.Num (term_of t)) (until (codes ")") (term_at place) r) ])
      (past-num (tokens_in behind))
      ∙ ap (made (λ t. con.Num (term_of t))) (inner-read (tm_of t) g))
      ∙ ap (λ t. Some (con.Num t, tokens_in rest)) (same-term t)

  not-unrelated : (ts : List Token) → related_at place (word (codes "not") ∷ sign 32 ∷ ts) ≡ None
  unfolding terms_at
  not-unrelated ts = refl

  not_num-read : (t : Term) → Fine names table (tm_of t) → IsCon (con_text names (con.NotNum t)) (con.NotNum t)
  not_num-read t g =
      let behind = term_text names (tm_of t) ++ (41 ∷ rest) in
      let ts = word (codes "not") ∷ sign 32 ∷ word (codes "num") ∷ paren ∷ tokens_in behind in
      ap (λ bytes. con_at place (tokens_in bytes)) (grouped (codes "not num(") (term_text names (tm_of t)) (codes ")") rest)
      ∙ ap (con_at place) (not_num-tokens behind)
      ∙ fourth-form place ts _ refl refl (not-unrelated (word (codes "num") ∷ paren ∷ tokens_in behind))
      (ap (λ o. elim o [ None ↦ keyed (codes "not num(") (until (codes ")") (term_at place)) (λ t. con.NotNum (term_of t)) ts | Some r ↦ made (λ t. con.Num (term_of t)) (until (codes ")") (term_at place) r) ])
      (not-no_num (sign 32 ∷ word (codes "num") ∷ paren ∷ tokens_in behind))
      ∙ ap (λ o. o >>= (λ r. made (λ t. con.NotNum (term_of t)) (until (codes ")") (term_at place) r))) (past-not_num (tokens_in behind))
      ∙ ap (made (λ t. con.NotNum (term_of t))) (inner-read (tm_of t) g))
      ∙ ap (λ t. Some (con.NotNum t, tokens_in rest)) (same-term t)

  -- ---- rows

  rows-read : (r : Linear) → is_normal r ≡ true → row_fits r ≡ true → IsCon (row_text r) (con.Row r)
  rows-read r n f =
      first-form place (tokens_in (row_text r ++ rest)) (con.Row r, tokens_in rest)
      (ap (made row_con) (row-read r rest n f end.part) ∙ ap (λ b. Some ((if b then con.Row r else unfit_con), tokens_in rest)) f)

  -- ---- any constraint

  fine-both : (t s : Tm) → (is_named (length names) t && is_named (length names) s) ≡ true → (term_fits t && term_fits s) ≡ true → Fine names table t × Fine names table s
  fine-both t s n f =
      let ns = and_parts (is_named (length names) t) (is_named (length names) s) n in
      let fs = and_parts (term_fits t) (term_fits s) f in ((ns.0, fs.0), (ns.1, fs.1))

  pub con-read : (c : Con) → is_spelled (length names) c ≡ true → con_fits c ≡ true → con_at place (tokens_in (con_text names c ++ rest)) ≡ Some (c, tokens_in rest)
  con-read (con.Eq t s) n f = let g = fine-both (tm_of t) (tm_of s) n f in equal-read t s g.0 g.1
  con-read (con.Neq t s) n f =
      let ns = and_parts (is_named (length names) (tm_of t) && is_named (length names) (tm_of s)) (not (is_shape (tm_of t) (tm_of s))) n in
      let g = fine-both (tm_of t) (tm_of s) ns.0 f in
      differ-read t s (not-true (is_shape (tm_of t) (tm_of s)) ns.1) g.0 g.1
  con-read (con.NotShape x f n) h fits = let fs = and_parts (is_place x) (is_count n) fits in shapes-read x f n fs.0 fs.1 h
  con-read (con.Num t) n f = num-read t (n, f)
  con-read (con.NotNum t) n f = not_num-read t (n, f)
  con-read (con.Row r) n f = rows-read r n f
