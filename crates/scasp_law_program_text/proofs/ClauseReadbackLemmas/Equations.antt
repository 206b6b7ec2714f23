-- Equations and disequations are read back.
use Rattle.std.proofs.Common.{◌≡◌, ℕ, ◌+◌, ◌-◌, Bool, true, false, ◌&&◌, ◌==◌, nat_lt, List, [], ◌∷◌, ◌++◌, length, codes, Option, Some, Ok, refl, sym, ap, subst, ◌∙◌, arith, append_assoc, length-append}
use Rattle.std.specs.Prelude.{if◌then◌else◌}
use Rattle.std.proofs.lemmas.Bool.{and_parts}
use Rattle.scasp_num.specs.Number.{Number}
use Rattle.scasp_name.specs.Texts.{with_text}
use Rattle.scasp_syntax.specs.Tm.{Tm, Tms, var, num, app, nil, cons, items, listed}
use Rattle.scasp_syntax.proofs.TermLemmas.{listed-items}
use Rattle.scasp_reader_tokens.specs.declared.sign.Sign.{Sign}
use Rattle.scasp_reader_tokens.specs.declared.sign.Sign.TheVariants as sign
use Rattle.scasp_reader_tokens.specs.declared.token.Placed.{Placed}
use Rattle.scasp_reader_tokens.specs.declared.token.Token.TheVariants as token
use Rattle.scasp_reader_tokens.specs.Tokens.{placed, tokens_behind}
use Rattle.scasp_cert.specs.Text.Names.{text_at, name_text}
use Rattle.scasp_cert.specs.Text.Terms.{is_pair}
use Rattle.scasp_reader_terms.specs.Steps.{State, is_operand_sign}
use Rattle.scasp_reader_terms.specs.Names.{place_in}
use Rattle.scasp_reader_terms.specs.Terms.{term, below, arguments}
use Rattle.scasp_reader.specs.declared.bodies.atoms.TheConstants.{DEPTH_LIMIT}
use Rattle.scasp_reader.specs.Bodies.Items.{equation_of, equation_sign_of, equation, named_item, item}
use Rattle.scasp_print_program.specs.Terms.{Style, variable_text, term_text, pair_text}
use Rattle.scasp_law_program_text.proofs.ReadbackLemmas.SignReading.{blank_read, equal_read, differ_read, open_list_read}
use Rattle.scasp_law_program_text.proofs.ReadbackLemmas.VariableReading.{variable-read}
use Rattle.scasp_law_program_text.specs.TermReadback.Reading.{before, behind_term, EndsTerm}
use Rattle.scasp_law_program_text.proofs.TermReadbackLemmas.Ends.{equal_ends, differ_ends}
use Rattle.scasp_law_program_text.specs.CompoundReadback.Styles.{IsStyle}
use Rattle.scasp_law_program_text.specs.CompoundReadback.Fitting.{fits, pair_fits}
use Rattle.scasp_law_program_text.specs.CompoundReadback.Counting.{count}
use Rattle.scasp_law_program_text.specs.CompoundReadback.Reading.{had, Reads}
use Rattle.scasp_law_program_text.proofs.CompoundReadbackLemmas.Tables.{name-place, name-there, variable-is}
use Rattle.scasp_law_program_text.proofs.CompoundReadbackLemmas.Tokens.{digits_token, by-number}
use Rattle.scasp_law_program_text.proofs.CompoundReadbackLemmas.Terms.{bind-parts, term-read}
use Rattle.scasp_law_program_text.specs.ClauseReadback.Fitting.{arguments_fit}
use Rattle.scasp_law_program_text.specs.ClauseReadback.Counting.{count_both}
use Rattle.scasp_law_program_text.proofs.ClauseReadbackLemmas.Names.{arguments_text, named_text, named-length, named-tokens, arguments-reads}

-- what stands between the two sides: a sign, with a blank before and behind it
pub record Between (text : List ℕ) (t : Sign) (are_equal : Bool) : Type 0 where
  pub is : equation_sign_of t ≡ Some are_equal
  pub ends : (rest : List ℕ) → EndsTerm (text ++ rest)
  pub reads : (rest : List ℕ) (at : ℕ) → tokens_behind 0 at (text ++ rest) ≡ placed (at + 1) (token.Sign t) ∷ tokens_behind 0 (at + length text) rest

pub equal : Between (codes " = ") sign.Equal true
equal = record {
  is = refl;
  ends = equal_ends;
  reads =
      λ rest at.
      let place : at + 1 + 1 + 1 ≡ at + 3 = omega arith in
      blank_read (61 ∷ 32 ∷ rest) at ∙ equal_read rest (at + 1)
      ∙ ap (λ ts. placed (at + 1) (token.Sign sign.Equal) ∷ ts) (blank_read rest (at + 1 + 1) ∙ ap (λ a. tokens_behind 0 a rest) place);
}

pub differ : Between (codes " \\= ") sign.Differ false
differ = record {
  is = refl;
  ends = differ_ends;
  reads =
      λ rest at.
      let place : at + 1 + 2 + 1 ≡ at + 4 = omega arith in
      blank_read (92 ∷ 61 ∷ 32 ∷ rest) at ∙ differ_read rest (at + 1)
      ∙ ap (λ ts. placed (at + 1) (token.Sign sign.Differ) ∷ ts) (blank_read rest (at + 1 + 2) ∙ ap (λ a. tokens_behind 0 a rest) place);
}

-- ---- steps

module _ (t : Sign) (are_equal : Bool) (is : equation_sign_of t ≡ Some are_equal) (s : State) (vs : List Placed) where
  equation-step : (s1 s2 : State) (c : ℕ) (l r : Tm) → term DEPTH_LIMIT s ≡ Ok (l, record s1 { tokens = placed c (token.Sign t) ∷ vs })
      → term DEPTH_LIMIT (record s1 { tokens = vs; is_behind_operand = is_operand_sign t }) ≡ Ok (r, s2) → equation s ≡ Ok (equation_of are_equal l r, s2)
  equation-step s1 s2 c l r e f = rw (e, is, f) refl

  named-step : (s1 s2 : State) (us : List Placed) (a c from : ℕ) (text : List ℕ) (xs : List Tm) (r : Tm)
      → arguments (below term DEPTH_LIMIT) (record s { tokens = us; is_behind_operand = true; names = with_text s.names text }) ≡ Ok (xs, record s1 { tokens = placed c (token.Sign t) ∷ vs })
      → term DEPTH_LIMIT (record s1 { tokens = vs; is_behind_operand = is_operand_sign t }) ≡ Ok (r, s2)
      → named_item from text (record s { tokens = placed a (token.Name text) ∷ us }) ≡ Ok (equation_of are_equal (app (place_in s.names text) (listed xs)) r, s2)
  named-step s1 s2 us a c from text xs r e f = rw (e, is, f) refl

  -- what begins an equation
  abbrev Begins : List Placed → Type 0
  Begins ts = item (record s { tokens = ts }) ≡ equation (record s { tokens = ts })

  variable-begins : (a c : ℕ) (text : List ℕ) → Begins (placed a (token.Variable text) ∷ placed c (token.Sign t) ∷ vs)
  unfolding item
  variable-begins a c text = rw is refl

  whole-begins : (a c : ℕ) (q : Option Number) → Begins (placed a (token.Number q) ∷ placed c (token.Sign t) ∷ vs)
  unfolding item
  whole-begins a c q = rw is refl

  minus_whole-begins : (a b c : ℕ) (q : Option Number) → Begins (placed a (token.Sign sign.Minus) ∷ placed b (token.Number q) ∷ placed c (token.Sign t) ∷ vs)
  unfolding item
  minus_whole-begins a b c q = rw is refl

  fraction-begins : (a b c d : ℕ) (p q : Option Number) → Begins (placed a (token.Number p) ∷ placed b (token.Sign sign.Over) ∷ placed c (token.Number q) ∷ placed d (token.Sign t) ∷ vs)
  unfolding item
  fraction-begins a b c d p q = rw is refl

  minus_fraction-begins : (a b c d e : ℕ) (p q : Option Number)
      → Begins (placed a (token.Sign sign.Minus) ∷ placed b (token.Number p) ∷ placed c (token.Sign sign.Over) ∷ placed d (token.Number q) ∷ placed e (token.Sign t) ∷ vs)
  unfolding item
  minus_fraction-begins a b c d e p q = rw is refl

list-begins : (s : State) (ts : List Placed) (a : ℕ) → item (record s { tokens = placed a (token.Sign sign.OpenList) ∷ ts }) ≡ equation (record s { tokens = placed a (token.Sign sign.OpenList) ∷ ts })
unfolding item
list-begins s ts a = refl

plain-item : (s : State) (ts : List Placed) (a : ℕ) (text : List ℕ)
    → item (record s { tokens = placed a (token.Name text) ∷ ts }) ≡ named_item a text (record s { tokens = placed a (token.Name text) ∷ ts })
unfolding item
plain-item s ts a text = refl

-- ---- both sides

module _ (w : Style) (style : IsStyle w) (sep : List ℕ) (t : Sign) (are_equal : Bool) (between : Between sep t are_equal) where
  module _ (l r : Tm) (n m k : ℕ) (gl : fits w DEPTH_LIMIT l ≡ true) (cl : count w n l ≡ Some m) (gr : fits w DEPTH_LIMIT r ≡ true) (cr : count w m r ≡ Some k) (s : State) (rest : List ℕ) (end : EndsTerm rest) (at : ℕ) where
    abbrev left : List ℕ
    left = term_text w DEPTH_LIMIT l

    abbrev right : List ℕ
    right = term_text w DEPTH_LIMIT r

    -- the bytes behind the left side
    abbrev others : List ℕ
    others = sep ++ (right ++ rest)

    abbrev start : ℕ
    start = at + length left

    abbrev behind : State
    behind = behind_term (had w k s) (start + length sep + length right) rest

    abbrev vs : List Placed
    vs = tokens_behind 0 (start + length sep) (right ++ rest)

    grouped : ((left ++ sep) ++ right) ++ rest ≡ left ++ others
    grouped = append_assoc (left ++ sep) right rest ∙ append_assoc left sep (right ++ rest)

    place : start + length sep + length right ≡ at + length ((left ++ sep) ++ right)
    place = omega (arith, length-append (left ++ sep) right, length-append left sep)

    right-reads : term DEPTH_LIMIT (record (had w m s) { tokens = vs; is_behind_operand = is_operand_sign t }) ≡ Ok (r, behind)
    right-reads = term-read w style r DEPTH_LIMIT m k gr cr (record s { is_behind_operand = is_operand_sign t }) rest end (start + length sep)

    by-equation : item (before (had w n s) at (left ++ others)) ≡ equation (before (had w n s) at (left ++ others))
        → item (before (had w n s) at (((left ++ sep) ++ right) ++ rest)) ≡ Ok (equation_of are_equal l r, behind_term (had w k s) (at + length ((left ++ sep) ++ right)) rest)
    by-equation begins =
        ap (λ bs. item (before (had w n s) at bs)) grouped
        ∙ begins
        ∙ equation-step t are_equal between.is (before (had w n s) at (left ++ others)) vs (behind_term (had w m s) start others) behind (start + 1) l r
        (term-read w style l DEPTH_LIMIT n m gl cl s others (between.ends (right ++ rest)) at ∙ ap (λ ts. Ok (l, record (behind_term (had w m s) start others) { tokens = ts })) (between.reads (right ++ rest) start))
        right-reads
        ∙ ap (λ p. Ok (equation_of are_equal l r, behind_term (had w k s) p rest)) place

  abbrev Goal : Tm → Type 0
  Goal l =
      (r : Tm) (n m k : ℕ) → fits w DEPTH_LIMIT l ≡ true → count w n l ≡ Some m → fits w DEPTH_LIMIT r ≡ true → count w m r ≡ Some k → (s : State) (rest : List ℕ) → EndsTerm rest
      → Reads w n k item ((term_text w DEPTH_LIMIT l ++ sep) ++ term_text w DEPTH_LIMIT r) (equation_of are_equal l r) s rest

  -- a name, with arguments or without
  named-reads : (f : ℕ) (ts : Tms) → term_text w DEPTH_LIMIT (app f ts) ≡ named_text w f ts → nat_lt f (length w.names) ≡ true → arguments_fit w ts ≡ true → Goal (app f ts)
  named-reads f ts same h args r n m k gl cl gr cr s rest end at =
      let text = text_at w.names f in
      let right = term_text w DEPTH_LIMIT r in
      let left = named_text w f ts in
      let others = sep ++ (right ++ rest) in
      let name-end = at + length (name_text w.names f) in
      let start = name-end + length (arguments_text w ts) in
      let us = tokens_behind 0 name-end (arguments_text w ts ++ others) in
      let vs = tokens_behind 0 (start + length sep) (right ++ rest) in
      let behind = behind_term (had w k s) (start + length sep + length right) rest in
      let ends = between.ends (right ++ rest) in
      let grouped : ((left ++ sep) ++ right) ++ rest ≡ left ++ others = append_assoc (left ++ sep) right rest ∙ append_assoc left sep (right ++ rest) in
      let place : start + length sep + length right ≡ at + length ((left ++ sep) ++ right) = omega (arith, length-append (left ++ sep) right, length-append left sep, named-length w f ts) in
      subst (λ left. item (before (had w n s) at (((left ++ sep) ++ right) ++ rest)) ≡ Ok (equation_of are_equal (app f ts) r, behind_term (had w k s) (at + length ((left ++ sep) ++ right)) rest)) (sym same)
      (ap (λ bs. item (before (had w n s) at bs)) grouped
      ∙ ap (λ ts. item (record (had w n s) { tokens = ts })) (named-tokens w f ts others at style h ends.1.0)
      ∙ plain-item (had w n s) us at text
      ∙ named-step t are_equal between.is (had w n s) vs (behind_term (had w m s) start others) behind us at (start + 1) at text (items ts) r
      (ap (λ ns. arguments (below term DEPTH_LIMIT) (record (behind_term (had w n s) name-end (arguments_text w ts ++ others)) { names = ns })) (name-there w style f h)
      ∙ arguments-reads w style n m ts s others name-end args cl ends
      ∙ ap (λ us. Ok (items ts, record (behind_term (had w m s) start others) { tokens = us })) (between.reads (right ++ rest) start))
      (term-read w style r DEPTH_LIMIT m k gr cr (record s { is_behind_operand = is_operand_sign t }) rest end (start + length sep))
      ∙ ap (λ g. Ok (equation_of are_equal (app g (listed (items ts))) r, behind)) (name-place w style f h)
      ∙ ap (λ us. Ok (equation_of are_equal (app f us) r, behind)) (listed-items ts)
      ∙ ap (λ p. Ok (equation_of are_equal (app f ts) r, behind_term (had w k s) p rest)) place)

  -- a list
  list-reads : (f : ℕ) (ts : Tms) (text : List ℕ) → term_text w DEPTH_LIMIT (app f ts) ≡ 91 ∷ text → Goal (app f ts)
  list-reads f ts text same r n m k gl cl gr cr s rest end at =
      let others = sep ++ (term_text w DEPTH_LIMIT r ++ rest) in
      let first : tokens_behind 0 at (term_text w DEPTH_LIMIT (app f ts) ++ others) ≡ placed at (token.Sign sign.OpenList) ∷ tokens_behind 0 (at + 1) (text ++ others) =
      ap (λ left. tokens_behind 0 at (left ++ others)) same ∙ open_list_read (text ++ others) at in
      by-equation (app f ts) r n m k gl cl gr cr s rest end at
      (subst (λ ts. item (record (had w n s) { tokens = ts }) ≡ equation (record (had w n s) { tokens = ts })) (sym first) (list-begins (had w n s) (tokens_behind 0 (at + 1) (text ++ others)) at))

  both-read : (l : Tm) → Goal l
  both-read (var x) =
      λ r n m k gl cl gr cr s rest end at.
      let text = variable_text w x in
      let others = term_text w DEPTH_LIMIT r ++ rest in
      let start = at + length text in
      let tokens = variable-read text (sep ++ others) at (variable-is w style x gl) (between.ends others).1.0 ∙ ap (λ ts. placed at (token.Variable text) ∷ ts) (between.reads others start) in
      by-equation (var x) r n m k gl cl gr cr s rest end at
      (subst (λ ts. item (record (had w n s) { tokens = ts }) ≡ equation (record (had w n s) { tokens = ts })) (sym tokens)
      (variable-begins t are_equal between.is (had w n s) (tokens_behind 0 (start + length sep) others) at (start + 1) text))
  both-read (num q) =
      λ r i m j gl cl gr cr s rest end at.
      let others = term_text w DEPTH_LIMIT r ++ rest in
      let P = λ (ts : List Placed). item (record (had w i s) { tokens = ts }) ≡ equation (record (had w i s) { tokens = ts }) in
      by-equation (num q) r i m j gl cl gr cr s rest end at
      (by-number (sep ++ others) (between.ends others).0.0 q at gl P
      (record {
        whole = λ n a. subst (λ ts. P (placed at (digits_token n) ∷ ts)) (sym (between.reads others a)) (whole-begins t are_equal between.is (had w i s) (tokens_behind 0 (a + length sep) others) at (a + 1) _);
        fraction =
            λ n k a b c.
            subst (λ ts. P (placed at (digits_token n) ∷ placed b (token.Sign sign.Over) ∷ placed c (digits_token k) ∷ ts)) (sym (between.reads others a))
            (fraction-begins t are_equal between.is (had w i s) (tokens_behind 0 (a + length sep) others) at b c (a + 1) _ _);
        minus_whole =
            λ n a b.
            subst (λ ts. P (placed at (token.Sign sign.Minus) ∷ placed b (digits_token n) ∷ ts)) (sym (between.reads others a))
            (minus_whole-begins t are_equal between.is (had w i s) (tokens_behind 0 (a + length sep) others) at b (a + 1) _);
        minus_fraction =
            λ n k a b c d.
            subst (λ ts. P (placed at (token.Sign sign.Minus) ∷ placed b (digits_token n) ∷ placed c (token.Sign sign.Over) ∷ placed d (digits_token k) ∷ ts)) (sym (between.reads others a))
            (minus_fraction-begins t are_equal between.is (had w i s) (tokens_behind 0 (a + length sep) others) at b c d (a + 1) _ _);
      }))
  both-read (app f nil) = by (f == 0) refl
    where
      named : nat_lt f (length w.names) && true ≡ true → nat_lt f (length w.names) ≡ true
      named g = (and_parts (nat_lt f (length w.names)) true g).0

      by : (b : Bool) → (f == 0) ≡ b → Goal (app f nil)
      by true e = λ r n m k gl. list-reads f nil (93 ∷ []) (ap (λ b. if b then codes "[]" else name_text w.names f) e) r n m k gl
      by false e = λ r n m k gl. named-reads f nil (ap (λ b. if b then codes "[]" else name_text w.names f) e) (named gl) refl r n m k gl
  both-read (app f (cons u us)) = by (is_pair f (cons u us)) refl
    where
      by : (b : Bool) → is_pair f (cons u us) ≡ b → Goal (app f (cons u us))
      by true e =
          λ r n m k gl.
          list-reads f (cons u us) (pair_text w (DEPTH_LIMIT - 1) true (cons u us) ++ codes "]")
          (ap (λ b. if b then codes "[" ++ pair_text w (DEPTH_LIMIT - 1) true (cons u us) ++ codes "]" else named_text w f (cons u us)) e) r n m k gl
      by false e =
          λ r n m k gl.
          let g = and_parts (nat_lt f (length w.names)) (if is_pair f (cons u us) then nat_lt 0 DEPTH_LIMIT && pair_fits w (DEPTH_LIMIT - 1) (cons u us) else arguments_fit w (cons u us)) gl in
          let args : arguments_fit w (cons u us) ≡ true = ap (λ b. if b then nat_lt 0 DEPTH_LIMIT && pair_fits w (DEPTH_LIMIT - 1) (cons u us) else arguments_fit w (cons u us)) (sym e) ∙ g.1 in
          named-reads f (cons u us) (ap (λ b. if b then codes "[" ++ pair_text w (DEPTH_LIMIT - 1) true (cons u us) ++ codes "]" else named_text w f (cons u us)) e) g.0 args r n m k gl

  -- of two terms, counted one behind the other
  sides-read : (l r : Tm) (n k : ℕ) → fits w DEPTH_LIMIT l && fits w DEPTH_LIMIT r ≡ true → count_both w n l r ≡ Some k → (s : State) (rest : List ℕ) → EndsTerm rest
      → Reads w n k item ((term_text w DEPTH_LIMIT l ++ sep) ++ term_text w DEPTH_LIMIT r) (equation_of are_equal l r) s rest
  sides-read l r n k g c s rest end =
      let p = and_parts (fits w DEPTH_LIMIT l) (fits w DEPTH_LIMIT r) g in
      let parts = bind-parts (count w n l) (λ m. count w m r) k c in
      both-read l r n parts.0 k p.0 parts.1 p.1 parts.2 s rest end

pub equal-read : (w : Style) (style : IsStyle w) (l r : Tm) (n k : ℕ) → fits w DEPTH_LIMIT l && fits w DEPTH_LIMIT r ≡ true → count_both w n l r ≡ Some k → (s : State) (rest : List ℕ) → EndsTerm rest
    → Reads w n k item ((term_text w DEPTH_LIMIT l ++ codes " = ") ++ term_text w DEPTH_LIMIT r) (equation_of true l r) s rest
equal-read w style = sides-read w style (codes " = ") sign.Equal true equal

pub differ-read : (w : Style) (style : IsStyle w) (l r : Tm) (n k : ℕ) → fits w DEPTH_LIMIT l && fits w DEPTH_LIMIT r ≡ true → count_both w n l r ≡ Some k → (s : State) (rest : List ℕ) → EndsTerm rest
    → Reads w n k item ((term_text w DEPTH_LIMIT l ++ codes " \\= ") ++ term_text w DEPTH_LIMIT r) (equation_of false l r) s rest
differ-read w style = sides-read w style (codes " \\= ") sign.Differ false differ
