-- Terms of all forms are read back.
use Rattle.std.proofs.Common.{◌≡◌, ℕ, ◌+◌, ◌-◌, ◌<◌, ◌≤◌, Bool, true, false, ◌&&◌, ◌==◌, nat_lt, List, [], ◌∷◌, ◌++◌, length, codes, Option, None, Some, Ok, refl, sym, ap, subst, ◌∙◌, arith, append_assoc, append-nil, length-append}
use Rattle.std.specs.Prelude.{if◌then◌else◌, nat_le}
use Rattle.std.proofs.lemmas.Bool.{and_parts}
use Rattle.std.proofs.lemmas.Bool.Decides.{nat_tests}
use borrow.Author.Tests.{eqb-true}
use Rattle.scasp_num.specs.Arithmetic.{◌>>=◌}
use Rattle.scasp_syntax.specs.Tm.{Tm, Tms, var, num, app, nil, cons, items, listed}
use Rattle.scasp_syntax.proofs.TermLemmas.{listed-items}
use Rattle.scasp_reader_tokens.specs.declared.sign.Sign.TheVariants as sign
use Rattle.scasp_reader_tokens.specs.declared.token.Token.TheVariants as token
use Rattle.scasp_reader_tokens.specs.Tokens.{placed, tokens_behind}
use Rattle.scasp_cert.specs.Text.Names.{text_at, name_text}
use Rattle.scasp_cert.specs.Text.Terms.{number_text, is_pair, called_text}
use Rattle.scasp_reader_terms.specs.declared.terms.TheConstants.{ARITY_LIMIT}
use Rattle.scasp_reader_terms.specs.Steps.{State, Read, then_read, token_of, is_sign, series}
use Rattle.scasp_reader_terms.specs.Terms.{term, one_more, several, arguments, compound, list_of, term_at_sign, elements_if}
use Rattle.scasp_reader_terms.proofs.TermLemmas.{list_of-push, below_some, term_name, term_sign}
use Rattle.scasp_law_program_text.proofs.ReadbackLemmas.NameReading.{name-read}
use Rattle.scasp_law_program_text.proofs.ReadbackLemmas.SignReading.{open_read, close_read, open_list_read, close_list_read, comma_read, bar_read}
use Rattle.scasp_print_program.specs.Terms.{Style, variable_text, term_text, tail_text, terms_text, pair_text}
use Rattle.scasp_law_program_text.specs.TermReadback.Reading.{before, behind_term, EndsTerm}
use Rattle.scasp_law_program_text.proofs.TermReadbackLemmas.Ends.{closing_ends, closing_list_ends}
use Rattle.scasp_law_program_text.specs.CompoundReadback.Styles.{IsStyle}
use Rattle.scasp_law_program_text.specs.CompoundReadback.Fitting.{fits, tail_fits, all_fit, pair_fits, tails_fit, call_fits}
use Rattle.scasp_law_program_text.specs.CompoundReadback.Counting.{count, count_all}
use Rattle.scasp_law_program_text.specs.CompoundReadback.Reading.{had, Reads}
use Rattle.scasp_law_program_text.proofs.CompoundReadbackLemmas.Tables.{name-utf8, name-place, name-there}
use Rattle.scasp_law_program_text.proofs.CompoundReadbackLemmas.TermTokens.{CallFits, call-parts, IsPair, pair-parts, rest-ends, second-ends, term-has}
use Rattle.scasp_law_program_text.proofs.CompoundReadbackLemmas.Steps.{term-front, paren-step, bracket-step, behind_one, series-step, behind-last, argument-step, element, behind_elements, elements_from, goes_on, elements-step, goes-to_end, goes-to_bar, compound-step}
use Rattle.scasp_law_program_text.proofs.CompoundReadbackLemmas.Leaves.{number-reads, variable-reads, name-reads, constant-reads}

pub bind-parts : {A B : Type 0} (o : Option A) (f : A → Option B) (y : B) → (o >>= f) ≡ Some y → (x : A) × (o ≡ Some x) × (f x ≡ Some y)
bind-parts None f y e = absurd cc
bind-parts (Some x) f y e = (x, refl, e)

regroup : (n p a c rest : List ℕ) → (((n ++ p) ++ a) ++ c) ++ rest ≡ n ++ (p ++ (a ++ (c ++ rest)))
regroup n p a c rest = simp append_assoc

above : (room : ℕ) → nat_lt 0 room ≡ true → 0 < room
above room h = grind (arith, nat_tests)

module _ (w : Style) (style : IsStyle w) where
  abbrev argument : ℕ → List Tm → Read Tm
  argument room before = one_more true (length before) (term room)

  abbrev pub ReadsTerm : Tm → Type 0
  ReadsTerm t =
      (room n m : ℕ) → fits w room t ≡ true → count w n t ≡ Some m → (s : State) (rest : List ℕ) → EndsTerm rest → Reads w n m (term room) (term_text w room t) t s rest

  -- behind an argument come these, up to the bracket's end
  abbrev pub ReadsRest : Tms → Type 0
  ReadsRest ts =
      (room n m : ℕ) → all_fit w room ts ≡ true → count_all w n ts ≡ Some m → (us : List Tm) (u : Tm) (k : ℕ) (s : State) (rest : List ℕ) (at : ℕ)
      → length us + 1 + length (items ts) ≤ ARITY_LIMIT → length (tokens_behind 0 at (terms_text w room false ts ++ (41 ∷ rest))) ≤ k
      → behind_one (argument room) k us u (behind_term (had w n s) at (terms_text w room false ts ++ (41 ∷ rest)))
      ≡ Ok (us ++ u ∷ items ts, behind_term (had w m s) (at + length (terms_text w room false ts)) (41 ∷ rest))

  -- a list goes on with this text, which ends it with this term
  abbrev Ends : ℕ → ℕ → ℕ → List ℕ → List Tm → Tm → Tm → Type 0
  Ends room n m text es h t =
      (k : ℕ) (s : State) (rest : List ℕ) (at : ℕ) → length (tokens_behind 0 at (text ++ (93 ∷ rest))) ≤ k
      → goes_on (term room) k es h (behind_term (had w n s) at (text ++ (93 ∷ rest))) ≡ Ok (t, behind_term (had w m s) (at + length text) (93 ∷ rest))

  abbrev ReadsTail : Tm → Type 0
  ReadsTail t = (room n m : ℕ) → tail_fits w room t ≡ true → count w n t ≡ Some m → (es : List Tm) (h : Tm) → Ends room n m (tail_text w room t) es h (list_of (es ++ h ∷ []) t)

  abbrev ReadsSecond : Tms → Type 0
  ReadsSecond ts =
      (room n m : ℕ) → tails_fit w room ts ≡ true → count_all w n ts ≡ Some m → length (items ts) ≡ 1 → (es : List Tm) (h : Tm)
      → Ends room n m (pair_text w room false ts) es h (list_of es (app 1 (cons h ts)))

  -- ---- arguments

  module _ (t : Tm) (ts : Tms) (here : ReadsTerm t) (more : ReadsRest ts) where
    first-read : (room n m : ℕ) → fits w room t ≡ true → all_fit w room ts ≡ true → count_all w n (cons t ts) ≡ Some m → (us : List Tm) (k : ℕ) (s : State) (rest : List ℕ) (at : ℕ)
        → length us + 1 + length (items ts) ≤ ARITY_LIMIT → length (tokens_behind 0 at (terms_text w room true (cons t ts) ++ (41 ∷ rest))) ≤ k
        → series (argument room) k us (before (had w n s) at (terms_text w room true (cons t ts) ++ (41 ∷ rest)))
        ≡ Ok (us ++ t ∷ items ts, behind_term (had w m s) (at + length (terms_text w room true (cons t ts))) (41 ∷ rest))
    first-read room n m g gs c us k s rest at few fuel =
        let first = term_text w room t in
        let behind = terms_text w room false ts in
        let bytes = behind ++ (41 ∷ rest) in
        let ends = rest-ends w room ts (41 ∷ rest) (closing_ends rest) in
        let parts = bind-parts (count w n t) (λ m. count_all w m ts) m c in
        let whole = append_assoc first behind (41 ∷ rest) in
        let left : length (tokens_behind 0 at (first ++ bytes)) ≤ k = rw whole at fuel in
        let has = term-has w style t room g bytes ends at in
        let some : 0 < k = omega (arith, left, has) in
        let less : length (tokens_behind 0 (at + length first) bytes) ≤ k - 1 = omega (arith, left, has) in
        let within : nat_le ARITY_LIMIT (length us) ≡ false = grind (arith, nat_tests) in
        let place : at + length first + length behind ≡ at + length (first ++ behind) = omega (arith, length-append first behind) in
        ap (λ bs. series (argument room) k us (before (had w n s) at bs)) whole
        ∙ series-step (argument room) k us (before (had w n s) at (first ++ bytes)) (behind_term (had w parts.0 s) (at + length first) bytes) t some
        (argument-step (term room) (length us) (before (had w n s) at (first ++ bytes)) within ∙ here room n parts.0 g parts.1 s bytes ends at)
        ∙ more room parts.0 m gs parts.2 us t (k - 1) s rest (at + length first) few less
        ∙ ap (λ a. Ok (us ++ t ∷ items ts, behind_term (had w m s) a (41 ∷ rest))) place

    next-read : ReadsRest (cons t ts)
    next-read room n m g c us u k s rest at few fuel =
        let p = and_parts (fits w room t) (all_fit w room ts) g in
        let text = terms_text w room true (cons t ts) in
        let bytes = text ++ (41 ∷ rest) in
        let comma = comma_read bytes at in
        let fewer : length (tokens_behind 0 (at + 1) bytes) ≤ k = omega (arith, fuel, ap length comma) in
        let room-left : length (us ++ u ∷ []) + 1 + length (items ts) ≤ ARITY_LIMIT = omega (arith, few, length-append us (u ∷ [])) in
        let place : at + 1 + length text ≡ at + length (44 ∷ text) = omega arith in
        ap (λ ts. behind_one (argument room) k us u (record (behind_term (had w n s) at bytes) { tokens = ts })) comma
        ∙ first-read room n m p.0 p.1 c (us ++ u ∷ []) k (record s { is_behind_operand = false }) rest (at + 1) room-left fewer
        ∙ ap (λ l. Ok (l, behind_term (had w m s) (at + 1 + length text) (41 ∷ rest))) (append_assoc us (u ∷ []) (t ∷ items ts))
        ∙ ap (λ a. Ok (us ++ u ∷ t ∷ items ts, behind_term (had w m s) a (41 ∷ rest))) place

    pub arguments-read : (room n m : ℕ) → fits w room t ≡ true → all_fit w room ts ≡ true → length (items (cons t ts)) ≤ ARITY_LIMIT → count_all w n (cons t ts) ≡ Some m → (s : State) (rest : List ℕ) (at : ℕ)
        → arguments (Some (term room)) (behind_term (had w n s) at (40 ∷ (terms_text w room true (cons t ts) ++ (41 ∷ rest))))
        ≡ Ok (t ∷ items ts, behind_term (had w m s) (at + 1 + length (terms_text w room true (cons t ts)) + 1) rest)
    arguments-read room n m g gs few c s rest at =
        let text = terms_text w room true (cons t ts) in
        let bytes = text ++ (41 ∷ rest) in
        let inside : State = record s { is_behind_operand = false; is_in_list = false } in
        let ending = at + 1 + length text in
        ap (λ ts. arguments (Some (term room)) (record (behind_term (had w n s) at bytes) { tokens = ts })) (open_read bytes at)
        ∙ paren-step (several true (term room)) (had w n s) (behind_term (had w m inside) ending (41 ∷ rest)) (tokens_behind 0 (at + 1) bytes) (tokens_behind 0 (ending + 1) rest) at ending (t ∷ items ts)
        (first-read room n m g gs c [] (length (tokens_behind 0 (at + 1) bytes)) inside rest (at + 1) (omega (arith, few)) (omega arith)
        ∙ ap (λ us. Ok (t ∷ items ts, record (behind_term (had w m inside) ending (41 ∷ rest)) { tokens = us })) (close_read rest ending))

  no-more : ReadsRest nil
  no-more room n m g c us u k s rest at few fuel =
      let same : n ≡ m = cc in
      let none : is_sign sign.Comma (token_of (tokens_behind 0 at (41 ∷ rest))) ≡ false = ap (λ ts. is_sign sign.Comma (token_of ts)) (close_read rest at) in
      let place : at ≡ at + 0 = omega arith in
      behind-last (argument room) k us u (behind_term (had w n s) at (41 ∷ rest)) none
      ∙ ap (λ n. Ok (us ++ u ∷ [], behind_term (had w n s) at (41 ∷ rest))) same
      ∙ ap (λ a. Ok (us ++ u ∷ [], behind_term (had w m s) a (41 ∷ rest))) place

  -- ---- the end of a list

  -- a term behind a bar
  barred : (room n m : ℕ) (text : List ℕ) (t : Tm) → ((s : State) (rest : List ℕ) → Reads w n m (term room) text t s (93 ∷ rest)) → (es : List Tm) (h : Tm) → Ends room n m (124 ∷ text) es h (list_of (es ++ h ∷ []) t)
  barred room n m text t read es h k s rest at fuel =
      let bytes = text ++ (93 ∷ rest) in
      let inside : State = record s { is_behind_operand = false } in
      let place : at + 1 + length text ≡ at + length (124 ∷ text) = omega arith in
      ap (λ ts. goes_on (term room) k es h (record (behind_term (had w n s) at bytes) { tokens = ts })) (bar_read bytes at)
      ∙ goes-to_bar (term room) k es h (had w n s) (behind_term (had w m inside) (at + 1 + length text) (93 ∷ rest)) (tokens_behind 0 (at + 1) bytes) at t (read inside rest (at + 1))
      ∙ ap (λ a. Ok (list_of (es ++ h ∷ []) t, behind_term (had w m s) a (93 ∷ rest))) place

  -- nothing behind the last element
  ended : (room n : ℕ) (es : List Tm) (h : Tm) → Ends room n n [] es h (list_of (es ++ h ∷ []) (app 0 nil))
  ended room n es h k s rest at fuel =
      let comma : is_sign sign.Comma (token_of (tokens_behind 0 at (93 ∷ rest))) ≡ false = ap (λ ts. is_sign sign.Comma (token_of ts)) (close_list_read rest at) in
      let bar : is_sign sign.Bar (token_of (tokens_behind 0 at (93 ∷ rest))) ≡ false = ap (λ ts. is_sign sign.Bar (token_of ts)) (close_list_read rest at) in
      let place : at ≡ at + 0 = omega arith in
      goes-to_end (term room) k es h (behind_term (had w n s) at (93 ∷ rest)) comma bar
      ∙ ap (λ a. Ok (list_of (es ++ h ∷ []) (app 0 nil), behind_term (had w n s) a (93 ∷ rest))) place

  constant-tail : (f : ℕ) → ReadsTail (app f nil)
  constant-tail f room n m g c es h = by (f == 0) refl
    where
      same : n ≡ m
      same = cc

      by : (b : Bool) → (f == 0) ≡ b → Ends room n m (if b then [] else codes "|" ++ name_text w.names f) es h (list_of (es ++ h ∷ []) (app f nil))
      by true e =
          subst (λ m. Ends room n m [] es h (list_of (es ++ h ∷ []) (app f nil))) same
          (subst (λ f. Ends room n n [] es h (list_of (es ++ h ∷ []) (app f nil))) (sym (eqb-true f 0 e)) (ended room n es h))
      by false e =
          subst (λ m. Ends room n m (124 ∷ name_text w.names f) es h (list_of (es ++ h ∷ []) (app f nil))) same
          (barred room n n (name_text w.names f) (app f nil)
          (λ s rest. name-reads w style room n f (and_parts (nat_lt f (length w.names)) true g).0 s (93 ∷ rest) (closing_list_ends rest)) es h)

  -- ---- names with arguments, and lists

  module _ (f : ℕ) (t : Tm) (ts : Tms) (here : ReadsTerm t) (more : ReadsRest ts) (second : ReadsSecond ts) where
    called-read : (room n m : ℕ) → CallFits w room f t ts → count_all w n (cons t ts) ≡ Some m → (s : State) (rest : List ℕ)
        → Reads w n m (term room) (called_text w.names f (cons t ts) (terms_text w (room - 1) true (cons t ts))) (app f (cons t ts)) s rest
    called-read room n m g c s rest at =
        let args = terms_text w (room - 1) true (cons t ts) in
        let text = text_at w.names f in
        let name = name_text w.names f in
        let bytes = 40 ∷ (args ++ (41 ∷ rest)) in
        let start = at + length name in
        let us = tokens_behind 0 start bytes in
        let few : length (items (cons t ts)) ≤ ARITY_LIMIT = fewer g.within in
        let place : start + 1 + length args + 1 ≡ at + length (((name ++ codes "(") ++ args) ++ codes ")") =
        omega (arith, length-append ((name ++ codes "(") ++ args) (codes ")"), length-append (name ++ codes "(") args, length-append name (codes "(")) in
        let now = behind_term (had w m s) (start + 1 + length args + 1) rest in
        ap (λ bs. term room (before (had w n s) at bs)) (regroup name (codes "(") args (codes ")") rest)
        ∙ ap (λ ts. term room (record (had w n s) { tokens = ts })) (name-read text bytes at (name-utf8 w style f g.named) refl)
        ∙ term_name room (record (had w n s) { tokens = placed at (token.Name text) ∷ us }) text refl
        ∙ ap (λ i. compound i text (record (had w n s) { tokens = placed at (token.Name text) ∷ us })) (below_some term room (above room g.opens))
        ∙ compound-step (term (room - 1)) text (had w n s) now us at (t ∷ items ts)
        (ap (λ ns. arguments (Some (term (room - 1))) (record (behind_term (had w n s) start bytes) { names = ns })) (name-there w style f g.named)
        ∙ arguments-read t ts here more (room - 1) n m g.first g.others few c s rest start)
        ∙ ap (λ g. Ok (app g (cons t (listed (items ts))), now)) (name-place w style f g.named)
        ∙ ap (λ us. Ok (app f (cons t us), now)) (listed-items ts)
        ∙ ap (λ a. Ok (app f (cons t ts), behind_term (had w m s) a rest)) place
      where
        fewer : nat_le (length (items (cons t ts))) ARITY_LIMIT ≡ true → length (items (cons t ts)) ≤ ARITY_LIMIT
        fewer h = grind (arith, nat_tests)

    elements-read : (room n m : ℕ) → IsPair f ts → pair_fits w room (cons t ts) ≡ true → count_all w n (cons t ts) ≡ Some m → (es : List Tm) (k : ℕ) (s : State) (rest : List ℕ) (at : ℕ)
        → length (tokens_behind 0 at (pair_text w room true (cons t ts) ++ (93 ∷ rest))) ≤ k
        → elements_from (term room) k es (before (had w n s) at (pair_text w room true (cons t ts) ++ (93 ∷ rest)))
        ≡ Ok (list_of es (app f (cons t ts)), behind_term (had w m s) (at + length (pair_text w room true (cons t ts))) (93 ∷ rest))
    elements-read room n m pair g c es k s rest at fuel =
        let p = and_parts (fits w room t) (tails_fit w room ts) g in
        let first = term_text w room t in
        let behind = pair_text w room false ts in
        let bytes = behind ++ (93 ∷ rest) in
        let ends = second-ends w room ts (93 ∷ rest) (closing_list_ends rest) in
        let parts = bind-parts (count w n t) (λ m. count_all w m ts) m c in
        let whole = append_assoc first behind (93 ∷ rest) in
        let left : length (tokens_behind 0 at (first ++ bytes)) ≤ k = rw whole at fuel in
        let has = term-has w style t room p.0 bytes ends at in
        let some : 0 < k = omega (arith, left, has) in
        let less : length (tokens_behind 0 (at + length first) bytes) ≤ k - 1 = omega (arith, left, has) in
        let place : at + length first + length behind ≡ at + length (first ++ behind) = omega (arith, length-append first behind) in
        ap (λ bs. elements_from (term room) k es (before (had w n s) at bs)) whole
        ∙ ap (λ r. then_read r (behind_elements (term room)))
        (series-step (element (term room)) k es (before (had w n s) at (first ++ bytes)) (behind_term (had w parts.0 s) (at + length first) bytes) t some (here room n parts.0 p.0 parts.1 s bytes ends at))
        ∙ second room parts.0 m p.1 parts.2 pair.one es t (k - 1) s rest (at + length first) less
        ∙ ap (λ g. Ok (list_of es (app g (cons t ts)), behind_term (had w m s) (at + length first + length behind) (93 ∷ rest))) (sym pair.name)
        ∙ ap (λ a. Ok (list_of es (app f (cons t ts)), behind_term (had w m s) a (93 ∷ rest))) place

    list-read : (room n m : ℕ) → IsPair f ts → nat_lt 0 room ≡ true → pair_fits w (room - 1) (cons t ts) ≡ true → count_all w n (cons t ts) ≡ Some m → (s : State) (rest : List ℕ)
        → Reads w n m (term room) (codes "[" ++ pair_text w (room - 1) true (cons t ts) ++ codes "]") (app f (cons t ts)) s rest
    list-read room n m pair opens g c s rest at =
        let r = room - 1 in
        let first = term_text w r t in
        let behind = pair_text w r false ts in
        let text = first ++ behind in
        let bytes = text ++ (93 ∷ rest) in
        let inside : State = record s { is_behind_operand = false; is_in_list = true } in
        let us = tokens_behind 0 (at + 1) bytes in
        let ending = at + 1 + length text in
        let p = and_parts (fits w r t) (tails_fit w r ts) g in
        let parts = bind-parts (count w n t) (λ m. count_all w m ts) m c in
        let ends = second-ends w r ts (93 ∷ rest) (closing_list_ends rest) in
        let one = ap (λ bs. term r (before (had w n inside) (at + 1) bs)) (append_assoc first behind (93 ∷ rest)) ∙ here r n parts.0 p.0 parts.1 inside (behind ++ (93 ∷ rest)) ends (at + 1) in
        let front = term-front r (before (had w n inside) (at + 1) bytes) (behind_term (had w parts.0 inside) (at + 1 + length first) (behind ++ (93 ∷ rest))) t one in
        let opened : State = record (had w n s) { tokens = placed at (token.Sign sign.OpenList) ∷ us } in
        let place : ending + 1 ≡ at + length ((codes "[" ++ text) ++ codes "]") = omega (arith, length-append (codes "[" ++ text) (codes "]"), length-append (codes "[") text) in
        ap (λ bs. term room (before (had w n s) at (91 ∷ bs))) (append_assoc text (codes "]") rest)
        ∙ ap (λ ts. term room (record (had w n s) { tokens = ts })) (open_list_read bytes at)
        ∙ term_sign room opened sign.OpenList refl
        ∙ ap (λ i. term_at_sign i sign.OpenList opened) (below_some term room (above room opens))
        ∙ bracket-step (elements_if (term r)) (had w n s) (behind_term (had w m inside) ending (93 ∷ rest)) us (tokens_behind 0 (ending + 1) rest) at ending (app f (cons t ts))
        (elements-step (term r) (before (had w n inside) (at + 1) bytes) front
        ∙ elements-read r n m pair g c [] (length us) inside rest (at + 1) (omega arith)
        ∙ ap (λ us. Ok (app f (cons t ts), record (behind_term (had w m inside) ending (93 ∷ rest)) { tokens = us })) (close_list_read rest ending))
        ∙ ap (λ a. Ok (app f (cons t ts), behind_term (had w m s) a rest)) place

    app-read : ReadsTerm (app f (cons t ts))
    app-read room n m h c s rest end =
        let elems = pair_fits w (room - 1) (cons t ts) in
        let args = call_fits room (cons t ts) (all_fit w (room - 1) (cons t ts)) in
        let g = and_parts (nat_lt f (length w.names)) (if is_pair f (cons t ts) then nat_lt 0 room && elems else args) h in by (is_pair f (cons t ts)) refl g.0 g.1
      where
        by : (b : Bool) → is_pair f (cons t ts) ≡ b → nat_lt f (length w.names) ≡ true
            → (if b then nat_lt 0 room && pair_fits w (room - 1) (cons t ts) else call_fits room (cons t ts) (all_fit w (room - 1) (cons t ts))) ≡ true
            → Reads w n m (term room)
            (if b then codes "[" ++ pair_text w (room - 1) true (cons t ts) ++ codes "]" else called_text w.names f (cons t ts) (terms_text w (room - 1) true (cons t ts))) (app f (cons t ts)) s rest
        by true e named g =
            let p = and_parts (nat_lt 0 room) (pair_fits w (room - 1) (cons t ts)) g in list-read room n m (pair-parts f t ts e) p.0 p.1 c s rest
        by false e named g = called-read room n m (call-parts w room f t ts named g) c s rest

    app-tail : ReadsTail (app f (cons t ts))
    app-tail room n m h c es x =
        let args = call_fits room (cons t ts) (all_fit w (room - 1) (cons t ts)) in
        let g = and_parts (nat_lt f (length w.names)) (if is_pair f (cons t ts) then pair_fits w room (cons t ts) else args) h in by (is_pair f (cons t ts)) refl g.0 g.1
      where
        by : (b : Bool) → is_pair f (cons t ts) ≡ b → nat_lt f (length w.names) ≡ true
            → (if b then pair_fits w room (cons t ts) else call_fits room (cons t ts) (all_fit w (room - 1) (cons t ts))) ≡ true
            → Ends room n m (if b then codes "," ++ pair_text w room true (cons t ts) else codes "|" ++ called_text w.names f (cons t ts) (terms_text w (room - 1) true (cons t ts))) es x (list_of (es ++ x ∷ []) (app f (cons t ts)))
        by true e named g =
            λ k s rest at fuel.
            let text = pair_text w room true (cons t ts) in
            let bytes = text ++ (93 ∷ rest) in
            let comma = comma_read bytes at in
            let fewer : length (tokens_behind 0 (at + 1) bytes) ≤ k = omega (arith, fuel, ap length comma) in
            let place : at + 1 + length text ≡ at + length (44 ∷ text) = omega arith in
            ap (λ ts. goes_on (term room) k es x (record (behind_term (had w n s) at bytes) { tokens = ts })) comma
            ∙ elements-read room n m (pair-parts f t ts e) g c (es ++ x ∷ []) k (record s { is_behind_operand = false }) rest (at + 1) fewer
            ∙ ap (λ a. Ok (list_of (es ++ x ∷ []) (app f (cons t ts)), behind_term (had w m s) a (93 ∷ rest))) place
        by false e named g =
            let text = called_text w.names f (cons t ts) (terms_text w (room - 1) true (cons t ts)) in
            barred room n m text (app f (cons t ts)) (λ s rest. called-read room n m (call-parts w room f t ts named g) c s (93 ∷ rest)) es x

  -- ---- all terms

  mutual
    pub term-read : (t : Tm) → ReadsTerm t
    term-read (var x) = λ room n m g c s rest end. variable-reads w style room x g s rest end n m c
    term-read (num q) = λ room n m g c s rest end. let same : n ≡ m = cc in subst (λ m. Reads w n m (term room) (number_text q) (num q) s rest) same (number-reads w room n q s rest g end)
    term-read (app f nil) =
        λ room n m g c s rest end.
        let same : n ≡ m = cc in
        subst (λ m. Reads w n m (term room) (term_text w room (app f nil)) (app f nil) s rest) same
        (constant-reads w style room n f (and_parts (nat_lt f (length w.names)) true g).0 s rest end)
    term-read (app f (cons t ts)) = app-read f t ts (term-read t) (rest-read ts) (second-read ts)

    tail-read : (t : Tm) → ReadsTail t
    tail-read (var x) =
        λ room n m g c. barred room n m (variable_text w x) (var x) (λ s rest. variable-reads w style room x g s (93 ∷ rest) (closing_list_ends rest) n m c)
    tail-read (num q) =
        λ room n m g c.
        let same : n ≡ m = cc in
        barred room n m (number_text q) (num q) (λ s rest. subst (λ m. Reads w n m (term room) (number_text q) (num q) s (93 ∷ rest)) same (number-reads w room n q s (93 ∷ rest) g (closing_list_ends rest)))
    tail-read (app f nil) = constant-tail f
    tail-read (app f (cons t ts)) = app-tail f t ts (term-read t) (rest-read ts) (second-read ts)

    pub rest-read : (ts : Tms) → ReadsRest ts
    rest-read nil = no-more
    rest-read (cons t ts) = next-read t ts (term-read t) (rest-read ts)

    second-read : (ts : Tms) → ReadsSecond ts
    second-read nil = λ room n m g c one es h. absurd (omega (arith, one))
    second-read (cons t nil) =
        λ room n m g c one es h.
        let parts = bind-parts (count w n t) (λ m. Some m) m c in
        let same : parts.0 ≡ m = cc in
        let read = tail-read t room n parts.0 (and_parts (tail_fits w room t) true g).0 parts.1 es h in
        subst (λ m. Ends room n m (tail_text w room t ++ []) es h (list_of es (app 1 (cons h (cons t nil))))) same
        (subst (λ text. Ends room n parts.0 text es h (list_of es (app 1 (cons h (cons t nil))))) (sym (append-nil (tail_text w room t)))
        (subst (λ u. Ends room n parts.0 (tail_text w room t) es h u) (list_of-push es h t) read))
    second-read (cons t (cons u us)) = λ room n m g c one es h. absurd (omega (arith, one))
