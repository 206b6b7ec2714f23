-- Atoms and literals are read back.
use Rattle.std.proofs.Common.{◌≡◌, ℕ, ◌+◌, Bool, true, false, not, ◌&&◌, nat_lt, List, [], ◌∷◌, ◌++◌, length, codes, Option, None, Some, Ok, refl, sym, ap, subst, ◌∙◌, arith, length-append}
use Rattle.std.specs.Prelude.{if◌then◌else◌}
use Rattle.std.proofs.lemmas.Bool.{and_parts, false≢true}
use Rattle.scasp_name.specs.Texts.{with_text}
use Rattle.scasp_syntax.specs.Tm.{Tm, items, listed}
use Rattle.scasp_syntax.specs.declared.atom.Atom.{Atom}
use Rattle.scasp_syntax.specs.declared.atom.Lit.{Lit}
use Rattle.scasp_syntax.specs.declared.clause.Item.TheVariants as form
use Rattle.scasp_syntax.proofs.TermLemmas.{listed-items}
use Rattle.scasp_reader_tokens.specs.declared.sign.Sign.TheVariants as sign
use Rattle.scasp_reader_tokens.specs.declared.token.Placed.{Placed}
use Rattle.scasp_reader_tokens.specs.declared.token.Token.{Token}
use Rattle.scasp_reader_tokens.specs.declared.token.Token.TheVariants as token
use Rattle.scasp_reader_tokens.specs.Tokens.{placed, tokens_behind}
use Rattle.scasp_cert.specs.Text.Names.{text_at, name_text}
use Rattle.scasp_cert.specs.Text.Terms.{minus_text}
use Rattle.scasp_reader_terms.specs.Steps.{State, token_of}
use Rattle.scasp_reader_terms.specs.Names.{place_in}
use Rattle.scasp_reader_terms.specs.Terms.{term, below, arguments}
use Rattle.scasp_reader.specs.declared.bodies.atoms.TheConstants.{DEPTH_LIMIT}
use Rattle.scasp_reader.specs.Bodies.Atoms.{reserved, is_reserved, atom_of, named_atom, atom}
use Rattle.scasp_reader.specs.Bodies.Items.{call_of, equation_sign, relation, named_item, literal, item}
use Rattle.scasp_print_program.specs.Terms.{Style, atom_text, lit_text}
use Rattle.scasp_law_program_text.proofs.ReadbackLemmas.SignReading.{not_read, blank_read}
use Rattle.scasp_law_program_text.specs.TermReadback.Reading.{before, behind_term, EndsTerm}
use Rattle.scasp_law_program_text.specs.CompoundReadback.Styles.{IsStyle}
use Rattle.scasp_law_program_text.specs.CompoundReadback.Counting.{count_all}
use Rattle.scasp_law_program_text.specs.CompoundReadback.Reading.{had, Reads}
use Rattle.scasp_law_program_text.proofs.CompoundReadbackLemmas.Tables.{name-place, name-there}
use Rattle.scasp_law_program_text.specs.ClauseReadback.Fitting.{arguments_fit, atom_fits}
use Rattle.scasp_law_program_text.specs.ClauseReadback.Reading.{EndsPlain}
use Rattle.scasp_law_program_text.proofs.ClauseReadbackLemmas.Names.{arguments_text, named_text, named-length, named-tokens, minus-named, arguments-reads}

-- ---- steps

module _ (s s1 : State) (ts : List Placed) (a : ℕ) (text : List ℕ) (xs : List Tm)
    (read : arguments (below term DEPTH_LIMIT) (record s { tokens = ts; is_behind_operand = true; names = with_text s.names text }) ≡ Ok (xs, s1))
    (free : is_reserved reserved text (length (items (listed xs))) ≡ false) where
  named-atom : (at : ℕ) (minus : Bool) → named_atom at minus text (record s { tokens = placed a (token.Name text) ∷ ts }) ≡ Ok (atom_of minus (place_in s.names text) (listed xs), s1)
  named-atom at minus = rw (read, free) refl

  named-item : (at : ℕ) → equation_sign (token_of s1.tokens) ≡ None → relation (token_of s1.tokens) ≡ None
      → named_item at text (record s { tokens = placed a (token.Name text) ∷ ts }) ≡ Ok (call_of true (atom_of false (place_in s.names text) (listed xs)), s1)
  named-item at e r = rw (read, e, r, free) refl

plain-atom : (s : State) (ts : List Placed) (a : ℕ) (text : List ℕ)
    → atom (record s { tokens = placed a (token.Name text) ∷ ts }) ≡ named_atom a false text (record s { tokens = placed a (token.Name text) ∷ ts })
plain-atom s ts a text = refl

minus-atom : (s : State) (ts : List Placed) (a b : ℕ) (text : List ℕ)
    → atom (record s { tokens = placed a (token.Sign sign.Minus) ∷ placed b (token.Name text) ∷ ts }) ≡ named_atom a true text (record s { tokens = placed b (token.Name text) ∷ ts; is_behind_operand = false })
minus-atom s ts a b text = refl

literal-step : (s s1 : State) (at : ℕ) (positive : Bool) (a : Atom) → atom s ≡ Ok (a, s1) → relation (token_of s1.tokens) ≡ None → literal at positive s ≡ Ok (call_of positive a, s1)
literal-step s s1 at true a e r = rw (e, r) refl
literal-step s s1 at false a e r = rw e refl

plain-item : (s : State) (ts : List Placed) (a : ℕ) (text : List ℕ)
    → item (record s { tokens = placed a (token.Name text) ∷ ts }) ≡ named_item a text (record s { tokens = placed a (token.Name text) ∷ ts })
unfolding item
plain-item s ts a text = refl

minus-item : (s : State) (ts : List Placed) (a b : ℕ) (text : List ℕ)
    → item (record s { tokens = placed a (token.Sign sign.Minus) ∷ placed b (token.Name text) ∷ ts }) ≡ literal a true (record s { tokens = placed a (token.Sign sign.Minus) ∷ placed b (token.Name text) ∷ ts })
unfolding item
minus-item s ts a b text = refl

not-item : (s : State) (ts : List Placed) (a : ℕ) → item (record s { tokens = placed a token.Not ∷ ts }) ≡ literal a false (record s { tokens = ts; is_behind_operand = false })
unfolding item
not-item s ts a = refl

-- ---- atoms

module _ (w : Style) (style : IsStyle w) (a : Atom) (n m : ℕ) (g : atom_fits w a ≡ true) (c : count_all w n a.args ≡ Some m) where
  abbrev text : List ℕ
  text = text_at w.names a.name

  free-of : (b : Bool) → not b ≡ true → b ≡ false
  free-of true e = absurd (false≢true e)
  free-of false e = refl

  record Fit : Type 0 where
    pub named : nat_lt a.name (length w.names) ≡ true
    pub free : is_reserved reserved text (length (items a.args)) ≡ false
    pub arguments : arguments_fit w a.args ≡ true

  fit : Fit
  fit =
      let r = is_reserved reserved text (length (items a.args)) in
      let p = and_parts (nat_lt a.name (length w.names) && not r) (arguments_fit w a.args) g in
      let q = and_parts (nat_lt a.name (length w.names)) (not r) p.0 in
      record { named = q.0; free = free-of r q.1; arguments = p.1 }

  free-listed : is_reserved reserved text (length (items (listed (items a.args)))) ≡ false
  free-listed = ap (λ ts. is_reserved reserved text (length (items ts))) (listed-items a.args) ∙ fit.free

  -- the arguments, behind the name
  module _ (s : State) (rest : List ℕ) (at : ℕ) (end : EndsTerm rest) where
    abbrev start : ℕ
    start = at + length (name_text w.names a.name)

    abbrev behind : State
    behind = behind_term (had w m s) (start + length (arguments_text w a.args)) rest

    arguments-here : arguments (below term DEPTH_LIMIT) (record (had w n s) { tokens = tokens_behind 0 start (arguments_text w a.args ++ rest); is_behind_operand = true; names = with_text w.names text })
        ≡ Ok (items a.args, behind)
    arguments-here =
        ap (λ ns. arguments (below term DEPTH_LIMIT) (record (behind_term (had w n s) start (arguments_text w a.args ++ rest)) { names = ns })) (name-there w style a.name fit.named)
        ∙ arguments-reads w style n m a.args s rest start fit.arguments c end

    tokens-here : tokens_behind 0 at (named_text w a.name a.args ++ rest) ≡ placed at (token.Name text) ∷ tokens_behind 0 start (arguments_text w a.args ++ rest)
    tokens-here = named-tokens w a.name a.args rest at style fit.named end.1.0

    behind-named : behind ≡ behind_term (had w m s) (at + length (named_text w a.name a.args)) rest
    behind-named =
        let place : start + length (arguments_text w a.args) ≡ at + length (named_text w a.name a.args) = omega (arith, named-length w a.name a.args) in
        ap (λ p. behind_term (had w m s) p rest) place

    same-atom : (minus : Bool) → atom_of minus (place_in w.names text) (listed (items a.args)) ≡ atom_of minus a.name a.args
    same-atom minus = ap (λ f. atom_of minus f (listed (items a.args))) (name-place w style a.name fit.named) ∙ ap (atom_of minus a.name) (listed-items a.args)

    named-reads : (from : ℕ) (minus : Bool)
        → named_atom from minus text (record (had w n s) { tokens = placed at (token.Name text) ∷ tokens_behind 0 start (arguments_text w a.args ++ rest) })
        ≡ Ok (atom_of minus a.name a.args, behind_term (had w m s) (at + length (named_text w a.name a.args)) rest)
    named-reads from minus =
        named-atom (had w n s) behind (tokens_behind 0 start (arguments_text w a.args ++ rest)) at text (items a.args) arguments-here free-listed from minus
        ∙ ap (λ b. Ok (b, behind)) (same-atom minus) ∙ ap (λ b. Ok (atom_of minus a.name a.args, b)) behind-named

    item-reads : equation_sign (token_of (tokens_behind 0 (start + length (arguments_text w a.args)) rest)) ≡ None → relation (token_of (tokens_behind 0 (start + length (arguments_text w a.args)) rest)) ≡ None
        → item (before (had w n s) at (named_text w a.name a.args ++ rest)) ≡ Ok (call_of true (atom_of false a.name a.args), behind_term (had w m s) (at + length (named_text w a.name a.args)) rest)
    item-reads e r =
        let us = tokens_behind 0 start (arguments_text w a.args ++ rest) in
        ap (λ ts. item (record (had w n s) { tokens = ts })) tokens-here
        ∙ plain-item (had w n s) us at text
        ∙ named-item (had w n s) behind us at text (items a.args) arguments-here free-listed at e r
        ∙ ap (λ b. Ok (call_of true b, behind)) (same-atom false) ∙ ap (λ b. Ok (call_of true (atom_of false a.name a.args), b)) behind-named

    plain-reads : atom (before (had w n s) at (named_text w a.name a.args ++ rest)) ≡ Ok (atom_of false a.name a.args, behind_term (had w m s) (at + length (named_text w a.name a.args)) rest)
    plain-reads =
        ap (λ ts. atom (record (had w n s) { tokens = ts })) tokens-here
        ∙ plain-atom (had w n s) (tokens_behind 0 start (arguments_text w a.args ++ rest)) at text
        ∙ named-reads at false

  minus-tokens : (rest : List ℕ) (at : ℕ) → EndsTerm rest
      → tokens_behind 0 at (45 ∷ (named_text w a.name a.args ++ rest))
      ≡ placed at (token.Sign sign.Minus) ∷ placed (at + 1) (token.Name text) ∷ tokens_behind 0 (at + 1 + length (name_text w.names a.name)) (arguments_text w a.args ++ rest)
  minus-tokens rest at end =
      minus-named w a.name a.args rest at ∙ ap (λ ts. placed at (token.Sign sign.Minus) ∷ ts) (named-tokens w a.name a.args rest (at + 1) style fit.named end.1.0)

  minus-reads : (s : State) (rest : List ℕ) (at : ℕ) → EndsTerm rest
      → atom (before (had w n s) at (45 ∷ (named_text w a.name a.args ++ rest))) ≡ Ok (atom_of true a.name a.args, behind_term (had w m s) (at + length (45 ∷ named_text w a.name a.args)) rest)
  minus-reads s rest at end =
      let place : at + 1 + length (named_text w a.name a.args) ≡ at + length (45 ∷ named_text w a.name a.args) = omega arith in
      ap (λ ts. atom (record (had w n s) { tokens = ts })) (minus-tokens rest at end)
      ∙ minus-atom (had w n s) (tokens_behind 0 (at + 1 + length (name_text w.names a.name)) (arguments_text w a.args ++ rest)) at (at + 1) text
      ∙ named-reads (record s { is_behind_operand = false }) rest (at + 1) end at true
      ∙ ap (λ p. Ok (atom_of true a.name a.args, behind_term (had w m s) p rest)) place

  pub atom-read : (s : State) (rest : List ℕ) → EndsTerm rest → Reads w n m atom (atom_text w a) a s rest
  unfolding atom_text
  atom-read s rest end at = by a.minus
    where
      by : (minus : Bool) → atom (before (had w n s) at ((minus_text minus ++ named_text w a.name a.args) ++ rest))
          ≡ Ok (atom_of minus a.name a.args, behind_term (had w m s) (at + length (minus_text minus ++ named_text w a.name a.args)) rest)
      by true = minus-reads s rest at end
      by false = plain-reads s rest at end

  -- an atom begins with a name or with `-`
  pub atom-front : (P : Option Token → Type 0) → ((text : List ℕ) → P (Some (token.Name text))) → P (Some (token.Sign sign.Minus)) → (rest : List ℕ) (at : ℕ) → EndsTerm rest
      → P (token_of (tokens_behind 0 at (atom_text w a ++ rest)))
  unfolding atom_text
  atom-front P f g rest at end = by a.minus
    where
      by : (minus : Bool) → P (token_of (tokens_behind 0 at ((minus_text minus ++ named_text w a.name a.args) ++ rest)))
      by true = subst (λ ts. P (token_of ts)) (sym (minus-tokens rest at end)) g
      by false = subst (λ ts. P (token_of ts)) (sym (named-tokens w a.name a.args rest at style fit.named end.1.0)) (f text)

  -- ---- literals

  pub positive-read : (s : State) (rest : List ℕ) → EndsPlain rest → Reads w n m item (atom_text w a) (call_of true a) s rest
  unfolding atom_text
  positive-read s rest end at = by a.minus
    where
      by : (minus : Bool) → item (before (had w n s) at ((minus_text minus ++ named_text w a.name a.args) ++ rest))
          ≡ Ok (call_of true (atom_of minus a.name a.args), behind_term (had w m s) (at + length (minus_text minus ++ named_text w a.name a.args)) rest)
      by true =
          let us = tokens_behind 0 (at + 1 + length (name_text w.names a.name)) (arguments_text w a.args ++ rest) in
          let tokens = minus-tokens rest at end.term in
          let behind-it = at + length (45 ∷ named_text w a.name a.args) in
          ap (λ ts. item (record (had w n s) { tokens = ts })) tokens
          ∙ minus-item (had w n s) us at (at + 1) text
          ∙ literal-step (record (had w n s) { tokens = placed at (token.Sign sign.Minus) ∷ placed (at + 1) (token.Name text) ∷ us }) (behind_term (had w m s) behind-it rest) at true (atom_of true a.name a.args)
          (ap (λ ts. atom (record (had w n s) { tokens = ts })) (sym tokens) ∙ minus-reads s rest at end.term) (end.no_relation behind-it)
      by false = item-reads s rest at end.term (end.no_equation _) (end.no_relation _)

  negative-read : (s : State) (rest : List ℕ) → EndsPlain rest → Reads w n m item (codes "not " ++ atom_text w a) (call_of false a) s rest
  negative-read s rest end at =
      let bytes = atom_text w a ++ rest in
      let inside : State = record s { is_behind_operand = false } in
      let shift : at + 3 + 1 ≡ at + 4 = omega arith in
      let place : at + 4 + length (atom_text w a) ≡ at + length (codes "not " ++ atom_text w a) = omega (arith, length-append (codes "not ") (atom_text w a)) in
      ap (λ ts. item (record (had w n s) { tokens = ts })) (not_read bytes at ∙ ap (λ ts. placed at token.Not ∷ ts) (blank_read bytes (at + 3)) ∙ ap (λ p. placed at token.Not ∷ tokens_behind 0 p bytes) shift)
      ∙ not-item (had w n s) (tokens_behind 0 (at + 4) bytes) at
      ∙ literal-step (before (had w n inside) (at + 4) bytes) (behind_term (had w m s) (at + 4 + length (atom_text w a)) rest) at false a (atom-read inside rest end.term (at + 4)) (end.no_relation (at + 4 + length (atom_text w a)))
      ∙ ap (λ p. Ok (call_of false a, behind_term (had w m s) p rest)) place

pub lit-read : (w : Style) (style : IsStyle w) (l : Lit) (n m : ℕ) → atom_fits w l.atom ≡ true → count_all w n l.atom.args ≡ Some m → (s : State) (rest : List ℕ) → EndsPlain rest
    → Reads w n m item (lit_text w l) (form.Call l) s rest
unfolding lit_text
lit-read w style l n m g c s rest end = by l.positive
  where
    by : (p : Bool) → Reads w n m item ((if p then [] else codes "not ") ++ atom_text w l.atom) (call_of p l.atom) s rest
    by true = positive-read w style l.atom n m g c s rest end
    by false = negative-read w style l.atom n m g c s rest end
