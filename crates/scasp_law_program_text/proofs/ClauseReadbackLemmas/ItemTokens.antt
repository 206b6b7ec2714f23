-- How many tokens an item has at least, and what ends the items of a body.
use Rattle.std.proofs.Common.{◌≡◌, ℕ, ◌+◌, Bool, true, false, not, ◌&&◌, nat_lt, List, [], ◌∷◌, ◌++◌, length, codes, ap, ◌∙◌, arith}
use Rattle.std.specs.Prelude.{if◌then◌else◌}
use Rattle.std.proofs.lemmas.Bool.{and_parts}
use Rattle.scasp_syntax.specs.Tm.{Tm, Tms, nil, cons, items}
use Rattle.scasp_syntax.specs.View.{tm_of}
use Rattle.scasp_syntax.specs.declared.atom.Atom.{Atom}
use Rattle.scasp_syntax.specs.declared.atom.Lit.{Lit}
use Rattle.scasp_syntax.specs.declared.clause.Item.{Item}
use Rattle.scasp_syntax.specs.declared.clause.Item.TheVariants as form
use Rattle.scasp_reader_tokens.specs.declared.sign.Sign.{Sign}
use Rattle.scasp_reader_tokens.specs.declared.sign.Sign.TheVariants as sign
use Rattle.scasp_reader_tokens.specs.declared.token.Token.TheVariants as token
use Rattle.scasp_reader_tokens.specs.Tokens.{placed, tokens_behind}
use Rattle.scasp_cert.specs.Text.Names.{text_at}
use Rattle.scasp_cert.specs.Text.Terms.{minus_text}
use Rattle.scasp_reader_terms.specs.Steps.{token_of}
use Rattle.scasp_reader.specs.declared.bodies.atoms.TheConstants.{DEPTH_LIMIT}
use Rattle.scasp_reader.specs.Bodies.Atoms.{reserved, is_reserved}
use Rattle.scasp_reader.specs.Bodies.Items.{equation_sign, relation}
use Rattle.scasp_print_program.specs.Terms.{Style, term_text, atom_text, lit_text}
use Rattle.scasp_print_program.specs.Items.{item_text, items_text}
use Rattle.scasp_law_program_text.proofs.ReadbackLemmas.SignReading.{comma_read, stop_read, blank_read, not_read}
use Rattle.scasp_law_program_text.specs.TermReadback.Reading.{EndsTerm}
use Rattle.scasp_law_program_text.proofs.TermReadbackLemmas.Ends.{comma_ends, stop_ends}
use Rattle.scasp_law_program_text.specs.CompoundReadback.Styles.{IsStyle}
use Rattle.scasp_law_program_text.specs.CompoundReadback.Fitting.{fits}
use Rattle.scasp_law_program_text.proofs.CompoundReadbackLemmas.Tables.{name-utf8}
use Rattle.scasp_law_program_text.proofs.CompoundReadbackLemmas.Tokens.{Has, has-append, has-fewer, has-token, name-has}
use Rattle.scasp_law_program_text.proofs.CompoundReadbackLemmas.TermTokens.{call-parts, term-has, called-has}
use Rattle.scasp_law_program_text.specs.LinearReadback.Ending.{EndsExpression}
use Rattle.scasp_law_program_text.proofs.LinearReadbackLemmas.LinearItems as linear
use Rattle.scasp_law_program_text.proofs.LinearReadbackLemmas.LinearItems.{linear-is, linear-has}
use Rattle.scasp_law_program_text.specs.ClauseReadback.Fitting.{arguments_fit, atom_fits, item_fits}
use Rattle.scasp_law_program_text.specs.ClauseReadback.Reading.{EndsPlain, EndsItem}
use Rattle.scasp_law_program_text.proofs.ClauseReadbackLemmas.Names.{named_text, minus-named}
use Rattle.scasp_law_program_text.proofs.ClauseReadbackLemmas.Equations.{Between, equal, differ}

-- ---- what ends an item

-- what may stand behind an item of any form
pub record EndsAny (rest : List ℕ) : Type 0 where
  pub plain : EndsPlain rest
  pub expression : EndsExpression rest

pub of-any : (i : Item) (rest : List ℕ) → EndsAny rest → EndsItem i rest
of-any (form.Call l) rest end = end.plain
of-any (form.Equal t s) rest end = end.plain
of-any (form.Differ t s) rest end = end.plain
of-any (form.Linear l) rest end = end.expression

plain-stop : (rest : List ℕ) → EndsPlain (46 ∷ 10 ∷ rest)
plain-stop rest = record { term = stop_ends rest; no_equation = λ at. ap (λ ts. equation_sign (token_of ts)) (stop_read rest at); no_relation = λ at. ap (λ ts. relation (token_of ts)) (stop_read rest at) }

plain-comma : (rest : List ℕ) → EndsPlain (44 ∷ rest)
plain-comma rest = record { term = comma_ends rest; no_equation = λ at. ap (λ ts. equation_sign (token_of ts)) (comma_read rest at); no_relation = λ at. ap (λ ts. relation (token_of ts)) (comma_read rest at) }

pub stop-ends : (rest : List ℕ) → EndsAny (46 ∷ 10 ∷ rest)
stop-ends rest = record { plain = plain-stop rest; expression = linear.stop-ends rest }

pub comma-ends : (rest : List ℕ) → EndsAny (44 ∷ rest)
comma-ends rest = record { plain = plain-comma rest; expression = linear.comma-ends rest }

pub items-end : (w : Style) (is : List Item) (rest : List ℕ) → EndsAny rest → EndsAny (items_text w false is ++ rest)
items-end w [] rest end = end
items-end w (i ∷ is) rest end = comma-ends ((32 ∷ item_text w i ++ items_text w false is) ++ rest)

-- ---- tokens

-- a sign between blanks
between-has : (text : List ℕ) (t : Sign) (e : Bool) → Between text t e → (rest : List ℕ) → Has 1 text rest
between-has text t e b rest = has-token (λ at. placed (at + 1) (token.Sign t)) text rest (b.reads rest)

not-has : (rest : List ℕ) → Has 1 (codes "not ") rest
not-has rest =
    has-token (λ at. placed at token.Not) (codes "not ") rest
    (λ at.
    let shift : at + 3 + 1 ≡ at + 4 = omega arith in
    not_read rest at ∙ ap (λ ts. placed at token.Not ∷ ts) (blank_read rest (at + 3)) ∙ ap (λ p. placed at token.Not ∷ tokens_behind 0 p rest) shift)

module _ (w : Style) (style : IsStyle w) where
  named-has : (f : ℕ) (ts : Tms) (rest : List ℕ) → nat_lt f (length w.names) ≡ true → arguments_fit w ts ≡ true → EndsTerm rest → Has 1 (named_text w f ts) rest
  named-has f nil rest h g end = name-has (text_at w.names f) rest (name-utf8 w style f h) end.1.0
  named-has f (cons t ts) rest h g end = called-has w style f t ts DEPTH_LIMIT (call-parts w DEPTH_LIMIT f t ts h g) rest

  pub atom-has : (a : Atom) (rest : List ℕ) → atom_fits w a ≡ true → EndsTerm rest → Has 1 (atom_text w a) rest
  unfolding atom_text
  atom-has a rest g end = by a.minus
    where
      named : Has 1 (named_text w a.name a.args) rest
      named =
          let r = is_reserved reserved (text_at w.names a.name) (length (items a.args)) in
          let p = and_parts (nat_lt a.name (length w.names) && not r) (arguments_fit w a.args) g in
          let q = and_parts (nat_lt a.name (length w.names)) (not r) p.0 in
          named-has a.name a.args rest q.0 p.1 end

      minus : Has 1 (codes "-") (named_text w a.name a.args ++ rest)
      minus = has-token (λ at. placed at (token.Sign sign.Minus)) (codes "-") (named_text w a.name a.args ++ rest) (minus-named w a.name a.args rest)

      by : (m : Bool) → Has 1 (minus_text m ++ named_text w a.name a.args) rest
      by true = has-fewer 1 2 (codes "-" ++ named_text w a.name a.args) rest (omega arith) (has-append 1 1 (codes "-") (named_text w a.name a.args) rest minus named)
      by false = named

  lit-has : (l : Lit) (rest : List ℕ) → atom_fits w l.atom ≡ true → EndsTerm rest → Has 1 (lit_text w l) rest
  unfolding lit_text
  lit-has l rest g end = by l.positive
    where
      by : (p : Bool) → Has 1 ((if p then [] else codes "not ") ++ atom_text w l.atom) rest
      by true = atom-has l.atom rest g end
      by false =
          has-fewer 1 2 (codes "not " ++ atom_text w l.atom) rest (omega arith)
          (has-append 1 1 (codes "not ") (atom_text w l.atom) rest (not-has (atom_text w l.atom ++ rest)) (atom-has l.atom rest g end))

  sides-have : (sep : List ℕ) (t : Sign) (e : Bool) → Between sep t e → (l r : Tm) (rest : List ℕ) → fits w DEPTH_LIMIT l && fits w DEPTH_LIMIT r ≡ true → EndsTerm rest
      → Has 1 ((term_text w DEPTH_LIMIT l ++ sep) ++ term_text w DEPTH_LIMIT r) rest
  sides-have sep t e b l r rest g end =
      let p = and_parts (fits w DEPTH_LIMIT l) (fits w DEPTH_LIMIT r) g in
      let left = term_text w DEPTH_LIMIT l in
      let right = term_text w DEPTH_LIMIT r in
      has-fewer 1 3 ((left ++ sep) ++ right) rest (omega arith)
      (has-append 2 1 (left ++ sep) right rest
      (has-append 1 1 left sep (right ++ rest) (term-has w style l DEPTH_LIMIT p.0 (sep ++ (right ++ rest)) (b.ends (right ++ rest))) (between-has sep t e b (right ++ rest)))
      (term-has w style r DEPTH_LIMIT p.1 rest end))

  pub item-has : (i : Item) (rest : List ℕ) → item_fits w i ≡ true → EndsAny rest → Has 1 (item_text w i) rest
  item-has (form.Call l) rest g end = lit-has l rest g end.plain.term
  item-has (form.Equal t u) rest g end = sides-have (codes " = ") sign.Equal true equal (tm_of t) (tm_of u) rest g end.plain.term
  item-has (form.Differ t u) rest g end = sides-have (codes " \\= ") sign.Differ false differ (tm_of t) (tm_of u) rest g end.plain.term
  item-has (form.Linear l) rest g end = linear-has w style l (linear-is w l g) rest end.expression
