-- With what a clause or a query begins, and how many tokens it has at least.
use Rattle.std.proofs.Common.{◌≡◌, ℕ, ◌+◌, true, false, List, [], ◌∷◌, ◌++◌, length, codes, Option, None, Some, sym, ap, subst, ◌∙◌, arith, append_assoc, append-nil}
use Rattle.std.specs.Prelude.{nat_le}
use Rattle.std.specs.List.{list_all}
use Rattle.std.proofs.lemmas.Bool.{and_parts, false≢true}
use Rattle.scasp_syntax.specs.Flat.{flat_body}
use Rattle.scasp_syntax.specs.declared.atom.Atom.{Atom}
use Rattle.scasp_syntax.specs.declared.clause.Item.{Item}
use Rattle.scasp_reader_tokens.specs.declared.sign.Sign.TheVariants as sign
use Rattle.scasp_reader_tokens.specs.declared.token.Token.{Token}
use Rattle.scasp_reader_tokens.specs.declared.token.Token.TheVariants as token
use Rattle.scasp_reader_tokens.specs.Tokens.{placed, tokens_behind}
use Rattle.scasp_reader_terms.specs.Steps.{token_of}
use Rattle.scasp_reader.specs.declared.bodies.bodies.TheConstants.{ITEM_LIMIT}
use Rattle.scasp_print_program.specs.Terms.{Style, atom_text}
use Rattle.scasp_print_program.specs.Items.{item_text, items_text}
use Rattle.scasp_law_program_text.proofs.ReadbackLemmas.SignReading.{comma_read, blank_read}
use Rattle.scasp_law_program_text.proofs.TermReadbackLemmas.Ends.{stop_ends}
use Rattle.scasp_law_program_text.specs.CompoundReadback.Styles.{IsStyle}
use Rattle.scasp_law_program_text.specs.CompoundReadback.Counting.{count_all}
use Rattle.scasp_law_program_text.proofs.CompoundReadbackLemmas.Terms.{bind-parts}
use Rattle.scasp_law_program_text.proofs.CompoundReadbackLemmas.Tokens.{Has, has-append, has-fewer, has-none, has-token}
use Rattle.scasp_law_program_text.specs.ClauseReadback.Fitting.{atom_fits, item_fits, body_fits}
use Rattle.scasp_law_program_text.specs.ClauseReadback.Counting.{count_body}
use Rattle.scasp_law_program_text.specs.ClauseReadback.Parts.{parts_fit, count_parts}
use Rattle.scasp_law_program_text.proofs.ClauseReadbackLemmas.Atoms.{atom-front}
use Rattle.scasp_law_program_text.proofs.ClauseReadbackLemmas.ItemTokens.{EndsAny, stop-ends, items-end, atom-has, item-has}
use Rattle.scasp_law_program_text.proofs.ClauseReadbackLemmas.Clauses.{stop-tokens, denial-tokens, if-tokens, if-ends, text_of}
use Rattle.scasp_law_program_text.proofs.ClauseReadbackLemmas.Queries.{query-tokens}

stop-has : (rest : List ℕ) → Has 1 (codes ".\n") rest
stop-has rest = has-token (λ at. placed at (token.Sign sign.Stop)) (codes ".\n") rest (stop-tokens rest)

comma-has : (rest : List ℕ) → Has 1 (codes ", ") rest
comma-has rest =
    has-token (λ at. placed at (token.Sign sign.Comma)) (codes ", ") rest
    (λ at. let shift : at + 1 + 1 ≡ at + 2 = omega arith in comma_read (32 ∷ rest) at ∙ ap (λ ts. placed at (token.Sign sign.Comma) ∷ ts) (blank_read rest (at + 1) ∙ ap (λ p. tokens_behind 0 p rest) shift))

module _ (w : Style) (style : IsStyle w) where
  -- ---- items

  first-has : (i : Item) (is : List Item) (rest : List ℕ) → list_all (item_fits w) (i ∷ is) ≡ true → EndsAny rest → Has 0 (items_text w false is) rest → Has 1 (items_text w true (i ∷ is)) rest
  first-has i is rest g end others =
      let behind = items_text w false is in
      has-append 1 0 (item_text w i) behind rest (item-has w style i (behind ++ rest) (and_parts (item_fits w i) (list_all (item_fits w) is) g).0 (items-end w is rest end)) others

  others-have : (is : List Item) (rest : List ℕ) → list_all (item_fits w) is ≡ true → EndsAny rest → Has 0 (items_text w false is) rest
  others-have [] rest g end = has-none rest
  others-have (i ∷ is) rest g end =
      let text = items_text w true (i ∷ is) in
      let others = others-have is rest (and_parts (item_fits w i) (list_all (item_fits w) is) g).1 end in
      has-fewer 0 2 (codes ", " ++ text) rest (omega arith) (has-append 1 1 (codes ", ") text rest (comma-has (text ++ rest)) (first-has i is rest g end others))

  body-has : (is : List Item) (rest : List ℕ) → body_fits w is ≡ true → EndsAny rest → Has 1 (items_text w true is) rest
  body-has [] rest g end = absurd (false≢true g)
  body-has (i ∷ is) rest g end =
      let p = and_parts (list_all (item_fits w) (i ∷ is)) (nat_le (length (flat_body (i ∷ is))) ITEM_LIMIT) g in
      first-has i is rest p.0 end (others-have is rest (and_parts (item_fits w i) (list_all (item_fits w) is) p.0).1 end)

  -- ---- clauses and queries

  pub query-has : (is : List Item) (rest : List ℕ) → body_fits w is ≡ true → Has 1 ((codes "?- " ++ items_text w true is) ++ codes ".\n") rest
  query-has is rest g =
      let text = items_text w true is in
      let stop = 46 ∷ 10 ∷ rest in
      has-fewer 1 3 ((codes "?- " ++ text) ++ codes ".\n") rest (omega arith)
      (has-append 2 1 (codes "?- " ++ text) (codes ".\n") rest
      (has-append 1 1 (codes "?- ") text stop (has-token (λ at. placed at (token.Sign sign.Query)) (codes "?- ") (text ++ stop) (query-tokens (text ++ stop))) (body-has is stop g (stop-ends rest)))
      (stop-has rest))

  pub parts-have : (head : Option Atom) (is : List Item) (rest : List ℕ) → parts_fit w head is ≡ true → Has 1 (text_of w head is) rest
  parts-have None [] rest g = absurd (false≢true g)
  parts-have None (i ∷ is) rest g =
      let text = items_text w true (i ∷ is) in
      let stop = 46 ∷ 10 ∷ rest in
      has-fewer 1 3 ((codes ":- " ++ text) ++ codes ".\n") rest (omega arith)
      (has-append 2 1 (codes ":- " ++ text) (codes ".\n") rest
      (has-append 1 1 (codes ":- ") text stop (has-token (λ at. placed at (token.Sign sign.If)) (codes ":- ") (text ++ stop) (denial-tokens (text ++ stop))) (body-has (i ∷ is) stop g (stop-ends rest)))
      (stop-has rest))
  parts-have (Some a) [] rest g =
      let stop = 46 ∷ 10 ∷ rest in
      has-fewer 1 2 ((atom_text w a ++ []) ++ codes ".\n") rest (omega arith)
      (has-append 1 1 (atom_text w a ++ []) (codes ".\n") rest (subst (λ text. Has 1 text stop) (sym (append-nil (atom_text w a))) (atom-has w style a stop g (stop_ends rest))) (stop-has rest))
  parts-have (Some a) (i ∷ is) rest g =
      let text = items_text w true (i ∷ is) in
      let stop = 46 ∷ 10 ∷ rest in
      let inner = codes " :- " ++ text in
      let p = and_parts (atom_fits w a) (body_fits w (i ∷ is)) g in
      has-fewer 1 4 ((atom_text w a ++ inner) ++ codes ".\n") rest (omega arith)
      (has-append 3 1 (atom_text w a ++ inner) (codes ".\n") rest
      (has-append 1 2 (atom_text w a) inner stop (atom-has w style a (inner ++ stop) p.0 (if-ends (text ++ stop)))
      (has-append 1 1 (codes " :- ") text stop (has-token (λ at. placed (at + 1) (token.Sign sign.If)) (codes " :- ") (text ++ stop) (if-tokens (text ++ stop))) (body-has (i ∷ is) stop p.1 (stop-ends rest))))
      (stop-has rest))

  -- a clause begins with a name, with `-` or with `:-`
  module _ (P : Option Token → Type 0) (name : (text : List ℕ) → P (Some (token.Name text))) (minus : P (Some (token.Sign sign.Minus))) (rule : P (Some (token.Sign sign.If))) (rest : List ℕ) (at : ℕ) where
    pub parts-front : (head : Option Atom) (is : List Item) (m : ℕ) → parts_fit w head is ≡ true → count_parts w head is ≡ Some m → P (token_of (tokens_behind 0 at (text_of w head is ++ rest)))
    parts-front None [] m g c = absurd (false≢true g)
    parts-front None (i ∷ is) m g c =
        let text = items_text w true (i ∷ is) in
        subst (λ ts. P (token_of ts)) (sym (denial-tokens ((text ++ codes ".\n") ++ rest) at)) rule
    parts-front (Some a) [] m g c =
        let parts = bind-parts (count_all w 0 a.args) (λ n. Some n) m c in
        let bare : ((atom_text w a ++ []) ++ codes ".\n") ++ rest ≡ atom_text w a ++ (46 ∷ 10 ∷ rest) =
        append_assoc (atom_text w a ++ []) (codes ".\n") rest ∙ ap (λ l. l ++ (46 ∷ 10 ∷ rest)) (append-nil (atom_text w a)) in
        subst (λ bs. P (token_of (tokens_behind 0 at bs))) (sym bare) (atom-front w style a 0 parts.0 g parts.1 P name minus (46 ∷ 10 ∷ rest) at (stop_ends rest))
    parts-front (Some a) (i ∷ is) m g c =
        let text = items_text w true (i ∷ is) in
        let inner = codes " :- " ++ text in
        let stop = 46 ∷ 10 ∷ rest in
        let p = and_parts (atom_fits w a) (body_fits w (i ∷ is)) g in
        let parts = bind-parts (count_all w 0 a.args) (λ n. count_body w n (i ∷ is)) m c in
        let grouped : ((atom_text w a ++ inner) ++ codes ".\n") ++ rest ≡ atom_text w a ++ (inner ++ stop) = append_assoc (atom_text w a ++ inner) (codes ".\n") rest ∙ append_assoc (atom_text w a) inner stop in
        subst (λ bs. P (token_of (tokens_behind 0 at bs))) (sym grouped) (atom-front w style a 0 parts.0 p.0 parts.1 P name minus (inner ++ stop) at (if-ends (text ++ stop)))
