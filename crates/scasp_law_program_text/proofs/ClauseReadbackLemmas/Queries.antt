-- Queries are read back.
use Rattle.std.proofs.Common.{◌≡◌, ℕ, ◌+◌, Bool, true, false, not, ◌&&◌, nat_lt, List, [], ◌∷◌, ◌++◌, map, length, take, codes, Option, None, Some, Ok, refl, sym, ap, subst, ◌∙◌, arith, append_assoc, append-nil, length-append}
use Rattle.std.specs.List.{list_all}
use Rattle.std.proofs.lemmas.Bool.{and_parts, false≢true}
use Rattle.std.proofs.lemmas.List.{take_all, length-map}
use Rattle.scasp_name.specs.Texts.{with_text}
use Rattle.scasp_syntax.specs.declared.clause.Item.{Item}
use Rattle.scasp_syntax.specs.declared.clause.Query.{Query}
use Rattle.scasp_reader_tokens.specs.declared.sign.Sign.TheVariants as sign
use Rattle.scasp_reader_tokens.specs.declared.token.Placed.{Placed}
use Rattle.scasp_reader_tokens.specs.declared.token.Token.TheVariants as token
use Rattle.scasp_reader_tokens.specs.Tokens.{placed, tokens_behind}
use Rattle.scasp_cert.specs.Text.Names.{text_at}
use Rattle.scasp_reader_terms.specs.Steps.{State}
use Rattle.scasp_reader_terms.specs.Names.{place_in}
use Rattle.scasp_reader.specs.Bodies.Bodies.{body}
use Rattle.scasp_reader.specs.declared.texts.clauses.Part.TheVariants as part
use Rattle.scasp_reader.specs.Texts.Clauses.{named, clause}
use Rattle.scasp_print_program.specs.Terms.{Style}
use Rattle.scasp_print_program.specs.Items.{items_text}
use Rattle.scasp_print_program.specs.Programs.{query_variable, query_text}
use Rattle.scasp_law_program_text.proofs.ReadbackLemmas.SignReading.{blank_read, query_read}
use Rattle.scasp_law_program_text.specs.TermReadback.Reading.{before, behind_term}
use Rattle.scasp_law_program_text.specs.CompoundReadback.Styles.{is_anonymous, are_variables, IsTable, IsStyle}
use Rattle.scasp_law_program_text.specs.CompoundReadback.Reading.{had}
use Rattle.scasp_law_program_text.proofs.CompoundReadbackLemmas.Tables.{name-place, name-there}
use Rattle.scasp_law_program_text.specs.ClauseReadback.Fitting.{body_fits}
use Rattle.scasp_law_program_text.specs.ClauseReadback.Counting.{count_body}
use Rattle.scasp_law_program_text.specs.ClauseReadback.Parts.{is_count, query_style, name_fits, query_fits, in_table, behind_part, ReadsPart}
use Rattle.scasp_law_program_text.proofs.ClauseReadbackLemmas.Bodies.{body-read}
use Rattle.scasp_law_program_text.proofs.ClauseReadbackLemmas.Clauses.{stop-tokens, counted}

-- ---- the names of variables

free-of : (b : Bool) → not b ≡ true → b ≡ false
free-of true e = absurd (false≢true e)
free-of false e = refl

named-step : (us : List (Option ℕ)) (text : List ℕ) (texts : List (List ℕ)) (s : State) → is_anonymous text ≡ false
    → named us (text ∷ texts) s ≡ named (us ++ Some (place_in s.names text) ∷ []) texts (record s { names = with_text s.names text })
named-step us text texts s a = rw a refl

module _ (w : Style) (style : IsStyle w) (s : State) where
  named-reads : (qs us : List (Option ℕ)) → list_all (name_fits w.names) qs ≡ true → named us (map (query_variable w.names) qs) (in_table w.names s) ≡ Ok (us ++ qs, in_table w.names s)
  named-reads [] us g = ap (λ l. Ok (l, in_table w.names s)) (sym (append-nil us))
  named-reads (None ∷ qs) us g = named-reads qs (us ++ None ∷ []) (and_parts true (list_all (name_fits w.names) qs) g).1 ∙ ap (λ l. Ok (l, in_table w.names s)) (append_assoc us (None ∷ []) qs)
  named-reads (Some f ∷ qs) us g =
      let p = and_parts (name_fits w.names (Some f)) (list_all (name_fits w.names) qs) g in
      let q = and_parts (nat_lt f (length w.names)) (not (is_anonymous (text_at w.names f))) p.0 in
      let text = text_at w.names f in
      let texts = map (query_variable w.names) qs in
      named-step us text texts (in_table w.names s) (free-of (is_anonymous text) q.1)
      ∙ ap (λ g. named (us ++ Some g ∷ []) texts (record (in_table w.names s) { names = with_text w.names text })) (name-place w style f q.0)
      ∙ ap (λ ns. named (us ++ Some f ∷ []) texts (record (in_table w.names s) { names = ns })) (name-there w style f q.0)
      ∙ named-reads qs (us ++ Some f ∷ []) p.1
      ∙ ap (λ l. Ok (l, in_table w.names s)) (append_assoc us (Some f ∷ []) qs)

-- ---- queries

pub query-tokens : (rest : List ℕ) (at : ℕ) → tokens_behind 0 at (63 ∷ 45 ∷ 32 ∷ rest) ≡ placed at (token.Sign sign.Query) ∷ tokens_behind 0 (at + 3) rest
query-tokens rest at =
    let shift : at + 2 + 1 ≡ at + 3 = omega arith in
    query_read (32 ∷ rest) at ∙ ap (λ ts. placed at (token.Sign sign.Query) ∷ ts) (blank_read rest (at + 2) ∙ ap (λ p. tokens_behind 0 p rest) shift)

query-step : (s s2 s3 : State) (ts us : List Placed) (b c : ℕ) (is : List Item) (names : List (Option ℕ))
    → body (record s { tokens = ts; is_behind_operand = false; variables = [] }) ≡ Ok (is, record s2 { tokens = placed c (token.Sign sign.Stop) ∷ us })
    → named [] s2.variables (record s2 { tokens = us; is_behind_operand = false }) ≡ Ok (names, s3)
    → clause (record s { tokens = placed b (token.Sign sign.Query) ∷ ts }) ≡ Ok (part.Query (record { body = is; names = names }), s3)
unfolding clause
query-step s s2 s3 ts us b c is names e f = rw (e, f) refl

pub query_text-is : (names : List (List ℕ)) (q : Query) → query_text names q ≡ (codes "?- " ++ items_text (query_style names q.names) true q.body) ++ codes ".\n"
unfolding query_text
query_text-is names q = refl

-- what a query that is within the limits fulfils
pub record Fit (names : List (List ℕ)) (q : Query) : Type 0 where
  pub style : IsStyle (query_style names q.names)
  pub named : list_all (name_fits names) q.names ≡ true
  pub body : body_fits (query_style names q.names) q.body ≡ true
  pub variables : count_body (query_style names q.names) 0 q.body ≡ Some (length q.names)

pub query-fit : (names : List (List ℕ)) (table : IsTable names) (q : Query) → query_fits names q ≡ true → Fit names q
query-fit names table q g =
    let w = query_style names q.names in
    let named = list_all (name_fits names) q.names in
    let fit = body_fits w q.body in
    let p = and_parts (are_variables w.variables && named && fit) (is_count (count_body w 0 q.body) (length q.names)) g in
    let r = and_parts (are_variables w.variables && named) fit p.0 in
    let v = and_parts (are_variables w.variables) named r.0 in
    record { style = record { table = table; variables = v.0 }; named = v.1; body = r.1; variables = counted (count_body w 0 q.body) (length q.names) p.1 }

pub query-read : (names : List (List ℕ)) (table : IsTable names) (q : Query) → query_fits names q ≡ true → (s : State) (rest : List ℕ)
    → ReadsPart names clause (query_text names q) (part.Query q) (map (query_variable names) q.names) s rest
query-read names table q g s rest at =
    let w = query_style names q.names in
    let fit = query-fit names table q g in
    let m = length q.names in
    let vs = w.variables in
    let all : take m vs ≡ vs = take_all m vs (omega (arith, length-map q.names (query_variable names))) in
    let text = items_text w true q.body in
    let stop = 46 ∷ 10 ∷ rest in
    let e = at + 3 + length text in
    let place : e + 2 ≡ at + length ((63 ∷ 45 ∷ 32 ∷ text) ++ codes ".\n") = omega (arith, length-append (63 ∷ 45 ∷ 32 ∷ text) (codes ".\n")) in
    let s2 = record (behind_term (had w m s) e stop) { variables = vs } in
    subst (λ text. clause (before (in_table names s) at (text ++ rest)) ≡ Ok (part.Query q, behind_part names vs s (at + length text) rest)) (sym (query_text-is names q))
    (ap (λ bs. clause (before (in_table names s) at (63 ∷ 45 ∷ 32 ∷ bs))) (append_assoc text (codes ".\n") rest)
    ∙ ap (λ ts. clause (record (in_table names s) { tokens = ts })) (query-tokens (text ++ stop) at)
    ∙ query-step (in_table names s) s2 (behind_part names vs s (e + 2) rest) (tokens_behind 0 (at + 3) (text ++ stop)) (tokens_behind 0 (e + 2) rest) at e q.body q.names
    (body-read w fit.style q.body 0 m fit.body fit.variables (record s { is_behind_operand = false }) rest (at + 3)
    ∙ ap (λ vs. Ok (q.body, record (behind_term (had w m s) e stop) { variables = vs })) all
    ∙ ap (λ ts. Ok (q.body, record s2 { tokens = ts })) (stop-tokens rest e))
    (named-reads w fit.style (behind_part names vs s (e + 2) rest) q.names [] fit.named)
    ∙ ap (λ p. Ok (part.Query q, behind_part names vs s p rest)) place)
