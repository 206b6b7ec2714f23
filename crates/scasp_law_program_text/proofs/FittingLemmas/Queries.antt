-- A query that is read is within the limits, and its variables have their names in the table.
use Rattle.std.proofs.Common.{◌≡◌, ℕ, Bool, true, false, not, ◌&&◌, ◌||◌, nat_lt, if◌then◌else◌, List, [], ◌∷◌, ◌++◌, map, length, codes, slice_get, Option, None, Some, refl, sym, ap, subst, ◌∙◌, append_assoc, append-nil, arith}
use Rattle.std.specs.Prelude.{unwrap_or}
use Rattle.std.specs.List.{list_all}
use Rattle.std.specs.Str.{IsUtf8, bytes_eq}
use Rattle.std.proofs.lemmas.Bool.{and_parts, and_from, lt-ltb}
use Rattle.std.proofs.lemmas.List.{map-append, length-map}
use Rattle.std.proofs.lemmas.List.Folds.{list_all-append}
use Rattle.std.proofs.lemmas.Option.{slice_get_within}
use Rattle.scasp_list.specs.Each.{Each}
use Rattle.scasp_name.specs.Texts.{has_text}
use Rattle.scasp_syntax.specs.declared.clause.Item.{Item}
use Rattle.scasp_reader_tokens.specs.declared.sign.Sign.TheVariants as sign
use Rattle.scasp_cert.specs.Text.Names.{text_at}
use Rattle.scasp_reader_terms.specs.Names.{place_in, interned}
use Rattle.scasp_reader_terms.specs.Steps.{State, ◌>>=◌, then_read, give, behind}
use Rattle.scasp_reader.specs.declared.texts.clauses.Part.TheVariants as part
use Rattle.scasp_reader.specs.Texts.Clauses.{named, query}
use Rattle.scasp_print_program.specs.Terms.{Style}
use Rattle.scasp_print_program.specs.Programs.{query_variable}
use Rattle.scasp_law_program_text.specs.Readback.Endings.{is_variable_text}
use Rattle.scasp_law_program_text.specs.CompoundReadback.Styles.{is_anonymous, are_variables}
use Rattle.scasp_law_program_text.specs.ClauseReadback.Counting.{count_body}
use Rattle.scasp_law_program_text.specs.ClauseReadback.Fitting.{body_fits}
use Rattle.scasp_law_program_text.specs.ClauseReadback.Parts.{is_count, query_style, name_fits}
use Rattle.scasp_law_program_text.specs.TermFitting.Readers.{known, IsReader, Keeps, Covers}
use Rattle.scasp_law_program_text.proofs.ReadbackLemmas.FoundTokens.{variable-utf8}
use Rattle.scasp_law_program_text.proofs.TermFittingLemmas.Steps.{Follows, follows_behind, reader_behind, Post, Post_give, Post_from, Post_then, Post_expect}
use Rattle.scasp_law_program_text.proofs.TermFittingLemmas.Names.{bytes_eq-same, with_name, follows_interned, place-is}
use Rattle.scasp_law_program_text.proofs.FittingLemmas.Bodies.{IsBody, body_holds}
use Rattle.scasp_law_program_text.proofs.FittingLemmas.Clauses.{IsPart, same-count}

-- ---- the names of variables

texts-utf8 : (texts : List (List ℕ)) → are_variables texts ≡ true → Each IsUtf8 texts
texts-utf8 [] h = tt
texts-utf8 (text ∷ texts) h =
    let p = and_parts (is_variable_text text && (is_anonymous text || not (has_text texts text))) (are_variables texts) h in
    let q = and_parts (is_variable_text text) (is_anonymous text || not (has_text texts text)) p.0 in
    (variable-utf8 text q.0, texts-utf8 texts p.1)

-- in every table that keeps the names that are known these are the names of such texts, none of them `_`
abbrev AreNames : List (Option ℕ) → List (List ℕ) → Style → Type 0
AreNames us texts k = (names : List (List ℕ)) → Keeps k.names names → (map (query_variable names) us ≡ texts) × (list_all (name_fits names) us ≡ true)

names-push : (us : List (Option ℕ)) (u : Option ℕ) (done : List (List ℕ)) (text : List ℕ) (k : Style) → AreNames us done k
    → ((names : List (List ℕ)) → Keeps k.names names → (query_variable names u ≡ text) × (name_fits names u ≡ true)) → AreNames (us ++ u ∷ []) (done ++ text ∷ []) k
names-push us u done text k h g names keeps =
    let a = h names keeps in
    let b = g names keeps in (
      map-append (query_variable names) us (u ∷ []) ∙ (λ i. a.0 i ++ b.0 i ∷ []),
      list_all-append (name_fits names) us (u ∷ []) ∙ rw (a.1, b.1) refl,
    )

-- what is known of the names, and that of the variables nothing more is
abbrev IsNamedSo : List (List ℕ) → List (List ℕ) → List (Option ℕ) → Style → Type 0
IsNamedSo variables texts us k = AreNames us texts k × (variables ≡ k.variables)

named_holds : (us : List (Option ℕ)) (done texts : List (List ℕ)) (s : State) → IsReader s → Each IsUtf8 texts → AreNames us done (known s)
    → Post (IsNamedSo s.variables (done ++ texts)) s (named us texts s)
named_holds us done [] s r u h =
    Post_give (IsNamedSo s.variables (done ++ [])) s us r (λ fine. (λ names keeps. ((h names keeps).0 ∙ sym (append-nil done), (h names keeps).1), refl))
named_holds us done (text ∷ texts) s r u h =
    by (bytes_eq text (codes "_")) refl (λ v t rt. named_holds (us ++ v ∷ []) (done ++ text ∷ []) texts t rt u.1)
  where
    Q : List (List ℕ) → List (Option ℕ) → Style → Type 0
    Q all = IsNamedSo s.variables all

    by : (b : Bool) → bytes_eq text (codes "_") ≡ b
        → ((v : Option ℕ) (t : State) → IsReader t → AreNames (us ++ v ∷ []) (done ++ text ∷ []) (known t) → Post (IsNamedSo t.variables ((done ++ text ∷ []) ++ texts)) t (named (us ++ v ∷ []) texts t))
        → Post (IsNamedSo s.variables (done ++ text ∷ texts)) s (then_read ((if b then give None else (interned text >>= (λ n. give (Some n)))) s) (λ v. named (us ++ v ∷ []) texts))
    by true e rest =
        subst (λ all. Post (IsNamedSo s.variables all) s (named (us ++ None ∷ []) texts s)) (append_assoc done (text ∷ []) texts)
        (rest None s r (names-push us None done text (known s) h (λ names keeps. (sym (bytes_eq-same text (codes "_") e), refl))))
    by false e rest =
        let t = with_name text s in
        let f = follows_interned text s r u.0 in
        let n = place_in s.names text in
        Post_from (IsNamedSo s.variables (done ++ text ∷ texts)) s t _ f
        (subst (λ all. Post (IsNamedSo s.variables all) t (named (us ++ Some n ∷ []) texts t)) (append_assoc done (text ∷ []) texts)
        (rest (Some n) t f.reader (names-push us (Some n) done text (known t) (λ names keeps. h names (λ i x q. keeps i x (f.names i x q))) (λ names keeps. one names keeps))))
      where
        one : (names : List (List ℕ)) → Keeps (with_name text s).names names → (query_variable names (Some (place_in s.names text)) ≡ text) × (name_fits names (Some (place_in s.names text)) ≡ true)
        one names keeps =
            let n = place_in s.names text in
            let at = keeps n text (place-is s.names text) in
            let is : text_at names n ≡ text = ap (λ o. unwrap_or o []) at in
            (is, and_from (nat_lt n (length names)) (not (is_anonymous (text_at names n))) (lt-ltb n (length names) (slice_get_within names n text at)) (ap (λ t. not (is_anonymous t)) is ∙ ap not e))

-- ---- queries

query-part : (items : List Item) (us : List (Option ℕ)) (s t : State) → IsReader s → Follows s t → IsBody 0 items (known s) → IsNamedSo s.variables s.variables us (known t)
    → IsPart (part.Query (record { body = items; names = us })) (known t)
query-part items us s t r f b named names keeps =
    let texts = s.variables in
    let w = query_style names us in
    let a = named.0 names keeps in
    let is : w.variables ≡ texts = a.0 in
    let number : length us ≡ length texts = sym (length-map us (query_variable names)) ∙ ap length is in
    let covers : Covers w (known s) = record {
      names = λ i text e. keeps i text (f.names i text e);
      number = omega (arith, ap length is);
      named = λ x text e plain. ap (λ (vs : List (List ℕ)). is_anonymous (unwrap_or (slice_get vs x) [])) is ∙ ap (λ o. is_anonymous (unwrap_or o [])) e ∙ plain;
    } in
    let variables : are_variables w.variables ≡ true = ap are_variables is ∙ r.style.variables in
    let fits = list_all (name_fits names) us in
    let body = body_fits w items in
    and_from (are_variables w.variables && fits && body) (is_count (count_body w 0 items) (length us))
    (and_from (are_variables w.variables && fits) body (and_from (are_variables w.variables) fits variables a.1) (b.fit w covers))
    (same-count (length us) (count_body w 0 items) (b.counted w covers ∙ ap Some (sym number)))

pub query_holds : (s : State) → IsReader s → length s.variables ≡ 0 → Post IsPart s (query s)
query_holds s r none =
    Post_from IsPart s (behind s) _ (follows_behind s r)
    (Post_then (IsBody (length s.variables)) IsPart (behind s) _ _ (body_holds (behind s) (reader_behind s r))
    (λ items t f b. Post_expect IsPart t f.reader sign.Stop _
    (Post_then (IsNamedSo t.variables ([] ++ t.variables)) IsPart (behind t) _ _
    (named_holds [] [] t.variables (behind t) (reader_behind t f.reader) (texts-utf8 t.variables f.reader.style.variables) (λ names keeps. (refl, refl)))
    (λ us u g named. Post_give IsPart u _ g.reader
    (λ fine. query-part items us (behind t) u (reader_behind t f.reader) g (subst (λ n. IsBody n items (known t)) none (b (g.fault fine))) (named fine))))))
