-- A text whose tokens are those of trees that mean something is read as this.
use Rattle.std.proofs.Common.{◌≡◌, ℕ, zero, suc, ◌+◌, ◌<◌, ◌≤◌, Bool, true, false, nat_lt, if◌then◌else◌, List, [], ◌∷◌, ◌++◌, length, Option, None, Some, Result, Ok, Err, refl, sym, ap, ◌∙◌, append_assoc, append-nil, length-append, arith}
use Rattle.std.specs.Prelude.{nat_le}
use Rattle.std.proofs.lemmas.Bool.Decides.{nat_tests}
use Rattle.scasp_reader_tokens.specs.declared.sign.Sign.TheVariants as sign
use Rattle.scasp_reader_tokens.specs.declared.token.Token.{Token}
use Rattle.scasp_reader_tokens.specs.declared.token.Token.TheVariants as token
use Rattle.scasp_reader_tokens.specs.Tokens.{tokens_of}
use Rattle.scasp_reader_terms.specs.declared.fault.Count.TheVariants as count
use Rattle.scasp_reader_terms.specs.declared.fault.Fault.{Fault}
use Rattle.scasp_reader_terms.specs.declared.fault.Kind.TheVariants as kind
use Rattle.scasp_reader_terms.specs.Faults.{fault_at}
use Rattle.scasp_reader_terms.specs.Steps.{State, then_read, give, stop_at, place_of, behind, start}
use Rattle.scasp_reader.specs.declared.texts.clauses.Part.{Part}
use Rattle.scasp_reader.specs.declared.texts.clauses.Part.TheVariants as part
use Rattle.scasp_reader.specs.declared.texts.texts.Parts.{Parts}
use Rattle.scasp_reader.specs.declared.texts.texts.Reading.{Reading}
use Rattle.scasp_reader.specs.declared.texts.texts.TheConstants.{BYTE_LIMIT, CLAUSE_LIMIT}
use Rattle.scasp_reader.specs.Texts.Clauses.{clause}
use Rattle.scasp_reader.specs.Texts.Texts.{limited_clause, part_at, next_part, no_parts, part_count, with_part, is_end, parts_within, read_parts, settled, told, reading_of, read}
use Rattle.scasp_name.specs.Texts.{with_text}
use Rattle.scasp_reader_terms.specs.Names.{place_in}
use Rattle.scasp_reader.specs.Texts.Abducibles.{positive_pred}
use Rattle.scasp_syntax.specs.declared.atom.Atom.{Atom as MeantAtom}
use Rattle.scasp_syntax.specs.declared.clause.Item.{Item as MeantItem}
use Rattle.scasp_law_program_text.specs.Grammar.Known.{Known, means, then_make}
use Rattle.scasp_law_program_text.specs.Grammar.Trees.{Clause, a_fact, a_rule, a_denial, a_query, an_abducible, a_directive}
use Rattle.scasp_law_program_text.specs.Grammar.Spelling.{minus_if, arguments_tokens, atom_tokens, body_tokens, clause_tokens, program_tokens}
use Rattle.scasp_law_program_text.specs.Grammar.Bodies.{atom_meaning, body_meaning}
use Rattle.scasp_law_program_text.specs.Grammar.Programs.{clause_of, query_of, names_of, clause_meaning, clauses_meaning, program_of, meaning, IsText}
use Rattle.scasp_law_program_text.proofs.GrammarLemmas.Steps.{known}
use Rattle.scasp_law_program_text.proofs.GrammarLemmas.Given.{first, same, At, next-is, At_behind, At_so, Gives, Gives_by, value-is, Gives_ok, Gives_then, made}
use Rattle.scasp_law_program_text.proofs.GrammarLemmas.GivenTerms.{some-minus}
use Rattle.scasp_law_program_text.proofs.GrammarLemmas.GivenExpressions.{tokens-length}
use Rattle.scasp_law_program_text.proofs.GrammarLemmas.GivenAbducibles.{meant-so as are-meant}
use Rattle.scasp_law_program_text.proofs.GrammarLemmas.GivenClauses.{clause-given}
use Rattle.scasp_law_program_text.proofs.GrammarLemmas.Texts.{parts-are}

-- ---- what clauses mean

-- a clause, of any kind, and no directive that is skipped
abbrev is_counted : Clause → Bool
is_counted (a_fact a) = true
is_counted (a_rule a b) = true
is_counted (a_denial b) = true
is_counted (a_query b) = true
is_counted (an_abducible text texts) = true
is_counted a_directive = false

abbrev grown : Part → ℕ
grown (part.Clause c) = 1
grown (part.Query q) = 1
grown (part.Abducible a) = 1
grown part.Directive = 0
grown part.End = 0

count-grown : (p : Parts) (q : Part) → part_count (with_part p q) ≡ part_count p + grown q
count-grown p (part.Clause c) = omega (arith, length-append p.clauses (c ∷ []))
count-grown p (part.Query q) = omega (arith, length-append p.queries (q ∷ []))
count-grown p (part.Abducible a) = omega (arith, length-append p.abducibles (a ∷ []))
count-grown p part.Directive = omega arith
count-grown p part.End = omega arith

record IsCounted (q : Part) : Type 0 where
  goes_on : is_end q ≡ false
  grows : grown q ≡ 1

clause-counted : (head : Option MeantAtom) (xs : List MeantItem) (k : Known) (q : Part) (l : Known) → clause_of head xs k ≡ Some (q, l) → IsCounted q
clause-counted head xs k q l e =
    let is : part.Clause (record { head = head; body = xs; vars = length k.variables }) ≡ q = value-is _ q k l e in
    record { goes_on = ap is_end (sym is); grows = ap grown (sym is) }

query-counted : (xs : List MeantItem) (k : Known) (q : Part) (l : Known) → query_of xs k ≡ Some (q, l) → IsCounted q
query-counted xs k q l e =
    let m = made (names_of k.variables k) (λ names k. Some (part.Query (record { body = xs; names = names }), k)) q l e in
    let is : part.Query (record { body = xs; names = m.value }) ≡ q = value-is _ q m.between l m.rest in
    record { goes_on = ap is_end (sym is); grows = ap grown (sym is) }

counted : (c : Clause) (k : Known) (q : Part) (l : Known) → is_counted c ≡ true → clause_meaning c k ≡ Some (q, l) → IsCounted q
counted (a_fact a) k q l i e =
    let m = made (atom_meaning a (record { names = k.names; variables = [] })) (λ x. clause_of (Some x) []) q l e in
    clause-counted (Some m.value) [] m.between q l m.rest
counted (a_rule a b) k q l i e =
    let m = made (atom_meaning a (record { names = k.names; variables = [] })) (λ x k. then_make (body_meaning b k) (λ xs. clause_of (Some x) xs)) q l e in
    let n = made (body_meaning b m.between) (λ xs. clause_of (Some m.value) xs) q l m.rest in
    clause-counted (Some m.value) n.value n.between q l n.rest
counted (a_denial b) k q l i e =
    let n = made (body_meaning b (record { names = k.names; variables = [] })) (λ xs. clause_of None xs) q l e in
    clause-counted None n.value n.between q l n.rest
counted (a_query b) k q l i e =
    let n = made (body_meaning b (record { names = k.names; variables = [] })) (λ xs. query_of xs) q l e in
    query-counted n.value n.between q l n.rest
counted (an_abducible text texts) k q l i e =
    let f = place_in k.names text in
    let m = are-meant f texts (record { names = with_text k.names text; variables = [] }) q l e in
    let is : part.Abducible (positive_pred f (length texts)) ≡ q = value-is _ q m.between l m.is in
    record { goes_on = ap is_end (sym is); grows = ap grown (sym is) }
counted a_directive k q l i e = absurd cc

no-fewer : (clauses : List Clause) (p : Parts) (k : Known) (q : Parts) (l : Known) → clauses_meaning p clauses k ≡ Some (q, l) → part_count p ≤ part_count q
no-fewer [] p k q l e = let is : p ≡ q = value-is p q k l e in let same_count = ap part_count is in omega (arith, same_count)
no-fewer (c ∷ clauses) p k q l e =
    let m = made (clause_meaning c k) (λ x. clauses_meaning (with_part p x) clauses) q l e in
    let rest = no-fewer clauses (with_part p m.value) m.between q l m.rest in
    let more = count-grown p m.value in
    omega (arith, rest, more)

-- ---- counts of tokens

some-clause : (c : Clause) → 0 < length (clause_tokens c)
some-clause (a_fact a) = let some = some-minus a.is_negated (token.Name a.name) (arguments_tokens a.arguments) in omega (arith, some, length-append (atom_tokens a) (token.Sign sign.Stop ∷ []))
some-clause (a_rule a b) =
    let some = some-minus a.is_negated (token.Name a.name) (arguments_tokens a.arguments) in
    omega (arith, some, length-append (atom_tokens a) (token.Sign sign.If ∷ (body_tokens b ++ token.Sign sign.Stop ∷ [])))
some-clause (a_denial b) = omega arith
some-clause (a_query b) = omega arith
some-clause (an_abducible text texts) = omega arith
some-clause a_directive = omega arith

clauses-within : (clauses : List Clause) → length clauses ≤ length (program_tokens clauses)
clauses-within [] = omega arith
clauses-within (c ∷ clauses) = let some = some-clause c in let rest = clauses-within clauses in omega (arith, some, rest, length-append (clause_tokens c) (program_tokens clauses))

-- ---- parts

next-part-is : (n : ℕ) (ts : List Token) (s : State) → At ts s → next_part n s ≡ part_at n (place_of s.tokens) (first ts) s
unfolding next_part
next-part-is n ts s h = ap (λ o. part_at n (place_of s.tokens) o s) (next-is ts s h)

-- a clause or a query begins here
counted-at : (c : Clause) (ts : List Token) (n at : ℕ) (s : State) → is_counted c ≡ true → part_at n at (first (clause_tokens c ++ ts)) s ≡ limited_clause n s
counted-at (a_fact a) ts n at s i = by a.is_negated
  where
    by : (b : Bool) → part_at n at (first (((minus_if b ++ token.Name a.name ∷ arguments_tokens a.arguments) ++ token.Sign sign.Stop ∷ []) ++ ts)) s ≡ limited_clause n s
    by true = refl
    by false = refl
counted-at (a_rule a b) ts n at s i = by a.is_negated
  where
    by : (t : Bool) → part_at n at (first (((minus_if t ++ token.Name a.name ∷ arguments_tokens a.arguments) ++ token.Sign sign.If ∷ (body_tokens b ++ token.Sign sign.Stop ∷ [])) ++ ts)) s ≡ limited_clause n s
    by true = refl
    by false = refl
counted-at (a_denial b) ts n at s i = refl
counted-at (a_query b) ts n at s i = refl
counted-at (an_abducible text texts) ts n at s i = refl
counted-at a_directive ts n at s i = absurd cc

not-directive : (c : Clause) → is_counted c ≡ true → c ≡ a_directive → ⊥
not-directive c i e = let wrong : false ≡ true = ap is_counted (sym e) ∙ i in cc

counted-given : (c : Clause) (n : ℕ) (s : State) (rest : List Token) (q : Part) (l : Known) → At (clause_tokens c ++ rest) s → is_counted c ≡ true → n < CLAUSE_LIMIT → clause_meaning c (known s) ≡ Some (q, l)
    → Gives q rest l (next_part n s)
counted-given c n s rest q l h i few e =
    let past : nat_le CLAUSE_LIMIT n ≡ false = grind (arith, nat_tests, few) in
    Gives_by q rest l _ _
    (next-part-is n _ s h ∙ counted-at c rest n (place_of s.tokens) s i ∙ ap (λ b. if b then stop_at (place_of s.tokens) (kind.Limit count.Clauses) s else clause s) past)
    (clause-given c s rest q l h (not-directive c i) e)

-- the parts behind this one
goes-on : (n : ℕ) (p all : Parts) (q : Part) (s : State) (us ts : List Token) (k l : Known) → is_end q ≡ false → Gives q us k (next_part (part_count p) s)
    → ((t : State) → At us t → known t ≡ k → Gives all ts l (parts_within n (with_part p q) t)) → Gives all ts l (parts_within (suc n) p s)
goes-on n p all q s us ts k l e h rest =
    Gives_then q all us ts k l (next_part (part_count p) s) (λ q. if is_end q then give p else parts_within n (with_part p q)) h
    (λ t there knows. Gives_by all ts l _ _ (ap (λ b. (if b then give p else parts_within n (with_part p q)) t) e) (rest t there knows))

-- one part, and those behind it
part-given : (c : Clause) (clauses : List Clause) (n : ℕ) (p : Parts) (s : State) (rest : List Token) (all : Parts) (ts : List Token) (l : Known) → At (clause_tokens c ++ rest) s
    → clauses_meaning p (c ∷ clauses) (known s) ≡ Some (all, l) → part_count all ≤ CLAUSE_LIMIT
    → ((q : Part) (t : State) → At rest t → clauses_meaning (with_part p q) clauses (known t) ≡ Some (all, l) → Gives all ts l (parts_within n (with_part p q) t)) → Gives all ts l (parts_within (suc n) p s)
part-given c clauses n p s rest all ts l h e few others =
    let m = made (clause_meaning c (known s)) (λ x. clauses_meaning (with_part p x) clauses) all l e in by (is_counted c) refl m.value m.between m.first m.rest
  where
    directive : (c : Clause) → is_counted c ≡ false → c ≡ a_directive
    directive (a_fact a) i = absurd cc
    directive (a_rule a b) i = absurd cc
    directive (a_denial b) i = absurd cc
    directive (a_query b) i = absurd cc
    directive (an_abducible text texts) i = absurd cc
    directive a_directive i = refl

    by : (b : Bool) → is_counted c ≡ b → (q : Part) (k : Known) → clause_meaning c (known s) ≡ Some (q, k) → clauses_meaning (with_part p q) clauses k ≡ Some (all, l) → Gives all ts l (parts_within (suc n) p s)
    by true i q k meant behind_meant =
        let is = counted c (known s) q k i meant in
        let more = count-grown p q in
        let no_more = no-fewer clauses (with_part p q) k all l behind_meant in
        let one = is.grows in
        let less : part_count p < CLAUSE_LIMIT = omega (arith, more, no_more, one, few) in
        goes-on n p all q s rest ts k l is.goes_on (counted-given c (part_count p) s rest q k h i less meant)
        (λ t there knows. others q t there (ap (λ k. clauses_meaning (with_part p q) clauses k) knows ∙ behind_meant))
    by false i q k meant behind_meant =
        let is = directive c i in
        let now : means part.Directive (known s) ≡ means q k = ap (λ c. clause_meaning c (known s)) (sym is) ∙ meant in
        let skipped : part.Directive ≡ q = value-is part.Directive q (known s) k now in
        let g = At_so _ (token.SkippedDirective ∷ rest) s h (ap (λ c. clause_tokens c ++ rest) is) in
        goes-on n p all q s rest ts k l (ap is_end (sym skipped))
        (Gives_by q rest k _ _ (next-part-is (part_count p) _ s g) (Gives_ok same part.Directive q rest (behind s) k (At_behind _ _ s g) now))
        (λ t there knows. others q t there (ap (λ k. clauses_meaning (with_part p q) clauses k) knows ∙ behind_meant))

parts-given : (clauses : List Clause) (n : ℕ) (p : Parts) (s : State) (all : Parts) (l : Known) → At (program_tokens clauses ++ token.End ∷ []) s → length clauses < n → clauses_meaning p clauses (known s) ≡ Some (all, l)
    → part_count all ≤ CLAUSE_LIMIT → Gives all (token.End ∷ []) l (parts_within n p s)
parts-given clauses zero p s all l h enough e few = absurd (omega (arith, enough))
parts-given [] (suc n) p s all l h enough e few =
    Gives_by all (token.End ∷ []) l _ _ (ap (λ r. then_read r (λ q. if is_end q then give p else parts_within n (with_part p q))) (next-part-is (part_count p) _ s h)) (Gives_ok same p all (token.End ∷ []) s l h e)
parts-given (c ∷ clauses) (suc n) p s all l h enough e few =
    part-given c clauses n p s (program_tokens clauses ++ token.End ∷ []) all (token.End ∷ []) l (At_so _ _ s h (append_assoc (clause_tokens c) (program_tokens clauses) (token.End ∷ []))) e few
    (λ q t there i. parts-given clauses n (with_part p q) t all l there (omega (arith, enough)) i few)

-- ---- the text

-- what these trees mean is within the limit of clauses
record IsMeant (names : List (List ℕ)) (clauses : List Clause) (r : Reading) : Type 0 where
  all : Parts
  behind_all : Known
  value : clauses_meaning no_parts clauses (record { names = names; variables = [] }) ≡ Some (all, behind_all)
  few : part_count all ≤ CLAUSE_LIMIT
  is : read_parts all behind_all.names ≡ r

meant-so : (names : List (List ℕ)) (clauses : List Clause) (r : Reading) → meaning names clauses ≡ Some r → IsMeant names clauses r
unfolding meaning
meant-so names clauses r e = by (clauses_meaning no_parts clauses (record { names = names; variables = [] })) refl e
  where
    limited : (all : Parts) (k : Known) (b : Bool) → nat_lt CLAUSE_LIMIT (part_count all) ≡ b → clauses_meaning no_parts clauses (record { names = names; variables = [] }) ≡ Some (all, k)
        → (if b then None else Some (read_parts all k.names)) ≡ Some r → IsMeant names clauses r
    limited all k true past value e = absurd cc
    limited all k false past value e = record { all = all; behind_all = k; value = value; few = grind (arith, nat_tests, past); is = (let same_reading : read_parts all k.names ≡ r = cc in same_reading) }

    by : (o : Option (Parts × Known)) → clauses_meaning no_parts clauses (record { names = names; variables = [] }) ≡ o → program_of o ≡ Some r → IsMeant names clauses r
    by None value e = absurd cc
    by (Some x) value e = limited x.0 x.1 (nat_lt CLAUSE_LIMIT (part_count x.0)) refl value e

tokens-read : (names : List (List ℕ)) (bytes : List ℕ) (r : Reading) (clauses : List Clause) → At (program_tokens clauses ++ token.End ∷ []) (start (tokens_of bytes) names) → IsMeant names clauses r → reading_of (tokens_of bytes) names ≡ Ok r
tokens-read names bytes r clauses h m =
    let s = start (tokens_of bytes) names in
    let within = clauses-within clauses in
    let enough = tokens-length (program_tokens clauses ++ token.End ∷ []) [] s (At_so _ _ s h (sym (append-nil (program_tokens clauses ++ token.End ∷ [])))) in
    let g = parts-given clauses (length s.tokens) no_parts s m.all m.behind_all h (omega (arith, within, enough, length-append (program_tokens clauses) (token.End ∷ []))) m.value m.few in
    ap told (parts-are s ∙ g.is) ∙ ap (λ o. settled m.all g.state o) g.there.fault
    ∙ ap (λ (k : Known). Ok (read_parts m.all k.names)) g.knows ∙ ap Ok m.is

pub text-is-read : (names : List (List ℕ)) (bytes : List ℕ) (r : Reading) → IsText names bytes r → read names bytes ≡ Ok r
unfolding read
text-is-read names bytes r h =
    let le = h.0 in
    let clauses = h.1.0 in
    let past : nat_lt BYTE_LIMIT (length bytes) ≡ false = grind (arith, nat_tests, le) in
    ap (λ b. if b then Err (fault_at BYTE_LIMIT (kind.Limit count.Bytes)) else reading_of (tokens_of bytes) names) past
    ∙ tokens-read names bytes r clauses (record { tokens = h.1.1; fault = refl }) (meant-so names clauses r h.1.2)

ok-same : (r q : Reading) (x : Result Reading Fault) → x ≡ Ok r → x ≡ Ok q → r ≡ q
ok-same r q x e f = cc

pub one-meaning : (names : List (List ℕ)) (bytes : List ℕ) (r q : Reading) → IsText names bytes r → IsText names bytes q → r ≡ q
one-meaning names bytes r q h k = ok-same r q (read names bytes) (text-is-read names bytes r h) (text-is-read names bytes q k)
