-- What is read of a text is within the limits, so that it is read back.
use Rattle.std.proofs.Common.{◌≡◌, ℕ, zero, suc, ◌+◌, ◌<◌, ◌≤◌, Bool, true, false, ◌&&◌, nat_lt, if◌then◌else◌, List, [], ◌∷◌, ◌++◌, length, Option, None, Some, Result, Ok, Err, refl, sym, subst, ◌∙◌, length-append, arith}
use Rattle.std.specs.Prelude.{nat_le}
use Rattle.std.specs.List.{list_all}
use Rattle.std.proofs.lemmas.Bool.{and_from}
use Rattle.std.proofs.lemmas.Bool.Decides.{nat_tests}
use Rattle.std.proofs.lemmas.List.Folds.{list_all-append}
use Rattle.scasp_syntax.specs.Denials.{with_denials}
use Rattle.scasp_syntax.specs.Programs.{first_occurrences}
use Rattle.scasp_syntax.specs.WellFormed.{are_abducible}
use Rattle.scasp_reader_tokens.specs.declared.sign.Sign.{Sign}
use Rattle.scasp_reader_tokens.specs.declared.sign.Sign.TheVariants as sign
use Rattle.scasp_reader_tokens.specs.declared.token.Token.{Token}
use Rattle.scasp_reader_tokens.specs.declared.token.Token.TheVariants as token
use Rattle.scasp_reader_tokens.specs.Tokens.{tokens_of}
use Rattle.scasp_reader_terms.specs.declared.fault.Count.TheVariants as count
use Rattle.scasp_reader_terms.specs.declared.fault.Fault.{Fault}
use Rattle.scasp_reader_terms.specs.declared.fault.Kind.TheVariants as kind
use Rattle.scasp_reader_terms.specs.Faults.{fault_at}
use Rattle.scasp_reader_terms.specs.Steps.{State, Read, then_read, give, stop_at, behind, place_of, token_of, start}
use Rattle.scasp_reader.specs.declared.texts.clauses.Part.{Part}
use Rattle.scasp_reader.specs.declared.texts.clauses.Part.TheVariants as part
use Rattle.scasp_reader.specs.declared.texts.texts.Parts.{Parts}
use Rattle.scasp_reader.specs.declared.texts.texts.Reading.{Reading}
use Rattle.scasp_reader.specs.declared.texts.texts.TheConstants.{BYTE_LIMIT, CLAUSE_LIMIT}
use Rattle.scasp_reader.specs.Texts.Clauses.{clause_at_sign, clause_at, without_variables, clause}
use Rattle.scasp_reader.specs.Texts.Texts.{part_at, next_part, no_parts, part_count, with_part, is_end, parts_within, parts, read_parts, settled, told, reading_of, read}
use Rattle.scasp_reader.specs.Programs.Programs.{completed, program_in}
use Rattle.scasp_reader.proofs.ProgramsLemmas.ClauseKeeping.{read-abducible}
use Rattle.scasp_print_program.specs.Terms.{Style}
use Rattle.scasp_print_program.specs.Programs.{program_text}
use Rattle.scasp_law_program_text.specs.CompoundReadback.Styles.{IsTable}
use Rattle.scasp_law_program_text.specs.ClauseReadback.Parts.{abducible_fits, clause_fits, query_fits}
use Rattle.scasp_law_program_text.specs.ClauseReadback.Texts.{text_fits}
use Rattle.scasp_law_program_text.proofs.ClauseReadbackLemmas.Texts.{program-read}
use Rattle.scasp_law_program_text.specs.TermFitting.Readers.{known, IsReader, Keeps}
use Rattle.scasp_law_program_text.proofs.TermFittingLemmas.Tokens.{reader-starts}
use Rattle.scasp_law_program_text.proofs.TermFittingLemmas.Steps.{Follows, follows_behind, reader_behind, Post, Post_ok, Post_err, Post_from, Post_map}
use Rattle.scasp_law_program_text.proofs.FittingLemmas.Abducibles.{abducible_holds, first-all, first-fewer}
use Rattle.scasp_law_program_text.proofs.FittingLemmas.Clauses.{IsPart, with_body_holds, headed_holds}
use Rattle.scasp_law_program_text.proofs.FittingLemmas.Queries.{query_holds}

-- ---- parts

reader_without : (s : State) → IsReader s → IsReader (without_variables s)
reader_without s r = record { tokens = r.tokens; style = record { table = r.style.table; variables = refl }; limit = λ fine. omega arith }

-- behind a part the variables are forgotten
follows_without : (s t : State) → Follows (without_variables s) t → Follows (without_variables s) (without_variables t)
follows_without s t f = record { reader = reader_without t f.reader; fault = f.fault; names = f.names; variables = λ i text e. e }

pub clause_holds : (s : State) → IsReader s → Post IsPart (without_variables s) (clause s)
unfolding clause
clause_holds s r = by (token_of s.tokens)
  where
    sign_by : (g : Sign) → Post IsPart (without_variables s) (clause_at_sign g (without_variables s))
    sign_by sign.Minus = headed_holds (without_variables s) (reader_without s r) refl
    sign_by sign.If =
        Post_from IsPart (without_variables s) (behind (without_variables s)) _ (follows_behind (without_variables s) (reader_without s r))
        (with_body_holds None (behind (without_variables s)) (reader_behind (without_variables s) (reader_without s r)) (λ fine. refl))
    sign_by sign.Query = query_holds (without_variables s) (reader_without s r) refl
    sign_by g = Post_err IsPart (without_variables s) _

    by : (o : Option Token) → Post IsPart (without_variables s) (clause_at o (without_variables s))
    by (Some (token.Name text)) = headed_holds (without_variables s) (reader_without s r) refl
    by (Some (token.Sign g)) = sign_by g
    by (Some token.Abducible) = abducible_holds (without_variables s) (reader_without s r)
    by o = Post_err IsPart (without_variables s) _

-- a part that is counted stands behind fewer than there may be
abbrev IsCounted : ℕ → Part → Type 0
IsCounted n (part.Clause c) = n < CLAUSE_LIMIT
IsCounted n (part.Query q) = n < CLAUSE_LIMIT
IsCounted n (part.Abducible a) = n < CLAUSE_LIMIT
IsCounted n part.Directive = Unit {0}
IsCounted n part.End = Unit {0}

abbrev IsNextPart : ℕ → Part → Style → Type 0
IsNextPart n p k = IsPart p k × IsCounted n p

counted-part : (n : ℕ) (p : Part) → n < CLAUSE_LIMIT → IsCounted n p
counted-part n (part.Clause c) h = h
counted-part n (part.Query q) h = h
counted-part n (part.Abducible a) h = h
counted-part n part.Directive h = tt
counted-part n part.End h = tt

next_part_holds : (n : ℕ) (s : State) → IsReader s → Post (IsNextPart n) (without_variables s) (next_part n s)
unfolding next_part
next_part_holds n s r = by (place_of s.tokens) (token_of s.tokens)
  where
    fewer : (n : ℕ) → nat_le CLAUSE_LIMIT n ≡ false → n < CLAUSE_LIMIT
    fewer n e = grind (arith, nat_tests, e)

    limited : (b : Bool) → nat_le CLAUSE_LIMIT n ≡ b → Post (IsNextPart n) (without_variables s) (if b then stop_at (place_of s.tokens) (kind.Limit count.Clauses) s else clause s)
    limited true e = Post_err (IsNextPart n) (without_variables s) _
    limited false e = Post_map IsPart (IsNextPart n) (without_variables s) _ (clause_holds s r) (λ p t f fine h. (h, counted-part n p (fewer n e)))

    same : Follows (without_variables s) s
    same = record { reader = r; fault = λ fine. fine; names = λ i text e. e; variables = λ i text e. cc }

    skipped : Follows (without_variables s) (behind s)
    skipped = record { reader = reader_behind s r; fault = λ fine. fine; names = λ i text e. e; variables = λ i text e. cc }

    by : (at : ℕ) (o : Option Token) → Post (IsNextPart n) (without_variables s) (part_at n at o s)
    by at (Some token.End) = Post_ok (IsNextPart n) (without_variables s) s part.End same (λ fine. (tt, tt))
    by at (Some token.SkippedDirective) = Post_ok (IsNextPart n) (without_variables s) (behind s) part.Directive skipped (λ fine. (tt, tt))
    by at (Some token.UnclosedDirective) = Post_err (IsNextPart n) (without_variables s) _
    by at (Some token.OtherDirective) = Post_err (IsNextPart n) (without_variables s) _
    by at (Some token.BadByte) = Post_err (IsNextPart n) (without_variables s) _
    by at (Some token.Unclosed) = Post_err (IsNextPart n) (without_variables s) _
    by at o = limited (nat_le CLAUSE_LIMIT n) refl

-- ---- all parts

-- each fits with every table that keeps the names that are then known, and they are not too many
record AreParts (p : Parts) (k : Style) : Type 0 where
  clauses : (names : List (List ℕ)) → Keeps k.names names → list_all (clause_fits names) p.clauses ≡ true
  queries : (names : List (List ℕ)) → Keeps k.names names → list_all (query_fits names) p.queries ≡ true
  abducibles : (names : List (List ℕ)) → Keeps k.names names → list_all (abducible_fits names) p.abducibles ≡ true
  few : part_count p ≤ CLAUSE_LIMIT

all-push : {A : Type 0} (f : A → Bool) (xs : List A) (x : A) → list_all f xs ≡ true → f x ≡ true → list_all f (xs ++ x ∷ []) ≡ true
all-push f xs x h k = list_all-append f xs (x ∷ []) ∙ rw (h, k) refl

parts-later : (p : Parts) (k j : Style) → Keeps k.names j.names → AreParts p k → AreParts p j
parts-later p k j keeps h = record {
  clauses = λ names g. h.clauses names (λ i text e. g i text (keeps i text e));
  queries = λ names g. h.queries names (λ i text e. g i text (keeps i text e));
  abducibles = λ names g. h.abducibles names (λ i text e. g i text (keeps i text e));
  few = h.few;
}

part-more : (p : Parts) (q : Part) (k : Style) → AreParts p k → IsNextPart (part_count p) q k → AreParts (with_part p q) k
part-more p (part.Clause c) k h g = record {
  clauses = λ names keeps. all-push (clause_fits names) p.clauses c (h.clauses names keeps) (g.0 names keeps);
  queries = h.queries;
  abducibles = h.abducibles;
  few = (let less = g.1 in omega (arith, less, length-append p.clauses (c ∷ [])));
}
part-more p (part.Query q) k h g = record {
  clauses = h.clauses;
  queries = λ names keeps. all-push (query_fits names) p.queries q (h.queries names keeps) (g.0 names keeps);
  abducibles = h.abducibles;
  few = (let less = g.1 in omega (arith, less, length-append p.queries (q ∷ [])));
}
part-more p (part.Abducible a) k h g = record {
  clauses = h.clauses;
  queries = h.queries;
  abducibles = λ names keeps. all-push (abducible_fits names) p.abducibles a (h.abducibles names keeps) (g.0 names keeps);
  few = (let less = g.1 in omega (arith, less, length-append p.abducibles (a ∷ [])));
}
part-more p part.Directive k h g = h
part-more p part.End k h g = h

part_then : {A B : Type 0} (P : A → Style → Type 0) (Q : B → Style → Type 0) (s : State) (r : Result (A × State) Fault) (g : A → Read B) → Post P (without_variables s) r
    → ((x : A) (t : State) → Follows (without_variables s) t → (t.fault ≡ None → P x (known t)) → Post Q (without_variables t) (g x t)) → Post Q (without_variables s) (then_read r g)
part_then P Q s (Ok p) g h k =
    let f = h.follows p.0 p.1 refl in
    Post_from Q (without_variables s) (without_variables p.1) (g p.0 p.1) (follows_without s p.1 f) (k p.0 p.1 f (h.holds p.0 p.1 refl))
part_then P Q s (Err e) g h k = Post_err Q (without_variables s) e

parts_within_holds : (n : ℕ) (p : Parts) (s : State) → IsReader s → (s.fault ≡ None → AreParts p (known s)) → Post AreParts (without_variables s) (parts_within n p s)
parts_within_holds zero p s r h = Post_err AreParts (without_variables s) _
parts_within_holds (suc n) p s r h =
    part_then (IsNextPart (part_count p)) AreParts s _ _ (next_part_holds (part_count p) s r)
    (λ q t f k. by (is_end q) q t f.reader (λ fine. parts-later p (known s) (known t) f.names (h (f.fault fine)))
    (parts_within_holds n (with_part p q) t f.reader (λ fine. part-more p q (known t) (parts-later p (known s) (known t) f.names (h (f.fault fine))) (k fine))))
  where
    by : (b : Bool) (q : Part) (t : State) → IsReader t → (t.fault ≡ None → AreParts p (known t)) → Post AreParts (without_variables t) (parts_within n (with_part p q) t)
        → Post AreParts (without_variables t) ((if b then give p else parts_within n (with_part p q)) t)
    by true q t rt all rest = Post_ok AreParts (without_variables t) t p (record { reader = rt; fault = λ fine. fine; names = λ i text e. e; variables = λ i text e. cc }) all
    by false q t rt all rest = rest

parts_hold : (s : State) → IsReader s → Post AreParts (without_variables s) (parts s)
unfolding parts
parts_hold s r =
    parts_within_holds (length s.tokens) no_parts s r (λ fine. record { clauses = λ names keeps. refl; queries = λ names keeps. refl; abducibles = λ names keeps. refl; few = omega arith })

-- ---- texts

-- the table is one, and the clauses of all kinds fit with it
abbrev Fits : Reading → Type 0
Fits r = IsTable r.names × (text_fits r.names r.abducibles r.clauses r.queries ≡ true)

text-fits : (p : Parts) (t : State) → are_abducible (first_occurrences p.abducibles) ≡ true → AreParts p (known t) → text_fits t.names (first_occurrences p.abducibles) p.clauses p.queries ≡ true
text-fits p t a h =
    let ps = first_occurrences p.abducibles in
    let each = list_all (abducible_fits t.names) ps in
    let cs = list_all (clause_fits t.names) p.clauses in
    let qs = list_all (query_fits t.names) p.queries in
    let number = length p.clauses + length p.queries + length ps in
    let fewer = first-fewer p.abducibles in
    let few = h.few in
    and_from (are_abducible ps && each && cs && qs) (nat_le number CLAUSE_LIMIT)
    (and_from (are_abducible ps && each && cs) qs
    (and_from (are_abducible ps && each) cs
    (and_from (are_abducible ps) each a (first-all (abducible_fits t.names) p.abducibles (h.abducibles t.names (λ i text e. e))))
    (h.clauses t.names (λ i text e. e)))
    (h.queries t.names (λ i text e. e)))
    (small number (omega (arith, few, fewer)))
  where
    small : (n : ℕ) → n ≤ CLAUSE_LIMIT → nat_le n CLAUSE_LIMIT ≡ true
    small n le = grind (arith, nat_tests, le)

pub read-fits : (names : List (List ℕ)) (bytes : List ℕ) (r : Reading) → read names bytes ≡ Ok r → IsTable names → IsTable r.names × (text_fits r.names r.abducibles r.clauses r.queries ≡ true)
unfolding read
read-fits names bytes r e table = by (nat_lt BYTE_LIMIT (length bytes)) e
  where
    distinct : are_abducible r.abducibles ≡ true
    distinct = read-abducible names bytes r e

    last : (p : Parts) (t : State) (o : Option Fault) → IsReader t → (o ≡ None → AreParts p (known t)) → settled p t o ≡ Ok r → Fits r
    last p t None rt h e =
        let q : read_parts p t.names ≡ r = cc in
        let a = subst (λ (w : Reading). are_abducible w.abducibles ≡ true) (sym q) distinct in
        let fits : Fits (read_parts p t.names) = (rt.style.table, text-fits p t a (h refl)) in
        subst Fits q fits
    last p t (Some f) rt h e = cc

    step : (s : State) (x : Result (Parts × State) Fault) → Post AreParts (without_variables s) x → told x ≡ Ok r → Fits r
    step s (Err f) h e = cc
    step s (Ok x) h e = last x.0 x.1 x.1.fault (h.follows x.0 x.1 refl).reader (h.holds x.0 x.1 refl) e

    by : (b : Bool) → (if b then Err (fault_at BYTE_LIMIT (kind.Limit count.Bytes)) else reading_of (tokens_of bytes) names) ≡ Ok r → Fits r
    by true e = cc
    by false e = let s = start (tokens_of bytes) names in step s (parts s) (parts_hold s (reader-starts names bytes table)) e

-- ---- programs

pub program-read-again : (names : List (List ℕ)) (bytes : List ℕ) (r : Reading) → program_in names bytes ≡ Ok r → IsTable names → length (program_text r.names r.abducibles r.clauses r.queries) ≤ BYTE_LIMIT
    → program_in r.names (program_text r.names r.abducibles r.clauses r.queries) ≡ Ok r
program-read-again names bytes r e table small = by (read names bytes) refl e
  where
    by : (o : Result Reading Fault) → read names bytes ≡ o → completed o ≡ Ok r → program_in r.names (program_text r.names r.abducibles r.clauses r.queries) ≡ Ok r
    by (Err f) q e = cc
    by (Ok x) q e =
        let fits = read-fits names bytes x q table in
        let whole : Reading = record x { clauses = with_denials x.clauses x.queries } in
        let same : whole ≡ r = cc in
        let again : length (program_text whole.names whole.abducibles whole.clauses whole.queries) ≤ BYTE_LIMIT =
        subst (λ (y : Reading). length (program_text y.names y.abducibles y.clauses y.queries) ≤ BYTE_LIMIT) (sym same) small in
        subst (λ (y : Reading). program_in y.names (program_text y.names y.abducibles y.clauses y.queries) ≡ Ok y) same (program-read x.names fits.0 x.abducibles x.clauses x.queries fits.1 again)
