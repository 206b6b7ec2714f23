-- A name with its arguments, from its tokens on.
use Rattle.std.proofs.Common.{◌≡◌, ℕ, ◌+◌, ◌-◌, ◌<◌, ◌≤◌, Bool, true, false, ◌&&◌, ◌==◌, nat_lt, List, [], ◌∷◌, ◌++◌, length, codes, Option, Some, Ok, refl, sym, ap, ◌∙◌, arith, append_assoc, length-append, flat_map}
use Rattle.std.specs.Prelude.{if◌then◌else◌, nat_le}
use Rattle.std.specs.Char.{is_ascii_lowercase}
use Rattle.std.specs.List.{list_all}
use Rattle.std.proofs.lemmas.Bool.{and_parts, false≢true}
use Rattle.std.proofs.lemmas.Bool.Decides.{nat_tests}
use Rattle.scasp_syntax.specs.Tm.{Tm, Tms, nil, cons, items}
use Rattle.scasp_reader_tokens.specs.declared.sign.Sign.TheVariants as sign
use Rattle.scasp_reader_tokens.specs.declared.token.Token.TheVariants as token
use Rattle.scasp_reader_tokens.specs.Tokens.{placed, tokens_behind}
use Rattle.scasp_cert.specs.Text.Names.{text_at, name_text, quoted_text, escaped, is_plain, is_word_byte}
use Rattle.scasp_cert.specs.Text.Terms.{called_text}
use Rattle.scasp_reader_terms.specs.declared.terms.TheConstants.{ARITY_LIMIT}
use Rattle.scasp_reader_terms.specs.Steps.{State, Read, token_of, is_sign}
use Rattle.scasp_reader_terms.specs.Terms.{term, below, arguments}
use Rattle.scasp_reader_terms.proofs.TermLemmas.{below_some}
use Rattle.scasp_reader.specs.declared.bodies.atoms.TheConstants.{DEPTH_LIMIT}
use Rattle.scasp_print_program.specs.Terms.{Style, terms_text}
use Rattle.scasp_law_program_text.specs.Readback.Endings.{ends_name}
use Rattle.scasp_law_program_text.proofs.ReadbackLemmas.NameReading.{name-read}
use Rattle.scasp_law_program_text.proofs.ReadbackLemmas.SignReading.{minus_read}
use Rattle.scasp_law_program_text.specs.TermReadback.Reading.{behind_term, EndsTerm}
use Rattle.scasp_law_program_text.specs.CompoundReadback.Styles.{IsStyle}
use Rattle.scasp_law_program_text.specs.CompoundReadback.Fitting.{fits, all_fit}
use Rattle.scasp_law_program_text.specs.CompoundReadback.Counting.{count_all}
use Rattle.scasp_law_program_text.specs.CompoundReadback.Reading.{had}
use Rattle.scasp_law_program_text.proofs.CompoundReadbackLemmas.Tables.{name-utf8}
use Rattle.scasp_law_program_text.proofs.CompoundReadbackLemmas.Terms.{term-read, rest-read, arguments-read}
use Rattle.scasp_law_program_text.specs.ClauseReadback.Fitting.{arguments_fit}

-- the arguments' text behind the name
abbrev pub arguments_text : Style → Tms → List ℕ
arguments_text w nil = []
arguments_text w (cons t ts) = codes "(" ++ terms_text w (DEPTH_LIMIT - 1) true (cons t ts) ++ codes ")"

regroup : (n p a c rest : List ℕ) → (((n ++ p) ++ a) ++ c) ++ rest ≡ n ++ (((p ++ a) ++ c) ++ rest)
regroup n p a c rest = simp append_assoc

-- an atom's text is its name and the text of its arguments
abbrev pub named_text : Style → ℕ → Tms → List ℕ
named_text w f ts = called_text w.names f ts (terms_text w (DEPTH_LIMIT - 1) true ts)

pub named-group : (w : Style) (f : ℕ) (ts : Tms) (rest : List ℕ) → named_text w f ts ++ rest ≡ name_text w.names f ++ (arguments_text w ts ++ rest)
named-group w f nil rest = refl
named-group w f (cons t ts) rest = regroup (name_text w.names f) (codes "(") (terms_text w (DEPTH_LIMIT - 1) true (cons t ts)) (codes ")") rest

pub named-length : (w : Style) (f : ℕ) (ts : Tms) → length (named_text w f ts) ≡ length (name_text w.names f) + length (arguments_text w ts)
named-length w f nil = omega arith
named-length w f (cons t ts) =
    let text = terms_text w (DEPTH_LIMIT - 1) true (cons t ts) in
    let name = name_text w.names f in
    omega (arith, length-append ((name ++ codes "(") ++ text) (codes ")"), length-append (name ++ codes "(") text, length-append name (codes "("), length-append (codes "(" ++ text) (codes ")"), length-append (codes "(") text)

arguments-end : (w : Style) (ts : Tms) (rest : List ℕ) → ends_name rest ≡ true → ends_name (arguments_text w ts ++ rest) ≡ true
arguments-end w nil rest end = end
arguments-end w (cons t ts) rest end = refl

-- ---- the name's token

pub named-tokens : (w : Style) (f : ℕ) (ts : Tms) (rest : List ℕ) (at : ℕ) → IsStyle w → nat_lt f (length w.names) ≡ true → ends_name rest ≡ true
    → tokens_behind 0 at (named_text w f ts ++ rest) ≡ placed at (token.Name (text_at w.names f)) ∷ tokens_behind 0 (at + length (name_text w.names f)) (arguments_text w ts ++ rest)
named-tokens w f ts rest at style h end =
    ap (tokens_behind 0 at) (named-group w f ts rest) ∙ name-read (text_at w.names f) (arguments_text w ts ++ rest) at (name-utf8 w style f h) (arguments-end w ts rest end)

-- a minus sign before a name
minus-name : (text rest : List ℕ) (at : ℕ) → tokens_behind 0 at (45 ∷ (quoted_text text ++ rest)) ≡ placed at (token.Sign sign.Minus) ∷ tokens_behind 0 (at + 1) (quoted_text text ++ rest)
minus-name text rest at = by (is_plain text) refl
  where
    written : Bool → List ℕ
    written plain = if plain then text else codes "'" ++ flat_map escaped text ++ codes "'"

    word : (t : List ℕ) → is_plain t ≡ true → tokens_behind 0 at (45 ∷ (t ++ rest)) ≡ placed at (token.Sign sign.Minus) ∷ tokens_behind 0 (at + 1) (t ++ rest)
    word [] e = absurd (false≢true e)
    word (b ∷ t) e =
        let p = and_parts (is_ascii_lowercase b && list_all is_word_byte t) _ e in
        let lower = (and_parts (is_ascii_lowercase b) (list_all is_word_byte t) p.0).0 in
        let other : (62 == b) ≡ false = grind (arith, nat_tests, lower) in
        minus_read b other (t ++ rest) at

    by : (plain : Bool) → is_plain text ≡ plain
        → tokens_behind 0 at (45 ∷ (written plain ++ rest)) ≡ placed at (token.Sign sign.Minus) ∷ tokens_behind 0 (at + 1) (written plain ++ rest)
    by true e = word text e
    by false e = minus_read 39 refl ((flat_map escaped text ++ codes "'") ++ rest) at

pub minus-named : (w : Style) (f : ℕ) (ts : Tms) (rest : List ℕ) (at : ℕ)
    → tokens_behind 0 at (45 ∷ (named_text w f ts ++ rest)) ≡ placed at (token.Sign sign.Minus) ∷ tokens_behind 0 (at + 1) (named_text w f ts ++ rest)
minus-named w f ts rest at =
    ap (λ bs. tokens_behind 0 at (45 ∷ bs)) (named-group w f ts rest)
    ∙ minus-name (text_at w.names f) (arguments_text w ts ++ rest) at
    ∙ ap (λ bs. placed at (token.Sign sign.Minus) ∷ tokens_behind 0 (at + 1) bs) (sym (named-group w f ts rest))

-- ---- its arguments

no-arguments : (inner : Option (Read Tm)) (s : State) → is_sign sign.Open (token_of s.tokens) ≡ false → arguments inner s ≡ Ok ([], s)
no-arguments inner s e = rw e refl

pub arguments-reads : (w : Style) (style : IsStyle w) (n m : ℕ) (ts : Tms) (s : State) (rest : List ℕ) (at : ℕ) → arguments_fit w ts ≡ true → count_all w n ts ≡ Some m → EndsTerm rest
    → arguments (below term DEPTH_LIMIT) (behind_term (had w n s) at (arguments_text w ts ++ rest)) ≡ Ok (items ts, behind_term (had w m s) (at + length (arguments_text w ts)) rest)
arguments-reads w style n m nil s rest at g c end =
    let same : n ≡ m = cc in
    let place : at ≡ at + 0 = omega arith in
    no-arguments (below term DEPTH_LIMIT) (behind_term (had w n s) at rest) (end.1.1 at)
    ∙ ap (λ n. Ok ([], behind_term (had w n s) at rest)) same
    ∙ ap (λ a. Ok ([], behind_term (had w m s) a rest)) place
arguments-reads w style n m (cons t ts) s rest at g c end =
    let room = DEPTH_LIMIT - 1 in
    let text = terms_text w room true (cons t ts) in
    let limit = nat_le (length (items (cons t ts))) ARITY_LIMIT in
    let p = and_parts (nat_lt 0 DEPTH_LIMIT && limit) (all_fit w room (cons t ts)) g in
    let q = and_parts (nat_lt 0 DEPTH_LIMIT) limit p.0 in
    let r = and_parts (fits w room t) (all_fit w room ts) p.1 in
    let place : at + 1 + length text + 1 ≡ at + length ((codes "(" ++ text) ++ codes ")") = omega (arith, length-append (codes "(" ++ text) (codes ")"), length-append (codes "(") text) in
    ap (λ bs. arguments (below term DEPTH_LIMIT) (behind_term (had w n s) at (40 ∷ bs))) (append_assoc text (codes ")") rest)
    ∙ ap (λ i. arguments i (behind_term (had w n s) at (40 ∷ (text ++ (41 ∷ rest))))) (below_some term DEPTH_LIMIT above)
    ∙ arguments-read w style t ts (term-read w style t) (rest-read w style ts) room n m r.0 r.1 (fewer q.1) c s rest at
    ∙ ap (λ a. Ok (t ∷ items ts, behind_term (had w m s) a rest)) place
  where
    above : 0 < DEPTH_LIMIT
    above = omega arith

    fewer : nat_le (length (items (cons t ts))) ARITY_LIMIT ≡ true → length (items (cons t ts)) ≤ ARITY_LIMIT
    fewer h = grind (arith, nat_tests)
