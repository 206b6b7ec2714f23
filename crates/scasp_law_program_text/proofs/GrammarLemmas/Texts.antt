-- Whole texts that are read.
use Rattle.std.proofs.Common.{◌≡◌, ℕ, zero, suc, ◌+◌, ◌<◌, ◌≤◌, ◌⊎◌, inl, inr, Bool, true, false, nat_lt, if◌then◌else◌, List, [], ◌∷◌, ◌++◌, drop, length, Option, None, Some, Result, Ok, Err, refl, sym, ap, subst, ◌∙◌, append_assoc, length-append, arith}
use Rattle.std.specs.Prelude.{nat_le}
use Rattle.std.proofs.lemmas.Bool.Decides.{nat_tests}
use Rattle.scasp_reader_tokens.specs.declared.token.Token.{Token}
use Rattle.scasp_reader_tokens.specs.declared.token.Token.TheVariants as token
use Rattle.scasp_reader_tokens.specs.Tokens.{tokens_of}
use Rattle.scasp_reader_terms.specs.declared.fault.Count.TheVariants as count
use Rattle.scasp_reader_terms.specs.declared.fault.Fault.{Fault}
use Rattle.scasp_reader_terms.specs.declared.fault.Kind.TheVariants as kind
use Rattle.scasp_reader_terms.specs.Faults.{fault_at}
use Rattle.scasp_reader_terms.specs.Steps.{State, give, stop_at, place_of, token_of, behind, start}
use Rattle.scasp_reader.specs.declared.texts.clauses.Part.{Part}
use Rattle.scasp_reader.specs.declared.texts.clauses.Part.TheVariants as part
use Rattle.scasp_reader.specs.declared.texts.texts.Parts.{Parts}
use Rattle.scasp_reader.specs.declared.texts.texts.Reading.{Reading}
use Rattle.scasp_reader.specs.declared.texts.texts.TheConstants.{BYTE_LIMIT, CLAUSE_LIMIT}
use Rattle.scasp_reader.specs.Texts.Clauses.{clause}
use Rattle.scasp_reader.specs.Texts.Texts.{limited_clause, part_at, next_part, no_parts, part_count, with_part, is_end, parts_within, parts, read_parts, settled, told, reading_of, read}
use Rattle.scasp_reader.proofs.TextsLemmas.PartLemmas.{part_count-more}
use Rattle.scasp_law_program_text.specs.Grammar.Known.{Known}
use Rattle.scasp_law_program_text.specs.Grammar.Trees.{Clause, a_directive}
use Rattle.scasp_law_program_text.specs.Grammar.Spelling.{bare, tokens_in, clause_tokens, program_tokens}
use Rattle.scasp_law_program_text.specs.Grammar.Programs.{clause_meaning, clauses_meaning, program_of, meaning, IsText}
use Rattle.scasp_law_program_text.proofs.GrammarLemmas.Steps.{known, then-some, next-token, Post, Post_give, Post_err, Post_from, Post_map, Post_then, Spelled}
use Rattle.scasp_law_program_text.proofs.GrammarLemmas.Clauses.{IsClause, clause_holds}
use Rattle.scasp_law_program_text.proofs.GrammarLemmas.Endings.{end-is-last}

-- ---- one part

-- the end, or what stands behind so many clauses, of any kind
abbrev IsPart : ℕ → State → Part → State → Type 0
IsPart n s q t =
    ((q ≡ part.End) × (s ≡ t) × (token_of s.tokens ≡ Some token.End))
    ⊎ ((is_end q ≡ false) × Spelled clause_tokens clause_meaning s q t × ((q ≡ part.Directive) ⊎ (n < CLAUSE_LIMIT)))

limited_holds : (n : ℕ) (s : State) → Post (IsPart n s) s (limited_clause n s)
limited_holds n s = by (nat_le CLAUSE_LIMIT n) refl
  where
    by : (b : Bool) → nat_le CLAUSE_LIMIT n ≡ b → Post (IsPart n s) s (if b then stop_at (place_of s.tokens) (kind.Limit count.Clauses) s else clause s)
    by true e = Post_err (IsPart n s) s _
    by false e =
        let few : n < CLAUSE_LIMIT = grind (arith, nat_tests, e) in
        Post_map (IsClause s) (IsPart n s) s _ (clause_holds s) (λ q t f fine c. inr (c.goes_on, c.spelled, inr few))

next_part_holds : (n : ℕ) (s : State) → Post (IsPart n s) s (next_part n s)
unfolding next_part
next_part_holds n s = by (place_of s.tokens) (token_of s.tokens) refl
  where
    by : (at : ℕ) (o : Option Token) → token_of s.tokens ≡ o → Post (IsPart n s) s (part_at n at o s)
    by at (Some token.End) e = Post_give (IsPart n s) s part.End (λ fine. inl (refl, refl, e))
    by at (Some token.SkippedDirective) e =
        Post_from (IsPart n s) s (behind s) _ (λ f. f)
        (Post_give (IsPart n s) (behind s) part.Directive
        (λ fine. inr (refl, record { tree = a_directive; tokens = next-token s.tokens token.SkippedDirective e; value = refl }, inl refl)))
    by at (Some token.UnclosedDirective) e = Post_err (IsPart n s) s _
    by at (Some token.OtherDirective) e = Post_err (IsPart n s) s _
    by at (Some token.BadByte) e = Post_err (IsPart n s) s _
    by at (Some token.Unclosed) e = Post_err (IsPart n s) s _
    by at o e = limited_holds n s

-- ---- all parts

record AreParts (p : Parts) (s : State) (all : Parts) (t : State) : Type 0 where
  tree : List Clause
  tokens : bare s.tokens ≡ program_tokens tree ++ bare t.tokens
  ends : token_of t.tokens ≡ Some token.End
  value : clauses_meaning p tree (known s) ≡ Some (all, known t)
  few : part_count p ≤ CLAUSE_LIMIT → part_count all ≤ CLAUSE_LIMIT

still-few : (p : Parts) (q : Part) → part_count p ≤ CLAUSE_LIMIT → (q ≡ part.Directive) ⊎ (part_count p < CLAUSE_LIMIT) → part_count (with_part p q) ≤ CLAUSE_LIMIT
still-few p q few (inl e) = subst (λ q. part_count (with_part p q) ≤ CLAUSE_LIMIT) (sym e) few
still-few p q few (inr less) = let more = part_count-more p q in omega (arith, less, more)

parts_hold : (n : ℕ) (p : Parts) (s : State) → Post (AreParts p s) s (parts_within n p s)
parts_hold zero p s = Post_err (AreParts p s) s _
parts_hold (suc n) p s =
    Post_then (IsPart (part_count p) s) (AreParts p s) s _ _ (next_part_holds (part_count p) s) (λ q t f h. by q t f h (parts_hold n) (is_end q) refl)
  where
    ended : (q : Part) (t : State) → is_end q ≡ true → IsPart (part_count p) s q t → AreParts p s p t
    ended q t e (inl h) = record { tree = []; tokens = ap (λ (t : State). bare t.tokens) h.1; ends = ap (λ (t : State). token_of t.tokens) (sym h.1) ∙ h.2; value = ap (λ (t : State). Some (p, known t)) h.1; few = λ few. few }
    ended q t e (inr h) = absurd (let wrong : true ≡ false = sym e ∙ h.0 in cc)

    limit : (q : Part) (t : State) → is_end q ≡ false → IsPart (part_count p) s q t → part_count p ≤ CLAUSE_LIMIT → part_count (with_part p q) ≤ CLAUSE_LIMIT
    limit q t e (inl h) few = absurd (let wrong : false ≡ true = sym e ∙ ap is_end h.0 in cc)
    limit q t e (inr h) few = still-few p q few h.2

    next : (q : Part) (t : State) (all : Parts) (u : State) → is_end q ≡ false → IsPart (part_count p) s q t → AreParts (with_part p q) t all u → AreParts p s all u
    next q t all u e (inl h) a = absurd (let wrong : false ≡ true = sym e ∙ ap is_end h.0 in cc)
    next q t all u e (inr h) a = record {
      tree = h.1.tree ∷ a.tree;
      tokens = h.1.tokens ∙ ap (λ ts. clause_tokens h.1.tree ++ ts) a.tokens ∙ sym (append_assoc (clause_tokens h.1.tree) (program_tokens a.tree) (bare u.tokens));
      ends = a.ends;
      value = then-some _ _ _ _ _ h.1.value a.value;
      few = λ few. a.few (limit q t e (inr h) few);
    }

    by : (q : Part) (t : State) → (t.fault ≡ None → s.fault ≡ None) → (t.fault ≡ None → IsPart (part_count p) s q t) → ((r : Parts) (t : State) → Post (AreParts r t) t (parts_within n r t)) → (b : Bool) → is_end q ≡ b
        → Post (AreParts p s) t ((if b then give p else parts_within n (with_part p q)) t)
    by q t f h rest true e = Post_give (AreParts p s) t p (λ fine. ended q t e (h fine))
    by q t f h rest false e =
        Post_map (AreParts (with_part p q) t) (AreParts p s) t _ (rest (with_part p q) t) (λ all u g fine a. next q t all u e (h (g fine)) a)

-- ---- the text

pub parts-are : (s : State) → parts s ≡ parts_within (length s.tokens) no_parts s
unfolding parts
parts-are s = refl

program-meant : (names : List (List ℕ)) (clauses : List Clause) (all : Parts) (k : Known) → clauses_meaning no_parts clauses (record { names = names; variables = [] }) ≡ Some (all, k) → nat_lt CLAUSE_LIMIT (part_count all) ≡ false
    → meaning names clauses ≡ Some (read_parts all k.names)
unfolding meaning
program-meant names clauses all k value few = ap program_of value ∙ rw few refl

-- the tokens are those of trees that mean this
abbrev IsProgram : List (List ℕ) → List ℕ → Reading → Type 0
IsProgram names bytes r = (clauses : List Clause) × (tokens_in bytes ≡ program_tokens clauses ++ token.End ∷ []) × (meaning names clauses ≡ Some r)

read-parts : (names : List (List ℕ)) (bytes : List ℕ) (r : Reading) → reading_of (tokens_of bytes) names ≡ Ok r → IsProgram names bytes r
read-parts names bytes r h = by (parts (start (tokens_of bytes) names)) refl h
  where
    found : (all : Parts) (t : State) → AreParts no_parts (start (tokens_of bytes) names) all t → read_parts all t.names ≡ r → IsProgram names bytes r
    found all t a same =
        let rest = bare (drop 1 t.tokens) in
        let spelling : tokens_in bytes ≡ program_tokens a.tree ++ token.End ∷ rest = a.tokens ∙ ap (λ ts. program_tokens a.tree ++ ts) (next-token t.tokens token.End a.ends) in
        let few : part_count all ≤ CLAUSE_LIMIT = a.few (omega arith) in (
          a.tree,
          spelling ∙ ap (λ rest. program_tokens a.tree ++ token.End ∷ rest) (end-is-last bytes (program_tokens a.tree) rest spelling),
          program-meant names a.tree all (known t) a.value (grind (arith, nat_tests, few)) ∙ ap Some same,
        )

    settle : (all : Parts) (t : State) (o : Option Fault) → t.fault ≡ o → parts (start (tokens_of bytes) names) ≡ Ok (all, t) → settled all t o ≡ Ok r → IsProgram names bytes r
    settle all t (Some f) fine e h = absurd cc
    settle all t None fine e h =
        let s = start (tokens_of bytes) names in
        let same : read_parts all t.names ≡ r = cc in
        found all t ((parts_hold (length s.tokens) no_parts s).holds all t (sym (parts-are s) ∙ e) fine) same

    by : (x : Result (Parts × State) Fault) → parts (start (tokens_of bytes) names) ≡ x → told x ≡ Ok r → IsProgram names bytes r
    by (Err f) e h = absurd cc
    by (Ok x) e h = settle x.0 x.1 x.1.fault refl e h

pub read-is-text : (names : List (List ℕ)) (bytes : List ℕ) (r : Reading) → read names bytes ≡ Ok r → IsText names bytes r
unfolding read
read-is-text names bytes r = by (nat_lt BYTE_LIMIT (length bytes)) refl
  where
    by : (b : Bool) → nat_lt BYTE_LIMIT (length bytes) ≡ b → (if b then Err (fault_at BYTE_LIMIT (kind.Limit count.Bytes)) else reading_of (tokens_of bytes) names) ≡ Ok r → IsText names bytes r
    by true few e = absurd cc
    by false few e = (grind (arith, nat_tests, few), read-parts names bytes r e)
