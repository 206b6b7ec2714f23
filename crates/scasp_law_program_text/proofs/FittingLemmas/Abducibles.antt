-- A predicate that may be assumed is within the limits, where it is read.
use Rattle.std.proofs.Common.{◌≡◌, ℕ, zero, suc, ◌+◌, ◌<◌, ◌≤◌, Bool, true, false, not, ◌&&◌, nat_lt, if◌then◌else◌, List, [], ◌∷◌, length, slice_get, Option, None, Some, refl, arith}
use Rattle.std.specs.Prelude.{filter, is_some, nat_le}
use Rattle.std.specs.List.{list_all}
use Rattle.std.proofs.lemmas.Bool.{and_parts, and_from, lt-ltb}
use Rattle.std.proofs.lemmas.Bool.Decides.{nat_tests}
use Rattle.std.proofs.lemmas.Option.{slice_get_within}
use Rattle.scasp_syntax.specs.Programs.{first_occurrences}
use Rattle.scasp_syntax.specs.Same.{same_pred}
use Rattle.scasp_syntax.specs.declared.atom.Pred.{Pred}
use Rattle.scasp_reader_tokens.specs.declared.sign.Sign.TheVariants as sign
use Rattle.scasp_reader_tokens.specs.declared.token.Token.{Token}
use Rattle.scasp_reader_tokens.specs.declared.token.Token.TheVariants as token
use Rattle.scasp_reader_terms.specs.declared.fault.Count.TheVariants as count
use Rattle.scasp_reader_terms.specs.declared.fault.Kind.TheVariants as kind
use Rattle.scasp_reader_terms.specs.declared.terms.TheConstants.{ARITY_LIMIT}
use Rattle.scasp_reader_terms.specs.Names.{place_in, known_variable}
use Rattle.scasp_reader_terms.specs.Steps.{State, give, behind, place_of, token_of, unexpected, is_sign, between}
use Rattle.scasp_reader.specs.declared.texts.clauses.Part.TheVariants as part
use Rattle.scasp_reader.specs.Texts.Abducibles.{new_variable, parameter_at, parameter, parameters_within, some_parameters, parameters, positive_pred, abducible_at, abducible}
use Rattle.scasp_print_program.specs.Terms.{Style}
use Rattle.scasp_law_program_text.specs.ClauseReadback.Parts.{abducible_fits}
use Rattle.scasp_law_program_text.specs.TermFitting.Readers.{IsReader, Keeps}
use Rattle.scasp_law_program_text.proofs.TermFittingLemmas.Names.{place-is, behind_name, follows_name, IsVariable, variable_at_holds}
use Rattle.scasp_law_program_text.proofs.TermFittingLemmas.Steps.{Follows, IsNext, next_is, reader_behind, follows_behind, reader_in, Post, Post_give, Post_err, Post_from, Post_map, Post_then, Post_taken, Post_expect, Post_note, between_holds}
use Rattle.scasp_law_program_text.proofs.FittingLemmas.Clauses.{IsPart}

-- ---- parameters

-- there may be one more behind n others
abbrev IsFewer : ℕ → ℕ → Style → Type 0
IsFewer n x k = n < ARITY_LIMIT

-- there may be so many
abbrev IsFew : ℕ → Style → Type 0
IsFew n k = n ≤ ARITY_LIMIT

parameter_holds : (n : ℕ) (s : State) → IsReader s → Post (IsFewer n) s (parameter n s)
parameter_holds n s r =
    Post_note (IsFewer n) s r (nat_le ARITY_LIMIT n) (place_of s.tokens) (kind.Limit count.Arity) _ (λ t f same few. by t f.reader few (token_of t.tokens) (next_is t f.reader))
  where
    fewer : (n : ℕ) → nat_le ARITY_LIMIT n ≡ false → n < ARITY_LIMIT
    fewer n e = grind (arith, nat_tests, e)

    distinct : (t : State) → IsReader t → (t.fault ≡ None → nat_le ARITY_LIMIT n ≡ false) → (text : List ℕ) → IsNext (Some (token.Variable text)) → (b : Bool)
        → Post (IsFewer n) t (if b then unexpected t else new_variable (place_of s.tokens) text t)
    distinct t r few text h true = Post_err (IsFewer n) t _
    distinct t r few text h false =
        Post_from (IsFewer n) t (behind t) _ (follows_behind t r)
        (Post_map (IsVariable (length t.variables)) (IsFewer n) (behind t) _ (variable_at_holds (place_of s.tokens) text (behind t) (reader_behind t r) h)
        (λ x u f fine v. fewer n (few (f.fault fine))))

    by : (t : State) → IsReader t → (t.fault ≡ None → nat_le ARITY_LIMIT n ≡ false) → (o : Option Token) → IsNext o → Post (IsFewer n) t (parameter_at (place_of s.tokens) o t)
    by t r few (Some (token.Variable text)) h = distinct t r few text h (is_some (known_variable text t.variables))
    by t r few o h = Post_err (IsFewer n) t _

parameters_hold : (left n : ℕ) (s : State) → IsReader s → Post IsFew s (parameters_within left n s)
parameters_hold zero n s r = Post_err IsFew s _
parameters_hold (suc left) n s r =
    Post_then (IsFewer n) IsFew s _ _ (parameter_holds n s r)
    (λ x t f less. Post_taken IsFew t f.reader sign.Comma _
    (parameters_hold left (n + 1) (behind t) (reader_behind t f.reader))
    (Post_give IsFew t (n + 1) f.reader (λ fine. within (less fine))))
  where
    within : n < ARITY_LIMIT → n + 1 ≤ ARITY_LIMIT
    within less = omega (arith, less)

bracketed_hold : (s : State) → IsReader s → Post IsFew s (parameters s)
bracketed_hold s r = by (is_sign sign.Open (token_of s.tokens))
  where
    by : (b : Bool) → Post IsFew s (if b then between false sign.Open sign.Close some_parameters s else give 0 s)
    by true =
        let t = record (behind s) { is_in_list = false } in
        between_holds IsFew false sign.Open sign.Close some_parameters s r (parameters_hold (length t.tokens) 0 t (reader_in false (behind s) (reader_behind s r)))
    by false = Post_give IsFew s 0 r (λ fine. omega arith)

-- ---- the clause

abducible-fits : (text : List ℕ) (names others : List (List ℕ)) (f n : ℕ) → slice_get names f ≡ Some text → Keeps names others → n ≤ ARITY_LIMIT → abducible_fits others (positive_pred f n) ≡ true
abducible-fits text names others f n at keeps few =
    let below = slice_get_within others f text (keeps f text at) in
    and_from (nat_lt f (length others)) (nat_le n ARITY_LIMIT) (lt-ltb f (length others) below) (within n few)
  where
    within : (n : ℕ) → n ≤ ARITY_LIMIT → nat_le n ARITY_LIMIT ≡ true
    within n le = grind (arith, nat_tests, le)

pub abducible_holds : (s : State) → IsReader s → Post IsPart s (abducible s)
abducible_holds s r = Post_from IsPart s (behind s) _ (follows_behind s r) (by (token_of (behind s).tokens) (next_is (behind s) (reader_behind s r)))
  where
    named : (text : List ℕ) → IsNext (Some (token.Name text)) → Post IsPart (behind s) (abducible_at (Some (token.Name text)) (behind s))
    named text u =
        let t = behind_name text (behind s) in
        let f = follows_name text (behind s) (reader_behind s r) u in
        let name = place_in s.names text in
        Post_from IsPart (behind s) t _ f
        (Post_then IsFew IsPart t _ _ (bracketed_hold t f.reader)
        (λ n v g few. Post_expect IsPart v g.reader sign.Stop _
        (Post_give IsPart (behind v) (part.Abducible (positive_pred name n)) (reader_behind v g.reader)
        (λ fine names keeps. abducible-fits text v.names names name n (g.names name text (place-is s.names text)) keeps (few fine)))))

    by : (o : Option Token) → IsNext o → Post IsPart (behind s) (abducible_at o (behind s))
    by (Some (token.Name text)) u = named text u
    by o u = Post_err IsPart (behind s) _

-- ---- without repeats

filter-all : (f g : Pred → Bool) (ps : List Pred) → list_all f ps ≡ true → list_all f (filter g ps) ≡ true
filter-all f g [] h = refl
filter-all f g (p ∷ ps) h = let a = and_parts (f p) (list_all f ps) h in by (g p) refl a.0 (filter-all f g ps a.1)
  where
    by : (b : Bool) → g p ≡ b → f p ≡ true → list_all f (filter g ps) ≡ true → list_all f (filter g (p ∷ ps)) ≡ true
    by true e x r = rw e (and_from (f p) (list_all f (filter g ps)) x r)
    by false e x r = rw e r

pub first-all : (f : Pred → Bool) (ps : List Pred) → list_all f ps ≡ true → list_all f (first_occurrences ps) ≡ true
first-all f [] h = refl
first-all f (p ∷ ps) h =
    let a = and_parts (f p) (list_all f ps) h in
    let others = filter (λ q. not (same_pred p q)) (first_occurrences ps) in
    and_from (f p) (list_all f others) a.0 (filter-all f (λ q. not (same_pred p q)) (first_occurrences ps) (first-all f ps a.1))

filter-fewer : (g : Pred → Bool) (ps : List Pred) → length (filter g ps) ≤ length ps
filter-fewer g [] = omega arith
filter-fewer g (p ∷ ps) = by (g p) refl (filter-fewer g ps)
  where
    by : (b : Bool) → g p ≡ b → length (filter g ps) ≤ length ps → length (filter g (p ∷ ps)) ≤ length (p ∷ ps)
    by true e le = rw e (omega (arith, le))
    by false e le = rw e (omega (arith, le))

pub first-fewer : (ps : List Pred) → length (first_occurrences ps) ≤ length ps
first-fewer [] = omega arith
first-fewer (p ∷ ps) =
    let some = filter-fewer (λ q. not (same_pred p q)) (first_occurrences ps) in
    let rest = first-fewer ps in
    omega (arith, some, rest)
