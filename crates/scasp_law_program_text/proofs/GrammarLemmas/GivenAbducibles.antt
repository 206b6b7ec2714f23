-- The tokens of a clause of a predicate that may be assumed are read as this predicate.
use Rattle.std.proofs.Common.{◌≡◌, ℕ, zero, suc, ◌+◌, ◌<◌, ◌≤◌, Bool, true, false, nat_lt, if◌then◌else◌, List, [], ◌∷◌, ◌++◌, length, Option, None, Some, refl, sym, ap, subst, ◌∙◌, append_assoc, arith}
use Rattle.std.specs.Prelude.{nat_le, is_some}
use Rattle.std.proofs.lemmas.Bool.Decides.{nat_tests}
use Rattle.scasp_name.specs.Texts.{with_text}
use Rattle.scasp_reader_tokens.specs.declared.sign.Sign.TheVariants as sign
use Rattle.scasp_reader_tokens.specs.declared.token.Token.{Token}
use Rattle.scasp_reader_tokens.specs.declared.token.Token.TheVariants as token
use Rattle.scasp_reader_terms.specs.declared.fault.Count.TheVariants as count
use Rattle.scasp_reader_terms.specs.declared.fault.Kind.TheVariants as kind
use Rattle.scasp_reader_terms.specs.declared.terms.TheConstants.{ARITY_LIMIT}
use Rattle.scasp_reader_terms.specs.Names.{place_in, known_variable, variable_at}
use Rattle.scasp_reader_terms.specs.Steps.{State, ◌>>=◌, give, behind, place_of, token_of, unexpected, is_sign, taken, expect, between}
use Rattle.scasp_reader.specs.declared.texts.clauses.Part.{Part}
use Rattle.scasp_reader.specs.declared.texts.clauses.Part.TheVariants as part
use Rattle.scasp_reader.specs.Texts.Abducibles.{new_variable, parameter_at, parameter, parameters_within, some_parameters, parameters, positive_pred, named_abducible, abducible_at, abducible}
use Rattle.scasp_law_program_text.specs.Grammar.Known.{Known, means, numbered, then_make}
use Rattle.scasp_law_program_text.specs.Grammar.Spelling.{variables_tokens, parameters_tokens}
use Rattle.scasp_law_program_text.specs.Grammar.Programs.{parameter_meaning, parameters_meaning, abducible_of}
use Rattle.scasp_law_program_text.proofs.GrammarLemmas.Steps.{known, opened}
use Rattle.scasp_law_program_text.proofs.GrammarLemmas.Given.{same, first, At, next-is, At_behind, At_so, Gives, Gives_by, Gives_ok, Gives_then, made, not-nothing, Gives_bind, Gives_taken, Gives_not_taken, Gives_expect, Gives_note, between-gives}
use Rattle.scasp_law_program_text.proofs.GrammarLemmas.GivenTerms.{variable-given}
use Rattle.scasp_law_program_text.proofs.GrammarLemmas.GivenExpressions.{tokens-length}

-- ---- one parameter

parameter-given : (n : ℕ) (text : List ℕ) (s : State) (rest : List Token) (x : ℕ) (l : Known) → At (token.Variable text ∷ rest) s → n < ARITY_LIMIT → parameter_meaning text (known s) ≡ Some (x, l)
    → Gives x rest l (parameter n s)
parameter-given n text s rest x l h few e =
    Gives_note x rest l s (nat_le ARITY_LIMIT n) (place_of s.tokens) (kind.Limit count.Arity) (λ u s2. parameter_at (place_of s.tokens) (token_of s2.tokens) s2) (within n few)
    (Gives_by x rest l _ _ (ap (λ o. parameter_at (place_of s.tokens) o s) (next-is _ s h)) (by (is_some (known_variable text s.variables)) e))
  where
    within : (n : ℕ) → n < ARITY_LIMIT → nat_le ARITY_LIMIT n ≡ false
    within n less = grind (arith, nat_tests, less)

    by : (b : Bool) → (if b then None else numbered text (known s)) ≡ Some (x, l) → Gives x rest l (if b then unexpected s else new_variable (place_of s.tokens) text s)
    by true e = absurd cc
    by false e = variable-given (place_of s.tokens) text (behind s) rest x l (At_behind (token.Variable text) rest s h) e

-- ---- one or more

parameters-given : (texts : List (List ℕ)) (text : List ℕ) (left n : ℕ) (s : State) (rest : List Token) (u : Unit {0}) (l : Known) → At (variables_tokens text texts ++ token.Sign sign.Close ∷ rest) s
    → length (text ∷ texts) ≤ left → n + length (text ∷ texts) ≤ ARITY_LIMIT → parameters_meaning (text ∷ texts) (known s) ≡ Some (u, l)
    → Gives (n + length (text ∷ texts)) (token.Sign sign.Close ∷ rest) l (parameters_within left n s)
parameters-given texts text zero n s rest u l h enough few e = absurd (omega (arith, enough))
parameters-given [] text (suc left) n s rest u l h enough few e =
    let close = token.Sign sign.Close ∷ rest in
    Gives_bind same (n + 1) u close close l (parameter n s) (λ x. taken sign.Comma >>= (λ comma. if comma then parameters_within left (n + 1) else give (n + 1))) (parameter_meaning text (known s)) (λ x. parameters_meaning []) e
    (λ x k i. parameter-given n text s close x k h (omega (arith, few)) i)
    (λ x t there i. Gives_not_taken (n + 1) close l t sign.Comma close _ there refl (Gives_ok (λ (u : Unit {0}). n + 1) tt u close t l there i))
parameters-given (next ∷ texts) text (suc left) n s rest u l h enough few e =
    let close = token.Sign sign.Close ∷ rest in
    let others = variables_tokens next texts ++ close in
    let all : n + 1 + length (next ∷ texts) ≡ n + length (text ∷ next ∷ texts) = omega arith in
    Gives_bind same (n + length (text ∷ next ∷ texts)) u (token.Sign sign.Comma ∷ others) close l (parameter n s) (λ x. taken sign.Comma >>= (λ comma. if comma then parameters_within left (n + 1) else give (n + 1)))
    (parameter_meaning text (known s)) (λ x. parameters_meaning (next ∷ texts)) e
    (λ x k i. parameter-given n text s (token.Sign sign.Comma ∷ others) x k h (omega (arith, few)) i)
    (λ x t there i. Gives_taken (n + length (text ∷ next ∷ texts)) close l t sign.Comma others _ there refl
    (λ at. subst (λ m. Gives m close l (parameters_within left (n + 1) (behind t))) all
    (parameters-given texts next left (n + 1) (behind t) rest u l at (omega (arith, enough)) (omega (arith, few)) i)))

variables-within : (texts : List (List ℕ)) (text : List ℕ) → length (text ∷ texts) ≤ length (variables_tokens text texts)
variables-within [] text = omega arith
variables-within (next ∷ texts) text = let rest = variables-within texts next in omega (arith, rest)

-- ---- in brackets

bracketed-given : (texts : List (List ℕ)) (s : State) (rest : List Token) (u : Unit {0}) (l : Known) → At (parameters_tokens texts ++ token.Sign sign.Stop ∷ rest) s → length texts ≤ ARITY_LIMIT
    → parameters_meaning texts (known s) ≡ Some (u, l) → Gives (length texts) (token.Sign sign.Stop ∷ rest) l (parameters s)
bracketed-given [] s rest u l h few e =
    let stop = token.Sign sign.Stop ∷ rest in
    Gives_by 0 stop l _ _ (ap (λ o. if is_sign sign.Open o then between false sign.Open sign.Close some_parameters s else give 0 s) (next-is stop s h))
    (Gives_ok (λ (u : Unit {0}). 0) tt u stop s l h e)
bracketed-given (text ∷ texts) s rest u l h few e =
    let stop = token.Sign sign.Stop ∷ rest in
    let inner = variables_tokens text texts ++ token.Sign sign.Close ∷ stop in
    let g = At_so _ (token.Sign sign.Open ∷ inner) s h (ap (λ ts. token.Sign sign.Open ∷ ts) (append_assoc (variables_tokens text texts) (token.Sign sign.Close ∷ []) stop)) in
    let all : 0 + length (text ∷ texts) ≡ length (text ∷ texts) = omega arith in
    Gives_by (length (text ∷ texts)) stop l _ _ (ap (λ o. if is_sign sign.Open o then between false sign.Open sign.Close some_parameters s else give 0 s) (next-is (token.Sign sign.Open ∷ inner) s g))
    (between-gives (length (text ∷ texts)) false sign.Open sign.Close some_parameters inner stop l s refl refl g
    (λ at.
    let within = variables-within texts text in
    let enough = tokens-length (variables_tokens text texts) (token.Sign sign.Close ∷ stop) (opened false s) at in
    subst (λ m. Gives m (token.Sign sign.Close ∷ stop) l (some_parameters (opened false s))) all
    (parameters-given texts text (length (opened false s).tokens) 0 (opened false s) stop u l at (omega (arith, within, enough)) (omega (arith, few)) e)))

-- ---- the clause

-- what the trees of parameters mean, and that there may be so many
pub record AreMeant (name : ℕ) (texts : List (List ℕ)) (k : Known) (q : Part) (l : Known) : Type 0 where
  pub value : Unit {0}
  pub between : Known
  pub parameters : parameters_meaning texts k ≡ Some (value, between)
  pub few : length texts ≤ ARITY_LIMIT
  pub is : means (part.Abducible (positive_pred name (length texts))) between ≡ Some (q, l)

pub meant-so : (name : ℕ) (texts : List (List ℕ)) (k : Known) (q : Part) (l : Known) → then_make (parameters_meaning texts k) (λ u. abducible_of name (length texts)) ≡ Some (q, l) → AreMeant name texts k q l
meant-so name texts k q l e =
    let m = made (parameters_meaning texts k) (λ u. abducible_of name (length texts)) q l e in
    let n = not-nothing (nat_lt ARITY_LIMIT (length texts)) (means (part.Abducible (positive_pred name (length texts)))) m.between q l m.rest in
    record { value = m.value; between = m.between; parameters = m.first; few = within (length texts) n.0; is = n.1 }
  where
    within : (n : ℕ) → nat_lt ARITY_LIMIT n ≡ false → n ≤ ARITY_LIMIT
    within n e = grind (arith, nat_tests, e)

pub abducible-given : (text : List ℕ) (texts : List (List ℕ)) (s : State) (rest : List Token) (q : Part) (l : Known) → At (token.Abducible ∷ token.Name text ∷ (parameters_tokens texts ++ token.Sign sign.Stop ∷ rest)) s
    → then_make (parameters_meaning texts (record { names = with_text s.names text; variables = s.variables })) (λ u. abducible_of (place_in s.names text) (length texts)) ≡ Some (q, l) → Gives q rest l (abducible s)
abducible-given text texts s rest q l h e =
    let stop = token.Sign sign.Stop ∷ rest in
    let named = token.Name text ∷ (parameters_tokens texts ++ stop) in
    let at_name = At_behind token.Abducible named s h in
    let at_parameters = At_behind (token.Name text) (parameters_tokens texts ++ stop) (behind s) at_name in
    let t = record (behind (behind s)) { names = with_text s.names text } in
    let f = place_in s.names text in
    let m = meant-so f texts (known t) q l e in
    Gives_by q rest l _ _ (ap (λ o. abducible_at o (behind s)) (next-is named (behind s) at_name))
    (Gives_then (length texts) q stop rest m.between l (parameters t) (λ n. expect sign.Stop >>= (λ dot. give (part.Abducible (positive_pred f n))))
    (bracketed-given texts t rest m.value m.between (record { tokens = at_parameters.tokens; fault = h.fault }) m.few m.parameters)
    (λ v there knows. Gives_expect q rest l v sign.Stop rest _ there refl
    (λ at. Gives_ok same (part.Abducible (positive_pred f (length texts))) q rest (behind v) l at (ap (means (part.Abducible (positive_pred f (length texts)))) knows ∙ m.is))))
