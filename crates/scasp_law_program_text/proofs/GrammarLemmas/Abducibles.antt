-- Parameters of a predicate that may be assumed, as they are read.
use Rattle.std.proofs.Common.{◌≡◌, ℕ, zero, suc, ◌+◌, ◌<◌, ◌≤◌, Bool, true, false, nat_lt, if◌then◌else◌, List, [], ◌∷◌, ◌++◌, drop, length, Option, None, Some, Ok, refl, sym, ap, subst, ◌∙◌, arith}
use Rattle.std.specs.Prelude.{nat_le, is_some}
use Rattle.std.proofs.lemmas.Bool.Decides.{nat_tests}
use Rattle.scasp_reader_tokens.specs.declared.sign.Sign.TheVariants as sign
use Rattle.scasp_reader_tokens.specs.declared.token.Token.{Token}
use Rattle.scasp_reader_tokens.specs.declared.token.Token.TheVariants as token
use Rattle.scasp_reader_terms.specs.declared.fault.Count.TheVariants as count
use Rattle.scasp_reader_terms.specs.declared.fault.Kind.TheVariants as kind
use Rattle.scasp_reader_terms.specs.declared.terms.TheConstants.{ARITY_LIMIT}
use Rattle.scasp_reader_terms.specs.Names.{known_variable, variable_at}
use Rattle.scasp_reader_terms.specs.Steps.{State, give, behind, place_of, token_of, unexpected, is_sign, between}
use Rattle.scasp_reader.specs.declared.texts.clauses.Part.TheVariants as part
use Rattle.scasp_reader.specs.Texts.Abducibles.{new_variable, parameter_at, parameter, parameters_within, some_parameters, parameters, positive_pred}
use Rattle.scasp_law_program_text.specs.Grammar.Known.{Known, numbered}
use Rattle.scasp_law_program_text.specs.Grammar.Spelling.{bare, variables_tokens, parameters_tokens}
use Rattle.scasp_law_program_text.specs.Grammar.Programs.{parameter_meaning, parameters_meaning, abducible_of}
use Rattle.scasp_law_program_text.proofs.GrammarLemmas.Steps.{known, then-some, next-token, Post, Post_give, Post_err, Post_from, Post_map, Post_then, Post_taken, Post_note, opened, between_holds}
use Rattle.scasp_law_program_text.proofs.GrammarLemmas.Leaves.{IsNumbered, variable_holds}
use Rattle.scasp_law_program_text.proofs.GrammarLemmas.Terms.{with-sign}

-- ---- one parameter

record IsParameter (n : ℕ) (s : State) (x : ℕ) (t : State) : Type 0 where
  text : List ℕ
  tokens : bare s.tokens ≡ token.Variable text ∷ bare t.tokens
  value : parameter_meaning text (known s) ≡ Some (x, known t)
  few : n < ARITY_LIMIT

parameter_holds : (n : ℕ) (s : State) → Post (IsParameter n s) s (parameter n s)
parameter_holds n s =
    Post_note (IsParameter n s) s (nat_le ARITY_LIMIT n) (place_of s.tokens) (kind.Limit count.Arity) _ (λ t f same. by t same (token_of t.tokens) refl)
  where
    fewer : (n : ℕ) → nat_le ARITY_LIMIT n ≡ false → n < ARITY_LIMIT
    fewer n e = grind (arith, nat_tests, e)

    distinct : (t : State) (text : List ℕ) → (t.fault ≡ None → (s ≡ t) × (nat_le ARITY_LIMIT n ≡ false)) → token_of t.tokens ≡ Some (token.Variable text)
        → (b : Bool) → is_some (known_variable text t.variables) ≡ b
        → Post (IsParameter n s) t (if b then unexpected t else new_variable (place_of s.tokens) text t)
    distinct t text same e true k = Post_err (IsParameter n s) t _
    distinct t text same e false k =
        Post_from (IsParameter n s) t (behind t) _ (λ f. f)
        (Post_map (IsNumbered text (behind t)) (IsParameter n s) (behind t) _ (variable_holds (place_of s.tokens) text (behind t))
        (λ x u g fine i.
        let (is, past) = same (g fine) in
        let here : IsParameter n t x u = record {
          text = text;
          tokens = next-token t.tokens (token.Variable text) e ∙ ap (λ ts. token.Variable text ∷ ts) i.tokens;
          value = ap (λ b. if b then None else numbered text (known t)) k ∙ i.value;
          few = fewer n past;
        } in
        subst (λ s. IsParameter n s x u) (sym is) here))

    by : (t : State) → (t.fault ≡ None → (s ≡ t) × (nat_le ARITY_LIMIT n ≡ false)) → (o : Option Token) → token_of t.tokens ≡ o
        → Post (IsParameter n s) t (parameter_at (place_of s.tokens) o t)
    by t same (Some (token.Variable text)) e = distinct t text same e (is_some (known_variable text t.variables)) refl
    by t same o e = Post_err (IsParameter n s) t _

-- ---- one or more

record AreParameters (n : ℕ) (s : State) (m : ℕ) (t : State) : Type 0 where
  text : List ℕ
  texts : List (List ℕ)
  tokens : bare s.tokens ≡ variables_tokens text texts ++ bare t.tokens
  value : parameters_meaning (text ∷ texts) (known s) ≡ Some (tt, known t)
  number : m ≡ n + length (text ∷ texts)
  few : m ≤ ARITY_LIMIT

parameters_hold : (left n : ℕ) (s : State) → Post (AreParameters n s) s (parameters_within left n s)
parameters_hold zero n s = Post_err (AreParameters n s) s _
parameters_hold (suc left) n s =
    Post_then (IsParameter n s) (AreParameters n s) s _ _ (parameter_holds n s)
    (λ x t f i. Post_taken (AreParameters n s) t sign.Comma _
    (λ comma. Post_map (AreParameters (n + 1) (behind t)) (AreParameters n s) (behind t) _ (parameters_hold left (n + 1) (behind t)) (λ m u g fine a. next x t m u (i (g fine)) comma a))
    (Post_give (AreParameters n s) t (n + 1) (λ fine. last x t (i fine))))
  where
    last : (x : ℕ) (t : State) → IsParameter n s x t → AreParameters n s (n + 1) t
    last x t i = record {
      text = i.text;
      texts = [];
      tokens = i.tokens;
      value = then-some _ _ _ _ _ i.value refl;
      number = omega arith;
      few = (let less = i.few in omega (arith, less));
    }

    next : (x : ℕ) (t : State) (m : ℕ) (u : State) → IsParameter n s x t → bare t.tokens ≡ token.Sign sign.Comma ∷ bare (drop 1 t.tokens) → AreParameters (n + 1) (behind t) m u → AreParameters n s m u
    next x t m u i comma a = record {
      text = i.text;
      texts = a.text ∷ a.texts;
      tokens = i.tokens ∙ ap (λ ts. token.Variable i.text ∷ ts) (comma ∙ ap (λ ts. token.Sign sign.Comma ∷ ts) a.tokens);
      value = then-some _ _ _ _ _ i.value a.value;
      number = (let number = a.number in omega (arith, number));
      few = a.few;
    }

-- ---- in brackets

pub record AreBracketed (s : State) (n : ℕ) (t : State) : Type 0 where
  pub texts : List (List ℕ)
  pub tokens : bare s.tokens ≡ parameters_tokens texts ++ bare t.tokens
  pub value : parameters_meaning texts (known s) ≡ Some (tt, known t)
  pub number : n ≡ length texts
  pub few : n ≤ ARITY_LIMIT

pub bracketed_hold : (s : State) → Post (AreBracketed s) s (parameters s)
bracketed_hold s = by (is_sign sign.Open (token_of s.tokens))
  where
    inside : (m : ℕ) (t : State) → bare s.tokens ≡ token.Sign sign.Open ∷ bare (drop 1 s.tokens) → bare t.tokens ≡ token.Sign sign.Close ∷ bare (drop 1 t.tokens)
        → AreParameters 0 (opened false s) m t → AreBracketed s m (opened s.is_in_list t)
    inside m t opens closes a = record {
      texts = a.text ∷ a.texts;
      tokens = opens ∙ ap (λ ts. token.Sign sign.Open ∷ ts) (a.tokens ∙ with-sign (variables_tokens a.text a.texts) _ _ _ closes);
      value = a.value;
      number = (let number = a.number in omega (arith, number));
      few = a.few;
    }

    by : (b : Bool) → Post (AreBracketed s) s (if b then between false sign.Open sign.Close some_parameters s else give 0 s)
    by true =
        between_holds (AreParameters 0 (opened false s)) (AreBracketed s) false sign.Open sign.Close some_parameters s
        (parameters_hold (length (opened false s).tokens) 0 (opened false s)) inside
    by false = Post_give (AreBracketed s) s 0 (λ fine. record { texts = []; tokens = refl; value = refl; number = refl; few = omega arith })

-- so many arguments there may be
pub abducible-meant : (f n m : ℕ) (k : Known) → n ≡ m → n ≤ ARITY_LIMIT → abducible_of f m k ≡ Some (part.Abducible (positive_pred f n), k)
abducible-meant f n m k e few =
    let past : nat_lt ARITY_LIMIT m ≡ false = within m (omega (arith, e, few)) in
    rw past (ap (λ m. Some (part.Abducible (positive_pred f m), k)) (sym e))
  where
    within : (m : ℕ) → m ≤ ARITY_LIMIT → nat_lt ARITY_LIMIT m ≡ false
    within m le = grind (arith, nat_tests, le)
