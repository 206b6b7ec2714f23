-- The line of a predicate that may be assumed is read back.
use Rattle.std.proofs.Common.{◌≡◌, ℕ, zero, suc, ◌+◌, ◌-◌, ◌<◌, ◌≤◌, ◌^◌, Bool, true, false, not, ◌&&◌, ◌||◌, nat_lt, List, [], ◌∷◌, ◌++◌, length, take, codes, None, Some, Ok, refl, sym, ap, subst, ◌∙◌, arith, lit<, append_assoc, append-nil, length-append}
use Rattle.std.specs.Prelude.{filter, if◌then◌else◌, is_some, nat_le, unwrap_or}
use Rattle.std.specs.List.{list_any}
use Rattle.std.proofs.lemmas.Bool.{and_parts, lt-ltb, false≢true}
use Rattle.std.proofs.lemmas.Bool.Decides.{nat_tests}
use Rattle.std.proofs.lemmas.List.{take_all}
use Rattle.scasp_name.specs.Texts.{with_text}
use Rattle.scasp_syntax.specs.Programs.{first_occurrences}
use Rattle.scasp_syntax.specs.Same.{same_pred}
use Rattle.scasp_syntax.specs.WellFormed.{are_abducible}
use Rattle.scasp_syntax.specs.declared.atom.Pred.{Pred}
use Rattle.scasp_reader_tokens.specs.declared.sign.Sign.TheVariants as sign
use Rattle.scasp_reader_tokens.specs.declared.token.Placed.{Placed}
use Rattle.scasp_reader_tokens.specs.declared.token.Token.TheVariants as token
use Rattle.scasp_reader_tokens.specs.Tokens.{placed, tokens_behind}
use Rattle.scasp_cert.specs.Text.Names.{text_at, name_text}
use Rattle.scasp_cert.specs.Text.Terms.{var_text}
use Rattle.scasp_reader_terms.specs.declared.reader.TheConstants.{VARIABLE_LIMIT}
use Rattle.scasp_reader_terms.specs.declared.terms.TheConstants.{ARITY_LIMIT}
use Rattle.scasp_reader_terms.specs.declared.fault.Count.TheVariants as count
use Rattle.scasp_reader_terms.specs.declared.fault.Kind.TheVariants as kind
use Rattle.scasp_reader_terms.specs.Names.{place_in, known_variable, new_variable as unknown_variable}
use Rattle.scasp_reader_terms.specs.Steps.{State, then_read, note_if, token_of, unexpected}
use Rattle.scasp_reader_terms.proofs.VariableLemmas.{few-numbered}
use Rattle.scasp_reader.specs.declared.texts.clauses.Part.TheVariants as part
use Rattle.scasp_reader.specs.Texts.Abducibles.{new_variable, parameter_at, parameter, parameters_within, some_parameters, parameters, positive_pred}
use Rattle.scasp_reader.specs.Texts.Clauses.{clause}
use Rattle.scasp_reader.proofs.TextsLemmas.ParameterLemmas.{parameters_last, parameters_more}
use Rattle.scasp_print_program.specs.Abducibles.{variables_text, parameters_text, abducible_text}
use Rattle.scasp_print_program.specs.Programs.{rule_variables}
use Rattle.scasp_print_program.specs.Terms.{Style, variable_text}
use Rattle.scasp_law_program_text.specs.Readback.Endings.{ends_name}
use Rattle.scasp_law_program_text.proofs.ReadbackLemmas.Fronts.{found-read}
use Rattle.scasp_law_program_text.proofs.ReadbackLemmas.NameReading.{name-read}
use Rattle.scasp_law_program_text.proofs.ReadbackLemmas.SignReading.{blank_read, open_read, close_read, comma_read}
use Rattle.scasp_law_program_text.proofs.ReadbackLemmas.VariableReading.{variable-read, rule-variable}
use Rattle.scasp_law_program_text.specs.TermReadback.Reading.{before, behind_term}
use Rattle.scasp_law_program_text.specs.CompoundReadback.Styles.{IsTable, IsStyle}
use Rattle.scasp_law_program_text.specs.CompoundReadback.Reading.{had}
use Rattle.scasp_law_program_text.proofs.CompoundReadbackLemmas.Tables.{name-utf8, name-place, name-there, variable-new, variables-had, variables-more}
use Rattle.scasp_law_program_text.proofs.CompoundReadbackLemmas.Tokens.{Has, has-append, has-fewer, has-none, has-token, name-has}
use Rattle.scasp_law_program_text.specs.ClauseReadback.Parts.{rule_style, abducible_fits, in_table, behind_part, ReadsPart}
use Rattle.scasp_law_program_text.proofs.ClauseReadbackLemmas.RuleVariables.{length-rule, rule-at, rule-style}
use Rattle.scasp_law_program_text.proofs.ClauseReadbackLemmas.Clauses.{stop-tokens}

-- ---- tokens

-- `#abducible` and a blank
pub abducible-tokens : (rest : List ℕ) (at : ℕ) → tokens_behind 0 at (codes "#abducible " ++ rest) ≡ placed at token.Abducible ∷ tokens_behind 0 (at + 11) rest
abducible-tokens rest at =
    let shift : at + 10 + 1 ≡ at + 11 = omega arith in
    found-read 35 (codes "abducible") (32 ∷ rest) token.Abducible at refl
    ∙ ap (λ ts. placed at token.Abducible ∷ ts) (blank_read rest (at + 10) ∙ ap (λ p. tokens_behind 0 p rest) shift)

-- ---- steps

parameter-step : (n b : ℕ) (text : List ℕ) (s : State) (ts : List Placed) → n < ARITY_LIMIT → length s.variables < VARIABLE_LIMIT → known_variable text s.variables ≡ None
    → parameter n (record s { tokens = placed b (token.Variable text) ∷ ts }) ≡ Ok (length s.variables, record s { tokens = ts; is_behind_operand = true; variables = s.variables ++ text ∷ [] })
parameter-step n b text s ts few less new =
    let here : State = record s { tokens = placed b (token.Variable text) ∷ ts } in
    let later : State = record s { tokens = ts; is_behind_operand = true } in
    let past : nat_le ARITY_LIMIT n ≡ false = above n few in
    let room : nat_le VARIABLE_LIMIT (length s.variables) ≡ false = over (length s.variables) less in
    ap (λ t. then_read (note_if t b (kind.Limit count.Arity) here) (λ l u. parameter_at b (token_of u.tokens) u)) past
    ∙ ap (λ o. if is_some o then unexpected here else new_variable b text here) new
    ∙ ap (λ o. elim o [ None ↦ unknown_variable b text later | Some x ↦ Ok (x, later) ]) new
    ∙ rw (room, few-numbered _ room) refl
  where
    above : (n : ℕ) → n < ARITY_LIMIT → nat_le ARITY_LIMIT n ≡ false
    above n h = grind (arith, nat_tests, h)

    over : (n : ℕ) → n < VARIABLE_LIMIT → nat_le VARIABLE_LIMIT n ≡ false
    over n h = grind (arith, nat_tests, h)

bracketed-step : (s s1 : State) (ts us : List Placed) (b c n : ℕ) → some_parameters (record s { tokens = ts; is_behind_operand = false; is_in_list = false }) ≡ Ok (n, record s1 { tokens = placed c (token.Sign sign.Close) ∷ us })
    → parameters (record s { tokens = placed b (token.Sign sign.Open) ∷ ts }) ≡ Ok (n, record s1 { tokens = us; is_behind_operand = true; is_in_list = s.is_in_list })
bracketed-step s s1 ts us b c n e = rw e refl

clause-step : (s s1 : State) (ts us : List Placed) (a b c : ℕ) (text : List ℕ) (n : ℕ)
    → parameters (record s { tokens = ts; is_behind_operand = true; names = with_text s.names text; variables = [] }) ≡ Ok (n, record s1 { tokens = placed c (token.Sign sign.Stop) ∷ us })
    → clause (record s { tokens = placed a token.Abducible ∷ placed b (token.Name text) ∷ ts }) ≡ Ok (part.Abducible (positive_pred (place_in s.names text) n), record s1 { tokens = us; is_behind_operand = false })
unfolding clause
clause-step s s1 ts us a b c text n e = rw e refl

-- ---- parameters

module _ (names : List (List ℕ)) (table : IsTable names) (n : ℕ) (few : n ≤ ARITY_LIMIT) where
  abbrev w : Style
  w = rule_style names n

  style : IsStyle w
  style = rule-style names n table (omega (arith, few))

  text-is : (i : ℕ) → i < n → variable_text w i ≡ var_text i
  text-is i less = let first : 0 + i ≡ i = omega arith in ap (λ o. unwrap_or o []) (rule-at 0 n i less) ∙ ap var_text first

  within : (i : ℕ) → i < n → nat_lt i (length w.variables) ≡ true
  within i less = lt-ltb i (length w.variables) (omega (arith, less, length-rule 0 n))

  module _ (s : State) (i : ℕ) (less : i < n) where
    new : known_variable (var_text i) (take i w.variables) ≡ None
    new = subst (λ text. known_variable text (take i w.variables) ≡ None) (text-is i less) (variable-new w style i (within i less))

    number : length (take i w.variables) ≡ i
    number = variables-had w style i (within i less)

    more : take i w.variables ++ var_text i ∷ [] ≡ take (i + 1) w.variables
    more = subst (λ text. take i w.variables ++ text ∷ [] ≡ take (i + 1) w.variables) (text-is i less) (variables-more w style i (within i less))

    one-read : (bytes : List ℕ) (at : ℕ) → ends_name bytes ≡ true
        → parameter i (before (had w i s) at (var_text i ++ bytes)) ≡ Ok (i, behind_term (had w (i + 1) s) (at + length (var_text i)) bytes)
    one-read bytes at ends =
        let b = at + length (var_text i) in
        let ts = tokens_behind 0 b bytes in
        let vs = take i w.variables in
        let big : 64 < 10 ^ 64 = lit< tt in
        let small : i < 10 ^ 64 = omega (arith, less, few, big) in
        let room : length vs < VARIABLE_LIMIT = omega (arith, number, less, few) in
        ap (λ ts. parameter i (record (had w i s) { tokens = ts })) (variable-read (var_text i) bytes at (rule-variable i small) ends)
        ∙ parameter-step i at (var_text i) (had w i s) ts (omega (arith, less, few)) room new
        ∙ ap (λ k. Ok (k, record (behind_term (had w i s) b bytes) { variables = vs ++ var_text i ∷ [] })) number
        ∙ ap (λ vs. Ok (i, record (behind_term (had w i s) b bytes) { variables = vs })) more

  -- the parameters from i on, before a bracket that closes
  several-read : (m i left at : ℕ) (s : State) (rest : List ℕ) → i + suc m ≡ n → suc m ≤ left
      → parameters_within left i (before (had w i (record s { is_behind_operand = false })) at (variables_text true i (suc m) ++ 41 ∷ rest))
      ≡ Ok (n, behind_term (had w n s) (at + length (variables_text true i (suc m))) (41 ∷ rest))
  several-read zero i left at s rest e enough =
      let less : i < n = omega (arith, e) in
      let t = record s { is_behind_operand = false } in
      let text = var_text i in
      let b = at + length text in
      let all : i + 1 ≡ n = omega (arith, e) in
      let s1 = behind_term (had w (i + 1) t) b (41 ∷ rest) in
      let whole : variables_text true i 1 ≡ text = append-nil text in
      ap (λ bs. parameters_within left i (before (had w i t) at (bs ++ 41 ∷ rest))) whole
      ∙ parameters_last left i (omega (arith, enough)) (before (had w i t) at (text ++ 41 ∷ rest)) i s1 s1 (one-read t i less (41 ∷ rest) at refl) refl
      ∙ ap (λ k. Ok (k, behind_term (had w k s) b (41 ∷ rest))) all
      ∙ ap (λ bs. Ok (n, behind_term (had w n s) (at + length bs) (41 ∷ rest))) (sym whole)
  several-read (suc m) i left at s rest e enough =
      let less : i < n = omega (arith, e) in
      let t = record s { is_behind_operand = false } in
      let text = var_text i in
      let others = variables_text true (i + 1) (suc m) in
      let bytes = others ++ 41 ∷ rest in
      let b = at + length text in
      let s1 = behind_term (had w (i + 1) t) b (44 ∷ bytes) in
      let s2 = before (had w (i + 1) t) (b + 1) bytes in
      let place : b + 1 + length others ≡ at + length (text ++ 44 ∷ others) = omega (arith, length-append text (44 ∷ others)) in
      ap (λ bs. parameters_within left i (before (had w i t) at bs)) (append_assoc text (44 ∷ others) (41 ∷ rest))
      ∙ parameters_more left i (omega (arith, enough)) (before (had w i t) at (text ++ 44 ∷ bytes)) i s1 s2 (one-read t i less (44 ∷ bytes) at refl) refl
      ∙ several-read m (i + 1) (left - 1) (b + 1) s rest (omega (arith, e)) (omega (arith, enough))
      ∙ ap (λ p. Ok (n, behind_term (had w n s) p (41 ∷ rest))) place

-- each of them is a token
variables-have : (m i : ℕ) (rest : List ℕ) → i + suc m < 10 ^ 64 → ends_name rest ≡ true → Has (suc m) (variables_text true i (suc m)) rest
variables-have zero i rest small ends =
    subst (λ text. Has 1 text rest) (sym (append-nil (var_text i)))
    (has-token (λ at. placed at (token.Variable (var_text i))) (var_text i) rest (λ at. variable-read (var_text i) rest at (rule-variable i (omega (arith, small))) ends))
variables-have (suc m) i rest small ends =
    let others = variables_text true (i + 1) (suc m) in
    has-fewer (suc (suc m)) (1 + (1 + suc m)) (var_text i ++ 44 ∷ others) rest (omega arith)
    (has-append 1 (1 + suc m) (var_text i) (44 ∷ others) rest
    (has-token (λ at. placed at (token.Variable (var_text i))) (var_text i) (44 ∷ (others ++ rest)) (λ at. variable-read (var_text i) (44 ∷ (others ++ rest)) at (rule-variable i (omega (arith, small))) refl))
    (has-append 1 (suc m) (44 ∷ []) others rest (has-token (λ at. placed at (token.Sign sign.Comma)) (44 ∷ []) (others ++ rest) (comma_read (others ++ rest)))
    (variables-have m (i + 1) rest (omega (arith, small)) ends)))

bracketed-read : (names : List (List ℕ)) (table : IsTable names) (n : ℕ) → n ≤ ARITY_LIMIT → (s : State) (rest : List ℕ) (at : ℕ)
    → parameters (behind_term (had (rule_style names n) 0 s) at (parameters_text n ++ 46 ∷ 10 ∷ rest)) ≡ Ok (n, behind_term (had (rule_style names n) n s) (at + length (parameters_text n)) (46 ∷ 10 ∷ rest))
bracketed-read names table zero few s rest at = let place : at ≡ at + 0 = omega arith in ap (λ p. Ok (0, behind_term (had (rule_style names 0) 0 s) p (46 ∷ 10 ∷ rest))) place
bracketed-read names table (suc m) few s rest at =
    let n = suc m in
    let w = rule_style names n in
    let text = variables_text true 0 n in
    let stop = 46 ∷ 10 ∷ rest in
    let b = at + 1 + length text in
    let t = record s { is_in_list = false } in
    let big : 64 < 10 ^ 64 = lit< tt in
    let whole : parameters_text n ++ stop ≡ 40 ∷ (text ++ 41 ∷ stop) = append_assoc (40 ∷ text) (41 ∷ []) stop in
    let place : b + 1 ≡ at + length (parameters_text n) = omega (arith, length-append (40 ∷ text) (41 ∷ [])) in
    let has = variables-have m 0 (41 ∷ stop) (omega (arith, few, big)) refl (at + 1) in
    let ts = tokens_behind 0 (at + 1) (text ++ 41 ∷ stop) in
    let enough : n ≤ length ts = omega (arith, has) in
    ap (λ bs. parameters (behind_term (had w 0 s) at bs)) whole
    ∙ bracketed-step (behind_term (had w 0 s) at (40 ∷ (text ++ 41 ∷ stop))) (behind_term (had w n t) b (41 ∷ stop)) ts (tokens_behind 0 (b + 1) stop) at b n
    (several-read names table n few m 0 (length ts) (at + 1) t stop (omega arith) enough)
    ∙ ap (λ p. Ok (n, behind_term (had w n s) p stop)) place

-- ---- the line

pub abducible_text-is : (names : List (List ℕ)) (p : Pred) → abducible_text names p ≡ ((codes "#abducible " ++ name_text names p.name) ++ parameters_text p.arity) ++ codes ".\n"
unfolding abducible_text
abducible_text-is names p = refl

regroup : (a b c d rest : List ℕ) → (((a ++ b) ++ c) ++ d) ++ rest ≡ a ++ (b ++ (c ++ (d ++ rest)))
regroup a b c d rest = simp append_assoc

parameters-end : (n : ℕ) (rest : List ℕ) → ends_name (parameters_text n ++ 46 ∷ 10 ∷ rest) ≡ true
parameters-end zero rest = refl
parameters-end (suc n) rest = refl

pub record Fit (names : List (List ℕ)) (p : Pred) : Type 0 where
  pub named : nat_lt p.name (length names) ≡ true
  pub few : p.arity ≤ ARITY_LIMIT

pub abducible-fit : (names : List (List ℕ)) (p : Pred) → abducible_fits names p ≡ true → Fit names p
abducible-fit names p g =
    let a = and_parts (nat_lt p.name (length names)) (nat_le p.arity ARITY_LIMIT) g in
    record { named = a.0; few = within p.arity a.1 }
  where
    within : (n : ℕ) → nat_le n ARITY_LIMIT ≡ true → n ≤ ARITY_LIMIT
    within n h = grind (arith, nat_tests, h)

line-tokens : (names : List (List ℕ)) (p : Pred) (rest : List ℕ) (at : ℕ)
    → tokens_behind 0 at ((((codes "#abducible " ++ name_text names p.name) ++ parameters_text p.arity) ++ codes ".\n") ++ rest)
    ≡ placed at token.Abducible ∷ tokens_behind 0 (at + 11) (name_text names p.name ++ (parameters_text p.arity ++ 46 ∷ 10 ∷ rest))
line-tokens names p rest at =
    let name = name_text names p.name in
    let inner = parameters_text p.arity in
    ap (tokens_behind 0 at) (regroup (codes "#abducible ") name inner (codes ".\n") rest) ∙ abducible-tokens (name ++ (inner ++ 46 ∷ 10 ∷ rest)) at

-- it begins with a token of its own
pub line-front : (names : List (List ℕ)) (p : Pred) (P : List Placed → Type 0) → ((at : ℕ) (ts : List Placed) → P (placed at token.Abducible ∷ ts)) → (rest : List ℕ) (at : ℕ)
    → P (tokens_behind 0 at (abducible_text names p ++ rest))
line-front names p P h rest at =
    subst (λ line. P (tokens_behind 0 at (line ++ rest))) (sym (abducible_text-is names p)) (subst P (sym (line-tokens names p rest at)) (h at _))

parameters-have : (n : ℕ) (rest : List ℕ) → n ≤ ARITY_LIMIT → Has 0 (parameters_text n) rest
parameters-have zero rest few = has-none rest
parameters-have (suc m) rest few =
    let text = variables_text true 0 (suc m) in
    let big : 64 < 10 ^ 64 = lit< tt in
    has-fewer 0 (1 + suc m + 1) (parameters_text (suc m)) rest (omega arith)
    (has-append (1 + suc m) 1 (40 ∷ text) (41 ∷ []) rest
    (has-append 1 (suc m) (40 ∷ []) text (41 ∷ rest) (has-token (λ at. placed at (token.Sign sign.Open)) (40 ∷ []) (text ++ 41 ∷ rest) (open_read (text ++ 41 ∷ rest)))
    (variables-have m 0 (41 ∷ rest) (omega (arith, few, big)) refl))
    (has-token (λ at. placed at (token.Sign sign.Close)) (41 ∷ []) rest (close_read rest)))

pub line-has : (names : List (List ℕ)) (table : IsTable names) (p : Pred) → abducible_fits names p ≡ true → (rest : List ℕ) → Has 1 (abducible_text names p) rest
line-has names table p g rest =
    let fit = abducible-fit names p g in
    let few = fit.few in
    let style = rule-style names p.arity table (omega (arith, few)) in
    let text = text_at names p.name in
    let name = name_text names p.name in
    let inner = parameters_text p.arity in
    let stop = 46 ∷ 10 ∷ rest in
    let begin = codes "#abducible " in
    subst (λ line. Has 1 line rest) (sym (abducible_text-is names p))
    (has-fewer 1 (1 + 1 + 0 + 1) (((begin ++ name) ++ inner) ++ codes ".\n") rest (omega arith)
    (has-append (1 + 1 + 0) 1 ((begin ++ name) ++ inner) (codes ".\n") rest
    (has-append (1 + 1) 0 (begin ++ name) inner stop
    (has-append 1 1 begin name (inner ++ stop) (has-token (λ at. placed at token.Abducible) begin (name ++ (inner ++ stop)) (abducible-tokens (name ++ (inner ++ stop))))
    (name-has text (inner ++ stop) (name-utf8 (rule_style names p.arity) style p.name fit.named) (parameters-end p.arity rest)))
    (parameters-have p.arity stop few))
    (has-token (λ at. placed at (token.Sign sign.Stop)) (codes ".\n") rest (stop-tokens rest))))

pub abducible-read : (names : List (List ℕ)) (table : IsTable names) (p : Pred) → p.minus ≡ false → abducible_fits names p ≡ true → (s : State) (rest : List ℕ)
    → ReadsPart names clause (abducible_text names p) (part.Abducible p) (rule_variables 0 p.arity) s rest
abducible-read names table p positive g s rest at =
    let n = p.arity in
    let w = rule_style names n in
    let fit = abducible-fit names p g in
    let few = fit.few in
    let style = rule-style names n table (omega (arith, few)) in
    let text = text_at names p.name in
    let name = name_text names p.name in
    let stop = 46 ∷ 10 ∷ rest in
    let b = at + 11 in
    let c = b + length name in
    let d = c + length (parameters_text n) in
    let line = ((codes "#abducible " ++ name) ++ parameters_text n) ++ codes ".\n" in
    let all : take n w.variables ≡ rule_variables 0 n = take_all n (rule_variables 0 n) (omega (arith, length-rule 0 n)) in
    let place : d + 2 ≡ at + length line =
    omega (arith, length-append ((codes "#abducible " ++ name) ++ parameters_text n) (codes ".\n"), length-append (codes "#abducible " ++ name) (parameters_text n), length-append (codes "#abducible ") name) in
    let same : positive_pred p.name n ≡ p = ap (λ (m : Bool). record { minus = m; name = p.name; arity = n }) (sym positive) in
    let tokens : tokens_behind 0 at (line ++ rest) ≡ placed at token.Abducible ∷ placed b (token.Name text) ∷ tokens_behind 0 c (parameters_text n ++ stop) =
    line-tokens names p rest at
    ∙ ap (λ ts. placed at token.Abducible ∷ ts) (name-read text (parameters_text n ++ stop) b (name-utf8 w style p.name fit.named) (parameters-end n rest)) in
    let s2 = behind_term (had w n s) d stop in
    subst (λ line. clause (before (in_table names s) at (line ++ rest)) ≡ Ok (part.Abducible p, behind_part names (rule_variables 0 n) s (at + length line) rest)) (sym (abducible_text-is names p))
    (ap (λ ts. clause (record (in_table names s) { tokens = ts })) tokens
    ∙ clause-step (in_table names s) s2 (tokens_behind 0 c (parameters_text n ++ stop)) (tokens_behind 0 (d + 2) rest) at b d text n
    (ap (λ ns. parameters (record (behind_term (had w 0 s) c (parameters_text n ++ stop)) { names = ns })) (name-there w style p.name fit.named)
    ∙ bracketed-read names table n few s rest c
    ∙ ap (λ ts. Ok (n, record s2 { tokens = ts })) (stop-tokens rest d))
    ∙ ap (λ f. Ok (part.Abducible (positive_pred f n), behind_part names (take n w.variables) s (d + 2) rest)) (name-place w style p.name fit.named)
    ∙ ap (λ q. Ok (part.Abducible q, behind_part names (take n w.variables) s (d + 2) rest)) same
    ∙ ap (λ vs. Ok (part.Abducible p, behind_part names vs s (d + 2) rest)) all
    ∙ ap (λ a. Ok (part.Abducible p, behind_part names (rule_variables 0 n) s a rest)) place)

-- ---- predicates that are distinct

none-taken : (p : Pred) (ps : List Pred) → not (list_any (same_pred p) ps) ≡ true → filter (λ q. not (same_pred p q)) ps ≡ ps
none-taken p [] h = refl
none-taken p (q ∷ ps) h = by (same_pred p q) refl h (none-taken p ps)
  where
    by : (b : Bool) → same_pred p q ≡ b → not (b || list_any (same_pred p) ps) ≡ true → (not (list_any (same_pred p) ps) ≡ true → filter (λ q. not (same_pred p q)) ps ≡ ps)
        → filter (λ q. not (same_pred p q)) (q ∷ ps) ≡ q ∷ ps
    by true e h r = absurd (false≢true h)
    by false e h r = rw e (ap (λ qs. q ∷ qs) (r h))

-- are their own first occurrences
pub first-same : (ps : List Pred) → are_abducible ps ≡ true → first_occurrences ps ≡ ps
first-same [] h = refl
first-same (p ∷ ps) h =
    let a = and_parts (not p.minus && not (list_any (same_pred p) ps)) (are_abducible ps) h in
    let b = and_parts (not p.minus) (not (list_any (same_pred p) ps)) a.0 in
    ap (λ qs. p ∷ filter (λ q. not (same_pred p q)) qs) (first-same ps a.1) ∙ ap (λ qs. p ∷ qs) (none-taken p ps b.1)

pub without-minus : (b : Bool) → not b ≡ true → b ≡ false
without-minus true e = absurd (false≢true e)
without-minus false e = refl
