-- Whole texts are read back.
use Rattle.std.proofs.Common.{◌≡◌, ℕ, ◌+◌, ◌-◌, ◌<◌, ◌≤◌, true, false, not, ◌&&◌, nat_lt, List, [], ◌∷◌, ◌++◌, length, codes, None, Ok, refl, sym, ap, subst, ◌∙◌, arith, append_assoc, append-nil, length-append}
use Rattle.std.specs.Prelude.{nat_le}
use Rattle.std.specs.List.{list_all, list_any, flat_map}
use Rattle.std.proofs.lemmas.Bool.{and_parts}
use Rattle.std.proofs.lemmas.Bool.Decides.{nat_tests}
use Rattle.scasp_syntax.specs.Denials.{with_denials}
use Rattle.scasp_syntax.specs.Programs.{first_occurrences}
use Rattle.scasp_syntax.specs.Same.{same_pred}
use Rattle.scasp_syntax.specs.WellFormed.{are_abducible}
use Rattle.scasp_syntax.specs.declared.atom.Pred.{Pred}
use Rattle.scasp_syntax.specs.declared.clause.Clause.{Clause}
use Rattle.scasp_syntax.specs.declared.clause.Query.{Query}
use Rattle.scasp_reader_tokens.specs.Tokens.{tokens_behind, tokens_of}
use Rattle.scasp_reader_terms.specs.Steps.{State, token_of, place_of}
use Rattle.scasp_reader.specs.declared.texts.clauses.Part.{Part}
use Rattle.scasp_reader.specs.declared.texts.clauses.Part.TheVariants as part
use Rattle.scasp_reader.specs.declared.texts.texts.Parts.{Parts}
use Rattle.scasp_reader.specs.declared.texts.texts.TheConstants.{BYTE_LIMIT, CLAUSE_LIMIT}
use Rattle.scasp_reader.specs.Texts.Clauses.{clause}
use Rattle.scasp_reader.specs.Texts.Texts.{limited_clause, next_part, part_at, no_parts, part_count, with_part, is_end, parts_within, told, reading_of, read}
use Rattle.scasp_reader.proofs.TextsLemmas.PartLemmas.{parts_last, parts_more, parts-is}
use Rattle.scasp_print_program.specs.Abducibles.{abducible_text}
use Rattle.scasp_print_program.specs.Terms.{Style}
use Rattle.scasp_print_program.specs.Items.{items_text}
use Rattle.scasp_reader.specs.Programs.Programs.{completed, program_in}
use Rattle.scasp_print_program.specs.Programs.{rule_variables, clause_text, query_text, program_text}
use Rattle.scasp_law_program_text.specs.CompoundReadback.Styles.{IsTable}
use Rattle.scasp_law_program_text.proofs.CompoundReadbackLemmas.Tokens.{Has}
use Rattle.scasp_law_program_text.specs.ClauseReadback.Parts.{rule_style, query_style, abducible_fits, clause_fits, query_fits, ReadsPart}
use Rattle.scasp_law_program_text.specs.ClauseReadback.Texts.{abducibles_fit, text_fits, lines_text, reading}
use Rattle.scasp_law_program_text.proofs.ClauseReadbackLemmas.Abducibles.{line-front, line-has, abducible-read, first-same, without-minus}
use Rattle.scasp_law_program_text.proofs.ClauseReadbackLemmas.Clauses.{text_of, clause_text-is, clause-fit, clause-read}
use Rattle.scasp_law_program_text.proofs.ClauseReadbackLemmas.Queries.{query-tokens, query_text-is, query-fit, query-read}
use Rattle.scasp_law_program_text.proofs.ClauseReadbackLemmas.Denials.{written-is}
use Rattle.scasp_law_program_text.proofs.ClauseReadbackLemmas.PartTokens.{query-has, parts-have, parts-front}

-- the reader between two parts of a text, in which no fault was noted
abbrev ready : List (List ℕ) → List (List ℕ) → ℕ → List ℕ → State
ready names variables at bytes = record { tokens = tokens_behind 0 at bytes; is_behind_operand = false; is_in_list = false; names = names; variables = variables; fault = None }

-- ---- one part

next-is : (n : ℕ) (s : State) → next_part n s ≡ part_at n (place_of s.tokens) (token_of s.tokens) s
unfolding next_part
next-is n s = refl

limited-step : (n : ℕ) (s : State) → n < CLAUSE_LIMIT → limited_clause n s ≡ clause s
limited-step n s h = let few : nat_le CLAUSE_LIMIT n ≡ false = below n h in rw few refl
  where
    below : (n : ℕ) → n < CLAUSE_LIMIT → nat_le CLAUSE_LIMIT n ≡ false
    below n h = grind (arith, nat_tests)

-- a part's text: it has a token, with which a clause, of any kind, begins, and is read as the part
record IsPart (names : List (List ℕ)) (text : List ℕ) (p : Part) : Type 0 where
  pub has : (rest : List ℕ) → Has 1 text rest
  pub begins : (n : ℕ) (rest : List ℕ) (at : ℕ) (s : State) → part_at n (place_of (tokens_behind 0 at (text ++ rest))) (token_of (tokens_behind 0 at (text ++ rest))) s ≡ limited_clause n s
  pub variables : List (List ℕ)
  pub reads : (s : State) (rest : List ℕ) → ReadsPart names clause text p variables s rest

clause-part : (names : List (List ℕ)) → IsTable names → (c : Clause) → clause_fits names c ≡ true → IsPart names (clause_text names c) (part.Clause c)
clause-part names table c g =
    let w = rule_style names c.vars in
    let fit = clause-fit names table c g in
    let text-is = clause_text-is names c in
    record {
      has = λ rest. subst (λ text. Has 1 text rest) (sym text-is) (parts-have w fit.style c.head c.body rest fit.parts);
      begins =
          λ n rest at s.
          subst (λ text. part_at n (place_of (tokens_behind 0 at (text ++ rest))) (token_of (tokens_behind 0 at (text ++ rest))) s ≡ limited_clause n s) (sym text-is)
          (parts-front w fit.style (λ t. part_at n (place_of (tokens_behind 0 at (text_of w c.head c.body ++ rest))) t s ≡ limited_clause n s) (λ text. refl) refl refl rest at c.head c.body c.vars fit.parts fit.variables);
      variables = w.variables;
      reads = λ s rest. clause-read names table c g s rest;
    }

query-part : (names : List (List ℕ)) → IsTable names → (q : Query) → query_fits names q ≡ true → IsPart names (query_text names q) (part.Query q)
query-part names table q g =
    let w = query_style names q.names in
    let fit = query-fit names table q g in
    let text-is = query_text-is names q in
    record {
      has = λ rest. subst (λ text. Has 1 text rest) (sym text-is) (query-has w fit.style q.body rest fit.body);
      begins =
          λ n rest at s.
          subst (λ text. part_at n (place_of (tokens_behind 0 at (text ++ rest))) (token_of (tokens_behind 0 at (text ++ rest))) s ≡ limited_clause n s) (sym text-is)
          (begins w n rest at s);
      variables = w.variables;
      reads = λ s rest. query-read names table q g s rest;
    }
  where
    begins : (w : Style) (n : ℕ) (rest : List ℕ) (at : ℕ) (s : State)
        → part_at n (place_of (tokens_behind 0 at (((codes "?- " ++ items_text w true q.body) ++ codes ".\n") ++ rest))) (token_of (tokens_behind 0 at (((codes "?- " ++ items_text w true q.body) ++ codes ".\n") ++ rest))) s
        ≡ limited_clause n s
    begins w n rest at s =
        subst (λ ts. part_at n (place_of ts) (token_of ts) s ≡ limited_clause n s) (sym (query-tokens ((items_text w true q.body ++ codes ".\n") ++ rest) at)) refl

abducible-part : (names : List (List ℕ)) → IsTable names → (p : Pred) → p.minus ≡ false → abducible_fits names p ≡ true → IsPart names (abducible_text names p) (part.Abducible p)
abducible-part names table p positive g =
    record {
      has = λ rest. line-has names table p g rest;
      begins = λ n rest at s. line-front names p (λ ts. part_at n (place_of ts) (token_of ts) s ≡ limited_clause n s) (λ at ts. refl) rest at;
      variables = rule_variables 0 p.arity;
      reads = λ s rest. abducible-read names table p positive g s rest;
    }

-- ---- one part after the other

module _ (names : List (List ℕ)) where
  -- reading goes on behind a text, with as many steps as there are tokens
  record GoesOn (text : List ℕ) (p q : Parts) (rest : List ℕ) (variables : List (List ℕ)) (k at : ℕ) : Type 0 where
    pub left : ℕ
    pub known : List (List ℕ)
    pub enough : length (tokens_behind 0 (at + length text) rest) ≤ left
    pub same : parts_within k p (ready names variables at (text ++ rest)) ≡ parts_within left q (ready names known (at + length text) rest)

  abbrev GoesOnFrom : List ℕ → Parts → Parts → Type 0
  GoesOnFrom text p q = (rest : List ℕ) (variables : List (List ℕ)) (k at : ℕ) → length (tokens_behind 0 at (text ++ rest)) ≤ k → GoesOn text p q rest variables k at

  goes-nowhere : (p : Parts) → GoesOnFrom [] p p
  goes-nowhere p rest variables k at fuel =
      let place : at ≡ at + 0 = omega arith in
      record {
        left = k;
        known = variables;
        enough = subst (λ a. length (tokens_behind 0 a rest) ≤ k) place fuel;
        same = ap (λ a. parts_within k p (ready names variables a rest)) place;
      }

  goes-on : (text others : List ℕ) (x : Part) (p q : Parts) → IsPart names text x → is_end x ≡ false → part_count p < CLAUSE_LIMIT → GoesOnFrom others (with_part p x) q → GoesOnFrom (text ++ others) p q
  goes-on text others x p q is more few next rest variables k at fuel =
      let bytes = others ++ rest in
      let whole = append_assoc text others rest in
      let s = ready names variables at (text ++ bytes) in
      let t = ready names is.variables (at + length text) bytes in
      let left : length (tokens_behind 0 at (text ++ bytes)) ≤ k = rw whole at fuel in
      let has = is.has bytes at in
      let some : 0 < k = omega (arith, left, has) in
      let less : length (tokens_behind 0 (at + length text) bytes) ≤ k - 1 = omega (arith, left, has) in
      let on = next rest is.variables (k - 1) (at + length text) less in
      let place : at + length text + length others ≡ at + length (text ++ others) = omega (arith, length-append text others) in
      let read : next_part (part_count p) s ≡ Ok (x, t) =
      next-is (part_count p) s ∙ is.begins (part_count p) bytes at s ∙ limited-step (part_count p) s few ∙ is.reads s bytes at in
      record {
        left = on.left;
        known = on.known;
        enough = subst (λ a. length (tokens_behind 0 a rest) ≤ on.left) place on.enough;
        same =
            ap (λ bs. parts_within k p (ready names variables at bs)) whole
            ∙ parts_more k some p s x t read more
            ∙ on.same
            ∙ ap (λ a. parts_within on.left q (ready names on.known a rest)) place;
      }

  abbrev with_clauses : Parts → List Clause → Parts
  with_clauses p cs = record p { clauses = p.clauses ++ cs }

  abbrev with_abducibles : Parts → List Pred → Parts
  with_abducibles p ps = record p { abducibles = p.abducibles ++ ps }

  abbrev with_queries : Parts → List Query → Parts
  with_queries p qs = record p { queries = p.queries ++ qs }

  module _ (table : IsTable names) where
    abducibles-read : (ps : List Pred) (p : Parts) → are_abducible ps ≡ true → list_all (abducible_fits names) ps ≡ true → part_count p + length ps ≤ CLAUSE_LIMIT
        → GoesOnFrom (flat_map (abducible_text names) ps) p (with_abducibles p ps)
    abducibles-read [] p d g few = subst (λ ps. GoesOnFrom [] p (record p { abducibles = ps })) (sym (append-nil p.abducibles)) (goes-nowhere p)
    abducibles-read (a ∷ ps) p d g few =
        let r = and_parts (abducible_fits names a) (list_all (abducible_fits names) ps) g in
        let e = and_parts (not a.minus && not (list_any (same_pred a) ps)) (are_abducible ps) d in
        let positive = without-minus a.minus (and_parts (not a.minus) (not (list_any (same_pred a) ps)) e.0).0 in
        let below : part_count p < CLAUSE_LIMIT = omega (arith, few) in
        let fewer : part_count (with_part p (part.Abducible a)) + length ps ≤ CLAUSE_LIMIT = omega (arith, few, length-append p.abducibles (a ∷ [])) in
        subst (λ all. GoesOnFrom (abducible_text names a ++ flat_map (abducible_text names) ps) p (record p { abducibles = all })) (append_assoc p.abducibles (a ∷ []) ps)
        (goes-on (abducible_text names a) (flat_map (abducible_text names) ps) (part.Abducible a) p (with_abducibles (with_part p (part.Abducible a)) ps) (abducible-part names table a positive r.0) refl below
        (abducibles-read ps (with_part p (part.Abducible a)) e.1 r.1 fewer))

    clauses-read : (cs : List Clause) (p : Parts) → list_all (clause_fits names) cs ≡ true → part_count p + length cs ≤ CLAUSE_LIMIT → GoesOnFrom (flat_map (clause_text names) cs) p (with_clauses p cs)
    clauses-read [] p g few = subst (λ cs. GoesOnFrom [] p (record p { clauses = cs })) (sym (append-nil p.clauses)) (goes-nowhere p)
    clauses-read (c ∷ cs) p g few =
        let r = and_parts (clause_fits names c) (list_all (clause_fits names) cs) g in
        let below : part_count p < CLAUSE_LIMIT = omega (arith, few) in
        let fewer : part_count (with_part p (part.Clause c)) + length cs ≤ CLAUSE_LIMIT = omega (arith, few, length-append p.clauses (c ∷ [])) in
        subst (λ all. GoesOnFrom (clause_text names c ++ flat_map (clause_text names) cs) p (record p { clauses = all })) (append_assoc p.clauses (c ∷ []) cs)
        (goes-on (clause_text names c) (flat_map (clause_text names) cs) (part.Clause c) p (with_clauses (with_part p (part.Clause c)) cs) (clause-part names table c r.0) refl below
        (clauses-read cs (with_part p (part.Clause c)) r.1 fewer))

    queries-read : (qs : List Query) (p : Parts) → list_all (query_fits names) qs ≡ true → part_count p + length qs ≤ CLAUSE_LIMIT → GoesOnFrom (flat_map (query_text names) qs) p (with_queries p qs)
    queries-read [] p g few = subst (λ qs. GoesOnFrom [] p (record p { queries = qs })) (sym (append-nil p.queries)) (goes-nowhere p)
    queries-read (q ∷ qs) p g few =
        let r = and_parts (query_fits names q) (list_all (query_fits names) qs) g in
        let below : part_count p < CLAUSE_LIMIT = omega (arith, few) in
        let fewer : part_count (with_part p (part.Query q)) + length qs ≤ CLAUSE_LIMIT = omega (arith, few, length-append p.queries (q ∷ [])) in
        subst (λ all. GoesOnFrom (query_text names q ++ flat_map (query_text names) qs) p (record p { queries = all })) (append_assoc p.queries (q ∷ []) qs)
        (goes-on (query_text names q) (flat_map (query_text names) qs) (part.Query q) p (with_queries (with_part p (part.Query q)) qs) (query-part names table q r.0) refl below
        (queries-read qs (with_part p (part.Query q)) r.1 fewer))

-- ---- the text

end-read : (names variables : List (List ℕ)) (k at : ℕ) (p : Parts) → length (tokens_behind 0 at []) ≤ k → parts_within k p (ready names variables at []) ≡ Ok (p, ready names variables at [])
end-read names variables k at p fuel =
    let some : 0 < k = omega (arith, fuel) in
    parts_last k some p (ready names variables at []) part.End (ready names variables at []) (next-is (part_count p) (ready names variables at [])) refl

read-is : (names : List (List ℕ)) (bytes : List ℕ) → length bytes ≤ BYTE_LIMIT → read names bytes ≡ reading_of (tokens_of bytes) names
unfolding read
read-is names bytes h = let few : nat_lt BYTE_LIMIT (length bytes) ≡ false = below (length bytes) h in rw few refl
  where
    below : (n : ℕ) → n ≤ BYTE_LIMIT → nat_lt BYTE_LIMIT n ≡ false
    below n h = grind (arith, nat_tests)

reading-is : (names : List (List ℕ)) (bytes : List ℕ) → reading_of (tokens_of bytes) names ≡ told (parts_within (length (tokens_behind 0 0 bytes)) no_parts (ready names [] 0 bytes))
unfolding tokens_of
reading-is names bytes = ap told (parts-is (ready names [] 0 bytes))

-- two texts, one after the other
both-read : (names : List (List ℕ)) (a b : List ℕ) (p q r : Parts) → GoesOnFrom names a p q → GoesOnFrom names b q r → GoesOnFrom names (a ++ b) p r
both-read names a b p q r first second rest variables k at fuel =
    let whole = append_assoc a b rest in
    let one = first (b ++ rest) variables k at (rw whole at fuel) in
    let two = second rest one.known one.left (at + length a) one.enough in
    let place : at + length a + length b ≡ at + length (a ++ b) = omega (arith, length-append a b) in
    record {
      left = two.left;
      known = two.known;
      enough = subst (λ p. length (tokens_behind 0 p rest) ≤ two.left) place two.enough;
      same =
          ap (λ bs. parts_within k p (ready names variables at bs)) whole
          ∙ one.same
          ∙ two.same
          ∙ ap (λ a. parts_within two.left r (ready names two.known a rest)) place;
    }

-- what a text within the limits fulfils
record AllFit (names : List (List ℕ)) (ps : List Pred) (cs : List Clause) (qs : List Query) : Type 0 where
  distinct : are_abducible ps ≡ true
  abducibles : list_all (abducible_fits names) ps ≡ true
  clauses : list_all (clause_fits names) cs ≡ true
  queries : list_all (query_fits names) qs ≡ true
  few : length cs + length qs + length ps ≤ CLAUSE_LIMIT

all-fit : (names : List (List ℕ)) (ps : List Pred) (cs : List Clause) (qs : List Query) → text_fits names ps cs qs ≡ true → AllFit names ps cs qs
all-fit names ps cs qs g =
    let ds = abducibles_fit names ps in
    let c = list_all (clause_fits names) cs in
    let q = list_all (query_fits names) qs in
    let few = nat_le (length cs + length qs + length ps) CLAUSE_LIMIT in
    let a = and_parts (ds && c && q) few g in
    let b = and_parts (ds && c) q a.0 in
    let d = and_parts ds c b.0 in
    let e = and_parts (are_abducible ps) (list_all (abducible_fits names) ps) d.0 in
    record { distinct = e.0; abducibles = e.1; clauses = d.1; queries = b.1; few = fewer (length cs + length qs + length ps) a.1 }
  where
    fewer : (n : ℕ) → nat_le n CLAUSE_LIMIT ≡ true → n ≤ CLAUSE_LIMIT
    fewer n h = grind (arith, nat_tests)

pub text-read : (names : List (List ℕ)) (table : IsTable names) (ps : List Pred) (cs : List Clause) (qs : List Query) → text_fits names ps cs qs ≡ true → length (lines_text names ps cs qs) ≤ BYTE_LIMIT
    → read names (lines_text names ps cs qs) ≡ Ok (reading ps cs qs names)
text-read names table ps cs qs g small =
    let fit = all-fit names ps cs qs g in
    let few = fit.few in
    let first = flat_map (abducible_text names) ps in
    let second = flat_map (clause_text names) cs in
    let third = flat_map (query_text names) qs in
    let bytes = first ++ second ++ third in
    let fuel = length (tokens_behind 0 0 bytes) in
    let one = with_abducibles names no_parts ps in
    let two = with_clauses names one cs in
    let last = with_queries names two qs in
    let reads =
    both-read names (first ++ second) third no_parts two last
    (both-read names first second no_parts one two (abducibles-read names table ps no_parts fit.distinct fit.abducibles (omega (arith, few))) (clauses-read names table cs one fit.clauses (omega (arith, few))))
    (queries-read names table qs two fit.queries (omega (arith, few))) in
    let bare = append-nil bytes in
    let whole : length (tokens_behind 0 0 (bytes ++ [])) ≤ fuel = subst (λ bs. length (tokens_behind 0 0 bs) ≤ fuel) (sym bare) (omega arith) in
    let all = reads [] [] fuel 0 whole in
    read-is names bytes small ∙ reading-is names bytes
    ∙ ap told
    (ap (λ bs. parts_within fuel no_parts (ready names [] 0 bs)) (sym bare)
    ∙ all.same
    ∙ end-read names all.known all.left (0 + length bytes) last all.enough)
    ∙ ap (λ firsts. Ok (reading firsts cs qs names)) (first-same ps fit.distinct)

-- ---- programs

pub program-read : (names : List (List ℕ)) (table : IsTable names) (ps : List Pred) (cs : List Clause) (qs : List Query) → text_fits names ps cs qs ≡ true
    → length (program_text names ps (with_denials cs qs) qs) ≤ BYTE_LIMIT → program_in names (program_text names ps (with_denials cs qs) qs) ≡ Ok (reading ps (with_denials cs qs) qs names)
unfolding program_text
program-read names table ps cs qs g small =
    let text = λ (ws : List Clause). lines_text names ps ws qs in
    let same = written-is cs qs in
    let fewer = subst (λ ws. length (text ws) ≤ BYTE_LIMIT) same small in
    ap (λ ws. program_in names (text ws)) same ∙ ap completed (text-read names table ps cs qs g fewer)
