-- Facts, rules and denials are read back.
use Rattle.std.proofs.Common.{◌≡◌, ℕ, ◌+◌, ◌≤◌, true, false, ◌&&◌, List, [], ◌∷◌, ◌++◌, length, take, codes, Option, None, Some, Ok, refl, sym, ap, subst, ◌∙◌, arith, append_assoc, append-nil, length-append}
use Rattle.std.specs.Prelude.{nat_le}
use Rattle.std.proofs.lemmas.Bool.{and_parts, false≢true}
use Rattle.std.proofs.lemmas.Bool.Decides.{nat_tests}
use Rattle.std.proofs.lemmas.List.{take_all}
use borrow.Author.Tests.{eqb-true}
use Rattle.scasp_syntax.specs.declared.atom.Atom.{Atom}
use Rattle.scasp_syntax.specs.declared.clause.Clause.{Clause}
use Rattle.scasp_syntax.specs.declared.clause.Item.{Item}
use Rattle.scasp_reader_tokens.specs.declared.sign.Sign.TheVariants as sign
use Rattle.scasp_reader_tokens.specs.declared.token.Placed.{Placed}
use Rattle.scasp_reader_tokens.specs.declared.token.Token.TheVariants as token
use Rattle.scasp_reader_tokens.specs.Tokens.{placed, tokens_behind}
use Rattle.scasp_reader_terms.specs.declared.reader.TheConstants.{VARIABLE_LIMIT}
use Rattle.scasp_reader_terms.specs.Steps.{State, token_of, is_sign}
use Rattle.scasp_reader.specs.Bodies.Atoms.{atom}
use Rattle.scasp_reader.specs.Bodies.Bodies.{body}
use Rattle.scasp_reader.specs.declared.texts.clauses.Part.{Part}
use Rattle.scasp_reader.specs.declared.texts.clauses.Part.TheVariants as part
use Rattle.scasp_reader.specs.Texts.Clauses.{headed, denial, clause_at, clause}
use Rattle.scasp_print_program.specs.Terms.{Style, atom_text}
use Rattle.scasp_print_program.specs.Items.{items_text}
use Rattle.scasp_print_program.specs.Programs.{rule_variables, head_text, body_text, sign_text, clause_text}
use Rattle.scasp_law_program_text.proofs.ReadbackLemmas.SignReading.{blank_read, line_read, stop_read, if_read}
use Rattle.scasp_law_program_text.specs.TermReadback.Reading.{before, behind_term, EndsTerm}
use Rattle.scasp_law_program_text.proofs.TermReadbackLemmas.Ends.{stop_ends}
use Rattle.scasp_law_program_text.specs.CompoundReadback.Styles.{IsTable, IsStyle}
use Rattle.scasp_law_program_text.specs.CompoundReadback.Counting.{count_all}
use Rattle.scasp_law_program_text.specs.CompoundReadback.Reading.{had}
use Rattle.scasp_law_program_text.proofs.CompoundReadbackLemmas.Terms.{bind-parts}
use Rattle.scasp_law_program_text.specs.ClauseReadback.Fitting.{atom_fits, body_fits}
use Rattle.scasp_law_program_text.specs.ClauseReadback.Counting.{count_body}
use Rattle.scasp_law_program_text.specs.ClauseReadback.Parts.{is_count, rule_style, parts_fit, count_parts, clause_fits, in_table, behind_part, ReadsPart}
use Rattle.scasp_law_program_text.proofs.ClauseReadbackLemmas.Atoms.{atom-read, atom-front}
use Rattle.scasp_law_program_text.proofs.ClauseReadbackLemmas.Bodies.{body-read}
use Rattle.scasp_law_program_text.proofs.ClauseReadbackLemmas.RuleVariables.{length-rule, rule-style}

-- ---- tokens between the parts

-- a stop and the line's end
pub stop-tokens : (rest : List ℕ) (at : ℕ) → tokens_behind 0 at (46 ∷ 10 ∷ rest) ≡ placed at (token.Sign sign.Stop) ∷ tokens_behind 0 (at + 2) rest
stop-tokens rest at =
    let shift : at + 1 + 1 ≡ at + 2 = omega arith in
    stop_read rest at ∙ ap (λ ts. placed at (token.Sign sign.Stop) ∷ ts) (line_read rest (at + 1) ∙ ap (λ p. tokens_behind 0 p rest) shift)

-- `:-` and a blank
pub denial-tokens : (rest : List ℕ) (at : ℕ) → tokens_behind 0 at (58 ∷ 45 ∷ 32 ∷ rest) ≡ placed at (token.Sign sign.If) ∷ tokens_behind 0 (at + 3) rest
denial-tokens rest at =
    let shift : at + 2 + 1 ≡ at + 3 = omega arith in
    if_read (32 ∷ rest) at ∙ ap (λ ts. placed at (token.Sign sign.If) ∷ ts) (blank_read rest (at + 2) ∙ ap (λ p. tokens_behind 0 p rest) shift)

-- the same behind a blank
pub if-tokens : (rest : List ℕ) (at : ℕ) → tokens_behind 0 at (32 ∷ 58 ∷ 45 ∷ 32 ∷ rest) ≡ placed (at + 1) (token.Sign sign.If) ∷ tokens_behind 0 (at + 4) rest
if-tokens rest at =
    let shift : at + 1 + 3 ≡ at + 4 = omega arith in
    blank_read (58 ∷ 45 ∷ 32 ∷ rest) at ∙ denial-tokens rest (at + 1) ∙ ap (λ p. placed (at + 1) (token.Sign sign.If) ∷ tokens_behind 0 p rest) shift

pub if-ends : (rest : List ℕ) → EndsTerm (32 ∷ 58 ∷ 45 ∷ 32 ∷ rest)
if-ends rest = ((refl, λ at. ap (λ ts. is_sign sign.Over (token_of ts)) (if-tokens rest at)), (refl, λ at. ap (λ ts. is_sign sign.Open (token_of ts)) (if-tokens rest at)))

-- ---- steps

abbrev clause_of : Option Atom → List Item → ℕ → Part
clause_of head items n = part.Clause (record { head = head; body = items; vars = n })

fact-step : (s s1 : State) (ts : List Placed) (b : ℕ) (a : Atom) → atom s ≡ Ok (a, record s1 { tokens = placed b (token.Sign sign.Stop) ∷ ts })
    → headed s ≡ Ok (clause_of (Some a) [] (length s1.variables), record s1 { tokens = ts; is_behind_operand = false })
fact-step s s1 ts b a e = rw e refl

rule-step : (s s1 s2 : State) (ts us : List Placed) (b c : ℕ) (a : Atom) (is : List Item) → atom s ≡ Ok (a, record s1 { tokens = placed b (token.Sign sign.If) ∷ ts })
    → body (record s1 { tokens = ts; is_behind_operand = false }) ≡ Ok (is, record s2 { tokens = placed c (token.Sign sign.Stop) ∷ us })
    → headed s ≡ Ok (clause_of (Some a) is (length s2.variables), record s2 { tokens = us; is_behind_operand = false })
rule-step s s1 s2 ts us b c a is e f = rw (e, f) refl

denial-step : (s s2 : State) (ts us : List Placed) (b c : ℕ) (is : List Item)
    → body (record s { tokens = ts; is_behind_operand = false }) ≡ Ok (is, record s2 { tokens = placed c (token.Sign sign.Stop) ∷ us })
    → denial (record s { tokens = placed b (token.Sign sign.If) ∷ ts }) ≡ Ok (clause_of None is (length s2.variables), record s2 { tokens = us; is_behind_operand = false })
denial-step s s2 ts us b c is e = rw e refl

-- the text of a clause of this head and body
abbrev pub text_of : Style → Option Atom → List Item → List ℕ
text_of w head is = (head_text w head ++ body_text w (sign_text head) is) ++ codes ".\n"

-- ---- a clause of a style

module _ (w : Style) (style : IsStyle w) (s : State) (rest : List ℕ) (at : ℕ) where
  abbrev stop : List ℕ
  stop = 46 ∷ 10 ∷ rest

  -- behind a clause, where the text ends here
  abbrev behind : ℕ → ℕ → State
  behind m a = behind_part w.names (take m w.variables) s a rest

  abbrev first : List ℕ → State
  first bytes = before (had w 0 s) at bytes

  begins : (a : Atom) (n : ℕ) → atom_fits w a ≡ true → count_all w 0 a.args ≡ Some n → (bytes : List ℕ) → EndsTerm bytes
      → clause_at (token_of (tokens_behind 0 at (atom_text w a ++ bytes))) (first (atom_text w a ++ bytes)) ≡ headed (first (atom_text w a ++ bytes))
  begins a n g c bytes end = atom-front w style a 0 n g c (λ t. clause_at t (first (atom_text w a ++ bytes)) ≡ headed (first (atom_text w a ++ bytes))) (λ text. refl) refl bytes at end

  fact-read : (a : Atom) (m : ℕ) → atom_fits w a ≡ true → count_all w 0 a.args ≡ Some m
      → headed (first (atom_text w a ++ stop)) ≡ Ok (clause_of (Some a) [] (length (take m w.variables)), behind m (at + length (atom_text w a) + 2))
  fact-read a m g c =
      let b = at + length (atom_text w a) in
      fact-step (first (atom_text w a ++ stop)) (behind_term (had w m s) b stop) (tokens_behind 0 (b + 2) rest) b a
      (atom-read w style a 0 m g c s stop (stop_ends rest) at ∙ ap (λ ts. Ok (a, record (behind_term (had w m s) b stop) { tokens = ts })) (stop-tokens rest b))

  rule-read : (a : Atom) (is : List Item) (n m : ℕ) → atom_fits w a ≡ true → count_all w 0 a.args ≡ Some n → body_fits w is ≡ true → count_body w n is ≡ Some m
      → headed (first (atom_text w a ++ (32 ∷ 58 ∷ 45 ∷ 32 ∷ (items_text w true is ++ stop))))
      ≡ Ok (clause_of (Some a) is (length (take m w.variables)), behind m (at + length (atom_text w a) + 4 + length (items_text w true is) + 2))
  rule-read a is n m g c h d =
      let text = items_text w true is in
      let bytes = 32 ∷ 58 ∷ 45 ∷ 32 ∷ (text ++ stop) in
      let b = at + length (atom_text w a) in
      let e = b + 4 + length text in
      rule-step (first (atom_text w a ++ bytes)) (behind_term (had w n s) b bytes) (behind_term (had w m s) e stop) (tokens_behind 0 (b + 4) (text ++ stop)) (tokens_behind 0 (e + 2) rest) (b + 1) e a is
      (atom-read w style a 0 n g c s bytes (if-ends (text ++ stop)) at ∙ ap (λ ts. Ok (a, record (behind_term (had w n s) b bytes) { tokens = ts })) (if-tokens (text ++ stop) b))
      (body-read w style is n m h d (record s { is_behind_operand = false }) rest (b + 4) ∙ ap (λ ts. Ok (is, record (behind_term (had w m s) e stop) { tokens = ts })) (stop-tokens rest e))

  denial-read : (is : List Item) (m : ℕ) → body_fits w is ≡ true → count_body w 0 is ≡ Some m
      → clause_at (token_of (tokens_behind 0 at (58 ∷ 45 ∷ 32 ∷ (items_text w true is ++ stop)))) (first (58 ∷ 45 ∷ 32 ∷ (items_text w true is ++ stop)))
      ≡ Ok (clause_of None is (length (take m w.variables)), behind m (at + 3 + length (items_text w true is) + 2))
  denial-read is m h d =
      let text = items_text w true is in
      let e = at + 3 + length text in
      let ts = tokens_behind 0 (at + 3) (text ++ stop) in
      ap (λ ts. clause_at (token_of ts) (record (had w 0 s) { tokens = ts })) (denial-tokens (text ++ stop) at)
      ∙ denial-step (had w 0 s) (behind_term (had w m s) e stop) ts (tokens_behind 0 (e + 2) rest) at e is
      (body-read w style is 0 m h d (record s { is_behind_operand = false }) rest (at + 3) ∙ ap (λ ts. Ok (is, record (behind_term (had w m s) e stop) { tokens = ts })) (stop-tokens rest e))

  pub parts-read : (head : Option Atom) (is : List Item) (m : ℕ) → parts_fit w head is ≡ true → count_parts w head is ≡ Some m
      → clause_at (token_of (tokens_behind 0 at (text_of w head is ++ rest))) (first (text_of w head is ++ rest)) ≡ Ok (clause_of head is (length (take m w.variables)), behind m (at + length (text_of w head is)))
  parts-read None [] m g c = absurd (false≢true g)
  parts-read None (i ∷ is) m g c =
      let text = items_text w true (i ∷ is) in
      let place : at + 3 + length text + 2 ≡ at + length ((58 ∷ 45 ∷ 32 ∷ text) ++ codes ".\n") = omega (arith, length-append (58 ∷ 45 ∷ 32 ∷ text) (codes ".\n")) in
      ap (λ bs. clause_at (token_of (tokens_behind 0 at (58 ∷ 45 ∷ 32 ∷ bs))) (first (58 ∷ 45 ∷ 32 ∷ bs))) (append_assoc text (codes ".\n") rest)
      ∙ denial-read (i ∷ is) m g c
      ∙ ap (λ a. Ok (clause_of None (i ∷ is) (length (take m w.variables)), behind m a)) place
  parts-read (Some a) [] m g c =
      let text = atom_text w a in
      let parts = bind-parts (count_all w 0 a.args) (λ n. Some n) m c in
      let same : parts.0 ≡ m = cc in
      let here = subst (λ m. count_all w 0 a.args ≡ Some m) same parts.1 in
      let bare : ((text ++ []) ++ codes ".\n") ++ rest ≡ text ++ stop = append_assoc (text ++ []) (codes ".\n") rest ∙ ap (λ l. l ++ stop) (append-nil text) in
      let place : at + length text + 2 ≡ at + length ((text ++ []) ++ codes ".\n") = omega (arith, length-append (text ++ []) (codes ".\n"), length-append text []) in
      ap (λ bs. clause_at (token_of (tokens_behind 0 at bs)) (first bs)) bare
      ∙ begins a m g here stop (stop_ends rest)
      ∙ fact-read a m g here
      ∙ ap (λ p. Ok (clause_of (Some a) [] (length (take m w.variables)), behind m p)) place
  parts-read (Some a) (i ∷ is) m g c =
      let head = atom_text w a in
      let text = items_text w true (i ∷ is) in
      let bytes = 32 ∷ 58 ∷ 45 ∷ 32 ∷ (text ++ stop) in
      let p = and_parts (atom_fits w a) (body_fits w (i ∷ is)) g in
      let parts = bind-parts (count_all w 0 a.args) (λ n. count_body w n (i ∷ is)) m c in
      let inner = 32 ∷ 58 ∷ 45 ∷ 32 ∷ text in
      let grouped : ((head ++ inner) ++ codes ".\n") ++ rest ≡ head ++ bytes =
      append_assoc (head ++ inner) (codes ".\n") rest ∙ append_assoc head inner stop in
      let place : at + length head + 4 + length text + 2 ≡ at + length ((head ++ inner) ++ codes ".\n") = omega (arith, length-append (head ++ inner) (codes ".\n"), length-append head inner) in
      ap (λ bs. clause_at (token_of (tokens_behind 0 at bs)) (first bs)) grouped
      ∙ begins a parts.0 p.0 parts.1 bytes (if-ends (text ++ stop))
      ∙ rule-read a (i ∷ is) parts.0 m p.0 parts.1 p.1 parts.2
      ∙ ap (λ p. Ok (clause_of (Some a) (i ∷ is) (length (take m w.variables)), behind m p)) place

-- ---- every clause

pub counted : (o : Option ℕ) (n : ℕ) → is_count o n ≡ true → o ≡ Some n
counted None n e = absurd (false≢true e)
counted (Some m) n e = ap Some (eqb-true m n e)

clause-is : (s : State) → clause s ≡ clause_at (token_of s.tokens) (record s { variables = [] })
unfolding clause
clause-is s = refl

pub clause_text-is : (names : List (List ℕ)) (c : Clause)
    → clause_text names c ≡ text_of (rule_style names c.vars) c.head c.body
unfolding clause_text
clause_text-is names c = refl

-- what a clause that is within the limits fulfils
pub record Fit (names : List (List ℕ)) (c : Clause) : Type 0 where
  pub style : IsStyle (rule_style names c.vars)
  pub parts : parts_fit (rule_style names c.vars) c.head c.body ≡ true
  pub variables : count_parts (rule_style names c.vars) c.head c.body ≡ Some c.vars

pub clause-fit : (names : List (List ℕ)) (table : IsTable names) (c : Clause) → clause_fits names c ≡ true → Fit names c
clause-fit names table c g =
    let w = rule_style names c.vars in
    let fit = parts_fit w c.head c.body in
    let few = nat_le c.vars VARIABLE_LIMIT in
    let p = and_parts (few && fit) (is_count (count_parts w c.head c.body) c.vars) g in
    let q = and_parts few fit p.0 in
    record { style = rule-style names c.vars table (small q.0); parts = q.1; variables = counted (count_parts w c.head c.body) c.vars p.1 }
  where
    small : nat_le c.vars VARIABLE_LIMIT ≡ true → c.vars ≤ 64
    small h = grind (arith, nat_tests)

pub clause-read : (names : List (List ℕ)) (table : IsTable names) (c : Clause) → clause_fits names c ≡ true → (s : State) (rest : List ℕ)
    → ReadsPart names clause (clause_text names c) (part.Clause c) (rule_variables 0 c.vars) s rest
clause-read names table c g s rest at =
    let w = rule_style names c.vars in
    let fit = clause-fit names table c g in
    let all : take c.vars w.variables ≡ rule_variables 0 c.vars = take_all c.vars (rule_variables 0 c.vars) (omega (arith, length-rule 0 c.vars)) in
    let number : length (take c.vars w.variables) ≡ c.vars = ap length all ∙ length-rule 0 c.vars in
    subst (λ text. clause (before (in_table names s) at (text ++ rest)) ≡ Ok (part.Clause c, behind_part names (rule_variables 0 c.vars) s (at + length text) rest)) (sym (clause_text-is names c))
    (clause-is (before (in_table names s) at (text_of w c.head c.body ++ rest))
    ∙ parts-read w fit.style s rest at c.head c.body c.vars fit.parts fit.variables
    ∙ ap (λ n. Ok (clause_of c.head c.body n, behind_part names (take c.vars w.variables) s (at + length (text_of w c.head c.body)) rest)) number
    ∙ ap (λ vs. Ok (part.Clause c, behind_part names vs s (at + length (text_of w c.head c.body)) rest)) all)
