-- Terms without arguments are read back, in a clause of a style.
use Rattle.std.proofs.Common.{◌≡◌, ℕ, ◌+◌, ◌-◌, ◌<◌, Bool, true, false, not, ◌==◌, nat_lt, List, [], ◌∷◌, ◌++◌, length, take, codes, None, Some, Ok, refl, sym, ap, subst, ◌∙◌, arith}
use Rattle.std.specs.Prelude.{if◌then◌else◌}
use Rattle.std.proofs.lemmas.Bool.{and_parts, false≢true}
use Rattle.std.proofs.lemmas.Bool.Decides.{nat_tests}
use borrow.Author.Tests.{eqb-true}
use Rattle.scasp_num.specs.Number.{Number}
use Rattle.scasp_num.specs.Arithmetic.{in_range}
use Rattle.scasp_name.specs.Texts.{with_text}
use Rattle.scasp_syntax.specs.Tm.{var, num, app, nil}
use Rattle.scasp_cert.specs.Text.Names.{text_at, name_text}
use Rattle.scasp_cert.specs.Text.Terms.{number_text}
use Rattle.scasp_reader_terms.specs.declared.reader.TheConstants.{VARIABLE_LIMIT}
use Rattle.scasp_reader_terms.specs.Steps.{State}
use Rattle.scasp_reader_terms.specs.Terms.{term}
use Rattle.scasp_print_program.specs.Terms.{Style, variable_text, constant_text}
use Rattle.scasp_law_program_text.specs.TermReadback.Reading.{behind_term, EndsTerm}
use Rattle.scasp_law_program_text.proofs.TermReadbackLemmas.NumberTerms.{number-term}
use Rattle.scasp_law_program_text.proofs.TermReadbackLemmas.LeafTerms.{known-term, first-term, name-term, list-term}
use Rattle.scasp_law_program_text.specs.CompoundReadback.Styles.{is_anonymous, IsStyle}
use Rattle.scasp_law_program_text.specs.CompoundReadback.Fitting.{number_fits}
use Rattle.scasp_law_program_text.specs.CompoundReadback.Counting.{is_known, is_next, count_variable}
use Rattle.scasp_law_program_text.specs.CompoundReadback.Reading.{had, Reads}
use Rattle.scasp_law_program_text.proofs.CompoundReadbackLemmas.Tables.{name-utf8, name-place, name-there, list-name, variable-is, variable-known, variable-new, variables-had, variables-more}
use Rattle.scasp_law_program_text.proofs.CompoundReadbackLemmas.Tokens.{within-range}

pub number-reads : (w : Style) (room n : ℕ) (q : Number) (s : State) (rest : List ℕ) → number_fits q ≡ true → EndsTerm rest → Reads w n n (term room) (number_text q) (num q) s rest
number-reads w room n q s rest h end =
    let p = and_parts (in_range q.num) (in_range q.den) h in number-term q rest room (had w n s) (within-range q.num p.0) (within-range q.den p.1) end.0

module _ (w : Style) (style : IsStyle w) (room : ℕ) where
  -- ---- variables

  module _ (x : ℕ) (h : nat_lt x (length w.variables) ≡ true) (s : State) (rest : List ℕ) (end : EndsTerm rest) where
    known : (n : ℕ) → is_known w n x ≡ true → Reads w n n (term room) (variable_text w x) (var x) s rest
    known n k =
        let p = and_parts (nat_lt x n) _ k in
        let below : x < n = grind (arith, nat_tests, p) in
        known-term (variable_text w x) rest room x (had w n s) (variable-is w style x h) end.1.0 (variable-known w style x h n below (named p.1))
      where
        named : not (is_anonymous (variable_text w x)) ≡ true → is_anonymous (variable_text w x) ≡ false
        named e = by (is_anonymous (variable_text w x)) e
          where
            by : (b : Bool) → not b ≡ true → b ≡ false
            by true e = absurd (false≢true e)
            by false e = refl

    next : nat_lt x VARIABLE_LIMIT ≡ true → Reads w x (x + 1) (term room) (variable_text w x) (var x) s rest
    next k at =
        let text = variable_text w x in
        let ts = take x w.variables in
        let had-x : length ts ≡ x = variables-had w style x h in
        let room-left : length ts < VARIABLE_LIMIT = subst (λ n. n < VARIABLE_LIMIT) (sym had-x) (below k) in
        first-term text rest room (had w x s) (variable-is w style x h) end.1.0 (variable-new w style x h) room-left at
        ∙ ap (λ n. Ok (var n, record (behind_term (had w x s) (at + length text) rest) { variables = ts ++ text ∷ [] })) had-x
        ∙ ap (λ vs. Ok (var x, record (behind_term (had w x s) (at + length text) rest) { variables = vs })) (variables-more w style x h)
      where
        below : nat_lt x VARIABLE_LIMIT ≡ true → x < VARIABLE_LIMIT
        below e = grind (arith, nat_tests)

    pub variable-reads : (n m : ℕ) → count_variable w n x ≡ Some m → Reads w n m (term room) (variable_text w x) (var x) s rest
    variable-reads n m e = by (is_known w n x) refl e
      where
        second : (b : Bool) → is_next n x ≡ b → (if b then Some (n + 1) else None) ≡ Some m → Reads w n m (term room) (variable_text w x) (var x) s rest
        second true k e =
            let more : n + 1 ≡ m = cc in
            let p = and_parts (x == n) (nat_lt n VARIABLE_LIMIT) k in
            let same : x ≡ n = eqb-true x n p.0 in
            subst (λ m. Reads w n m (term room) (variable_text w x) (var x) s rest) more
            (subst (λ n. Reads w n (n + 1) (term room) (variable_text w x) (var x) s rest) same (next (ap (λ y. nat_lt y VARIABLE_LIMIT) same ∙ p.1)))
        second false k e = cc

        by : (b : Bool) → is_known w n x ≡ b → (if b then Some n else (if is_next n x then Some (n + 1) else None)) ≡ Some m → Reads w n m (term room) (variable_text w x) (var x) s rest
        by true k e = let same : n ≡ m = cc in subst (λ m. Reads w n m (term room) (variable_text w x) (var x) s rest) same (known n k)
        by false k e = second (is_next n x) refl e

  -- ---- names

  module _ (n f : ℕ) (h : nat_lt f (length w.names) ≡ true) (s : State) (rest : List ℕ) (end : EndsTerm rest) where
    pub name-reads : Reads w n n (term room) (name_text w.names f) (app f nil) s rest
    name-reads at =
        let text = text_at w.names f in
        let now = behind_term (had w n s) (at + length (name_text w.names f)) rest in
        name-term text rest room (had w n s) (name-utf8 w style f h) end.1 at
        ∙ ap (λ g. Ok (app g nil, record now { names = with_text w.names text })) (name-place w style f h)
        ∙ ap (λ ns. Ok (app f nil, record now { names = ns })) (name-there w style f h)

    pub constant-reads : Reads w n n (term room) (constant_text w room f) (app f nil) s rest
    constant-reads = by (f == 0) refl
      where
        empty : (b : Bool) → (room == 0) ≡ b → f ≡ 0 → Reads w n n (term room) (if b then codes "'[]'" else codes "[]") (app f nil) s rest
        empty true r first = subst (λ text. Reads w n n (term room) text (app f nil) s rest) (ap (name_text w.names) first ∙ list-name w style) name-reads
        empty false r first =
            let more : room - 1 + 1 ≡ room = grind (arith, nat_tests) in
            subst (λ g. Reads w n n (term room) (codes "[]") (app g nil) s rest) (sym first)
            (subst (λ k. Reads w n n (term k) (codes "[]") (app 0 nil) s rest) more (list-term rest (room - 1) (had w n s)))

        by : (b : Bool) → (f == 0) ≡ b → Reads w n n (term room) (if b then (if room == 0 then codes "'[]'" else codes "[]") else name_text w.names f) (app f nil) s rest
        by true e = empty (room == 0) refl (eqb-true f 0 e)
        by false e = name-reads
