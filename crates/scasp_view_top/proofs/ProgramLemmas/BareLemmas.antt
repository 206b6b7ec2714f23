-- What the lines are without their numbers.
use Rattle.std.proofs.Common.{◌≡◌, ◌<◌, ◌≤◌, ℕ, zero, suc, ◌+◌, ◌-◌, Bool, true, false, if◌then◌else◌, List, [], ◌∷◌, ◌++◌, length, take, drop, flat_map, refl, sym, ◌∙◌, ap, ap₂, arith, length-take-le, le-ltb, lt-ltb, sub-le, zero-add}
use Rattle.std.proofs.Math.Seq.{take-length, take-nil}
use Rattle.scasp_syntax.specs.declared.atom.Pred.{Pred}
use Rattle.scasp_syntax.specs.declared.clause.Clause.{Clause}
use Rattle.scasp_syntax.specs.declared.clause.Query.{Query}
use Rattle.scasp_reader.specs.Programs.Programs.{program_in}
use Rattle.scasp_print_program.specs.Abducibles.{abducible_text}
use Rattle.scasp_print_program.specs.Programs.{are_denials, clause_text, negated_predicates, program_text, query_text, written}
use Rattle.scasp_view_top.specs.Program.Lines.{abducible_lines, clause_lines, query_lines}
use Rattle.scasp_view_top.specs.Program.Meaning.{bare_line, bare_text}

module _ (names : List (List ℕ)) where
  bare-abducibles : (ps : List Pred) → flat_map bare_line (abducible_lines names ps) ≡ flat_map (abducible_text names) ps
  bare-abducibles [] = refl
  bare-abducibles (p ∷ ps) = ap (λ (z : List ℕ). abducible_text names p ++ z) (bare-abducibles ps)

  -- behind the written clauses nothing is left
  bare-generated : (count n : ℕ) (cs : List Clause) → count < n → flat_map bare_line (clause_lines names count n cs) ≡ []
  bare-generated count n [] h = refl
  bare-generated count n (c ∷ cs) h = rw (lt-ltb count n h) (bare-generated count (n + 1) cs (omega (arith, h)))

  -- of k clauses that are written, behind n others, the texts are left
  bare-written : (count k n : ℕ) (cs : List Clause) → count ≡ n + k
      → flat_map bare_line (clause_lines names count (n + 1) cs) ≡ flat_map (clause_text names) (take k cs)
  bare-written count k n [] e = rw (take-nil {A = Clause} k) refl
  bare-written count zero n (c ∷ cs) e = bare-generated count (n + 1) (c ∷ cs) (omega (arith, e))
  bare-written count (suc k) n (c ∷ cs) e =
      rw (le-ltb count (n + 1) (omega (arith, e))) (ap (λ (z : List ℕ). clause_text names c ++ z) (bare-written count k (n + 1) cs (omega (arith, e))))

  bare-queries : (n : ℕ) (qs : List Query) → flat_map bare_line (query_lines names n qs) ≡ flat_map (query_text names) qs
  bare-queries n [] = refl
  bare-queries n (q ∷ qs) = ap (λ (z : List ℕ). query_text names q ++ z) (bare-queries (n + 1) qs)

-- the written clauses are the first ones
first-of : (n : ℕ) (cs : List Clause) → n ≤ length cs → (b : Bool) → take (length (if b then take n cs else cs)) cs ≡ (if b then take n cs else cs)
first-of n cs within true = ap (λ (m : ℕ). take m cs) (length-take-le n cs within)
first-of n cs within false = take-length cs

written-first : (clauses : List Clause) (queries : List Query) → take (length (written clauses queries)) clauses ≡ written clauses queries
written-first clauses queries =
    let ps = negated_predicates clauses queries in
    let n = length clauses - length ps in
    first-of n clauses (sub-le (length clauses) (length ps)) (are_denials ps (drop n clauses))

pub numbers-added : (names : List (List ℕ)) (abducibles : List Pred) (clauses : List Clause) (queries : List Query) → bare_text names abducibles clauses queries ≡ program_text names abducibles clauses queries
unfolding program_text
numbers-added names abducibles clauses queries =
    let count = length (written clauses queries) in
    ap₂ (λ (x y : List ℕ). x ++ y)
    (ap₂ (λ (x y : List ℕ). x ++ y) (bare-abducibles names abducibles) (bare-written names count count 0 clauses (sym (zero-add count)) ∙ ap (flat_map (clause_text names)) (written-first clauses queries)))
    (bare-queries names 1 queries)

pub read-as : (names table : List (List ℕ)) (abducibles : List Pred) (clauses : List Clause) (queries : List Query)
    → program_in table (bare_text names abducibles clauses queries) ≡ program_in table (program_text names abducibles clauses queries)
read-as names table abducibles clauses queries = ap (program_in table) (numbers-added names abducibles clauses queries)
