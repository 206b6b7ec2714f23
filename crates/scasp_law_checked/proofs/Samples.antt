-- The samples of searches have values with names behind those of a table.
use Rattle.std.specs.Prelude.{◌≡◌, ℕ, zero, suc, ◌+◌, ◌≤◌, nat_le, nat_lt, Bool, true, false, ◌&&◌, if◌then◌else◌, List, [], length, Option, None, Some, Result, Ok, Err}
use Rattle.std.specs.List.{list_all}
use Rattle.std.proofs.Common.{◌∙◌, ap, arith, refl, subst, sym}
use Rattle.std.proofs.lemmas.Bool.{and_from}
use Rattle.std.proofs.lemmas.Bool.Decides.{nat_tests}
use Rattle.scasp_answers_terms.specs.Tokens.Bounds.{term_fits, terms_fit}
use Rattle.scasp_law_tables.specs.Moved.{are_values}
use Rattle.scasp_list.specs.Each.{Each}
use Rattle.scasp_list.proofs.EachLemmas.{Each-at}
use Rattle.scasp_nmr.specs.declared.items.CheckItem.{CheckItem}
use Rattle.scasp_num.specs.Arithmetic.{◌>>=◌}
use Rattle.scasp_num.specs.declared.linear.RatPair.{RatPair}
use Rattle.scasp_num.proofs.Exact.{bind-some}
use Rattle.scasp_rows.specs.Samples.{sample_of, value_in}
use Rattle.scasp_rows.specs.declared.state.Halt.{Halt}
use Rattle.scasp_rows.specs.declared.state.Halt.TheVariants as halt
use Rattle.scasp_search_ends.specs.Ends.Ends.{problem}
use Rattle.scasp_sample.specs.Sampling.{all_differ, all_plain, evaluated, is_in_range, point_by, point_for, values_from}
use Rattle.scasp_syntax.specs.Programs.{numbered}
use Rattle.scasp_syntax.specs.Tm.{Tms, num, app, nil, cons, items}
use Rattle.scasp_syntax.specs.Values.{giving}
use Rattle.scasp_syntax.specs.declared.clause.Query.{Query}
use Rattle.scasp_syntax.specs.declared.con.Con.{Con}
use Rattle.scasp_syntax.specs.declared.predicate_map.PredMap.{PredMap}
use Rattle.scasp_syntax.specs.declared.program.Program.{Program}
use Rattle.scasp_unify.specs.Numbers.{number_var}
use Rattle.scasp_unify.specs.Resolver.{resolver}
use Rattle.scasp_law_printable.specs.Printable.{NamesSamples, ReadProgramsAreWithin}
use Rattle.scasp_law_printable.specs.Within.{QueryWithin}
use Rattle.scasp_law_checked.specs.Checked.{SearchesAreNamed}
use Rattle.scasp_law_checked.proofs.NumberRanges.{PairFits, sample-in, value-fits}

-- ---- the point

by-in : (o : Result (Option (List RatPair)) Halt) (point : List RatPair) → ((p : List RatPair) → o ≡ Ok (Some p) → Each PairFits p) → Some point ≡ point_by o → Each PairFits point
by-in (Ok None) point h e = let same : [] ≡ point = cc e in subst (Each PairFits) same tt
by-in (Ok (Some p)) point h e = let same : p ≡ point = cc e in subst (Each PairFits) same (h p refl)
by-in (Err (halt.Unsat steps)) point h e = let same : [] ≡ point = cc e in subst (Each PairFits) same tt
by-in (Err halt.Overflow) point h e = absurd (cc e)
by-in (Err halt.Memory) point h e = absurd (cc e)

point-in : (cs : List Con) (point : List RatPair) → Some point ≡ point_for cs → Each PairFits point
point-in cs point e =
    let a = bind-some (all_plain (resolver cs) cs) (λ rows. all_differ cs cs >>= (λ differ. point_by (sample_of rows differ))) point e in
    let b = bind-some (all_differ cs cs) (λ differ. point_by (sample_of a.0 differ)) point a.2 in
    by-in (sample_of a.0 b.0) point (λ p f. sample-in a.0 b.0 p f) b.2

-- ---- the values

module _ (is_number : ℕ → Bool) (point : List RatPair) where
  long : (fresh x n : ℕ) → length (items (values_from is_number point fresh x n)) ≡ n
  long fresh x zero = refl
  long fresh x (suc n) = by (is_number x) (long fresh (suc x) n) (long (suc fresh) (suc x) n)
    where
      by : (b : Bool) → length (items (values_from is_number point fresh (suc x) n)) ≡ n → length (items (values_from is_number point (suc fresh) (suc x) n)) ≡ n
          → length (items (if b then cons (num (value_in point x)) (values_from is_number point fresh (suc x) n) else cons (app fresh nil) (values_from is_number point (suc fresh) (suc x) n))) ≡ suc n
      by true h k = ap suc h
      by false h k = ap suc k

  behind : (count total fresh x n : ℕ) → count ≤ fresh → fresh + n ≤ total → are_values count total (values_from is_number point fresh x n) ≡ true
  behind count total fresh x zero l m = refl
  behind count total fresh x (suc n) l m =
      by (is_number x) (behind count total fresh (suc x) n l (omega (arith, m))) (behind count total (suc fresh) (suc x) n (omega (arith, l)) (omega (arith, m)))
    where
      by : (b : Bool) → are_values count total (values_from is_number point fresh (suc x) n) ≡ true → are_values count total (values_from is_number point (suc fresh) (suc x) n) ≡ true
          → are_values count total (if b then cons (num (value_in point x)) (values_from is_number point fresh (suc x) n) else cons (app fresh nil) (values_from is_number point (suc fresh) (suc x) n)) ≡ true
      by true h k = h
      by false h k = and_from (nat_le count fresh && nat_lt fresh total) (are_values count total (values_from is_number point (suc fresh) (suc x) n)) (grind (arith, nat_tests, l, m)) k

  fit : (fresh x n : ℕ) → Each PairFits point → terms_fit (values_from is_number point fresh x n) ≡ true
  fit fresh x zero h = refl
  fit fresh x (suc n) h = by (is_number x) (fit fresh (suc x) n h) (fit (suc fresh) (suc x) n h)
    where
      by : (b : Bool) → terms_fit (values_from is_number point fresh (suc x) n) ≡ true → terms_fit (values_from is_number point (suc fresh) (suc x) n) ≡ true
          → terms_fit (if b then cons (num (value_in point x)) (values_from is_number point fresh (suc x) n) else cons (app fresh nil) (values_from is_number point (suc fresh) (suc x) n)) ≡ true
      by true j k = and_from (term_fits (num (value_in point x))) (terms_fit (values_from is_number point fresh (suc x) n)) (value-fits point x h) j
      by false j k = k

evaluated-same : (cs : List Con) (us ts : Tms) → Some ts ≡ evaluated cs us → us ≡ ts
evaluated-same cs us ts e = by (list_all (is_in_range (giving (items us))) cs) e
  where
    by : (b : Bool) → Some ts ≡ (if b then Some us else None) → us ≡ ts
    by true f = cc f
    by false f = absurd (cc f)

pub samples-named : (p : Program) (query : ℕ) (checks : List CheckItem) (map : List PredMap) (fresh : ℕ) → NamesSamples fresh (problem p query checks map fresh)
samples-named p query checks map fresh cs n ts e =
    let a = bind-some (point_for cs) (λ point. evaluated cs (values_from (number_var cs) point fresh 0 n)) ts (sym e) in
    let same : values_from (number_var cs) a.0 fresh 0 n ≡ ts = evaluated-same cs (values_from (number_var cs) a.0 fresh 0 n) ts a.2 in (
      ap (λ (z : Tms). length (items z)) (sym same) ∙ long (number_var cs) a.0 fresh 0 n,
      ap (are_values fresh (fresh + n)) (sym same) ∙ behind (number_var cs) a.0 fresh (fresh + n) fresh 0 n (omega arith) (omega arith),
      ap terms_fit (sym same) ∙ fit (number_var cs) a.0 fresh 0 n (point-in cs a.0 a.1),
    )

query-there : (count : ℕ) (qs : List Query) → Each (QueryWithin count) qs → (number : ℕ) (q : Query) → numbered qs number ≡ Some q → QueryWithin count q
query-there count qs h zero q e = absurd (cc e)
query-there count qs h (suc n) q e = Each-at (QueryWithin count) qs n q h (sym e)

pub searches-named : ReadProgramsAreWithin → SearchesAreNamed
searches-named reads bytes written p names table e is number q there checks map =
    let k = reads bytes written p names table e is in
    record {
      lists = k.0;
      program = k.1;
      query = query-there (length table) p.queries k.1.queries number q there;
      samples = samples-named p number checks map (length table);
    }
