-- The lists of pairs, one literal after the other.
use Rattle.std.specs.Prelude.{◌≡◌, ℕ, Bool, true, false, not, if◌then◌else◌, ◌&&◌, Err, List, [], ◌∷◌, ◌++◌, map, filter, refl}
use Rattle.std.specs.List.{list_any}
use Rattle.std.proofs.Common.{ap, sym, ◌∙◌}
use Rattle.std.proofs.lemmas.List.{map-append}
use Rattle.std.proofs.lemmas.List.Folds.{list_all-append, list_any-append}
use Rattle.std.proofs.lemmas.Simd.{map-map}
use Rattle.scasp_checker_rules.specs.PairLists.{pair_list}
use Rattle.scasp_checker_rules.specs.Pairs.{all_pairs, is_pair}
use Rattle.scasp_checker_rules.specs.Told.{Told}
use Rattle.scasp_search_constraints.specs.Assuming.Taken.{Gives}
use Rattle.scasp_search_constraints.specs.declared.assuming.step.SearchErr.{SearchErr}
use Rattle.scasp_search_constraints.specs.declared.assuming.step.SearchErr.TheVariants as errors
use Rattle.scasp_search_ends.specs.Ends.Inside.Apart.{IsLeft, all_fail, lists_behind, pairs_of}
use Rattle.scasp_hint.specs.Finding.{overflows_in}
use Rattle.scasp_hint.specs.Satisfying.{sat}
use Rattle.scasp_syntax.specs.declared.con.Con.{Con}
use Rattle.scasp_unify.proofs.Members.{or-left, or-right}

-- of a literal and the next one, and those behind that
pub behind-first : (free : ℕ) (given : List Con) (a b : Told) (ts : List Told)
    → lists_behind free given a (b ∷ ts) ≡ lists_behind free given a (b ∷ []) ++ lists_behind free given a ts
behind-first free given a b ts = by (is_pair a b)
  where
    by : (c : Bool) → map (pair_list free given a) (if c then b ∷ filter (is_pair a) ts else filter (is_pair a) ts)
        ≡ map (pair_list free given a) (if c then b ∷ [] else []) ++ map (pair_list free given a) (filter (is_pair a) ts)
    by true = refl
    by false = refl

-- of the first literal, and of the others
pub pairs-first : (free : ℕ) (given : List Con) (a : Told) (ts : List Told)
    → pairs_of free given (a ∷ ts) ≡ lists_behind free given a ts ++ pairs_of free given ts
pairs-first free given a ts =
    map-append (λ ab. pair_list free given ab.0 ab.1) (map (λ b. (a, b)) (filter (is_pair a) ts)) (all_pairs ts)
    ∙ ap (λ lists. lists ++ pairs_of free given ts) (map-map (λ ab. pair_list free given ab.0 ab.1) (λ b. (a, b)) (filter (is_pair a) ts))

-- ---- what is left of lists

-- the first ones have none
pub left-behind : (one rest left all : List (List Con)) → IsLeft left all → left ≡ one ++ rest → all_fail one ≡ true → IsLeft rest all
left-behind one rest left all l e f =
    record {
      same = sym (ap all_fail e ∙ list_all-append (λ cs. not (sat cs)) one rest ∙ ap (λ b. b && all_fail rest) f) ∙ l.same;
      overflow = λ o. l.overflow (ap (list_any overflows_in) e ∙ list_any-append overflows_in one rest ∙ or-right (list_any overflows_in one) (list_any overflows_in rest) o);
    }

-- one of the first ones has one
pub left-met : (one rest left all : List (List Con)) → IsLeft left all → left ≡ one ++ rest → all_fail one ≡ false → false ≡ all_fail all
left-met one rest left all l e f =
    sym (ap all_fail e ∙ list_all-append (λ cs. not (sat cs)) one rest ∙ ap (λ b. b && all_fail rest) f) ∙ l.same

-- an overflow of the first ones is one of all
pub left-fault : {A : Type 0} (e : SearchErr) (one rest left all : List (List Con)) (a b : A) → IsLeft left all → left ≡ one ++ rest → Gives (Err e) a one → Gives (Err e) b all
left-fault errors.Memory one rest left all a b l e g = tt
left-fault errors.Overflow one rest left all a b l e g =
    l.overflow (ap (list_any overflows_in) e ∙ list_any-append overflows_in one rest ∙ or-left (list_any overflows_in one) (list_any overflows_in rest) g)
