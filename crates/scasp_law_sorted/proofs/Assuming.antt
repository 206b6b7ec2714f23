-- What is assumed where no variable is universal: a constraint that is no row; and a row behind the number tests of its variables.
use Rattle.std.specs.Prelude.{◌≡◌, ◌⊎◌, ℕ, Bool, true, false, not, if◌then◌else◌, Option, Some, None, List, [], ◌∷◌, ◌++◌, map}
use Rattle.std.specs.List.{Contains}
use Rattle.std.proofs.Common.{refl, ap, sym, subst, ◌∙◌, inl, inr}
use Rattle.std.proofs.lemmas.Bool.{true≢false}
use Rattle.std.proofs.lemmas.List.Elements.{Contains-append_left, Contains-push}
use Rattle.scasp_list.specs.Each.{Each}
use Rattle.scasp_list.proofs.MemberLemmas.{Contains-cases, Contains-none}
use Rattle.scasp_num.specs.Linear.{Linear, negation}
use Rattle.scasp_num.specs.declared.linear.Coeff.{Coeff}
use Rattle.scasp_search_rules.specs.declared.states.outcomes.Status.TheVariants.{Entailed, Impossible, Added, Parts as Parted}
use Rattle.scasp_search_rules.specs.declared.states.state.State.{State}
use Rattle.scasp_search_rules.specs.Successors.Assumptions.{against, along, as_read, asked_for, assume, assume_all, judges, performed}
use Rattle.scasp_search_rules.specs.Successors.Falls.{EachState}
use Rattle.scasp_search_rules.specs.Successors.Reading.{con_under, holds_always, not_shaped, row_under}
use Rattle.scasp_search_rules.specs.Successors.Regions.{asked_with, context, equation, with_given}
use Rattle.scasp_search_rules.specs.Successors.Variables.{is_empty, meaning, next_variable, universals_of}
use Rattle.scasp_syntax.specs.Constraints.{has_shape, is_number}
use Rattle.scasp_syntax.specs.Tm.{Tm, var, num, app, nil, cons}
use Rattle.scasp_syntax.specs.View.{tm_of}
use Rattle.scasp_syntax.specs.declared.con.Con.{Con}
use Rattle.scasp_syntax.specs.declared.con.Con.TheVariants as con
use Rattle.scasp_syntax.specs.declared.term.Term.TheVariants.{Var}
use Rattle.scasp_unify.specs.Negations.{negated}
use Rattle.scasp_unify.specs.Parts.{Part, parts}
use Rattle.scasp_unify.specs.SimpleForm.{by_parts, one_part, simple, term_with}
use Rattle.scasp_unify.specs.Solving.{sub_of}
use Rattle.scasp_unify.specs.Sorted.{Sorted}
use Rattle.scasp_unify.proofs.Members.{Each-from}
use Rattle.scasp_unify.proofs.SimpleLemmas.{viewed}
use Rattle.scasp_hint.specs.Satisfying.{sat}
use Rattle.scasp_law_sorted.proofs.Evenness.{Even, quiet, even-given, Asks, asks-goes, asks-followed}
use Rattle.scasp_law_no_circle.proofs.Tasks.{NoRow}
use Rattle.scasp_law_sorted.proofs.Lists.{entails-more, list-within, sorted-one, sorted-row}
use Rattle.scasp_law_sorted.proofs.Numbers.{IsNumberBy, number-read, number-of, number-said, number-entailed}
use Rattle.scasp_law_sorted.proofs.Rows.{read-of}

-- ---- constraints that are no rows

pub plain-negated : (k : ℕ) (c : Con) → NoRow c → NoRow (negated k c)
plain-negated k (con.Row r) h = absurd h
plain-negated k (con.Eq t u) h = tt
plain-negated k (con.Neq t u) h = tt
plain-negated k (con.NotShape x f n) h = tt
plain-negated k (con.Num t) h = tt
plain-negated k (con.NotNum t) h = tt

plain-part : (p : Part) (t : Tm) → NoRow (one_part p t)
plain-part p (app f nil) = tt
plain-part p (app f (cons t ts)) = tt
plain-part p (num q) = tt
plain-part p (var y) = tt

plain-parts : (c : Con) (o : Option (List Part)) → NoRow c → NoRow (by_parts c o)
plain-parts c None h = h
plain-parts c (Some []) h = h
plain-parts c (Some (p ∷ [])) h = plain-part p p.term
plain-parts c (Some (p ∷ q ∷ ps)) h = tt

pub plain-simple : (c : Con) → NoRow c → NoRow (simple c)
plain-simple (con.Row r) h = absurd h
plain-simple (con.Neq t u) h = plain-parts (con.Neq t u) (parts (tm_of t) (tm_of u)) tt
plain-simple (con.Eq t u) h = tt
plain-simple (con.NotShape x f n) h = tt
plain-simple (con.Num t) h = tt
plain-simple (con.NotNum t) h = tt

pub plain-shaped : (t : Tm) (f n : ℕ) → NoRow (not_shaped t f n)
plain-shaped (var x) f n = tt
plain-shaped (num q) f n = tt
plain-shaped (app g us) f n = by (has_shape f n (app g us))
  where
    by : (b : Bool) → NoRow (if b then con.Neq (term_with (app g us)) (term_with (app g us)) else con.Eq (term_with (app g us)) (term_with (app g us)))
    by true = tt
    by false = tt

pub plain-read : (s : State) (c : Con) → NoRow c → NoRow (as_read s c)
plain-read s (con.Row r) h = absurd h
plain-read s (con.Eq t u) h = tt
plain-read s (con.Neq t u) h = plain-simple (con_under (meaning s) (con.Neq t u)) tt
plain-read s (con.NotShape x f n) h = plain-simple (not_shaped (meaning s x) f n) (plain-shaped (meaning s x) f n)
plain-read s (con.Num t) h = tt
plain-read s (con.NotNum t) h = tt

-- ---- what is asked, and what comes of it

module _ (s : State) (e : Even s) (c : Con) where
  judged-by : judges s c ≡ s.given
  judged-by = ap (λ (b : Bool). if b then s.given else context s) (quiet s e c)

  pub against-given : against s c ≡ map equation s.bound ++ (s.given ++ negated (next_variable s) c ∷ [])
  against-given = ap (λ (gs : List Con). asked_with s (gs ++ negated (next_variable s) c ∷ [])) judged-by

  pub along-given : along s c ≡ map equation s.bound ++ (s.given ++ c ∷ [])
  along-given = ap (λ (gs : List Con). asked_with s (gs ++ c ∷ [])) judged-by

  module _ (a : Sorted (map equation s.bound ++ (s.given ++ negated (next_variable s) c ∷ []))) (b : Sorted (map equation s.bound ++ (s.given ++ c ∷ []))) where
    pub asked-sorted : Each Sorted (asked_for sat s c)
    asked-sorted = by (holds_always (as_read s c)) (sat (against s c))
      where
        one : Sorted (against s c)
        one = subst Sorted (sym against-given) a

        two : Sorted (along s c)
        two = subst Sorted (sym along-given) b

        by : (i j : Bool) → Each Sorted (if i then [] else (if j then against s c ∷ along s c ∷ [] else against s c ∷ []))
        by true j = tt
        by false true = (one, (two, tt))
        by false false = (one, tt)

    pub asks-assumed : (P : State → Type 0) → (holds_always (as_read s c) ≡ true → P s) → (sat (map equation s.bound ++ (s.given ++ negated (next_variable s) c ∷ [])) ≡ false → P s) → P (with_given s (as_read s c))
        → Asks P (assume sat s c)
    asks-assumed P holds unmet added = record {
      asked = asked-sorted;
      states = by (holds_always (as_read s c)) (sat (against s c)) (sat (along s c)) (is_empty (universals_of s c)) refl refl (quiet s e c);
    }
      where
        by : (i j k l : Bool) → holds_always (as_read s c) ≡ i → sat (against s c) ≡ j → l ≡ true
            → EachState P (performed s (as_read s c) (if i then Entailed else (if not j then Entailed else (if not k then Impossible else (if l then Added else Parted)))))
        by true j k l f g h = (holds f, tt)
        by false false k l f g h = (unmet (sym (ap sat against-given) ∙ g), tt)
        by false true false l f g h = tt
        by false true true true f g h = (added, tt)
        by false true true false f g h = absurd (true≢false (sym h))

-- a constraint that is no row
module _ (s : State) (e : Even s) (c : Con) (n : NoRow c) where
  pub plain-asked : Each Sorted (asked_for sat s c)
  plain-asked = asked-sorted s e c (sorted-one s.bound s.given (negated (next_variable s) c) (plain-negated (next_variable s) c n) e.settled.sorted) (sorted-one s.bound s.given c n e.settled.sorted)

  pub plain-assumed : Asks Even (assume sat s c)
  plain-assumed =
      asks-assumed s e c (sorted-one s.bound s.given (negated (next_variable s) c) (plain-negated (next_variable s) c n) e.settled.sorted) (sorted-one s.bound s.given c n e.settled.sorted) Even (λ f. e) (λ f. e)
      (even-given s (as_read s c) (plain-read s c n) e)

pub all-assumed : (cs : List Con) → Each NoRow cs → (s : State) → Even s → Asks Even (assume_all sat cs s)
all-assumed [] n s e = asks-goes Even s e
all-assumed (c ∷ cs) n s e = asks-followed Even Even (assume sat s c) (assume_all sat cs) (plain-assumed s e c n.0) (λ r k. all-assumed cs n.1 r k)

-- ---- number tests, and a row behind them

-- x is a number by what is given, and so is each variable that was
record Numbered (s : State) (x : ℕ) (r : State) : Type 0 where
  even : Even r
  says : IsNumberBy r.bound r.given x
  more : (y : ℕ) → IsNumberBy s.bound s.given y → IsNumberBy r.bound r.given y

number-assumed : (s : State) → Even s → (x : ℕ) → Asks (Numbered s x) (assume sat s (con.Num (Var x)))
number-assumed s e x =
    asks-assumed s e (con.Num (Var x)) none (sorted-one s.bound s.given (con.Num (Var x)) tt e.settled.sorted) (Numbered s x)
    (λ f. still (number-read s.bound s.given x (ap is_number (sym (viewed (sub_of s.bound x))) ∙ f))) (λ f. still (number-entailed s.bound s.given x none f))
    record {
      even = even-given s c tt e;
      says = number-said s.bound (s.given ++ c ∷ []) x (Contains-push s.given c);
      more = λ y h. entails-more (map equation s.bound ++ s.given) (map equation s.bound ++ (s.given ++ c ∷ [])) (con.Num (Var y))
          (list-within s.bound s.bound s.given (s.given ++ c ∷ []) (λ b i. i) (λ d i. Contains-append_left s.given (c ∷ []) d i)) h;
    }
  where
    c : Con
    c = con.Num (term_with (sub_of s.bound x))

    none : Sorted (map equation s.bound ++ (s.given ++ con.NotNum (Var x) ∷ []))
    none = sorted-one s.bound s.given (con.NotNum (Var x)) tt e.settled.sorted

    still : IsNumberBy s.bound s.given x → Numbered s x s
    still h = record { even = e; says = h; more = λ y k. k }

row-assumed : (s : State) → Even s → (r : Linear) → Each (λ k. IsNumberBy s.bound s.given k.x) r.coeffs → Asks Even (assume sat s (con.Row r))
row-assumed s e r h =
    asks-assumed s e (con.Row r) both.1 both.0 Even (λ f. e) (λ f. e)
    record { kinds = e.kinds; settled = record { sorted = (sorted-row s.bound s.given (row_under (meaning s) r) e.settled.sorted read).0; bare = e.settled.bare } }
  where
    both : Sorted (map equation s.bound ++ (s.given ++ con.Row r ∷ [])) × Sorted (map equation s.bound ++ (s.given ++ con.Row (negation r) ∷ []))
    both = sorted-row s.bound s.given r e.settled.sorted h

    read : Each (λ k. IsNumberBy s.bound s.given k.x) (row_under (meaning s) r).coeffs
    read = read-of (IsNumberBy s.bound s.given) (meaning s) (λ x y p f. number-of s.bound s.given x y p f) r h

-- these number tests are still to be assumed
pub row-item : (r : Linear) (ks : List Coeff) (s : State) → Even s → ((k : Coeff) → Contains r.coeffs k → Contains ks k ⊎ IsNumberBy s.bound s.given k.x)
    → Asks Even (assume_all sat (map (λ k. con.Num (Var k.x)) ks ++ con.Row r ∷ []) s)
row-item r [] s e h =
    asks-followed Even Even (assume sat s (con.Row r)) (assume_all sat []) (row-assumed s e r (Each-from (λ (k : Coeff). IsNumberBy s.bound s.given k.x) r.coeffs (λ k i. by k (h k i)))) (λ t k. asks-goes Even t k)
  where
    by : (k : Coeff) → Contains [] k ⊎ IsNumberBy s.bound s.given k.x → IsNumberBy s.bound s.given k.x
    by k (inl i) = absurd (Contains-none k i)
    by k (inr n) = n
row-item r (j ∷ ks) s e h =
    asks-followed (Numbered s j.x) Even (assume sat s (con.Num (Var j.x))) (assume_all sat (map (λ k. con.Num (Var k.x)) ks ++ con.Row r ∷ [])) (number-assumed s e j.x)
    (λ t n. row-item r ks t n.even (λ k i. by t n k (h k i)))
  where
    first : (t : State) → Numbered s j.x t → (k : Coeff) → (j ≡ k) ⊎ Contains ks k → Contains ks k ⊎ IsNumberBy t.bound t.given k.x
    first t n k (inl same) = inr (subst (λ (l : Coeff). IsNumberBy t.bound t.given l.x) same n.says)
    first t n k (inr i) = inl i

    by : (t : State) → Numbered s j.x t → (k : Coeff) → Contains (j ∷ ks) k ⊎ IsNumberBy s.bound s.given k.x → Contains ks k ⊎ IsNumberBy t.bound t.given k.x
    by t n k (inl i) = first t n k (Contains-cases j ks k i)
    by t n k (inr m) = inr (n.more k.x m)
