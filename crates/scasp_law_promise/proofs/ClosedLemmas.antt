-- Above each domain there is one that is closed for a flat certificate: what is listed, the values of the free variables and the given
-- domain, with all that stands in these terms.
use Rattle.std.proofs.Common.{◌≡◌, ◌∙◌, ℕ, zero, suc, ◌<◌, Bool, true, nat_lt, List, [], ◌∷◌, ◌++◌, map, refl, ap, sym, subst, inl, inr, arith}
use Rattle.std.specs.List.{Contains, list_all}
use Rattle.std.proofs.lemmas.Bool.{false≢true, and_parts, and_from, or_cases, ltb-true, cases_lt}
use Rattle.std.proofs.lemmas.List.Elements.{Contains-append_left, Contains-append_right}
use Rattle.std.proofs.lemmas.List.Folds.{list_all-append}
use Rattle.scasp_list.proofs.MemberLemmas.{Contains-none, Contains-here, Contains-there, Contains-cases, Contains-single, Contains-map, Contains-from_map, list_all-from, list_all-member, list_any-from}
use Rattle.scasp_syntax.specs.Same.{same_tm}
use Rattle.scasp_syntax.specs.Tm.{Tm, Tms, var, num, app, nil, cons, items}
use Rattle.scasp_syntax.specs.Values.{Sub, Valuation, under, is_ground}
use Rattle.scasp_syntax.specs.WellFormed.{is_below}
use Rattle.scasp_syntax.specs.declared.program.Program.{Program}
use Rattle.scasp_syntax.proofs.SameLemmas.{tm_decided}
use Rattle.scasp_syntax.proofs.ValueLemmas.{is_ground-under}
use Rattle.scasp_model.specs.Grounding.{is_domain}
use Rattle.scasp_cert.specs.Certificate.{Certificate}
use Rattle.scasp_cert.specs.Flat.{is_flat, is_flat_term, is_variable}
use Rattle.scasp_cert.specs.Trees.{pos_tree, neg_tree, loop_tree, seen_tree, test_tree}
use Rattle.scasp_sound.proofs.DomainLemmas.{within, within-contains, grown, grown-domain, grown-has, grown-from}
use Rattle.scasp_lines.specs.Known.{is_known, are_known}
use Rattle.scasp_lines.specs.Lines.{free_of, lines, setting}
use Rattle.scasp_lines.specs.Opened.{knows, well, IsInstance}
use Rattle.scasp_lines.specs.Said.{Said, are_in, are_lines_known, is_line_known, is_part_known, said_by_part, SaysAt}
use Rattle.scasp_lines.specs.Walk.{Part, of_node, of_rule, of_check, of_case, Line}
use Rattle.scasp_lines.proofs.FitLemmas.{lines-known}
use Rattle.scasp_lines.proofs.SaidLemmas.{closed-from}
use Rattle.scasp_checker_rules.specs.Accepted.{AcceptsWhere, PartHolds, LineHolds}
use Rattle.scasp_checker_rules.specs.Wholes.{whole_of, scope}
use Rattle.scasp_unify.proofs.Members.{Each-member}
use Rattle.scasp_checker_rules.proofs.ScopeLemmas.{scoped}
use Rattle.scasp_law_promise.specs.Good.{HasClosedDomains}
use Rattle.scasp_law_promise.proofs.ClauseLemmas.{below-same}
use Rattle.scasp_law_promise.proofs.ListedLemmas.{terms_on, listed_terms, line-lists}
use Rattle.scasp_law_promise.proofs.ReachLemmas.{reached}
use Rattle.scasp_law_promise.proofs.SayingLemmas.{domain-ground}
use Rattle.scasp_law_promise.proofs.SubtermLemmas.{all_subterms, all_subterms-ground, listed-subterm, argument-subterm}
use Rattle.scasp_law_promise.proofs.VisibleLemmas.{lines-visible}

-- ---- the domain

-- the values of so many variables
abbrev values_below : Sub → ℕ → List Tm
values_below v zero = []
values_below v (suc n) = v n ∷ values_below v n

value-in : (v : Sub) (n x : ℕ) → x < n → Contains (values_below v n) (v x)
value-in v zero x l = absurd (omega (arith, l))
value-in v (suc n) x l =
    elim (cases_lt x n) [
      | inl i ↦ Contains-there (v n) (values_below v n) (v x) (value-in v n x i)
      | inr i ↦
          (let same : n ≡ x = omega (arith, l, i) in
          subst (λ (y : ℕ). Contains (v n ∷ values_below v n) (v y)) same (Contains-here (v n) (values_below v n)))
    ]

values-ground : (v : Valuation) (n : ℕ) → list_all is_ground (values_below v.of n) ≡ true
values-ground v zero = refl
values-ground v (suc n) = and_from (is_ground (v.of n)) (list_all is_ground (values_below v.of n)) (v.ground n) (values-ground v n)

terms-ground : (v : Valuation) (ts : List Tm) → list_all is_ground (map (under v.of) ts) ≡ true
terms-ground v [] = refl
terms-ground v (t ∷ ts) = and_from (is_ground (under v.of t)) (list_all is_ground (map (under v.of) ts)) (is_ground-under v t) (terms-ground v ts)

-- what the domain is made of
abbrev bases : Certificate → Sub → List Tm → List Tm
bases c v given = given ++ (map (under v) (listed_terms c) ++ values_below v (free_of c))

abbrev closure : Certificate → Sub → List Tm → List Tm
closure c v given = grown [] (all_subterms (bases c v given))

contains-within : (d : List Tm) (t : Tm) → Contains d t → within d t ≡ true
contains-within d t i = list_any-from (same_tm t) d t i ((tm_decided t t).1 refl)

bases-ground : (c : Certificate) (v : Valuation) (given : List Tm) → is_domain given ≡ true → list_all is_ground (bases c v.of given) ≡ true
bases-ground c v given h =
    let ts = map (under v.of) (listed_terms c) in
    let vs = values_below v.of (free_of c) in
    list_all-append is_ground given (ts ++ vs)
    ∙ and_from (list_all is_ground given) (list_all is_ground (ts ++ vs)) (domain-ground given h)
    (list_all-append is_ground ts vs ∙ and_from (list_all is_ground ts) (list_all is_ground vs) (terms-ground v (listed_terms c)) (values-ground v (free_of c)))

module _ (c : Certificate) (v : Sub) (given : List Tm) where
  subterm-within : (t : Tm) → Contains (all_subterms (bases c v given)) t → within (closure c v given) t ≡ true
  subterm-within t i = list_all-member (within (closure c v given)) (all_subterms (bases c v given)) t (grown-has [] (all_subterms (bases c v given))) i

  within-subterm : (t : Tm) → within (closure c v given) t ≡ true → Contains (all_subterms (bases c v given)) t
  within-subterm t h =
      elim (grown-from [] (all_subterms (bases c v given)) t (within-contains (closure c v given) t h)) [
        | inl i ↦ absurd (Contains-none t i)
        | inr i ↦ i
      ]

  base-within : (t : Tm) → Contains (bases c v given) t → within (closure c v given) t ≡ true
  base-within t i = subterm-within t (listed-subterm (bases c v given) t i)

  given-within : (t : Tm) → within given t ≡ true → within (closure c v given) t ≡ true
  given-within t h = base-within t (Contains-append_left given _ t (within-contains given t h))

  listed-within : (t : Tm) → Contains (listed_terms c) t → within (closure c v given) (under v t) ≡ true
  listed-within t i =
      base-within (under v t)
      (Contains-append_right given _ (under v t) (Contains-append_left (map (under v) (listed_terms c)) _ (under v t) (Contains-map (under v) (listed_terms c) t i)))

  value-within : (x : ℕ) → nat_lt x (free_of c) ≡ true → within (closure c v given) (v x) ≡ true
  value-within x l =
      base-within (v x)
      (Contains-append_right given _ (v x) (Contains-append_right (map (under v) (listed_terms c)) _ (v x) (value-in v (free_of c) x (ltb-true x (free_of c) l))))

  arguments-within : (f : ℕ) (ts : Tms) (u : Tm) → within (closure c v given) (app f ts) ≡ true → Contains (items ts) u → within (closure c v given) u ≡ true
  arguments-within f ts u h i = subterm-within u (argument-subterm (bases c v given) f ts u (within-subterm (app f ts) h) i)

-- ---- what the lines list

items-known : (k : ℕ → Bool) (ts : Tms) (t : Tm) → are_known k ts ≡ true → Contains (items ts) t → is_known k t ≡ true
items-known k nil t h i = absurd (Contains-none t i)
items-known k (cons u ts) t h i =
    let p = and_parts (is_known k u) (are_known k ts) h in
    elim (Contains-cases u (items ts) t i) [
      | inl e ↦ subst (λ (x : Tm). is_known k x ≡ true) e p.0
      | inr j ↦ items-known k ts t p.1 j
    ]

says-terms : (v : Sub) (part : Part) (s : Said) → Contains (said_by_part v part) s → s.terms ≡ map (under v) (terms_on part)
says-terms v (of_node due (pos_tree a k ts children)) s i = sym (ap (λ (z : Said). z.terms) (Contains-single _ s i))
says-terms v (of_node due (neg_tree a covers)) s i = sym (ap (λ (z : Said). z.terms) (Contains-single _ s i))
says-terms v (of_node due (loop_tree l to)) s i = absurd (Contains-none s i)
says-terms v (of_node due (seen_tree l to)) s i = absurd (Contains-none s i)
says-terms v (of_node due (test_tree k hint)) s i = absurd (Contains-none s i)
says-terms v (of_rule k a x) s i = absurd (Contains-none s i)
says-terms v (of_check k x) s i = absurd (Contains-none s i)
says-terms v (of_case body x) s i = absurd (Contains-none s i)

module _ (b : Bool) (p : Program) (c : Certificate) (h : AcceptsWhere b p c) (flat : is_flat c ≡ true) (v : Valuation) (given : List Tm) where
  abbrev domain : List Tm
  domain = closure c v.of given

  known : are_lines_known p c ≡ true
  known = lines-known p c (scoped b p c h)

  terms-known : (l : Line) (part : Part) → PartHolds (whole_of b p c) l part → (t : Tm) → Contains (terms_on part) t → is_known (scope (whole_of b p c) l.here) t ≡ true
  terms-known l (of_node due (pos_tree a k ts children)) e t i = items-known (scope (whole_of b p c) l.here) ts t e.0.terms_known i
  terms-known l (of_node due (neg_tree a covers)) e t i = absurd (Contains-none t i)
  terms-known l (of_node due (loop_tree lit to)) e t i = absurd (Contains-none t i)
  terms-known l (of_node due (seen_tree lit to)) e t i = absurd (Contains-none t i)
  terms-known l (of_node due (test_tree k hint)) e t i = absurd (Contains-none t i)
  terms-known l (of_rule k a x) e t i = absurd (Contains-none t i)
  terms-known l (of_check k x) e t i = absurd (Contains-none t i)
  terms-known l (of_case body x) e t i = absurd (Contains-none t i)

  module _ (l : Line) (listed : Contains (lines p c) l) (w : Sub) (instance : IsInstance (free_of c) domain v.of l.here.opened w) where
    free-within : (x : ℕ) → nat_lt x (free_of c) ≡ true → within domain (w x) ≡ true
    free-within x i = subst (λ (t : Tm). within domain t ≡ true) (sym (instance.free_values x i)) (value-within c v.of given x i)

    variable-within : (x : ℕ) → scope (whole_of b p c) l.here x ≡ true → within domain (w x) ≡ true
    variable-within x k =
        let top = (setting p.clauses c).top in
        let q = and_parts (nat_lt x top) (knows (free_of c) l.here.opened x) k in
        let is = and_parts (well (free_of c) l.here.opened) (is_part_known (knows (free_of c) l.here.opened) l.part)
        (list_all-member (is_line_known (free_of c)) (lines p c) l known listed) in
        let visible = lines-visible b p c h l listed in
        reached (free_of c) top domain w (arguments-within c v.of given) free-within l.here.opened is.0 visible.entries instance.met x q.0 q.1

    -- a term without universals has the value that it has at the free variables; another is a variable by itself
    flat-within : (t : Tm) → Contains (terms_on l.part) t → within domain (under w t) ≡ true
    flat-within t i =
        let among = line-lists p c l listed t i in
        let k = terms-known l l.part (Each-member (LineHolds (whole_of b p c)) (lines p c) l h.lines_hold listed) t i in
        let is = list_all-member (is_flat_term (free_of c)) (listed_terms c) t flat among in
        elim (or_cases (is_below (free_of c) t) (is_variable t) is) [
          | inl e ↦
              subst (λ (u : Tm). within domain u ≡ true) (sym (below-same (free_of c) w v.of (λ x j. instance.free_values x j) t e))
              (listed-within c v.of given t among)
          | inr e ↦ by t e k
        ]
      where
        by : (u : Tm) → is_variable u ≡ true → is_known (scope (whole_of b p c) l.here) u ≡ true → within domain (under w u) ≡ true
        by (var x) e k = variable-within x k
        by (num q) e k = absurd (false≢true e)
        by (app f ts) e k = absurd (false≢true e)

  said-within : (s : Said) → SaysAt p c v.of domain s → are_in domain s.terms ≡ true
  said-within s a =
      let l : Line = a.line in
      ap (are_in domain) (says-terms a.by l.part s a.says)
      ∙ list_all-from (within domain) (map (under a.by) (terms_on l.part))
      (λ t i.
      (let q = Contains-from_map (under a.by) (terms_on l.part) t i in
      subst (λ (u : Tm). within domain u ≡ true) q.2 (flat-within l a.listed a.by a.instance q.0 q.1)))

pub closed-above : (b : Bool) (p : Program) (c : Certificate) → AcceptsWhere b p c → is_flat c ≡ true → HasClosedDomains p c
closed-above b p c h flat = λ v meets given is.
    record {
      domain = closure c v.of given;
      is = grown-domain [] (all_subterms (bases c v.of given)) refl (all_subterms-ground (bases c v.of given) (bases-ground c v given is));
      has = given-within c v.of given;
      closed = closed-from p c (known b p c h flat v given) v.of (closure c v.of given) (said-within b p c h flat v given);
    }
