-- A certificate stays accepted where the names of its sample are others, each its own, and none is moved that stands elsewhere.
use Rattle.std.specs.Prelude.{◌≡◌, ℕ, suc, zero, ◌+◌, ◌<◌, nat_eq, nat_lt, Bool, true, false, not, ◌&&◌, Option, None, Some, List, [], ◌∷◌, ◌++◌, length, ⊤}
use Rattle.std.specs.List.{flat_map, list_all}
use Rattle.std.proofs.Common.{◌∙◌, ap, refl, sym}
use Rattle.std.proofs.lemmas.Bool.{and_parts, eq-eqb, eqb-false, eqb-true, ltb-true, ne_eqb}
use Rattle.scasp_cert.specs.Certificate.{Certificate}
use Rattle.scasp_cert.specs.Lines.{lines_below}
use Rattle.scasp_cert.specs.Trees.{listed}
use Rattle.scasp_checker_rules.specs.Accepted.{Accepts}
use Rattle.scasp_checker_rules.specs.BoundedTruth.{compares_so, holds_bounded, summed}
use Rattle.scasp_checker_rules.specs.Faults.{faults, map_faults, query_items, sample_faults}
use Rattle.scasp_checker_rules.specs.LineFaults.{line_faults}
use Rattle.scasp_checker_rules.specs.Pairs.{all_pairs, other_clash, pair_faults}
use Rattle.scasp_checker_rules.specs.Refusals.{of_some, wants}
use Rattle.scasp_checker_rules.specs.Told.{all_told}
use Rattle.scasp_checker_rules.specs.Wholes.{Whole}
use Rattle.scasp_checker_rules.specs.declared.refusal.Reason.TheVariants as reason
use Rattle.scasp_checker_rules.specs.declared.refusal.Refusal.{Refusal}
use Rattle.scasp_checker_rules.proofs.AcceptedLemmas.{accepted-no_fault}
use Rattle.scasp_law_answer_text.specs.LineReadback.Writable.{are_named, is_named, is_shape, is_spelled}
use Rattle.scasp_lines.specs.Below.{count as counted}
use Rattle.scasp_lines.specs.Dues.{query_dues}
use Rattle.scasp_lines.specs.Known.{is_con_known}
use Rattle.scasp_lines.specs.Places.{start}
use Rattle.scasp_lines.specs.Rooms.{room_below, room_under}
use Rattle.scasp_lines.specs.Walk.{Line, Setting, Walked, checks_walk, followed, nodes_walk}
use Rattle.scasp_num.specs.Arithmetic.{◌>>=◌}
use Rattle.scasp_num.specs.Number.{Number}
use Rattle.scasp_num.specs.declared.linear.Coeff.{Coeff}
use Rattle.scasp_rows.specs.Samples.{plus_product}
use Rattle.scasp_rows.specs.Steps.{whole}
use Rattle.scasp_syntax.specs.Constraints.{has_shape, is_number}
use Rattle.scasp_syntax.specs.Programs.{numbered}
use Rattle.scasp_syntax.specs.RowTruth.{number_of}
use Rattle.scasp_syntax.specs.Same.{same_tm, same_tms}
use Rattle.scasp_syntax.specs.Tm.{Tm, Tms, var, num, app, nil, cons, items}
use Rattle.scasp_syntax.specs.Values.{Sub, all_under, are_ground, giving, is_ground, under}
use Rattle.scasp_syntax.specs.View.{tm_of}
use Rattle.scasp_syntax.specs.WellFormed.{are_below}
use Rattle.scasp_syntax.specs.declared.con.Con.{Con}
use Rattle.scasp_syntax.specs.declared.con.Con.TheVariants as con
use Rattle.scasp_syntax.specs.declared.program.Program.{Program}
use Rattle.scasp_law_tables.specs.Moved.{all_renamed, renamed}

-- K holds of each name of the term
abbrev mutual
  pub EachName : (ℕ → Type 0) → Tm → Type 0
  EachName K (var x) = ⊤
  EachName K (num q) = ⊤
  EachName K (app f ts) = K f × EachNames K ts

  pub EachNames : (ℕ → Type 0) → Tms → Type 0
  EachNames K nil = ⊤
  EachNames K (cons t ts) = EachName K t × EachNames K ts

-- there are as many terms as before
pub length-renamed : (h : ℕ → ℕ) (ts : Tms) → length (items (all_renamed h ts)) ≡ length (items ts)
length-renamed h nil = refl
length-renamed h (cons t ts) = ap suc (length-renamed h ts)

-- the names that K holds of stay apart, and the first `count` are among them and stay
module _ (h : ℕ → ℕ) (count : ℕ) (K : ℕ → Type 0) (known : (f : ℕ) → f < count → K f) (stays : (f : ℕ) → f < count → h f ≡ f) (apart : (f g : ℕ) → K f → K g → h f ≡ h g → f ≡ g) where
  same-name : (f g : ℕ) → K f → K g → nat_eq (h f) (h g) ≡ nat_eq f g
  same-name f g j k = by (nat_eq f g) refl
    where
      by : (b : Bool) → nat_eq f g ≡ b → nat_eq (h f) (h g) ≡ nat_eq f g
      by true e = eq-eqb (h f) (h g) (ap h (eqb-true f g e)) ∙ sym e
      by false e = ne_eqb (h f) (h g) (λ s. eqb-false f g e (apart f g j k s)) ∙ sym e

  -- ---- terms

  mutual
    same-renamed : (t u : Tm) → EachName K t → EachName K u → same_tm (renamed h t) (renamed h u) ≡ same_tm t u
    same-renamed (var x) (var y) j k = refl
    same-renamed (var x) (num r) j k = refl
    same-renamed (var x) (app g us) j k = refl
    same-renamed (num q) (var y) j k = refl
    same-renamed (num q) (num r) j k = refl
    same-renamed (num q) (app g us) j k = refl
    same-renamed (app f ts) (var y) j k = refl
    same-renamed (app f ts) (num r) j k = refl
    same-renamed (app f ts) (app g us) j k = λ i. same-name f g j.0 k.0 i && all-same-renamed ts us j.1 k.1 i

    all-same-renamed : (ts us : Tms) → EachNames K ts → EachNames K us → same_tms (all_renamed h ts) (all_renamed h us) ≡ same_tms ts us
    all-same-renamed nil nil j k = refl
    all-same-renamed nil (cons u us) j k = refl
    all-same-renamed (cons t ts) nil j k = refl
    all-same-renamed (cons t ts) (cons u us) j k = λ i. same-renamed t u j.0 k.0 i && all-same-renamed ts us j.1 k.1 i

  mutual
    ground-renamed : (t : Tm) → is_ground (renamed h t) ≡ is_ground t
    ground-renamed (var x) = refl
    ground-renamed (num q) = refl
    ground-renamed (app f ts) = all-ground-renamed ts

    all-ground-renamed : (ts : Tms) → are_ground (all_renamed h ts) ≡ are_ground ts
    all-ground-renamed nil = refl
    all-ground-renamed (cons t ts) = λ i. ground-renamed t i && all-ground-renamed ts i

  number-renamed : (t : Tm) → (is_number (renamed h t) ≡ is_number t) × (number_of (renamed h t) ≡ number_of t)
  number-renamed (var x) = (refl, refl)
  number-renamed (num q) = (refl, refl)
  number-renamed (app f ts) = (refl, refl)

  shape-renamed : (f n : ℕ) → f < count → (t : Tm) → EachName K t → has_shape f n (renamed h t) ≡ has_shape f n t
  shape-renamed f n l (var x) k = refl
  shape-renamed f n l (num q) k = refl
  shape-renamed f n l (app g us) k =
      let name : nat_eq (h g) f ≡ nat_eq g f = ap (nat_eq (h g)) (sym (stays f l)) ∙ same-name g f k.0 (known f l) in
      λ i. name i && nat_eq (length-renamed h us i) n

  -- ---- under a sample

  module _ (ts : Tms) (names : EachNames K ts) where
    old : Sub
    old = giving (items ts)

    new : Sub
    new = giving (items (all_renamed h ts))

    giving-renamed : (us : Tms) (x : ℕ) → giving (items (all_renamed h us)) x ≡ renamed h (giving (items us) x)
    giving-renamed nil x = refl
    giving-renamed (cons u us) zero = refl
    giving-renamed (cons u us) (suc x) = giving-renamed us x

    giving-known : (us : Tms) → EachNames K us → (x : ℕ) → EachName K (giving (items us) x)
    giving-known nil k x = tt
    giving-known (cons u us) k zero = k.0
    giving-known (cons u us) k (suc x) = giving-known us k.1 x

    mutual
      under-renamed : (t : Tm) → is_named count t ≡ true → under (giving (items (all_renamed h ts))) t ≡ renamed h (under (giving (items ts)) t)
      under-renamed (var x) e = giving-renamed ts x
      under-renamed (num q) e = refl
      under-renamed (app f us) e =
          let k = and_parts (nat_lt f count) (are_named count us) e in
          λ i. app (sym (stays f (ltb-true f count k.0)) i) (all-under-renamed us k.1 i)

      all-under-renamed : (us : Tms) → are_named count us ≡ true → all_under (giving (items (all_renamed h ts))) us ≡ all_renamed h (all_under (giving (items ts)) us)
      all-under-renamed nil e = refl
      all-under-renamed (cons u us) e = let k = and_parts (is_named count u) (are_named count us) e in λ i. cons (under-renamed u k.0 i) (all-under-renamed us k.1 i)

    mutual
      under-known : (t : Tm) → is_named count t ≡ true → EachName K (under (giving (items ts)) t)
      under-known (var x) e = giving-known ts names x
      under-known (num q) e = tt
      under-known (app f us) e = let k = and_parts (nat_lt f count) (are_named count us) e in (known f (ltb-true f count k.0), all-under-known us k.1)

      all-under-known : (us : Tms) → are_named count us ≡ true → EachNames K (all_under (giving (items ts)) us)
      all-under-known nil e = tt
      all-under-known (cons u us) e = let k = and_parts (is_named count u) (are_named count us) e in (under-known u k.0, all-under-known us k.1)

    both-renamed : (t u : Tm) → (is_named count t && is_named count u) ≡ true
        → same_tm (under (giving (items (all_renamed h ts))) t) (under (giving (items (all_renamed h ts))) u) ≡ same_tm (under (giving (items ts)) t) (under (giving (items ts)) u)
    both-renamed t u e =
        let k = and_parts (is_named count t) (is_named count u) e in
        (λ i. same_tm (under-renamed t k.0 i) (under-renamed u k.1 i)) ∙ same-renamed (under (giving (items ts)) t) (under (giving (items ts)) u) (under-known t k.0) (under-known u k.1)

    sum-renamed : (ks : List Coeff) (sum : Number) → summed (giving (items (all_renamed h ts))) ks sum ≡ summed (giving (items ts)) ks sum
    sum-renamed [] sum = refl
    sum-renamed (k ∷ ks) sum =
        let value : number_of (giving (items (all_renamed h ts)) k.x) ≡ number_of (giving (items ts) k.x) = ap number_of (giving-renamed ts k.x) ∙ (number-renamed (giving (items ts) k.x)).1 in
        ap (λ (q : Number). plus_product sum k.c q >>= summed (giving (items (all_renamed h ts))) ks) value
        ∙ by (plus_product sum k.c (number_of (giving (items ts) k.x))) (λ s. sum-renamed ks s)
      where
        by : (o : Option Number) → ((s : Number) → summed (giving (items (all_renamed h ts))) ks s ≡ summed (giving (items ts)) ks s)
            → (o >>= summed (giving (items (all_renamed h ts))) ks) ≡ (o >>= summed (giving (items ts)) ks)
        by None rest = refl
        by (Some s) rest = rest s

    start-renamed : (o : Option Number) (ks : List Coeff) → (o >>= summed (giving (items (all_renamed h ts))) ks) ≡ (o >>= summed (giving (items ts)) ks)
    start-renamed None ks = refl
    start-renamed (Some s) ks = sum-renamed ks s

    holds-renamed : (c : Con) → is_spelled count c ≡ true → holds_bounded (giving (items (all_renamed h ts))) c ≡ holds_bounded (giving (items ts)) c
    holds-renamed (con.Eq t u) e = both-renamed (tm_of t) (tm_of u) e
    holds-renamed (con.Neq t u) e = ap not (both-renamed (tm_of t) (tm_of u) (and_parts (is_named count (tm_of t) && is_named count (tm_of u)) (not (is_shape (tm_of t) (tm_of u))) e).0)
    holds-renamed (con.NotShape x f n) e =
        ap not (ap (has_shape f n) (giving-renamed ts x) ∙ shape-renamed f n (ltb-true f count e) (giving (items ts) x) (giving-known ts names x))
    holds-renamed (con.Num t) e = ap is_number (under-renamed (tm_of t) e) ∙ (number-renamed (under (giving (items ts)) (tm_of t))).0
    holds-renamed (con.NotNum t) e = ap not (ap is_number (under-renamed (tm_of t) e) ∙ (number-renamed (under (giving (items ts)) (tm_of t))).0)
    holds-renamed (con.Row r) e = ap (compares_so r.op) (start-renamed (whole r.constant) r.coeffs)

    all-hold-renamed : (cs : List Con) → list_all (is_spelled count) cs ≡ true → list_all (holds_bounded (giving (items (all_renamed h ts)))) cs ≡ list_all (holds_bounded (giving (items ts))) cs
    all-hold-renamed [] e = refl
    all-hold-renamed (c ∷ cs) e =
        let k = and_parts (is_spelled count c) (list_all (is_spelled count) cs) e in
        λ i. holds-renamed c k.0 i && all-hold-renamed cs k.1 i

-- ---- certificates

-- what is wrong with a certificate that has so many free variables, where this is wrong with its sample
module _ (p : Program) (c : Certificate) where
  abbrev set : ℕ → Setting
  set n = record { clauses = p.clauses; free = n; top = n + (room_below p.clauses (listed c.trees) + room_under p.clauses c.checks) }

  abbrev first : ℕ → Walked
  first n = nodes_walk (set n) (start (set n).top) 1 (set n).free (query_dues (numbered p.queries c.query) c.terms) (listed c.trees)

  abbrev all : ℕ → List Line
  all n = (followed (first n) (checks_walk (set n) (start (set n).top) (1 + lines_below (listed c.trees)) (first n).next c.checks)).lines

  abbrev one : ℕ → Whole
  one n = record { setting = set n; given = c.given; lines = all n; positives = true }

  abbrev faults_with : ℕ → List Refusal → List Refusal
  faults_with n sample =
      (wants 0 reason.WrongQuery (of_some (numbered p.queries c.query) (λ q. nat_eq (length (items c.terms)) (length q.names)))
      ++ wants 0 reason.WrongVariable (are_below n c.terms && list_all (is_con_known (λ x. nat_lt x n)) c.given)
      ++ wants 0 reason.WrongChildren (nat_eq (counted (listed c.trees)) (query_items (numbered p.queries c.query))))
      ++ flat_map (line_faults (one n)) (all n)
      ++ (flat_map (pair_faults n c.given c.clashes) (all_pairs (all_told (all n))) ++ flat_map (other_clash (all_told (all n))) c.clashes)
      ++ sample ++ map_faults p c

  faults-are : (ts : Tms) → faults p (record c { sample = ts }) ≡ faults_with (length (items ts)) (sample_faults (record c { sample = ts }))
  faults-are ts = refl

sample-none : (ground meets : Bool) → ground ≡ true → meets ≡ true → wants 0 reason.Sample (ground && meets) ≡ []
sample-none ground meets e f = rw (e, f) refl

pub renamed-accepted : (h : ℕ → ℕ) (count : ℕ) (K : ℕ → Type 0) → ((f : ℕ) → f < count → K f) → ((f : ℕ) → f < count → h f ≡ f) → ((f g : ℕ) → K f → K g → h f ≡ h g → f ≡ g)
    → (p : Program) (c : Certificate) → list_all (is_spelled count) c.given ≡ true → EachNames K c.sample → Accepts p c → Accepts p (record c { sample = all_renamed h c.sample })
renamed-accepted h count K known stays apart p c given names right =
    let ts : Tms = all_renamed h c.sample in
    let fewer : length (items ts) ≡ length (items c.sample) = length-renamed h c.sample in
    let old : sample_faults c ≡ [] = sample-none (are_ground c.sample) (list_all (holds_bounded (giving (items c.sample))) c.given) right.sample_ground right.sample_meets in
    let new : sample_faults (record c { sample = ts }) ≡ [] =
    sample-none (are_ground ts) (list_all (holds_bounded (giving (items ts))) c.given) (all-ground-renamed h count K known stays apart c.sample ∙ right.sample_ground)
    (all-hold-renamed h count K known stays apart c.sample names c.given given ∙ right.sample_meets) in
    let same : faults p (record c { sample = ts }) ≡ faults p c = λ i. faults_with p c (fewer i) ((new ∙ sym old) i) in
    (accepted-no_fault true p (record c { sample = ts })).1 (same ∙ (accepted-no_fault true p c).0 right)
