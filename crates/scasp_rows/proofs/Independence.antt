-- Rows and disequations: one at a time is enough, and what is chosen for each is met.
use Rattle.std.proofs.Common.{◌≢◌, ◌⊎◌, inl, inr, ◌↔◌, ℕ, ◌<◌, ℤ, pos, ◌+ℤ◌, ◌*ℤ◌, ◌<ℤ◌, unsigned_abs, List, [], ◌∷◌, ◌++◌, sym, subst, ◌∙◌}
use Rattle.scasp_num.specs.declared.linear.Coeff.{Coeff}
use Rattle.scasp_num.specs.declared.linear.Op.{Op}
use Rattle.scasp_num.specs.Number.{IsFraction}
use Rattle.scasp_list.specs.Each.{Each}
use Rattle.scasp_list.proofs.EachLemmas.{Each-left, Each-right}
use Rattle.scasp_num.specs.Linear.{Linear, Compares, Meets}
use Rattle.scasp_num.specs.Values.{HaveDenominator}
use Rattle.scasp_num.proofs.Valuations.{Holds-Meets, denominator-exists}
use Rattle.scasp_rows.specs.Points.{RationalPoint, MeetsAll, IsMet, NoDisequation}
use Rattle.scasp_rows.specs.Samples.{MeetsSome, MeetsBoth, OnlyDisequations}
use Rattle.scasp_rows.proofs.Sums.{value}
use Rattle.scasp_rows.proofs.Completeness.{point_by, point-denominator, point-meets}
use Rattle.scasp_rows.proofs.Combining.{mixed, mixed-value, mixed-above, all-mixed, nonzero-mixed, larger}

-- ---- disequations under whole values

-- some part is not 0
abbrev pub SomeNonzero : (ℕ → ℤ) → ℤ → List Linear → Type 0
SomeNonzero m d [] = ⊥
SomeNonzero m d (r ∷ rs) = (value m d r ≢ pos 0) ⊎ SomeNonzero m d rs

-- what the parts are
abbrev pub values : (ℕ → ℤ) → ℤ → List Linear → List ℤ
values m d [] = []
values m d (r ∷ rs) = value m d r ∷ values m d rs

abbrev pub all-values : (ℕ → ℤ) → ℤ → List (List Linear) → List ℤ
all-values m d [] = []
all-values m d (p ∷ ps) = values m d p ++ all-values m d ps

abbrev pub Smaller : ℕ → ℤ → Type 0
Smaller n z = unsigned_abs z < n

some-first : (n : ℕ) (m w : ℕ → ℤ) (d e : ℤ) (parts : List Linear) → Each (Smaller n) (values w e parts) → SomeNonzero m d parts → SomeNonzero (mixed n m w) (pos n *ℤ d +ℤ e) parts
some-first n m w d e [] h s = s
some-first n m w d e (r ∷ rs) h (inl f) = inl (λ k. nonzero-mixed n (value m d r) (value w e r) h.0 (inl f) (sym (mixed-value n m w d e r) ∙ k))
some-first n m w d e (r ∷ rs) h (inr f) = inr (some-first n m w d e rs h.1 f)

pub some-second : (n : ℕ) (m w : ℕ → ℤ) (d e : ℤ) (parts : List Linear) → Each (Smaller n) (values w e parts) → SomeNonzero w e parts → SomeNonzero (mixed n m w) (pos n *ℤ d +ℤ e) parts
some-second n m w d e [] h s = s
some-second n m w d e (r ∷ rs) h (inl f) = inl (λ k. nonzero-mixed n (value m d r) (value w e r) h.0 (inr f) (sym (mixed-value n m w d e r) ∙ k))
some-second n m w d e (r ∷ rs) h (inr f) = inr (some-second n m w d e rs h.1 f)

pub each-second : (n : ℕ) (m w : ℕ → ℤ) (d e : ℤ) (differ : List (List Linear)) → Each (Smaller n) (all-values w e differ) → Each (SomeNonzero w e) differ → Each (SomeNonzero (mixed n m w) (pos n *ℤ d +ℤ e)) differ
each-second n m w d e [] h s = tt
each-second n m w d e (p ∷ ps) h s = (some-second n m w d e p (Each-left (Smaller n) (values w e p) (all-values w e ps) h) s.0, each-second n m w d e ps (Each-right (Smaller n) (values w e p) (all-values w e ps) h) s.1)

-- some values meet the rows, and of each disequation some part
abbrev pub MetBoth : List Linear → List (List Linear) → Type 0
MetBoth rows differ = (m : ℕ → ℤ) × (d : ℤ) × (pos 0 <ℤ d) × Each (Meets m d) rows × Each (SomeNonzero m d) differ

-- each disequation alone can be met together with the rows
abbrev pub EachMet : List Linear → List (List Linear) → Type 0
EachMet rows differ = Each (λ parts. (m : ℕ → ℤ) × (d : ℤ) × (pos 0 <ℤ d) × Each (Meets m d) rows × SomeNonzero m d parts) differ

pub independent : (rows : List Linear) (differ : List (List Linear)) → NoDisequation rows → (m : ℕ → ℤ) (d : ℤ) → pos 0 <ℤ d → Each (Meets m d) rows → EachMet rows differ → MetBoth rows differ
independent rows [] plain m d above met h = (m, d, above, met, tt)
independent rows (p ∷ ps) plain m d above met h =
    let k = independent rows ps plain m d above met h.1 in
    let first = h.0 in
    let w = k.0 in
    let e = k.1 in
    let n = larger (values w e p ++ all-values w e ps) in
    let small = n.2 in (
      mixed n.0 first.0 w,
      pos n.0 *ℤ first.1 +ℤ e,
      mixed-above n.0 first.1 e first.2 k.2,
      all-mixed n.0 first.0 w first.1 e rows n.1 plain first.3 k.3,
      (some-first n.0 first.0 w first.1 e p (Each-left (Smaller n.0) (values w e p) (all-values w e ps) small) first.4, each-second n.0 first.0 w first.1 e ps (Each-right (Smaller n.0) (values w e p) (all-values w e ps) small) k.4),
    )

-- ---- between rational points and whole values

abbrev terms : List Linear → List Coeff
terms [] = []
terms (r ∷ rs) = r.coeffs ++ terms rs

abbrev all-terms : List (List Linear) → List Coeff
all-terms [] = []
all-terms (p ∷ ps) = terms p ++ all-terms ps

holds-meets : (v : RationalPoint) (m : ℕ → ℤ) (d : ℤ) (rows : List Linear) → pos 0 <ℤ d → HaveDenominator v m d (terms rows) → MeetsAll v rows → Each (Meets m d) rows
holds-meets v m d [] h k f = tt
holds-meets v m d (r ∷ rs) h k f =
    let P = λ (k : Coeff). IsFraction (v k.x) (m k.x) d in
    ((Holds-Meets v m d r h (Each-left P r.coeffs (terms rs) k)).0 f.0, holds-meets v m d rs h (Each-right P r.coeffs (terms rs) k) f.1)

some-whole : (v : RationalPoint) (m : ℕ → ℤ) (d : ℤ) (parts : List Linear) → pos 0 <ℤ d → HaveDenominator v m d (terms parts) → OnlyDisequations parts → MeetsSome v parts → SomeNonzero m d parts
some-whole v m d [] h k o f = f
some-whole v m d (r ∷ rs) h k o (inl f) =
    let P = λ (k : Coeff). IsFraction (v k.x) (m k.x) d in
    inl (subst (λ (u : Op). Compares u (value m d r)) o.0 ((Holds-Meets v m d r h (Each-left P r.coeffs (terms rs) k)).0 f))
some-whole v m d (r ∷ rs) h k o (inr f) =
    let P = λ (k : Coeff). IsFraction (v k.x) (m k.x) d in
    inr (some-whole v m d rs h (Each-right P r.coeffs (terms rs) k) o.1 f)

each-whole : (v : RationalPoint) (m : ℕ → ℤ) (d : ℤ) (differ : List (List Linear)) → pos 0 <ℤ d → HaveDenominator v m d (all-terms differ) → Each OnlyDisequations differ → Each (MeetsSome v) differ → Each (SomeNonzero m d) differ
each-whole v m d [] h k o f = tt
each-whole v m d (p ∷ ps) h k o f =
    let P = λ (k : Coeff). IsFraction (v k.x) (m k.x) d in
    (some-whole v m d p h (Each-left P (terms p) (all-terms ps) k) o.0 f.0, each-whole v m d ps h (Each-right P (terms p) (all-terms ps) k) o.1 f.1)

pub both-whole : (v : RationalPoint) (rows : List Linear) (differ : List (List Linear)) → Each OnlyDisequations differ → MeetsBoth v rows differ → MetBoth rows differ
both-whole v rows differ o f =
    let c = denominator-exists v (terms rows ++ all-terms differ) in
    let P = λ (k : Coeff). IsFraction (v k.x) (c.0 k.x) c.1 in
    (c.0, c.1, c.2, holds-meets v c.0 c.1 rows c.2 (Each-left P (terms rows) (all-terms differ) c.3) f.0, each-whole v c.0 c.1 differ c.2 (Each-right P (terms rows) (all-terms differ) c.3) o f.1)

-- the values of the point over one denominator
abbrev pub Over : RationalPoint → (ℕ → ℤ) → ℤ → Type 0
Over v m d = (ks : List Coeff) → HaveDenominator v m d ks

pub some-holds : (v : RationalPoint) (m : ℕ → ℤ) (d : ℤ) (parts : List Linear) → pos 0 <ℤ d → Over v m d → OnlyDisequations parts → SomeNonzero m d parts → MeetsSome v parts
some-holds v m d [] h k o f = f
some-holds v m d (r ∷ rs) h k o (inl f) = inl ((Holds-Meets v m d r h (k r.coeffs)).1 (subst (λ (u : Op). Compares u (value m d r)) (sym o.0) f))
some-holds v m d (r ∷ rs) h k o (inr f) = inr (some-holds v m d rs h k o.1 f)

pub each-holds : (v : RationalPoint) (m : ℕ → ℤ) (d : ℤ) (differ : List (List Linear)) → pos 0 <ℤ d → Over v m d → Each OnlyDisequations differ → Each (SomeNonzero m d) differ → Each (MeetsSome v) differ
each-holds v m d [] h k o f = tt
each-holds v m d (p ∷ ps) h k o f = (some-holds v m d p h k o.0 f.0, each-holds v m d ps h k o.1 f.1)

-- the point that has whole values
point-both : (rows : List Linear) (differ : List (List Linear)) → Each OnlyDisequations differ → MetBoth rows differ → (v : RationalPoint) × MeetsBoth v rows differ
point-both rows differ o f =
    let v = point_by f.0 f.1 f.2 in
    (v, (point-meets f.0 f.1 f.2 rows f.3, each-holds v f.0 f.1 differ f.2 (point-denominator f.0 f.1 f.2) o f.4))

-- one disequation at a time is enough
abbrev Alone : List Linear → List Linear → Type 0
Alone rows parts = (v : RationalPoint) × MeetsAll v rows × MeetsSome v parts

alone-whole : (rows : List Linear) (differ : List (List Linear)) → Each OnlyDisequations differ → Each (Alone rows) differ → EachMet rows differ
alone-whole rows [] o h = tt
alone-whole rows (p ∷ ps) o h =
    let k = both-whole h.0.0 rows (p ∷ []) (o.0, tt) (h.0.1, (h.0.2, tt)) in
    ((k.0, k.1, k.2, k.3, k.4.0), alone-whole rows ps o.1 h.1)

each-alone : (v : RationalPoint) (rows : List Linear) (differ : List (List Linear)) → MeetsAll v rows → Each (MeetsSome v) differ → Each (Alone rows) differ
each-alone v rows [] f g = tt
each-alone v rows (p ∷ ps) f g = ((v, f, g.0), each-alone v rows ps f g.1)

pub one_at_a_time : (rows : List Linear) (differ : List (List Linear)) → NoDisequation rows → Each OnlyDisequations differ → ((v : RationalPoint) × MeetsBoth v rows differ) ↔ (IsMet rows × Each (Alone rows) differ)
one_at_a_time rows differ plain o = (
  (λ (f : (v : RationalPoint) × MeetsBoth v rows differ). ((f.0, f.1.0), each-alone f.0 rows differ f.1.0 f.1.1)),
  (λ (f : IsMet rows × Each (Alone rows) differ).
      let k = both-whole f.0.0 rows [] tt (f.0.1, tt) in
      point-both rows differ o (independent rows differ plain k.0 k.1 k.2 k.3 (alone-whole rows differ o f.1))),
)
