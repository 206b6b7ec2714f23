-- Cases that begin and end, and so each step: a variable is bound to a term in which it stands by the other side of a split alone.
use Rattle.std.specs.Prelude.{◌≡◌, ◌≢◌, ◌⊎◌, ℕ, zero, suc, ◌+◌, ◌<◌, ◌≤◌, nat_eq, Bool, true, false, ◌&&◌, ◌||◌, not, if◌then◌else◌, Option, Some, None, List, [], ◌∷◌, ◌++◌, length, map, filter}
use Rattle.std.proofs.Common.{refl, arith, ap, sym, subst, ◌∙◌, inl, inr}
use Rattle.std.proofs.lemmas.Bool.{cases_Bool, or_left, or_right, eqb-true, eqb-false, eq-eqb, true≢false}
use Rattle.std.proofs.lemmas.List.{append-nil}
use Rattle.scasp_list.specs.Each.{Each}
use Rattle.scasp_list.proofs.EachLemmas.{Each-map, Each-append, Each-both, Each-filter}
use Rattle.scasp_search_rules.specs.declared.states.covers.Cover.{Cover}
use Rattle.scasp_search_rules.specs.declared.states.covers.Remainder.{Remainder}
use Rattle.scasp_search_rules.specs.declared.states.lines.Line.TheVariants as line
use Rattle.scasp_search_rules.specs.declared.states.state.Kind.TheVariants.{Matched}
use Rattle.scasp_search_rules.specs.declared.states.state.Literal.{Literal}
use Rattle.scasp_search_rules.specs.declared.states.state.State.{State}
use Rattle.scasp_search_rules.specs.declared.states.tasks.Aim.{Aim}
use Rattle.scasp_search_rules.specs.declared.states.tasks.Pair.{Pair}
use Rattle.scasp_search_rules.specs.declared.states.tasks.Task.{Task}
use Rattle.scasp_search_rules.specs.declared.states.tasks.Task.TheVariants as task
use Rattle.scasp_search_rules.specs.Successors.Calls.{ancestors, vars_of_clause}
use Rattle.scasp_search_rules.specs.Successors.Cases.{cases_of, cover_for, with_cover, unbound_of, begin_cases, check_clause, kept_literal, unbound, ended_case, replaced_now, remaining, taken_up, after_case, close_case}
use Rattle.scasp_search_rules.specs.Successors.Falls.{EachState}
use Rattle.scasp_search_rules.specs.Successors.Items.{with_line}
use Rattle.scasp_search_rules.specs.Successors.Reading.{among, count_from}
use Rattle.scasp_search_rules.specs.Successors.Replacing.{closes, is_close}
use Rattle.scasp_search_rules.specs.Successors.Search.{done, step, step_at}
use Rattle.scasp_search_rules.specs.Successors.Splits.{is_bound_in}
use Rattle.scasp_search_rules.specs.Successors.Variables.{binding, meaning, next_variable, with_new}
use Rattle.scasp_syntax.specs.Tm.{Tm, app}
use Rattle.scasp_syntax.specs.Values.{under}
use Rattle.scasp_syntax.specs.View.{tm_of}
use Rattle.scasp_syntax.specs.declared.clause.FlatItem.TheVariants as flat
use Rattle.scasp_syntax.specs.declared.con.Con.{Con}
use Rattle.scasp_syntax.specs.declared.program.Program.{Program}
use Rattle.scasp_syntax.specs.declared.term.Term.{Term}
use Rattle.scasp_syntax.specs.declared.term.Term.TheVariants.{Var, Num, App}
use Rattle.scasp_unify.specs.Parts.{occurs}
use Rattle.scasp_unify.specs.declared.bindings.Binding.{Binding}
use Rattle.scasp_unify.proofs.SimpleLemmas.{viewed}
use Rattle.scasp_law_first_event.specs.Replaced.{stands_inside, first_inside, innermost_inside, replaces_inside}
use Rattle.scasp_law_first_event.specs.Solved.{has_circle}
use Rattle.scasp_law_first_event.proofs.Bindings.{Solved}
use Rattle.scasp_law_first_event.proofs.Clearing.{Goes, assumed-goes, variable-goes, value-goes, avoid-goes, name-goes, differ-goes, test-goes, equate-goes, circle-pushed}
use Rattle.scasp_law_first_event.proofs.EachStates.{each_weaker}
use Rattle.scasp_law_first_event.proofs.Entering.{line-goes, left-goes, call-goes, cover-goes, cases-go}
use Rattle.scasp_law_first_event.proofs.Firming.{onto-by, still-bound, new-onto}
use Rattle.scasp_law_first_event.proofs.Firmness.{as-many, is_loose, Kinded, Firm, BindingFirm, LiteralFirm, ClauseFirm, CoverFirm, RemainderFirm, EquationFirm, TaskFirm, Clear, Onto, bindings-onto, literals-onto, covers-onto, work-onto, universals-onto, remainder-onto, onto-then, kinded-firm, read-kinded}
use Rattle.scasp_law_first_event.proofs.Keeping.{solved-filter}
use Rattle.scasp_law_first_event.proofs.Loose.{universals-stay, universals-are, universals-length}
use Rattle.scasp_law_first_event.proofs.Moves.{new-length}
use Rattle.scasp_law_first_event.proofs.Raising.{Each-mapped}
use Rattle.scasp_law_first_event.proofs.Terms.{EachVar, each-weaker}

-- ---- lists of numbers

among-more : (x y : ℕ) (xs : List ℕ) → among x xs ≡ true → among x (y ∷ xs) ≡ true
among-more x y xs e = or_right (nat_eq x y) (among x xs) e

pub each-among : (xs : List ℕ) → Each (λ z. among z xs ≡ true) xs
each-among [] = tt
each-among (x ∷ xs) =
    (or_left (nat_eq x x) (among x xs) (eq-eqb x x refl), Each-map (λ (z : ℕ). among z xs ≡ true) (λ z. among z (x ∷ xs) ≡ true) (λ z e. among-more z x xs e) xs (each-among xs))

pub each-under : (m k n : ℕ) → k + n ≤ m → Each (λ z. z < m) (count_from k n)
each-under m k zero l = tt
each-under m k (suc n) l = (omega (arith, l), each-under m (suc k) n (omega (arith, l)))

-- what the test lets through is among what it keeps
pub among-kept : (test : ℕ → Bool) (k n z : ℕ) → k ≤ z → z < k + n → test z ≡ true → among z (filter test (count_from k n)) ≡ true
among-kept test k zero z l m e = absurd (omega (arith, l, m))
among-kept test k (suc n) z l m e = by (cases_Bool (nat_eq z k)) (λ a. among-kept test (suc k) n z a (omega (arith, m)) e)
  where
    first : (b : Bool) → test k ≡ b → nat_eq z k ≡ true → among z (if b then k ∷ filter test (count_from (suc k) n) else filter test (count_from (suc k) n)) ≡ true
    first true f same = or_left (nat_eq z k) (among z (filter test (count_from (suc k) n))) same
    first false f same = absurd (true≢false (sym e ∙ ap test (eqb-true z k same) ∙ f))

    other : (b : Bool) → among z (filter test (count_from (suc k) n)) ≡ true → among z (if b then k ∷ filter test (count_from (suc k) n) else filter test (count_from (suc k) n)) ≡ true
    other true f = or_right (nat_eq z k) (among z (filter test (count_from (suc k) n))) f
    other false f = f

    later : nat_eq z k ≡ false → suc k ≤ z
    later d = omega (arith, l, differ)
      where
        differ : z ≢ k
        differ = eqb-false z k d

    by : (nat_eq z k ≡ true) ⊎ (nat_eq z k ≡ false) → (suc k ≤ z → among z (filter test (count_from (suc k) n)) ≡ true) → among z (filter test (count_from k (suc n))) ≡ true
    by (inl same) rest = first (test k) refl same
    by (inr d) rest = other (test k) (rest (later d))

pub each-at : (P : ℕ → Type 0) (xs : List ℕ) (z : ℕ) → Each P xs → among z xs ≡ true → P z
each-at P [] z k f = absurd (true≢false (sym f))
each-at P (x ∷ xs) z k f = by (nat_eq z x) refl (λ g. each-at P xs z k.1 g) f
  where
    by : (b : Bool) → nat_eq z x ≡ b → (among z xs ≡ true → P z) → (b || among z xs) ≡ true → P z
    by true same rest g = subst P (sym (eqb-true z x same)) k.0
    by false d rest g = rest g

-- ---- bindings that are taken out

pub kept-bound : (test : Binding → Bool) (bs : List Binding) (z : ℕ) → ((b : Binding) → b.x ≡ z → test b ≡ true) → is_bound_in bs z ≡ true → is_bound_in (filter test bs) z ≡ true
kept-bound test [] z f e = e
kept-bound test (b ∷ bs) z f e = by (test b) refl (cases_Bool (nat_eq b.x z)) (λ g. kept-bound test bs z f g)
  where
    past : (c : Bool) → c ≡ false → (c || is_bound_in bs z) ≡ true → is_bound_in bs z ≡ true
    past true d g = absurd (true≢false d)
    past false d g = g

    by : (c : Bool) → test b ≡ c → (nat_eq b.x z ≡ true) ⊎ (nat_eq b.x z ≡ false) → (is_bound_in bs z ≡ true → is_bound_in (filter test bs) z ≡ true)
        → is_bound_in (if c then b ∷ filter test bs else filter test bs) z ≡ true
    by true t (inl same) rest = or_left (nat_eq b.x z) (is_bound_in (filter test bs) z) same
    by true t (inr d) rest = or_right (nat_eq b.x z) (is_bound_in (filter test bs) z) (rest (past (nat_eq b.x z) d e))
    by false t (inl same) rest = absurd (true≢false (sym (f b (eqb-true b.x z same)) ∙ t))
    by false t (inr d) rest = rest (past (nat_eq b.x z) d e)

circle-kept : (test : Binding → Bool) (bs : List Binding) → has_circle (filter test bs) ≡ true → has_circle bs ≡ true
circle-kept test [] e = e
circle-kept test (b ∷ bs) e = by (test b) (λ g. circle-kept test bs g) e
  where
    either : (c : Bool) → (has_circle (filter test bs) ≡ true → has_circle bs ≡ true) → (c || has_circle (filter test bs)) ≡ true → (c || has_circle bs) ≡ true
    either true rest f = refl
    either false rest f = rest f

    by : (c : Bool) → (has_circle (filter test bs) ≡ true → has_circle bs ≡ true) → has_circle (if c then b ∷ filter test bs else filter test bs) ≡ true
        → (occurs b.x (tm_of b.term) || has_circle bs) ≡ true
    by true rest f = either (occurs b.x (tm_of b.term)) rest f
    by false rest f = or_right (occurs b.x (tm_of b.term)) (has_circle bs) (rest f)

-- the state is clear, with its work; a circle that is new is one of a replacement
pub record Ends (p : Program) (s : State) (inside : Bool) (r : State) : Type 0 where
  pub clear : Clear p r
  pub work : Each (TaskFirm p r) r.work
  pub circle : has_circle r.bound ≡ true → (has_circle s.bound ≡ true) ⊎ (inside ≡ true)

goes-ends : (p : Program) (s r : State) (inside : Bool) → Goes p s r → Ends p s inside r
goes-ends p s r inside g = record { clear = g.clear; work = g.work; circle = (λ c. inl (g.circle c)) }

all-end : (p : Program) (s : State) (inside : Bool) (rs : List State) → EachState (Goes p s) rs → EachState (Ends p s inside) rs
all-end p s inside rs h = each_weaker (Goes p s) (Ends p s inside) rs (λ r g. goes-ends p s r inside g) h

module _ (p : Program) (sat : List Con → Bool) where
  -- ---- the beginning

  begin-goes : (s : State) → Clear p s → Each (TaskFirm p s) s.work → (k first : ℕ) (head : Bool) → first + vars_of_clause p k ≤ length s.made
      → EachState (Goes p s) (begin_cases p sat s k first head).states
  begin-goes s h w k first head b = each_weaker (Goes p r) (Goes p s) (cases_of p sat r c).states (λ t g. record { clear = g.clear; work = g.work; circle = g.circle })
      (cases-go p sat r clear (work-onto s r onto p s.work w) c clause)
    where
      c : Cover
      c = cover_for p s k first head (unbound_of s first (vars_of_clause p k))

      r : State
      r = with_cover s (cover_for p s k first head (unbound_of s first (vars_of_clause p k)))

      same : length (with_cover s (cover_for p s k first head (unbound_of s first (vars_of_clause p k)))).made ≡ length s.made
      same = universals-length (suc (length s.covers)) (unbound_of s first (vars_of_clause p k)) s.made

      stays : (z : ℕ) → is_loose s z ≡ false → is_loose (with_cover s (cover_for p s k first head (unbound_of s first (vars_of_clause p k)))) z ≡ false
      stays z e = universals-stay (suc (length s.covers)) (unbound_of s first (vars_of_clause p k)) s.made z e

      still : (z : ℕ) → (is_loose s z ≡ false) ⊎ (is_bound_in s.bound z ≡ true)
          → (is_loose (with_cover s (cover_for p s k first head (unbound_of s first (vars_of_clause p k)))) z ≡ false) ⊎ (is_bound_in s.bound z ≡ true)
      still z (inl e) = inl (stays z e)
      still z (inr e) = inr e

      onto : Onto s (with_cover s (cover_for p s k first head (unbound_of s first (vars_of_clause p k))))
      onto = record {
        more = omega (arith, same);
        kinded = (λ z q. (omega (arith, q.0, same), stays z q.1));
        firm = (λ z q. (omega (arith, q.0, same), still z q.1));
      }

      universal : (z : ℕ) → among z (unbound_of s first (vars_of_clause p k)) ≡ true → z < length s.made
          → Kinded (with_cover s (cover_for p s k first head (unbound_of s first (vars_of_clause p k)))) z
      universal z e l = (omega (arith, l, same), universals-are (suc (length s.covers)) (unbound_of s first (vars_of_clause p k)) s.made z e l)

      clause : ClauseFirm p (with_cover s (cover_for p s k first head (unbound_of s first (vars_of_clause p k)))) k first
      clause z a l = by (cases_Bool (is_bound_in s.bound z))
        where
          low : z < length s.made
          low = omega (arith, l, b)

          by : (is_bound_in s.bound z ≡ true) ⊎ (is_bound_in s.bound z ≡ false) → Firm (with_cover s (cover_for p s k first head (unbound_of s first (vars_of_clause p k)))) z
          by (inl e) = (omega (arith, low, same), inr e)
          by (inr e) =
              kinded-firm (with_cover s (cover_for p s k first head (unbound_of s first (vars_of_clause p k)))) z
              (universal z (among-kept (λ x. not (is_bound_in s.bound x)) first (vars_of_clause p k) z a l (ap not e)) low)

      owned : Each (Kinded (with_cover s (cover_for p s k first head (unbound_of s first (vars_of_clause p k))))) (unbound_of s first (vars_of_clause p k))
      owned =
          Each-map (λ (z : ℕ). (among z (unbound_of s first (vars_of_clause p k)) ≡ true) × (z < length s.made)) (Kinded (with_cover s (cover_for p s k first head (unbound_of s first (vars_of_clause p k)))))
          (λ z q. universal z q.0 q.1) (unbound_of s first (vars_of_clause p k))
          (Each-both (λ (z : ℕ). among z (unbound_of s first (vars_of_clause p k)) ≡ true) (λ z. z < length s.made) (unbound_of s first (vars_of_clause p k)) (each-among (unbound_of s first (vars_of_clause p k)))
          (Each-filter (λ (z : ℕ). z < length s.made) (λ x. not (is_bound_in s.bound x)) (count_from first (vars_of_clause p k)) (each-under (length s.made) first (vars_of_clause p k) b)))

      clear : Clear p (with_cover s (cover_for p s k first head (unbound_of s first (vars_of_clause p k))))
      clear = record {
        bindings = bindings-onto s r onto s.bound h.bindings;
        covers = ((owned, clause, tt), covers-onto s r onto p s.covers h.covers);
        literals = literals-onto s r onto s.literals h.literals;
      }

  check-goes : (s : State) → Clear p s → Each (TaskFirm p s) s.work → (k : ℕ) (head : Bool) → EachState (Goes p s) (check_clause p sat s k head).states
  check-goes s h w k head =
      each_weaker (Goes p r) (Goes p s) (begin_cases p sat r k (next_variable s) head).states (λ t g. record { clear = g.clear; work = g.work; circle = g.circle })
      (begin-goes r clear (work-onto s r onto p s.work w) k (next_variable s) head room)
    where
      r : State
      r = with_line (with_new s Matched 0 (vars_of_clause p k)) (line.Check k (next_variable s))

      long : length (with_line (with_new s Matched 0 (vars_of_clause p k)) (line.Check k (next_variable s))).made ≡ length s.made + vars_of_clause p k
      long = new-length s Matched 0 (vars_of_clause p k)

      room : length s.made + vars_of_clause p k ≤ length (with_line (with_new s Matched 0 (vars_of_clause p k)) (line.Check k (next_variable s))).made
      room = omega (arith, long)

      before : Onto s (with_new s Matched 0 (vars_of_clause p k))
      before = new-onto s Matched 0 (vars_of_clause p k)

      onto : Onto s (with_line (with_new s Matched 0 (vars_of_clause p k)) (line.Check k (next_variable s)))
      onto = record { more = before.more; kinded = before.kinded; firm = before.firm }

      clear : Clear p (with_line (with_new s Matched 0 (vars_of_clause p k)) (line.Check k (next_variable s)))
      clear = record {
        bindings = bindings-onto s r onto s.bound h.bindings;
        covers = covers-onto s r onto p s.covers h.covers;
        literals = literals-onto s r onto s.literals h.literals;
      }

  -- ---- the end

  module _ (s : State) (h : Clear p s) (w : Each (TaskFirm p s) s.work) (solved : Solved (length s.made) s.bound) where
    module _ (c : Cover) (owns : CoverFirm p s c) (but : List ℕ) where
      ended-firm : (z : ℕ) → (is_loose s z ≡ false) ⊎ (is_bound_in s.bound z ≡ true) → (is_loose s z ≡ false) ⊎ (is_bound_in (unbound c.universals but s.bound) z ≡ true)
      ended-firm z (inl e) = inl e
      ended-firm z (inr e) = by (cases_Bool (among z c.universals))
        where
          by : (among z c.universals ≡ true) ⊎ (among z c.universals ≡ false) → (is_loose s z ≡ false) ⊎ (is_bound_in (unbound c.universals but s.bound) z ≡ true)
          by (inl i) = inl (each-at (Kinded s) c.universals z owns.0 i).1
          by (inr i) =
              inr (kept-bound (λ b. not (among b.x c.universals) || among b.x but) s.bound z
              (λ b same. or_left (not (among b.x c.universals)) (among b.x but) (ap (λ (y : ℕ). not (among y c.universals)) same ∙ ap not i)) e)

      ended-onto : Onto s (ended_case s c but)
      ended-onto = record { more = as-many (length s.made); kinded = (λ z k. k); firm = (λ z k. (k.0, ended-firm z k.1)) }

      kept-firm : (xs : List Literal) → Each (LiteralFirm s) xs → Each (LiteralFirm (ended_case s c but)) (map (kept_literal s c.universals) xs)
      kept-firm xs b =
          Each-mapped (LiteralFirm (ended_case s c but)) (kept_literal s c.universals) xs
          (Each-map (LiteralFirm s) (λ a. LiteralFirm (ended_case s c but) (kept_literal s c.universals a))
          (λ a k. each-weaker (Kinded s) (Firm (ended_case s c but)) (λ z l. (l.0, inl l.1)) (under (meaning s) (app 0 a.lit.atom.args)) (read-kinded s solved h.bindings (app 0 a.lit.atom.args) k)) xs b)

      ended-clear : (cs : List Cover) → Each (CoverFirm p s) cs → Clear p (record (ended_case s c but) { covers = cs })
      ended-clear cs b = record {
        bindings = Each-filter (BindingFirm s) (λ b. not (among b.x c.universals) || among b.x but) s.bound h.bindings;
        covers = covers-onto s (ended_case s c but) ended-onto p cs b;
        literals = kept-firm s.literals h.literals;
      }

    -- a case ends, and no other side waits
    ended-goes : (c : Cover) (cs : List Cover) → CoverFirm p s c → Each (CoverFirm p s) cs → Goes p s (record (ended_case s c []) { covers = cs })
    ended-goes c cs k b = record {
      clear = ended-clear c k [] cs b;
      work = work-onto s (record (ended_case s c []) { covers = cs }) (record { more = as-many (length s.made); kinded = (λ z l. l); firm = (λ z l. (l.0, ended-firm c k [] z l.1)) }) p s.work w;
      circle = circle-kept (λ b. not (among b.x c.universals) || among b.x []) s.bound;
    }

    -- the other side is taken up
    taken-ends : (c : Cover) (r : Remainder) (rs : List Remainder) (cs : List Cover) → CoverFirm p s c → RemainderFirm s r → Each (RemainderFirm s) rs → Each (CoverFirm p s) cs
        → EachState (Ends p s (stands_inside (unbound c.universals r.replaced s.bound) r.equation))
        (cases_of p sat (taken_up (ended_case s c r.replaced) r (remaining c r rs (ended_case s c r.replaced).cases (ended_case s c r.replaced).lines) cs) (remaining c r rs (ended_case s c r.replaced).cases (ended_case s c r.replaced).lines)).states
    taken-ends c r rs cs k kr krs b = by r.equation refl kr.1
      where
        t : State
        t = ended_case s c r.replaced

        a : Cover
        a = remaining c r rs (ended_case s c r.replaced).cases (ended_case s c r.replaced).lines

        u : State
        u = taken_up (ended_case s c r.replaced) r (remaining c r rs (ended_case s c r.replaced).cases (ended_case s c r.replaced).lines) cs

        o : Onto s (ended_case s c r.replaced)
        o = ended-onto c k r.replaced

        ct : Clear p (record (ended_case s c r.replaced) { covers = cs })
        ct = ended-clear c k r.replaced cs b

        -- from the ended case on
        ends : Onto t u → Each (BindingFirm u) u.bound → (has_circle u.bound ≡ true → (has_circle s.bound ≡ true) ⊎ (stands_inside (unbound c.universals r.replaced s.bound) r.equation ≡ true))
            → EachState (Ends p s (stands_inside (unbound c.universals r.replaced s.bound) r.equation)) (cases_of p sat u a).states
        ends on bs circle =
            each_weaker (Goes p u) (Ends p s (stands_inside (unbound c.universals r.replaced s.bound) r.equation)) (cases_of p sat u a).states
            (λ q g. record { clear = g.clear; work = g.work; circle = (λ e. circle (g.circle e)) })
            (cases-go p sat u clear (work-onto s u all p s.work w) a (λ z l m. all.firm z (k.1 z l m)))
          where
            all : Onto s u
            all = onto-then s t u o on

            clear : Clear p u
            clear = record {
              bindings = bs;
              covers = ((universals-onto s u all r.universals kr.0, (λ z l m. all.firm z (k.1 z l m)), Each-map (RemainderFirm s) (RemainderFirm u) (remainder-onto s u all) rs krs), covers-onto s u all p cs b);
              literals = literals-onto t u on t.literals ct.literals;
            }

        by : (e : Option Binding) → r.equation ≡ e → EquationFirm s e → EachState (Ends p s (stands_inside (unbound c.universals r.replaced s.bound) r.equation)) (cases_of p sat u a).states
        by None e f =
            ends (onto-by t u (as-many (length s.made)) (λ z l. refl) (λ z g. subst (λ (bs : List Binding). is_bound_in bs z ≡ true) (sym same) g))
            (subst (Each (BindingFirm u)) (sym same) ct.bindings)
            (λ g. inl (circle-kept (λ b. not (among b.x c.universals) || among b.x r.replaced) s.bound (ap has_circle (sym same) ∙ g)))
          where
            same : u.bound ≡ t.bound
            same = ap (λ (o : Option Binding). t.bound ++ replaced_now t o) e ∙ append-nil t.bound
        by (Some d) e f =
            ends (onto-by t u (as-many (length s.made)) (λ z l. refl) (λ z g. subst (λ (bs : List Binding). is_bound_in bs z ≡ true) (sym same) (still-bound t.bound (binding d.x v) z g)))
            (subst (Each (BindingFirm u)) (sym same)
            (Each-append (BindingFirm t) t.bound (binding d.x v ∷ []) ct.bindings
            (subst (EachVar (Kinded t)) (sym (viewed v)) (read-kinded t (solved-filter (length s.made) (λ b. not (among b.x c.universals) || among b.x r.replaced) s.bound solved) ct.bindings (tm_of d.term) (each-weaker (Firm s) (Firm t) o.firm (tm_of d.term) f)), tt)))
            (λ g. circle (cases_Bool (occurs d.x v)) (ap has_circle (sym same) ∙ g))
          where
            v : Tm
            v = under (meaning (ended_case s c r.replaced)) (tm_of d.term)

            same : u.bound ≡ t.bound ++ binding d.x (under (meaning (ended_case s c r.replaced)) (tm_of d.term)) ∷ []
            same = ap (λ (o : Option Binding). t.bound ++ replaced_now t o) e

            circle : (occurs d.x (under (meaning (ended_case s c r.replaced)) (tm_of d.term)) ≡ true) ⊎ (occurs d.x (under (meaning (ended_case s c r.replaced)) (tm_of d.term)) ≡ false)
                → has_circle (t.bound ++ binding d.x (under (meaning (ended_case s c r.replaced)) (tm_of d.term)) ∷ []) ≡ true
                → (has_circle s.bound ≡ true) ⊎ (stands_inside (unbound c.universals r.replaced s.bound) r.equation ≡ true)
            circle (inl i) g = inr (ap (stands_inside (unbound c.universals r.replaced s.bound)) e ∙ i)
            circle (inr i) g = inl (circle-kept (λ b. not (among b.x c.universals) || among b.x r.replaced) s.bound (circle-pushed t.bound d.x v i g))

    close-ends : EachState (Ends p s (innermost_inside s.bound s.covers)) (close_case p sat s s.covers).states
    close-ends = by s.covers h.covers
      where
        waiting : (c : Cover) (cs : List Cover) → CoverFirm p s c → Each (CoverFirm p s) cs → (rs : List Remainder) → Each (RemainderFirm s) rs
            → EachState (Ends p s (first_inside s.bound c rs)) (after_case p sat s c cs rs).states
        waiting c cs k b [] f = (goes-ends p s (record (ended_case s c []) { covers = cs }) false (ended-goes c cs k b), tt)
        waiting c cs k b (r ∷ rs) f = taken-ends c r rs cs k f.0 f.1 b

        by : (cs : List Cover) → Each (CoverFirm p s) cs → EachState (Ends p s (innermost_inside s.bound cs)) (close_case p sat s cs).states
        by [] b = tt
        by (c ∷ cs) b = waiting c cs b.0 b.1 c.waiting b.0.2

  -- ---- steps

  become-goes : (s : State) → Clear p s → Each (TaskFirm p s) s.work → Solved (length s.made) s.bound → (x : ℕ) (t : Term) (ps : List Pair) (aim : Aim)
      → TaskFirm p s (task.Become x t ps aim) → EachState (Goes p s) (done p sat s (task.Become x t ps aim)).states
  become-goes s h w solved x (Num q) ps aim b = value-goes p sat s h w solved ps aim b.1 b.2 x q
  become-goes s h w solved x (Var y) ps aim b = variable-goes p sat s h w solved ps aim b.1 b.2 x y b.0.0 b.0.1 b.0.2
  become-goes s h w solved x (App f ts) ps aim b = absurd b.0

  test-shown : (s : State) → Clear p s → Each (TaskFirm p s) s.work → Solved (length s.made) s.bound → (c : Con) → TaskFirm p s (task.Show (flat.Test c))
      → EachState (Goes p s) (done p sat s (task.Show (flat.Test c))).states
  test-shown s h w solved c b =
      each_weaker (Goes p r) (Goes p s) (done p sat s (task.Show (flat.Test c))).states (λ t g. record { clear = g.clear; work = g.work; circle = g.circle })
      (test-goes p sat r (record { bindings = h.bindings; covers = h.covers; literals = h.literals }) w solved c b.0)
    where
      r : State
      r = with_line s (line.Test c)

  done-ends : (s : State) → Clear p s → Each (TaskFirm p s) s.work → Solved (length s.made) s.bound → (t : Task) → TaskFirm p s t
      → EachState (Ends p s (is_close t && innermost_inside s.bound s.covers)) (done p sat s t).states
  done-ends s h w solved (task.Show (flat.Call l)) b = all-end p s false (done p sat s (task.Show (flat.Call l))).states (call-goes p sat s h w solved l b)
  done-ends s h w solved (task.Show (flat.Test c)) b = all-end p s false (done p sat s (task.Show (flat.Test c))).states (test-shown s h w solved c b)
  done-ends s h w solved (task.Equate t u) b = all-end p s false (done p sat s (task.Equate t u)).states (equate-goes p sat s h w solved t u b.0 b.1)
  done-ends s h w solved (task.Assume c) b = all-end p s false (done p sat s (task.Assume c)).states (assumed-goes p sat s h w solved c b)
  done-ends s h w solved (task.Differ ps aim) b = all-end p s false (done p sat s (task.Differ ps aim)).states (differ-goes p sat s h w solved ps aim b.0 b.1)
  done-ends s h w solved (task.Become x t ps aim) b = all-end p s false (done p sat s (task.Become x t ps aim)).states (become-goes s h w solved x t ps aim b)
  done-ends s h w solved (task.Avoid x q ps aim) b = all-end p s false (done p sat s (task.Avoid x q ps aim)).states (avoid-goes p sat s h w solved ps aim b.1 b.2 x q b.0)
  done-ends s h w solved (task.Shape x f ts ps aim) b = all-end p s false (done p sat s (task.Shape x f ts ps aim)).states (name-goes p sat s h w solved ps aim b.2 b.3 x f ts b.0 b.1)
  done-ends s h w solved (task.Cover a k) b = all-end p s false (done p sat s (task.Cover a k)).states (cover-goes p sat s h w a k b, tt)
  done-ends s h w solved (task.Check k head) b = all-end p s false (done p sat s (task.Check k head)).states (check-goes s h w k head)
  done-ends s h w solved (task.Begin k first head) b = all-end p s false (done p sat s (task.Begin k first head)).states (begin-goes s h w k first head b)
  done-ends s h w solved task.Void b = all-end p s false (done p sat s task.Void).states (line-goes p sat s h w line.Void [] tt, tt)
  done-ends s h w solved task.Leave b = all-end p s false (done p sat s task.Leave).states (left-goes p sat s h w (ancestors s), tt)
  done-ends s h w solved task.Close b = close-ends s h w solved

  work-ends : (s : State) → Clear p s → Solved (length s.made) s.bound → (ts : List Task) → Each (TaskFirm p s) ts
      → EachState (Ends p s (closes ts && innermost_inside s.bound s.covers)) (step_at p sat s ts).states
  work-ends s h solved [] b = tt
  work-ends s h solved (t ∷ ts) b =
      each_weaker (Ends p (record s { work = ts }) (is_close t && innermost_inside s.bound s.covers)) (Ends p s (is_close t && innermost_inside s.bound s.covers)) (done p sat (record s { work = ts }) t).states
      (λ r g. record { clear = g.clear; work = g.work; circle = g.circle })
      (done-ends (record s { work = ts }) (record { bindings = h.bindings; covers = h.covers; literals = h.literals }) b.1 solved t b.0)

  -- each state that comes of a clear one is clear, and a circle that is new is one of a replacement
  pub stepped : (s : State) → Clear p s → Solved (length s.made) s.bound → Each (TaskFirm p s) s.work → EachState (Ends p s (replaces_inside s)) (step p sat s).states
  stepped s h solved w = work-ends s h solved s.work w
