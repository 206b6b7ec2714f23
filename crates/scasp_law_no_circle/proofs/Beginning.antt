-- Cases, and covers that begin.
use Rattle.std.specs.Prelude.{◌≡◌, ◌⊎◌, ℕ, zero, suc, ◌+◌, ◌-◌, ◌<◌, ◌≤◌, nat_eq, Bool, true, false, ◌&&◌, not, if◌then◌else◌, List, [], ◌∷◌, ◌++◌, length, map, replicate}
use Rattle.std.specs.List.{Contains}
use Rattle.std.proofs.Common.{refl, arith, ap, sym, subst, ◌∙◌, inl, inr}
use Rattle.std.proofs.lemmas.Bool.{cases_Bool, and_from, not-true, or_left, or_right, eq-eqb, true≢false}
use Rattle.scasp_list.specs.Each.{Each}
use Rattle.scasp_list.proofs.EachLemmas.{Each-append, Each-map}
use Rattle.scasp_list.proofs.MemberLemmas.{Contains-here, Contains-there}
use Rattle.scasp_search_rules.specs.declared.states.covers.Cover.{Cover}
use Rattle.scasp_search_rules.specs.declared.states.lines.Line.{Line}
use Rattle.scasp_search_rules.specs.declared.states.lines.Line.TheVariants as line
use Rattle.scasp_search_rules.specs.declared.states.state.Kind.TheVariants.{Matched}
use Rattle.scasp_search_rules.specs.declared.states.state.Made.{Made}
use Rattle.scasp_search_rules.specs.declared.states.state.State.{State}
use Rattle.scasp_search_rules.specs.declared.states.tasks.Task.TheVariants as task
use Rattle.scasp_search_rules.specs.declared.states.tasks.Aim.TheVariants as aims
use Rattle.scasp_search_rules.specs.Successors.Calls.{covered, head_args, vars_of_clause}
use Rattle.scasp_search_rules.specs.Successors.Cases.{failing_at, with_items, leaf_at, head_call, with_head, cases_where, cases_of, cover_for, with_cover, unbound_of, begin_cases, check_clause, universals_at}
use Rattle.scasp_search_rules.specs.Successors.Falls.{EachState}
use Rattle.scasp_search_rules.specs.Successors.Items.{body_of, with_line}
use Rattle.scasp_search_rules.specs.Successors.Pairs.{pairs}
use Rattle.scasp_search_rules.specs.Successors.Reading.{among, count_from}
use Rattle.scasp_search_rules.specs.Successors.Regions.{context, asked_with}
use Rattle.scasp_search_rules.specs.Successors.Splits.{is_bound_in}
use Rattle.scasp_search_rules.specs.Successors.Variables.{is_kind_matched, next_variable, with_new}
use Rattle.scasp_syntax.specs.Programs.{numbered}
use Rattle.scasp_syntax.specs.declared.atom.Atom.{Atom}
use Rattle.scasp_syntax.specs.declared.clause.FlatItem.{FlatItem}
use Rattle.scasp_syntax.specs.declared.con.Con.{Con}
use Rattle.scasp_syntax.specs.declared.program.Program.{Program}
use Rattle.scasp_unify.specs.declared.bindings.Binding.{Binding}
use Rattle.scasp_law_first_event.proofs.Bindings.{Solved, above-unbound}
use Rattle.scasp_law_first_event.proofs.Calls.{each-of}
use Rattle.scasp_law_first_event.proofs.EachStates.{each_append}
use Rattle.scasp_law_first_event.proofs.Fitting.{ItemEach}
use Rattle.scasp_law_first_event.proofs.Loose.{universals-length}
use Rattle.scasp_law_first_event.proofs.Moves.{new-length}
use Rattle.scasp_law_first_event.proofs.Raising.{BodyEach, Raised, raised-of}
use Rattle.scasp_law_first_event.proofs.Terms.{EachVars, all-weaker}
use Rattle.scasp_law_first_event.proofs.Turning.{among-kept}
use Rattle.scasp_law_no_circle.proofs.Differing.{pairs-scoped}
use Rattle.scasp_law_no_circle.proofs.Growing.{within, more-scopes}
use Rattle.scasp_law_no_circle.proofs.Meeting.{met-free, bound-there}
use Rattle.scasp_law_no_circle.proofs.Places.{entry, lower-same, entry-new, universals-other, universals-entry, universal_of, owns, places}
use Rattle.scasp_law_no_circle.proofs.Scope.{Good, universal, Scoped, deeper, Under, Falls, Owned, InClause, Holds, Sound, Better, Carries, fewer-carries, Change, covers-kept, Scopes}
use Rattle.scasp_law_no_circle.proofs.Sides.{count-span}
use Rattle.scasp_law_no_circle.proofs.Splitting.{among-filter}
use Rattle.scasp_law_no_circle.proofs.Tasks.{Either, Heads, Waiting, First, Front, plain, differs, waiting-more, case-before, scoped-kept, work-kept, Owning}

-- ---- the alternatives of a case

-- what the clause of the cover speaks of is in scope at its depth
pub clause-scoped : (p : Program) (made : List Made) (cs : List Cover) (bs : List Binding) (c : Cover) → Holds p made cs bs c → (z : ℕ) → c.first ≤ z → z < c.first + vars_of_clause p c.clause → Scoped made cs bs c.depth z
clause-scoped p made cs bs c h z l m = by (h.in_clause z l m)
  where
    by : InClause made cs bs c.depth c.universals z → Scoped made cs bs c.depth z
    by (inl i) = (h.universals z i).1
    by (inr k) = deeper made cs bs (c.depth - 1) c.depth (omega arith) z k.1

module _ (p : Program) (sat : List Con → Bool) (s : State) (h : Sound p s.made s.covers s.bound) (k : ℕ) (many : length s.covers ≡ k) (w : Waiting (Scoped s.made s.covers s.bound) (k - 1) s.work) where
  items-own : (l : Line) (is : List FlatItem) → Each (ItemEach (Scoped s.made s.covers s.bound k)) is → Owning p (with_items s l is)
  items-own l is b = record {
    sound = h;
    front = subst (λ (n : ℕ). Front p s.made s.covers s.bound n ((map task.Show is ++ task.Close ∷ []) ++ s.work)) (sym many)
        (plain ((map task.Show is ++ task.Close ∷ []) ++ s.work) (case-before (Scoped s.made s.covers s.bound) k is s.work b w));
  }

  failing-scoped : (i : ℕ) (body : List FlatItem) → Each (BodyEach (Scoped s.made s.covers s.bound k)) body → Each (ItemEach (Scoped s.made s.covers s.bound k)) (failing_at i body)
  failing-scoped i [] b = tt
  failing-scoped zero (j ∷ js) b = (b.0.1, tt)
  failing-scoped (suc i) (j ∷ js) b = (b.0.0, failing-scoped i js b.1)

  head-owns : (body is : List FlatItem) → Each (ItemEach (Scoped s.made s.covers s.bound k)) body → Each (ItemEach (Scoped s.made s.covers s.bound k)) is → EachState (Owning p) (with_head s body is)
  head-owns body [] b c = tt
  head-owns body (i ∷ is) b c = (items-own (line.Head (suc (length body))) (body ++ i ∷ []) (Each-append (ItemEach (Scoped s.made s.covers s.bound k)) body (i ∷ []) b (c.0, tt)), tt)

  pub cases-own : (c : Cover) → ((z : ℕ) → c.first ≤ z → z < c.first + vars_of_clause p c.clause → Scoped s.made s.covers s.bound k z) → EachState (Owning p) (cases_of p sat s c).states
  cases-own c f = by (sat (asked_with s (context s)))
    where
      r : Raised (Scoped s.made s.covers s.bound k) (numbered p.clauses c.clause) c.first
      r = raised-of (Scoped s.made s.covers s.bound k) p c.clause c.first f

      ahead : (b : Bool) → EachState (Owning p) (if b then with_head s (body_of p c.clause c.first) (head_call (numbered p.clauses c.clause) c.first) else [])
      ahead true =
          head-owns (body_of p c.clause c.first) (head_call (numbered p.clauses c.clause) c.first)
          (Each-map (BodyEach (Scoped s.made s.covers s.bound k)) (ItemEach (Scoped s.made s.covers s.bound k)) (λ i b. b.0) (body_of p c.clause c.first) r.body) r.call_of
      ahead false = tt

      by : (b : Bool) → EachState (Owning p) (cases_where b p s c)
      by true =
          each_append (Owning p) (map (leaf_at s (body_of p c.clause c.first)) (count_from 0 (length (body_of p c.clause c.first)))) _
          (each-of (Owning p) (leaf_at s (body_of p c.clause c.first)) (λ i. items-own (line.Leaf (suc i)) (failing_at i (body_of p c.clause c.first)) (failing-scoped i (body_of p c.clause c.first) r.body)) (count_from 0 (length (body_of p c.clause c.first))))
          (ahead c.checks_head)
      by false = (items-own line.Void [] tt, tt)

-- ---- a cover begins

module _ (p : Program) (sat : List Con → Bool) (s : State) (h : Sound p s.made s.covers s.bound) (w : First s.made s.covers s.bound (length s.covers) s.work) (k first : ℕ) (checks_head : Bool)
    (heads : Heads p s.made s.covers s.bound (length s.covers) k first) where
  abbrev cover : Cover
  cover = cover_for p s k first checks_head (unbound_of s first (vars_of_clause p k))

  abbrev universals-made : List Made
  universals-made = universals_at (suc (length s.covers)) (unbound_of s first (vars_of_clause p k)) s.made

  -- one of these is of the head, and free
  listed : (z : ℕ) → among z (unbound_of s first (vars_of_clause p k)) ≡ true → (z < length s.made) × ((entry s.made z).kind ≡ Matched) × (is_bound_in s.bound z ≡ false)
  listed z i =
      let q = among-filter (λ x. not (is_bound_in s.bound x)) z (count_from first (vars_of_clause p k)) i in
      let m = count-span first (vars_of_clause p k) z q.0 in
      let e = heads z m.0 m.1 in (e.0, e.1, not-true (is_bound_in s.bound z) q.1)

  unlisted : (z : ℕ) → (is_kind_matched (entry s.made z).kind ≡ true → is_bound_in s.bound z ≡ true) → among z (unbound_of s first (vars_of_clause p k)) ≡ false
  unlisted z f = by (cases_Bool (among z (unbound_of s first (vars_of_clause p k))))
    where
      by : (among z (unbound_of s first (vars_of_clause p k)) ≡ true) ⊎ (among z (unbound_of s first (vars_of_clause p k)) ≡ false) → among z (unbound_of s first (vars_of_clause p k)) ≡ false
      by (inl i) = let e = listed z i in absurd (true≢false (sym (f (ap is_kind_matched e.1)) ∙ e.2))
      by (inr i) = i

  same-entry : (z : ℕ) → (is_kind_matched (entry s.made z).kind ≡ true → is_bound_in s.bound z ≡ true) → entry universals-made z ≡ entry s.made z
  same-entry z f = universals-other (suc (length s.covers)) (unbound_of s first (vars_of_clause p k)) s.made z (unlisted z f)

  long : length universals-made ≡ length s.made
  long = universals-length (suc (length s.covers)) (unbound_of s first (vars_of_clause p k)) s.made

  begun-better : Better s.made universals-made s.covers (cover ∷ s.covers) s.bound s.bound (length s.covers)
  begun-better = record {
    long = omega (arith, long);
    entries = (λ z l f. lower-same (entry s.made z) (entry universals-made z) (same-entry z f));
    owners = (λ d z l o. or_right (nat_eq (suc (length s.covers)) d && among z (unbound_of s first (vars_of_clause p k))) (owns s.covers d z) o);
    stays = (λ z e i. i);
  }

  begun-carries : Carries s.made universals-made s.covers (cover ∷ s.covers) s.bound s.bound (length s.covers)
  begun-carries = fewer-carries s.made universals-made s.covers (cover ∷ s.covers) s.bound s.bound (length s.covers) begun-better (λ c i. i)

  begun-change : Change s.made universals-made s.covers (cover ∷ s.covers) s.bound s.bound (length s.covers)
  begun-change = record { better = begun-better; carries = begun-carries; from = (λ b i. inl i); firm = (λ d u l o i. i); still = (λ u e o i. i) }

  falls-begun : (b : Binding) → is_bound_in s.bound b.x ≡ true → Falls s.made b → Falls universals-made b
  falls-begun b i q = (
    (let l : b.x < length s.made = q.0 in omega (arith, l, long)),
    λ n y o. one y (q.1 (subst (λ (a : Made). is_kind_matched a.kind ≡ false) x n) y o),
  )
    where
      x : entry universals-made b.x ≡ entry s.made b.x
      x = same-entry b.x (λ f. i)

      one : (y : ℕ) → Under s.made b.x y → Under universals-made b.x y
      one y u =
          let e : entry universals-made y ≡ entry s.made y = same-entry y (λ f. absurd (true≢false (sym f ∙ u.kinded))) in
          record {
            place = (let l = u.place in omega (arith, l, long));
            kinded = subst (λ (a : Made). is_kind_matched a.kind ≡ false) (sym e) u.kinded;
            depth = subst (λ (a : Made). a.depth ≤ (entry universals-made b.x).depth) (sym e) (subst (λ (a : Made). (entry s.made y).depth ≤ a.depth) (sym x) u.depth);
            strict = (λ f g. subst (λ (a : Made). a.depth < (entry universals-made b.x).depth) (sym e)
                (subst (λ (a : Made). (entry s.made y).depth < a.depth) (sym x) (u.strict (sym (ap (λ (a : Made). a.kind) x) ∙ f) (sym (ap (λ (a : Made). a.kind) e) ∙ g))));
          }

  all-begun : (os : List Binding) → ((b : Binding) → Contains os b → is_bound_in s.bound b.x ≡ true) → Each (Falls s.made) os → Each (Falls universals-made) os
  all-begun [] i q = tt
  all-begun (a ∷ os) i q = (falls-begun a (i a (Contains-here a os)) q.0, all-begun os (λ b j. i b (Contains-there a os b j)) q.1)

  cover-holds : Holds p universals-made (cover ∷ s.covers) s.bound cover
  cover-holds = record {
    universals = (λ u i. owned u i);
    in_clause = (λ z l m. by z l m (cases_Bool (is_bound_in s.bound z)));
    waiting = tt;
    nested = tt;
  }
    where
      owned : (u : ℕ) → among u (unbound_of s first (vars_of_clause p k)) ≡ true → Owned universals-made (suc (length s.covers)) u × Scoped universals-made (cover ∷ s.covers) s.bound (suc (length s.covers)) u
      owned u i =
          let e = listed u i in
          let l : u < length s.made = e.0 in
          let place : u < length universals-made = omega (arith, l, long) in
          let same : entry universals-made u ≡ universal_of (suc (length s.covers)) = universals-entry (suc (length s.covers)) (unbound_of s first (vars_of_clause p k)) s.made u i e.0 in
          let depth : (entry universals-made u).depth ≡ suc (length s.covers) = ap (λ (a : Made). a.depth) same in (
            (place, ap (λ (a : Made). a.kind) same, depth),
            met-free (Good universals-made (cover ∷ s.covers) s.bound (suc (length s.covers))) s.bound u
                (universal place (ap (λ (a : Made). a.kind) same) (omega (arith, depth))
                (subst (λ (n : ℕ). owns (cover ∷ s.covers) n u ≡ true) (sym depth)
                (or_left (nat_eq (suc (length s.covers)) (suc (length s.covers)) && among u (unbound_of s first (vars_of_clause p k))) (owns s.covers (suc (length s.covers)) u)
                (and_from (nat_eq (suc (length s.covers)) (suc (length s.covers))) (among u (unbound_of s first (vars_of_clause p k))) (eq-eqb (suc (length s.covers)) (suc (length s.covers)) refl) i)))) e.2,
          )

      by : (z : ℕ) → first ≤ z → z < first + vars_of_clause p k → (is_bound_in s.bound z ≡ true) ⊎ (is_bound_in s.bound z ≡ false)
          → InClause universals-made (cover ∷ s.covers) s.bound (suc (length s.covers)) (unbound_of s first (vars_of_clause p k)) z
      by z l m (inr f) = inl (among-kept (λ x. not (is_bound_in s.bound x)) first (vars_of_clause p k) z l m (ap not f))
      by z l m (inl f) = inr (ap (λ (a : Made). a.kind) (same-entry z (λ g. f)) ∙ (heads z l m).1, one (heads z l m).2)
        where
          less : length s.covers ≡ suc (length s.covers) - 1
          less = omega arith

          one : Either s.made s.covers s.bound (length s.covers) z → Scoped universals-made (cover ∷ s.covers) s.bound (suc (length s.covers) - 1) z
          one (inl e) = absurd (true≢false (sym f ∙ e.2))
          one (inr i) = subst (λ (n : ℕ). Scoped universals-made (cover ∷ s.covers) s.bound n z) less (begun-carries (length s.covers) z (within (length s.covers)) i)

  begun-sound : Sound p universals-made (cover ∷ s.covers) s.bound
  begun-sound = record {
    falls = all-begun s.bound (λ b j. bound-there s.bound b b.x j refl) h.falls;
    placed = (refl, h.placed);
    covers = (cover-holds, covers-kept p s.made universals-made s.covers (cover ∷ s.covers) s.bound s.bound (length s.covers) begun-change s.covers (places s.covers h.placed) (within (length s.covers)) h.covers);
  }

  pub begin-owns : EachState (Owning p) (begin_cases p sat s k first checks_head).states
  begin-owns =
      cases-own p sat (with_cover s cover) begun-sound (suc (length s.covers)) refl
      (subst (λ (n : ℕ). Waiting (Scoped universals-made (cover ∷ s.covers) s.bound) n s.work) less
      (waiting-more (Scoped s.made s.covers s.bound) (Scoped universals-made (cover ∷ s.covers) s.bound) (length s.covers) begun-carries (length s.covers) (within (length s.covers)) s.work w))
      cover (clause-scoped p universals-made (cover ∷ s.covers) s.bound cover cover-holds)
    where
      less : length s.covers ≡ suc (length s.covers) - 1
      less = omega arith

-- ---- heads, whose variables are new

module _ (p : Program) (s : State) (h : Sound p s.made s.covers s.bound) (solved : Solved (length s.made) s.bound) (k : ℕ) where
  many : length (with_new s Matched 0 (vars_of_clause p k)).made ≡ length s.made + vars_of_clause p k
  many = new-length s Matched 0 (vars_of_clause p k)

  new-loose : (z : ℕ) → length s.made ≤ z → z < length s.made + vars_of_clause p k
      → (z < length (with_new s Matched 0 (vars_of_clause p k)).made) × ((entry (with_new s Matched 0 (vars_of_clause p k)).made z).kind ≡ Matched) × (is_bound_in s.bound z ≡ false)
  new-loose z l b = (omega (arith, b, many), ap (λ (a : Made). a.kind) (entry-new s.made (vars_of_clause p k) (record { kind = Matched; depth = 0 }) z l b), above-unbound (length s.made) s.bound solved z l)

  pub new-heads : Heads p (with_new s Matched 0 (vars_of_clause p k)).made s.covers s.bound (length s.covers) k (length s.made)
  new-heads z l b = let e = new-loose z l b in (e.0, e.1, inl e)

  pub cover-owns : (a : Atom) → EachVars (Scoped s.made s.covers s.bound (length s.covers)) a.args → First s.made s.covers s.bound (length s.covers) s.work → Owning p (covered p s a k)
  cover-owns a b w = record {
    sound = grown.sound;
    front = differs (pairs a.args (head_args p k (length s.made))) (aims.Head k (length s.made)) s.work
        (pairs-scoped (Scoped more s.covers s.bound (length s.covers)) (Either more s.covers s.bound (length s.covers)) a.args (head_args p k (length s.made))
        (all-weaker (Scoped s.made s.covers s.bound (length s.covers)) (Scoped more s.covers s.bound (length s.covers)) (scoped-kept p s.made more s.covers s.covers s.bound s.bound grown) a.args b)
        (raised-of (Either more s.covers s.bound (length s.covers)) p k (length s.made) (λ z l j. inl (new-loose z l j))).head)
        new-heads (work-kept p s.made more s.covers s.covers s.bound s.bound grown s.work w);
  }
    where
      more : List Made
      more = (with_new s Matched 0 (vars_of_clause p k)).made

      grown : Scopes p s.made (with_new s Matched 0 (vars_of_clause p k)).made s.covers s.covers s.bound s.bound
      grown = more-scopes p s.made s.covers s.bound h (replicate (vars_of_clause p k) (record { kind = Matched; depth = 0 }))

  pub check-owns : (sat : List Con → Bool) (checks_head : Bool) → First s.made s.covers s.bound (length s.covers) s.work → EachState (Owning p) (check_clause p sat s k checks_head).states
  check-owns sat checks_head w =
      begin-owns p sat (with_line (with_new s Matched 0 (vars_of_clause p k)) (line.Check k (next_variable s))) grown.sound
      (work-kept p s.made (with_new s Matched 0 (vars_of_clause p k)).made s.covers s.covers s.bound s.bound grown s.work w) k (length s.made) checks_head new-heads
    where
      grown : Scopes p s.made (with_new s Matched 0 (vars_of_clause p k)).made s.covers s.covers s.bound s.bound
      grown = more-scopes p s.made s.covers s.bound h (replicate (vars_of_clause p k) (record { kind = Matched; depth = 0 }))
