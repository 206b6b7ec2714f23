-- What the store knows stays right.
use Rattle.std.proofs.Common.{◌≡◌, ℕ, Bool, true, false, ◌&&◌, ◌||◌, not, nat_eq, cond, if◌then◌else◌, List, [], ◌∷◌, ◌++◌, length, refl, sym, ap, subst, ◌∙◌}
use Rattle.std.specs.List.{list_all, list_any}
use Rattle.std.proofs.lemmas.Bool.{and_from, and_parts, eqb-true, true≢false}
use Rattle.std.proofs.lemmas.Bool.Decides.{Decides-eqb}
use Rattle.scasp_list.specs.Each.{Each}
use Rattle.scasp_num.specs.declared.linear.Coeff.{Coeff}
use Rattle.scasp_syntax.specs.Constraints.{holds, is_number}
use Rattle.scasp_syntax.specs.Values.{Sub}
use Rattle.scasp_syntax.specs.View.{tm_of}
use Rattle.scasp_syntax.specs.declared.con.Con.{Con}
use Rattle.scasp_syntax.specs.declared.con.Con.TheVariants as con
use Rattle.scasp_trail.specs.Past.{Past}
use Rattle.scasp_unify.specs.Solving.{sub_of}
use Rattle.scasp_unify.specs.Unification.{single, then_by}
use Rattle.scasp_unify.specs.declared.bindings.Binding.{Binding}
use Rattle.scasp_unify.proofs.SolvingLemmas.{sub-push, then-assoc}
use Rattle.scasp_bound.specs.Bounds.{among, is_bound_in, unbound}
use Rattle.scasp_trail.specs.Past.{earlier, is_marked, latest}
use Rattle.scasp_unify.specs.Numbers.{is_num_of}
use Rattle.scasp_law_parts.proofs.AgreeLemmas.{split-all}
use Rattle.scasp_store.specs.Inside.Open.{AreGoodIf, AreOpen, IsKept, IsKnown, IsNew, IsSettled, KnownOf, SameMarks, has_values, is_taken}
use Rattle.scasp_store.specs.Inside.Reads.{counts_by}
use Rattle.scasp_store.specs.declared.rest.Known.{Known}
use Rattle.scasp_store.specs.declared.rest.Known.TheVariants as known
use Rattle.scasp_store.specs.declared.rest.Rest.{Rest}
use Rattle.scasp_store.proofs.AskLemmas.{any-left}
use Rattle.scasp_store.proofs.OpenLemmas.{one_more, open-under}
use Rattle.scasp_store.proofs.TrueLemmas.{number-stays}

numbers-stay : (s r : Sub) (ks : List Coeff) → list_all (λ k. is_number (s k.x)) ks ≡ true → list_all (λ k. is_number (then_by s r k.x)) ks ≡ true
numbers-stay s r [] e = refl
numbers-stay s r (k ∷ ks) e =
    let q = and_parts (is_number (s k.x)) (list_all (λ k. is_number (s k.x)) ks) e in
    and_from (is_number (then_by s r k.x)) (list_all (λ k. is_number (then_by s r k.x)) ks) (number-stays (s k.x) r q.0) (numbers-stay s r ks q.1)

values-stay : (s r : Sub) (c : Con) → has_values s c ≡ true → has_values (then_by s r) c ≡ true
values-stay s r (con.Row l) e = numbers-stay s r l.coeffs e
values-stay s r (con.Eq t u) e = e
values-stay s r (con.Neq t u) e = refl
values-stay s r (con.NotShape x f n) e = refl
values-stay s r (con.Num t) e = refl
values-stay s r (con.NotNum t) e = refl

-- what is settled stays so under more bindings
stays-settled : (s r : Sub) (c : Con) → IsSettled s c → IsSettled (then_by s r) c
stays-settled s r c h = record {
  always = λ v. subst (λ (w : Sub). holds w c ≡ true) (sym (then-assoc s r v)) (h.always (then_by r v));
  values = values-stay s r c h.values;
}

pub open-more : (bs : List Binding) (cs : List Con) (ps : List ℕ) (b : Binding) → AreOpen (sub_of bs) cs ps → AreOpen (sub_of (bs ++ b ∷ [])) cs ps
open-more bs cs ps b h =
    let g : Sub = single b.x (tm_of b.term) in
    subst (λ (r : Sub). AreOpen r cs ps) (sym (sub-push bs b)) (open-under (sub_of bs) (then_by (sub_of bs) g) (stays-settled (sub_of bs) g) cs ps h)

-- ---- the end of a case

some-taken : (bs : List Binding) (but : List ℕ) (x : ℕ) (us : List ℕ) → among x us ≡ true → is_taken bs but x ≡ true → list_any (is_taken bs but) us ≡ true
some-taken bs but x [] a t = absurd (true≢false (sym a))
some-taken bs but x (u ∷ us) a t = by (nat_eq x u) refl a (λ k. some-taken bs but x us k t)
  where
    later : (b c : Bool) → c ≡ true → (b || c) ≡ true
    later true c k = refl
    later false c k = k

    by : (b : Bool) → nat_eq x u ≡ b → (b || among x us) ≡ true → (among x us ≡ true → list_any (is_taken bs but) us ≡ true) → (is_taken bs but u || list_any (is_taken bs but) us) ≡ true
    by true k f rest = ap (λ c. c || list_any (is_taken bs but) us) (ap (is_taken bs but) (sym (eqb-true x u k)) ∙ t)
    by false k f rest = later (is_taken bs but u) (list_any (is_taken bs but) us) (rest f)

left-in : (us but : List ℕ) (all bs : List Binding) → list_any (is_taken all but) us ≡ false → Each (λ b. is_bound_in all b.x ≡ true) bs → unbound us but bs ≡ bs
left-in us but all [] e h = refl
left-in us but all (b ∷ bs) e h = by (among b.x us) refl (among b.x but) refl (left-in us but all bs e h.1)
  where
    by : (u : Bool) → among b.x us ≡ u → (v : Bool) → among b.x but ≡ v → unbound us but bs ≡ bs → unbound us but (b ∷ bs) ≡ b ∷ bs
    by false k v l rest = ap (λ w. cond (not w || among b.x but) (b ∷ unbound us but bs) (unbound us but bs)) k ∙ ap (λ cs. b ∷ cs) rest
    by true k true l rest = (λ i. cond (not (k i) || l i) (b ∷ unbound us but bs) (unbound us but bs)) ∙ ap (λ cs. b ∷ cs) rest
    by true k false l rest = absurd (true≢false (sym (some-taken all but b.x us k (λ i. h.0 i && not (l i))) ∙ e))

all-bound : (all bs : List Binding) → ((x : ℕ) → is_bound_in bs x ≡ true → is_bound_in all x ≡ true) → Each (λ b. is_bound_in all b.x ≡ true) bs
all-bound all [] f = tt
all-bound all (b ∷ bs) f = (f b.x itself, all-bound all bs (λ x e. f x (later (nat_eq b.x x) (is_bound_in bs x) e)))
  where
    itself : is_bound_in (b ∷ bs) b.x ≡ true
    itself = let e : nat_eq b.x b.x ≡ true = (Decides-eqb b.x b.x).1 refl in ap (λ c. c || is_bound_in bs b.x) e

    later : (a c : Bool) → c ≡ true → (a || c) ≡ true
    later true c k = refl
    later false c k = k

-- where none is taken out, all stay
pub all-left : (us but : List ℕ) (bs : List Binding) → list_any (is_taken bs but) us ≡ false → unbound us but bs ≡ bs
all-left us but bs e = left-in us but bs bs e (all-bound bs bs (λ x k. k))

-- ---- what is known

counts-longer : (s : Sub) (cs ds : List Con) (x : ℕ) → counts_by s cs x ≡ true → counts_by s (cs ++ ds) x ≡ true
counts-longer s cs ds x e = by (is_number (s x)) e
  where
    by : (b : Bool) → (b || list_any (is_num_of s (s x)) cs) ≡ true → (b || list_any (is_num_of s (s x)) (cs ++ ds)) ≡ true
    by true f = refl
    by false f = any-left (is_num_of s (s x)) cs ds f

given-met : (v : Sub) (cs : List Con) (c : Con) → list_all (holds v) (cs ++ c ∷ []) ≡ true → list_all (holds v) cs ≡ true
given-met v cs c m = (split-all (holds v) cs (c ∷ []) m).0

known_given : (a : Bool) (k : Known) (bs : List Binding) (cs : List Con) (ds : List Binding) (fs ps : List ℕ) (c : Con) → IsKnown a k bs cs ds fs ps → IsKnown a k bs (cs ++ c ∷ []) ds fs (ps ++ length cs ∷ [])
known_given false k bs cs ds fs ps c h = tt
known_given true known.Nothing bs cs ds fs ps c h = tt
known_given true known.Read bs cs ds fs ps c h = record {
  triangular = h.triangular;
  reads = record {
    triangular = h.reads.triangular;
    follow = λ v e m. h.reads.follow v e (given-met v cs c m);
    back = h.reads.back;
    variables = h.reads.variables;
    numbers = λ x e. counts-longer (sub_of bs) cs (c ∷ []) x (h.reads.numbers x e);
  };
  places = one_more (sub_of ds) cs ps c h.places;
  plain = h.plain;
}
known_given true known.Contrary bs cs ds fs ps c h = record {
  triangular = h.triangular;
  never = λ v e m. h.never v e (given-met v cs c m);
  alike = record {
    numbers = λ x e. counts-longer (sub_of bs) cs (c ∷ []) x (h.alike.numbers x e);
    same = h.alike.same;
  };
  places = one_more (sub_of ds) cs ps c h.places;
}

-- ---- what is kept

marks-moved : (a : Bool) (bs es : List (List Binding)) (cs gs : List (List Con)) (r q : Rest) → es ≡ bs → gs ≡ cs → SameMarks r q → AreGoodIf a bs cs r.reading.before r.fixed.before r.places.before → AreGoodIf a es gs q.reading.before q.fixed.before q.places.before
marks-moved a bs es cs gs r q e f m h =
    subst (λ x. AreGoodIf a x gs q.reading.before q.fixed.before q.places.before) (sym e)
    (subst (λ x. AreGoodIf a bs x q.reading.before q.fixed.before q.places.before) (sym f)
    (subst (λ x. AreGoodIf a bs cs x q.fixed.before q.places.before) (sym m.reading)
    (subst (λ x. AreGoodIf a bs cs r.reading.before x q.places.before) (sym m.fixed)
    (subst (λ x. AreGoodIf a bs cs r.reading.before r.fixed.before x) (sym m.places) h))))

pub kept_changed : (a : Bool) (k l : Known) (bs es : Past Binding) (cs : Past Con) (r q : Rest) → (KnownOf true k bs.now cs.now r → KnownOf true l es.now cs.now q) → es.before ≡ bs.before → SameMarks r q → IsKept a k bs cs r → IsKept a l es cs q
kept_changed false k l bs es cs r q f e m h = record { now = tt; before = tt }
kept_changed true k l bs es cs r q f e m h = record { now = f h.now; before = marks-moved true bs.before es.before cs.before cs.before r q e refl m h.before }

pub kept_lost : (a : Bool) (k : Known) (bs es : Past Binding) (cs gs : Past Con) (r q : Rest) → es.before ≡ bs.before → gs.before ≡ cs.before → SameMarks r q → IsKept a k bs cs r → IsKept a known.Nothing es gs q
kept_lost false k bs es cs gs r q e f m h = record { now = tt; before = tt }
kept_lost true k bs es cs gs r q e f m h = record { now = tt; before = marks-moved true bs.before es.before cs.before gs.before r q e f m h.before }

pub kept_bound : (a n : Bool) (k l : Known) (bs es : Past Binding) (cs : Past Con) (r q : Rest) (b : Binding) → (n ≡ true → IsNew bs.now b) → (IsNew bs.now b → KnownOf true k bs.now cs.now r → KnownOf true l es.now cs.now q) → es.before ≡ bs.before → SameMarks r q → IsKept a k bs cs r → IsKept (a && n) l es cs q
kept_bound false n k l bs es cs r q b g f e m h = record { now = tt; before = tt }
kept_bound true false k l bs es cs r q b g f e m h = record { now = tt; before = tt }
kept_bound true true k l bs es cs r q b g f e m h = record { now = f (g refl) h.now; before = marks-moved true bs.before es.before cs.before cs.before r q e refl m h.before }

pub kept_given : (a : Bool) (k : Known) (bs : Past Binding) (cs gs : Past Con) (r q : Rest) (c : Con) (n : ℕ) → gs.now ≡ cs.now ++ c ∷ [] → gs.before ≡ cs.before → q.reading ≡ r.reading → q.fixed ≡ r.fixed → q.places.now ≡ r.places.now ++ n ∷ [] → q.places.before ≡ r.places.before → n ≡ length cs.now → IsKept a k bs cs r → IsKept a k bs gs q
kept_given a k bs cs gs r q c n e f g h i j l kept = record {
  now =
      subst (λ x. IsKnown a k bs.now x q.reading.now q.fixed.now q.places.now) (sym e)
      (subst (λ x. IsKnown a k bs.now (cs.now ++ c ∷ []) x.now q.fixed.now q.places.now) (sym g)
      (subst (λ x. IsKnown a k bs.now (cs.now ++ c ∷ []) r.reading.now x.now q.places.now) (sym h)
      (subst (λ x. IsKnown a k bs.now (cs.now ++ c ∷ []) r.reading.now r.fixed.now x) (sym (i ∙ ap (λ m. r.places.now ++ m ∷ []) l))
      (known_given a k bs.now cs.now r.reading.now r.fixed.now r.places.now c kept.now))));
  before = marks-moved a bs.before bs.before cs.before gs.before r q refl f record { reading = ap (λ (x : Past Binding). x.before) g; fixed = ap (λ (x : Past ℕ). x.before) h; places = j } kept.before;
}

-- ---- marks

left-good : (a : Bool) (k : Known) (bs : List Binding) (cs : List Con) (ds : List Binding) (fs ps : List ℕ) (bss : List (List Binding)) (css : List (List Con)) (dss : List (List Binding)) (fss pss : List (List ℕ)) → IsKnown a k bs cs ds fs ps → AreGoodIf a bss css dss fss pss → IsKnown a (if is_marked bss then known.Read else k) (latest bs bss) (latest cs css) (latest ds dss) (latest fs fss) (latest ps pss) × AreGoodIf a (earlier bss) (earlier css) (earlier dss) (earlier fss) (earlier pss)
left-good false k bs cs ds fs ps bss css dss fss pss h g = (tt, tt)
left-good true k bs cs ds fs ps [] [] [] [] [] h g = (h, tt)
left-good true k bs cs ds fs ps [] [] [] [] (p ∷ pss) h g = absurd g
left-good true k bs cs ds fs ps [] [] [] (f ∷ fss) pss h g = absurd g
left-good true k bs cs ds fs ps [] [] (d ∷ dss) fss pss h g = absurd g
left-good true k bs cs ds fs ps [] (c ∷ css) dss fss pss h g = absurd g
left-good true k bs cs ds fs ps (b ∷ bss) [] dss fss pss h g = absurd g
left-good true k bs cs ds fs ps (b ∷ bss) (c ∷ css) [] fss pss h g = absurd g
left-good true k bs cs ds fs ps (b ∷ bss) (c ∷ css) (d ∷ dss) [] pss h g = absurd g
left-good true k bs cs ds fs ps (b ∷ bss) (c ∷ css) (d ∷ dss) (f ∷ fss) [] h g = absurd g
left-good true k bs cs ds fs ps (b ∷ bss) (c ∷ css) (d ∷ dss) (f ∷ fss) (p ∷ pss) h g = (g.0, g.1)

-- what each part is at its latest mark
pub record IsLeft {T : Type 0} (old new : Past T) : Type 0 where
  pub now : new.now ≡ latest old.now old.before
  pub before : new.before ≡ earlier old.before

pub kept_left : (a : Bool) (k l : Known) (bs es : Past Binding) (cs gs : Past Con) (r q : Rest) → l ≡ (if is_marked bs.before then known.Read else k) → IsLeft bs es → IsLeft cs gs → IsLeft r.reading q.reading → IsLeft r.fixed q.fixed → IsLeft r.places q.places → IsKept a k bs cs r → IsKept a l es gs q
kept_left a k l bs es cs gs r q m e f g h i kept =
    let both = left-good a k bs.now cs.now r.reading.now r.fixed.now r.places.now bs.before cs.before r.reading.before r.fixed.before r.places.before kept.now kept.before in
    record {
      now =
          subst (λ x. IsKnown a x es.now gs.now q.reading.now q.fixed.now q.places.now) (sym m)
          (subst (λ x. IsKnown a (if is_marked bs.before then known.Read else k) x gs.now q.reading.now q.fixed.now q.places.now) (sym e.now)
          (subst (λ x. IsKnown a (if is_marked bs.before then known.Read else k) (latest bs.now bs.before) x q.reading.now q.fixed.now q.places.now) (sym f.now)
          (subst (λ x. IsKnown a (if is_marked bs.before then known.Read else k) (latest bs.now bs.before) (latest cs.now cs.before) x q.fixed.now q.places.now) (sym g.now)
          (subst (λ x. IsKnown a (if is_marked bs.before then known.Read else k) (latest bs.now bs.before) (latest cs.now cs.before) (latest r.reading.now r.reading.before) x q.places.now) (sym h.now)
          (subst (λ x. IsKnown a (if is_marked bs.before then known.Read else k) (latest bs.now bs.before) (latest cs.now cs.before) (latest r.reading.now r.reading.before) (latest r.fixed.now r.fixed.before) x) (sym i.now) both.0)))));
      before =
          subst (λ x. AreGoodIf a x gs.before q.reading.before q.fixed.before q.places.before) (sym e.before)
          (subst (λ x. AreGoodIf a (earlier bs.before) x q.reading.before q.fixed.before q.places.before) (sym f.before)
          (subst (λ x. AreGoodIf a (earlier bs.before) (earlier cs.before) x q.fixed.before q.places.before) (sym g.before)
          (subst (λ x. AreGoodIf a (earlier bs.before) (earlier cs.before) (earlier r.reading.before) x q.places.before) (sym h.before)
          (subst (λ x. AreGoodIf a (earlier bs.before) (earlier cs.before) (earlier r.reading.before) (earlier r.fixed.before) x) (sym i.before) both.1))));
    }
