-- Changes of variables, and how they are taken back.
use Rattle.std.proofs.Common.{◌≡◌, ℕ, zero, suc, ◌+◌, ◌-◌, ◌<◌, ◌≤◌, List, [], ◌∷◌, ◌++◌, length, take, get_or, set, slice_get, Option, None, Some, option_map, ◌⊎◌, inl, inr, length-set, refl, sym, ap, ◌∙◌, arith}
use Rattle.std.proofs.Math.Seq.{drop-cons, take-append_seam}
use Rattle.std.proofs.lemmas.List.{drop_all, take-append-drop, get_or-set_same, set-get_or, length-append}
use Rattle.std.proofs.lemmas.Option.{slice_get_cases, slice_get_within, get_or_from_slice_get, slice_get-get_or}
use Rattle.scasp_syntax.specs.declared.term.Term.{Term}
use Rattle.scasp_bind.specs.Kept.{Kept, updated, put_at, with_depth, with_term, taken_back, all_taken_back}
use Rattle.scasp_bind.specs.Inside.Undoing.{CanUndo, Speaks, TakesBack}
use Rattle.scasp_bind.specs.declared.variable.Change.{Change}
use Rattle.scasp_bind.specs.declared.variable.Change.TheVariants as change
use Rattle.scasp_bind.specs.declared.variable.Variable.{Variable}

-- one item in the place of another, and then a third in its place
pub set-set : {A : Type 0} (xs : List A) (i : ℕ) (x y : A) → set (set xs i x) i y ≡ set xs i y
set-set [] i x y = refl
set-set (z ∷ zs) zero x y = refl
set-set (z ∷ zs) (suc i) x y = ap (λ l. z ∷ l) (set-set zs i x y)

pub updated-at : (vs : List Variable) (x : ℕ) (f : Variable → Variable) (v : Variable) → slice_get vs x ≡ Some v → updated x f vs ≡ set vs x (f v)
updated-at vs x f v e = ap (put_at vs x f) e

pub slice_get-set : (vs : List Variable) (x : ℕ) (v w : Variable) → slice_get vs x ≡ Some v → slice_get (set vs x w) x ≡ Some w
slice_get-set vs x v w e =
    let within = slice_get_within vs x v e in
    slice_get-get_or (set vs x w) x w (rw length-set within) ∙ ap Some (get_or-set_same vs x w w within)

pub set-itself : (vs : List Variable) (x : ℕ) (v : Variable) → slice_get vs x ≡ Some v → set vs x v ≡ vs
set-itself vs x v e = ap (λ w. set vs x w) (sym (get_or_from_slice_get vs x v v e)) ∙ set-get_or vs x v

pub made_back : (vs : List Variable) (v : Variable) → taken_back change.Made (vs ++ v ∷ []) ≡ vs
made_back vs v = ap (λ n. take n (vs ++ v ∷ [])) one ∙ take-append_seam vs (v ∷ [])
  where
    one : length (vs ++ v ∷ []) - 1 ≡ length vs
    one = omega (arith, length-append vs (v ∷ []))

pub updated_back : (f g : Variable → Variable) (vs : List Variable) (x : ℕ) (v : Variable) → slice_get vs x ≡ Some v → g (f v) ≡ v → updated x g (updated x f vs) ≡ vs
updated_back f g vs x v e back =
    ap (updated x g) (updated-at vs x f v e)
    ∙ updated-at (set vs x (f v)) x g (f v) (slice_get-set vs x v (f v) e)
    ∙ set-set vs x (f v) (g (f v))
    ∙ ap (set vs x) back
    ∙ set-itself vs x v e

pub updated-length : (vs : List Variable) (x : ℕ) (f : Variable → Variable) → length (updated x f vs) ≡ length vs
updated-length vs x f = by (slice_get vs x)
  where
    by : (o : Option Variable) → length (put_at vs x f o) ≡ length vs
    by None = refl
    by (Some v) = length-set vs x (f v)

pub there : (vs : List Variable) (x : ℕ) → x < length vs → (v : Variable) × (slice_get vs x ≡ Some v)
there vs x h = by (slice_get_cases vs x).1
  where
    by : ((v : Variable) × (x < length vs) × (slice_get vs x ≡ Some v) × (get_or vs x v ≡ v)) ⊎ ((length vs ≤ x) × (slice_get vs x ≡ None)) → (v : Variable) × (slice_get vs x ≡ Some v)
    by (inl (v, h, e, g)) = (v, e)
    by (inr p) = absurd (omega (arith, p.0))

-- ---- several changes

pub all_taken_back-append : (cs ds : List Change) (vs : List Variable) → all_taken_back (cs ++ ds) vs ≡ all_taken_back cs (all_taken_back ds vs)
all_taken_back-append [] ds vs = refl
all_taken_back-append (c ∷ cs) ds vs = ap (taken_back c) (all_taken_back-append cs ds vs)

pub CanUndo-added : (cs : List Change) (c : Change) (vs ws : List Variable) → taken_back c ws ≡ vs → Speaks c ws → CanUndo cs vs → CanUndo (cs ++ c ∷ []) ws
CanUndo-added [] c vs ws e h g = (h, tt)
CanUndo-added (d ∷ ds) c vs ws e h g =
    (rw (all_taken_back-append ds (c ∷ []) ws, e) g.0, CanUndo-added ds c vs ws e h g.1)

pub CanUndo-latest : (cs : List Change) (c : Change) (ws : List Variable) → CanUndo (cs ++ c ∷ []) ws → Speaks c ws × CanUndo cs (taken_back c ws)
CanUndo-latest [] c ws g = (g.0, tt)
CanUndo-latest (d ∷ ds) c ws g =
    let later = CanUndo-latest ds c ws g.1 in
    (later.0, (rw (← all_taken_back-append ds (c ∷ []) ws) g.0, later.1))

-- ---- one more change

pub made_more : (cs ds : List Change) (vs ws : List Variable) (v : Variable) → CanUndo cs vs → ws ≡ vs ++ v ∷ [] → ds ≡ cs ++ change.Made ∷ [] → CanUndo ds ws
made_more cs ds vs ws v can e f =
    rw f (CanUndo-added cs change.Made vs ws (rw e (made_back vs v)) (omega (arith, ap length e, length-append vs (v ∷ []))) can)

pub term_more : (cs ds : List Change) (vs ws : List Variable) (x : ℕ) (t before : Option Term) → CanUndo cs vs → x < length vs
    → option_map (λ v. v.term) (slice_get vs x) ≡ Some before → ws ≡ updated x (with_term t) vs → ds ≡ cs ++ change.Term x before ∷ [] → CanUndo ds ws
term_more cs ds vs ws x t before can h had e f =
    let v = there vs x h in
    let found : Some v.0.term ≡ Some before = ap (option_map (λ v. v.term)) (sym v.1) ∙ had in
    let was : v.0.term ≡ before = cc in
    rw f (CanUndo-added cs (change.Term x before) vs ws
    (rw (e, ← was) (updated_back (with_term t) (with_term v.0.term) vs x v.0 v.1 refl))
    (omega (arith, h, ap length e, updated-length vs x (with_term t))) can)

pub depth_more : (cs ds : List Change) (vs ws : List Variable) (x d before : ℕ) → CanUndo cs vs → x < length vs
    → option_map (λ v. v.depth) (slice_get vs x) ≡ Some before → ws ≡ updated x (with_depth d) vs → ds ≡ cs ++ change.Depth x before ∷ [] → CanUndo ds ws
depth_more cs ds vs ws x d before can h had e f =
    let v = there vs x h in
    let found : Some v.0.depth ≡ Some before = ap (option_map (λ v. v.depth)) (sym v.1) ∙ had in
    let was : v.0.depth ≡ before = cc in
    rw f (CanUndo-added cs (change.Depth x before) vs ws
    (rw (e, ← was) (updated_back (with_depth d) (with_depth v.0.depth) vs x v.0 v.1 refl))
    (omega (arith, h, ap length e, updated-length vs x (with_depth d))) can)

-- ---- the latest change

take-set : (cs : List Change) (n : ℕ) (c : Change) → take n (set cs n c) ≡ take n cs
take-set [] n c = refl
take-set (d ∷ ds) zero c = refl
take-set (d ∷ ds) (suc n) c = ap (λ l. d ∷ l) (take-set ds n c)

pub popped : (cs ds : List Change) (n : ℕ) (c d : Change) → length cs ≡ n + 1 → slice_get cs n ≡ Some c → ds ≡ take n (set cs n d) → cs ≡ ds ++ c ∷ []
popped cs ds n c d e g f =
    sym (take-append-drop n cs)
    ∙ ap (λ l. take n cs ++ l) (drop-cons cs n c (omega (arith, e)) ∙ ap (λ l. get_or cs n c ∷ l) (drop_all (suc n) cs (omega (arith, e))) ∙ ap (λ l. l ∷ []) (get_or_from_slice_get cs n c c g))
    ∙ ap (λ l. l ++ c ∷ []) (sym (f ∙ take-set cs n d))

-- ---- one more change, as the store has it

pub made_changed : (s r : Kept) (v : Variable) → r.variables ≡ s.variables ++ v ∷ [] → r.changes ≡ s.changes ++ change.Made ∷ [] → TakesBack r s
made_changed s r v e f = record { latest = change.Made; changes = f; variables = sym (made_back s.variables v) ∙ ap (taken_back change.Made) (sym e) }

pub term_changed : (s r : Kept) (x : ℕ) (t before : Option Term) → x < length s.variables → option_map (λ v. v.term) (slice_get s.variables x) ≡ Some before
    → r.variables ≡ updated x (with_term t) s.variables → r.changes ≡ s.changes ++ change.Term x before ∷ [] → TakesBack r s
term_changed s r x t before h had e f =
    let v = there s.variables x h in
    let found : Some v.0.term ≡ Some before = ap (option_map (λ v. v.term)) (sym v.1) ∙ had in
    let was : v.0.term ≡ before = cc in
    record {
      latest = change.Term x before;
      changes = f;
      variables = sym (updated_back (with_term t) (with_term v.0.term) s.variables x v.0 v.1 refl) ∙ ap (λ b. updated x (with_term b) (updated x (with_term t) s.variables)) was ∙ ap (taken_back (change.Term x before)) (sym e);
    }

pub depth_changed : (s r : Kept) (x d before : ℕ) → x < length s.variables → option_map (λ v. v.depth) (slice_get s.variables x) ≡ Some before
    → r.variables ≡ updated x (with_depth d) s.variables → r.changes ≡ s.changes ++ change.Depth x before ∷ [] → TakesBack r s
depth_changed s r x d before h had e f =
    let v = there s.variables x h in
    let found : Some v.0.depth ≡ Some before = ap (option_map (λ v. v.depth)) (sym v.1) ∙ had in
    let was : v.0.depth ≡ before = cc in
    record {
      latest = change.Depth x before;
      changes = f;
      variables = sym (updated_back (with_depth d) (with_depth v.0.depth) s.variables x v.0 v.1 refl) ∙ ap (λ b. updated x (with_depth b) (updated x (with_depth d) s.variables)) was ∙ ap (taken_back (change.Depth x before)) (sym e);
    }
