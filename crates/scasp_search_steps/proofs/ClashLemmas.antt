-- A rule whose head clashes with what is known of the call's first argument comes to nothing.
use Rattle.std.specs.Prelude.{◌≡◌, ℕ, zero, suc, nat_eq, Bool, true, false, ◌&&◌, not, if◌then◌else◌, None, Some, List, [], ◌∷◌, ◌++◌, filter, length, map, replicate, slice_get, refl}
use Rattle.std.specs.List.{flat_map}
use Rattle.std.proofs.Common.{ap, append-nil, sym, ◌∙◌}
use Rattle.std.proofs.lemmas.Bool.{and_from, and_parts, eqb-true, true≢false}
use Rattle.std.proofs.lemmas.Bool.Decides.{Decides-eqb}
use Rattle.scasp_hint.specs.Satisfying.{sat}
use Rattle.scasp_num.specs.Number.{Number}
use Rattle.scasp_search_rules.specs.declared.states.outcomes.Status.{Status}
use Rattle.scasp_search_rules.specs.declared.states.outcomes.Status.TheVariants.{Entailed, Impossible, Added, Parts}
use Rattle.scasp_search_rules.specs.declared.states.state.Kind.TheVariants.{Existential}
use Rattle.scasp_search_rules.specs.declared.states.state.Made.{Made}
use Rattle.scasp_search_rules.specs.declared.states.state.State.{State}
use Rattle.scasp_search_rules.specs.declared.states.tasks.Task.{Task}
use Rattle.scasp_search_rules.specs.declared.states.tasks.Task.TheVariants as task
use Rattle.scasp_search_rules.specs.Successors.Assumptions.{against, along, as_read, performed, status}
use Rattle.scasp_search_rules.specs.Successors.Calls.{args_in, by_rule}
use Rattle.scasp_search_rules.specs.Successors.Equations.{becomes_number, bound_if, equate_pairs, equate_terms, equations, replaced_if}
use Rattle.scasp_search_rules.specs.Successors.Items.{body_of}
use Rattle.scasp_search_rules.specs.Successors.Pairs.{all_pairs_of, pair, pairs_of}
use Rattle.scasp_search_rules.specs.Successors.Reading.{holds_always}
use Rattle.scasp_search_rules.specs.Successors.Regions.{asked_with, before, with_given}
use Rattle.scasp_search_rules.specs.Successors.Replacing.{close_overflows}
use Rattle.scasp_search_rules.specs.Successors.Search.{pays_for, step_at}
use Rattle.scasp_search_rules.specs.Successors.Steps.{only_if}
use Rattle.scasp_search_rules.specs.Successors.Variables.{bind, is_empty, is_kind_universal, is_universal, made_or, meaning, next_variable, universals_of, with_binding}
use Rattle.scasp_search_steps.specs.Foresight.{ComesToNothing, Expects, ExpectsFirst, IsLeft, clashes, first_clashes, head_clashes}
use Rattle.scasp_search_steps.specs.declared.expected.Expected.{Expected}
use Rattle.scasp_search_steps.specs.declared.expected.Expected.TheVariants as expected
use Rattle.scasp_syntax.specs.Constraints.{has_shape}
use Rattle.scasp_syntax.specs.Programs.{numbered}
use Rattle.scasp_syntax.specs.Same.{same_number}
use Rattle.scasp_syntax.specs.Tm.{Tm, Tms, var, num, app, nil, cons, items}
use Rattle.scasp_syntax.specs.Values.{Sub, all_under, raised, under}
use Rattle.scasp_syntax.specs.declared.atom.Lit.{Lit}
use Rattle.scasp_syntax.specs.declared.con.Con.{Con}
use Rattle.scasp_syntax.specs.declared.con.Con.TheVariants as con
use Rattle.scasp_syntax.specs.declared.program.Program.{Program}
use Rattle.scasp_syntax.specs.declared.term.Term.TheVariants.{Var}
use Rattle.scasp_unify.specs.SimpleForm.{term_with}
use Rattle.scasp_unify.specs.Unification.{term_vars}
use Rattle.scasp_unify.proofs.SimpleLemmas.{viewed}

never : (b : Bool) → b ≡ true → b ≡ false → ⊥
never b t f = true≢false (sym t ∙ f)

is-false : (b : Bool) → not b ≡ true → b ≡ false
is-false true e = absurd (true≢false (sym e))
is-false false e = refl

as-many : (v : Sub) (us : Tms) → length (items (all_under v us)) ≡ length (items us)
as-many v nil = refl
as-many v (cons u us) = ap suc (as-many v us)

-- ---- equations that fail

abbrev Fails : State → Tm → Tm → Type 0
Fails s t u = (equate_terms sat s t u).states ≡ []

-- the term reads as this one, and the pairs of this one fail
read-so : (s : State) (t a u : Tm) → under (meaning s) t ≡ a → (equate_pairs sat s (pairs_of a (under (meaning s) u))).states ≡ [] → Fails s t u
read-so s t a u e f = ap (λ (b : Tm). (equate_pairs sat s (pairs_of b (under (meaning s) u))).states) e ∙ f

numbers-fail : (s : State) (t : Tm) (q r : Number) → under (meaning s) t ≡ num q → same_number q r ≡ false → Fails s t (num r)
numbers-fail s t q r e n =
    read-so s t (num q) (num r) e (ap (λ (b : Bool). (equate_pairs sat s (if b then [] else pair (num q) (num r) ∷ [])).states) n)

name-number-fails : (s : State) (t : Tm) (f n : ℕ) (r : Number) → has_shape f n (under (meaning s) t) ≡ true → Fails s t (num r)
name-number-fails s t f n r h = by (under (meaning s) t) h
  where
    by : (a : Tm) → has_shape f n a ≡ true → (equate_pairs sat s (pairs_of a (num r))).states ≡ []
    by (var x) k = absurd (true≢false (sym k))
    by (num q) k = absurd (true≢false (sym k))
    by (app g ts) k = refl

names-fail : (s : State) (t : Tm) (f n g : ℕ) (us ws : Tms) → has_shape f n (under (meaning s) t) ≡ true → has_shape f n (app g us) ≡ false → length (items ws) ≡ length (items us)
    → (equate_pairs sat s (pairs_of (under (meaning s) t) (app g ws))).states ≡ []
names-fail s t f n g us ws h m l = by (under (meaning s) t) h
  where
    clash : (j : ℕ) (ts : Tms) → has_shape f n (app j ts) ≡ true → (nat_eq j g && nat_eq (length (items ts)) (length (items ws))) ≡ true → ⊥
    clash j ts k same =
        let one = and_parts (nat_eq j f) (nat_eq (length (items ts)) n) k in
        let two = and_parts (nat_eq j g) (nat_eq (length (items ts)) (length (items ws))) same in
        let name : g ≡ f = sym (eqb-true j g two.0) ∙ eqb-true j f one.0 in
        let many : length (items us) ≡ n = sym l ∙ sym (eqb-true (length (items ts)) (length (items ws)) two.1) ∙ eqb-true (length (items ts)) n one.1 in
        never (has_shape f n (app g us)) (and_from (nat_eq g f) (nat_eq (length (items us)) n) ((Decides-eqb g f).1 name) ((Decides-eqb (length (items us)) n).1 many)) m

    at : (j : ℕ) (ts : Tms) → has_shape f n (app j ts) ≡ true → (b : Bool) → (nat_eq j g && nat_eq (length (items ts)) (length (items ws))) ≡ b
        → (equate_pairs sat s (if b then all_pairs_of ts ws else pair (app j ts) (app g ws) ∷ [])).states ≡ []
    at j ts k true e = absurd (clash j ts k e)
    at j ts k false e = refl

    by : (a : Tm) → has_shape f n a ≡ true → (equate_pairs sat s (pairs_of a (app g ws))).states ≡ []
    by (var x) k = absurd (true≢false (sym k))
    by (num q) k = absurd (true≢false (sym k))
    by (app j ts) k = at j ts k (nat_eq j g && nat_eq (length (items ts)) (length (items ws))) refl

-- ---- a variable that is left one number

becomes-none : (s : State) (x : ℕ) (r : Number) → is_universal s x ≡ false → sat (asked_with (with_binding s x (num r)) s.given) ≡ false → (becomes_number sat x r s).states ≡ []
becomes-none s x r u f =
    ap (λ (b : Bool). (if b then replaced_if sat s x (num r) else bound_if sat (bind s x (num r))).states) u
    ∙ ap (λ (b : Bool). only_if b (bind s x (num r))) f

-- a constraint without universal variables parts no case
parts-none : (a b c d : Bool) → d ≡ true → (if a then Entailed else (if b then Entailed else (if c then Impossible else (if d then Added else Parts)))) ≡ Parts → ⊥
parts-none true b c d e k = absurd (cc k)
parts-none false true c d e k = absurd (cc k)
parts-none false false true d e k = absurd (cc k)
parts-none false false false true e k = absurd (cc k)
parts-none false false false false e k = true≢false (sym e)

left-fails : (s : State) (t : Tm) (x : ℕ) (q r : Number) → under (meaning s) t ≡ var x → IsLeft s x q → same_number q r ≡ false → Fails s t (num r)
left-fails s t x q r e h n = read-so s t (var x) (num r) e (by (status sat now test) refl)
  where
    now : State
    now = before [] s

    test : Con
    test = con.Num (Var x)

    none : is_empty (universals_of now test) ≡ true
    none = ap (λ (a : Tm). is_empty (filter (is_universal now) (term_vars a))) h.unbound ∙ ap (λ (b : Bool). is_empty (if b then x ∷ [] else [])) h.existential

    plain : (becomes_number sat x r now).states ≡ []
    plain = becomes-none now x r h.existential (ap (λ (cs : List Con). sat (asked_with (with_binding now x (num r)) cs)) (sym (append-nil s.given)) ∙ h.others r [] n)

    given : (c : Con) → (becomes_number sat x r (with_given now c)).states ≡ []
    given c = becomes-none (with_given now c) x r h.existential (h.others r (c ∷ []) n)

    by : (st : Status) → status sat now test ≡ st → flat_map (λ (u : State). (becomes_number sat x r u).states) (performed now (as_read now test) st) ≡ []
    by Entailed k = ap (λ (ss : List State). ss ++ []) plain
    by Impossible k = refl
    by Added k = ap (λ (ss : List State). ss ++ []) (given (as_read now test))
    by Parts k = absurd (parts-none (holds_always (as_read now test)) (not (sat (against now test))) (not (sat (along now test))) (is_empty (universals_of now test)) none k)

-- ---- terms that clash

pub open-fits : (u : Tm) → clashes expected.Open u ≡ false
open-fits (var x) = refl
open-fits (num q) = refl
open-fits (app f ts) = refl

clash-fails : (s : State) (e : Expected) (t u : Tm) (v : Sub) → Expects s t e → clashes e u ≡ true → Fails s t (under v u)
clash-fails s e t (var x) v h c = absurd (true≢false (sym c))
clash-fails s expected.Open t (num r) v h c = absurd (true≢false (sym c))
clash-fails s (expected.Number q) t (num r) v h c = numbers-fail s t q r h (is-false (same_number q r) c)
clash-fails s (expected.Name f n) t (num r) v h c = name-number-fails s t f n r h
clash-fails s (expected.Left q) t (num r) v h c = left-fails s t h.0 q r h.1 h.2 (is-false (same_number q r) c)
clash-fails s expected.Open t (app g us) v h c = absurd (true≢false (sym c))
clash-fails s (expected.Number q) t (app g us) v h c = read-so s t (num q) (app g (all_under v us)) h refl
clash-fails s (expected.Name f n) t (app g us) v h c =
    names-fail s t f n g us (all_under (meaning s) (all_under v us)) h (is-false (has_shape f n (app g us)) c) (as-many (meaning s) (all_under v us) ∙ as-many v us)
clash-fails s (expected.Left q) t (app g us) v h c = absurd (true≢false (sym c))

-- the first of some terms
pub first_there : (e : Expected) (us : Tms) (u : Tm) → Some u ≡ slice_get (items us) 0 → clashes e u ≡ first_clashes e us
first_there e nil u g = absurd (cc g)
first_there e (cons t us) u g = let same : u ≡ t = cc g in ap (clashes e) same

pub first_none : (e : Expected) (us : Tms) → None ≡ slice_get (items us) 0 → false ≡ first_clashes e us
first_none e nil g = refl
first_none e (cons t us) g = absurd (cc g)

-- ---- the state by a rule

-- no universal variable comes of new existential ones
new-kind : (n d x : ℕ) → is_kind_universal (made_or (slice_get (replicate n (record { kind = Existential; depth = d })) x)).kind ≡ false
new-kind zero d x = refl
new-kind (suc n) d zero = refl
new-kind (suc n) d (suc x) = new-kind n d x

more-kinds : (made : List Made) (n d x : ℕ) → is_kind_universal (made_or (slice_get made x)).kind ≡ false
    → is_kind_universal (made_or (slice_get (made ++ replicate n (record { kind = Existential; depth = d })) x)).kind ≡ false
more-kinds [] n d x h = new-kind n d x
more-kinds (m ∷ made) n d zero h = h
more-kinds (m ∷ made) n d (suc x) h = more-kinds made n d x h

still-expected : (p : Program) (s : State) (l : Lit) (k : ℕ) (work : List Task) (t : Tm) (e : Expected) → Expects s t e → Expects (record (by_rule p s l k) { work = work }) t e
still-expected p s l k work t expected.Open h = tt
still-expected p s l k work t (expected.Number q) h = h
still-expected p s l k work t (expected.Name f n) h = h
still-expected p s l k work t (expected.Left q) h = (
  h.0,
  h.1,
  record {
    existential = more-kinds s.made _ _ h.0 h.2.existential;
    unbound = h.2.unbound;
    others = h.2.others;
  },
)

first-fails : (p : Program) (s : State) (t u : Tm) (tail : List Task) → s.work ≡ task.Equate (term_with t) (term_with u) ∷ tail → Fails (record s { work = tail }) t u → ComesToNothing p s
first-fails p s t u tail e f = record {
  works = λ n. let wrong : task.Equate (term_with t) (term_with u) ∷ tail ≡ [] = sym e ∙ n in absurd (cc wrong);
  stays = ap (close_overflows s) e;
  free = ap (pays_for s) e;
  none = ap (λ (w : List Task). (step_at p sat s w).states) e ∙ (λ i. (equate_terms sat (record s { work = tail }) (viewed t i) (viewed u i)).states) ∙ f;
}

pub comes-to-nothing : (p : Program) (s : State) (l : Lit) (k : ℕ) (e : Expected) → ExpectsFirst s l.atom.args e → head_clashes p e k ≡ true → ComesToNothing p (by_rule p s l k)
comes-to-nothing p s l k e h c = by l.atom.args (args_in (numbered p.clauses k)) refl refl h c
  where
    v : Sub
    v = raised (next_variable s)

    put : Tms → Tms → List Task
    put ts us = (equations ts us ++ map task.Show (body_of p k (next_variable s)) ++ task.Leave ∷ []) ++ s.work

    by : (ts us : Tms) → l.atom.args ≡ ts → args_in (numbered p.clauses k) ≡ us → ExpectsFirst s ts e → first_clashes e us ≡ true → ComesToNothing p (by_rule p s l k)
    by ts nil a b x y = absurd (true≢false (sym y))
    by nil (cons u us) a b x y = absurd (never (clashes e u) y (ap (λ (d : Expected). clashes d u) x ∙ open-fits u))
    by (cons t ts) (cons u us) a b x y =
        first-fails p (by_rule p s l k) t (under v u) (put ts (all_under v us)) (λ i. put (a i) (all_under v (b i)))
        (clash-fails (record (by_rule p s l k) { work = put ts (all_under v us) }) e t u v (still-expected p s l k (put ts (all_under v us)) t e x) y)
