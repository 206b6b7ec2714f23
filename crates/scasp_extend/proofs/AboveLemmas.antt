-- Where nothing stands in the way, the model above what a certificate says is a stable model.
use Rattle.std.proofs.Common.{◌≡◌, ◌∙◌, ◌∷◌, ℕ, zero, suc, ◌<◌, ◌^◌, Bool, true, false, nat_lt, cond, List, [], Option, None, Some, length, refl, ap, sym, arith}
use Rattle.std.specs.List.{list_all}
use Rattle.std.specs.Option.{option_or}
use Rattle.std.specs.Prelude.{Result, Ok, Err, IfOk}
use Rattle.std.proofs.lemmas.Bool.{and_from, and_parts, ltb-true}
use Rattle.std.proofs.lemmas.Bool.Decides.{Decides-eqb}
use Rattle.std.proofs.lemmas.List.Folds.{list_all-append}
use Rattle.scasp_cert.specs.Certificate.{Certificate}
use Rattle.scasp_checker_rules.specs.Accepted.{Accepts}
use Rattle.scasp_checker_rules.specs.Faults.{is_free}
use Rattle.scasp_checker_rules.proofs.AcceptedLemmas.{accepted-no_fault}
use Rattle.scasp_extend_instances.specs.Values.{valued}
use Rattle.scasp_extend_instances.specs.Within.{overflows, ranging}
use Rattle.scasp_extend_parts.specs.Causes.{Explains}
use Rattle.scasp_extend_parts.specs.Obstacles.{given_unmet, grounding_obstacle, line_obstacle, lines_obstacle, overflow_if, too_large_if, unless_closed}
use Rattle.scasp_extend_parts.specs.declared.errors.ExtendErr.{ExtendErr}
use Rattle.scasp_extend_parts.specs.declared.errors.ExtendErr.TheVariants.{NotClosed}
use Rattle.scasp_ground.proofs.TestLemmas.{all-hold}
use Rattle.scasp_law_extension.specs.Above.{IsModelAbove, model_above}
use Rattle.scasp_law_extension.proofs.AboveLemmas.{levelled-above, same-above}
use Rattle.scasp_law_promise.specs.OwnRows.{has_normal_rows}
use Rattle.scasp_lines.specs.Known.{is_con_known}
use Rattle.scasp_lines.specs.Lines.{free_of, lines}
use Rattle.scasp_lines.specs.Said.{Said, are_in, are_terms_in, said_by_line, said_by_lines}
use Rattle.scasp_lines.specs.Walk.{Line}
use Rattle.scasp_lines.proofs.KnownLemmas.{agree-con}
use Rattle.scasp_model.specs.Atoms.{SameAtoms}
use Rattle.scasp_model.specs.Grounding.{is_domain}
use Rattle.scasp_syntax.specs.Constraints.{Meets, holds}
use Rattle.scasp_syntax.specs.Tm.{Tm, Tms, nil, cons, items}
use Rattle.scasp_syntax.specs.Values.{Sub, are_ground, giving, is_ground}
use Rattle.scasp_syntax.specs.declared.atom.Atom.{Atom}
use Rattle.scasp_syntax.specs.declared.program.Program.{Program}
use Rattle.scasp_extend.specs.Extension.{not_right}
use Rattle.scasp_extend.proofs.ObstacleLemmas.{Serve, both-none, none-given, right-parts}

-- ---- values

valued-ground : (ts : Tms) → are_ground ts ≡ true → (x : ℕ) → is_ground (valued (items ts) x) ≡ true
valued-ground nil h x = refl
valued-ground (cons t ts) h zero = (and_parts (is_ground t) (are_ground ts) h).0
valued-ground (cons t ts) h (suc x) = valued-ground ts (and_parts (is_ground t) (are_ground ts) h).1 x

-- a free variable has the same value
valued-free : (ts : List Tm) (x : ℕ) → x < length ts → valued ts x ≡ giving ts x
valued-free [] x h = absurd (omega (arith, h))
valued-free (t ∷ ts) zero h = refl
valued-free (t ∷ ts) (suc x) h = valued-free ts x (omega (arith, h))

all-agree : {A : Type 0} → (test f g : A → Bool) → ((x : A) → test x ≡ true → g x ≡ f x) → (xs : List A) → list_all test xs ≡ true
    → list_all f xs ≡ true → list_all g xs ≡ true
all-agree test f g a [] h k = refl
all-agree test f g a (x ∷ xs) h k =
    let p = and_parts (test x) (list_all test xs) h in
    let q = and_parts (f x) (list_all f xs) k in
    and_from (g x) (list_all g xs) (a x p.0 ∙ q.0) (all-agree test f g a xs p.1 q.1)

valued-meets : (c : Certificate) (ts : Tms) → Serve c ts → list_all (is_con_known (is_free c)) c.given ≡ true → Meets (valued (items ts)) c.given
valued-meets c ts s known =
    all-agree (is_con_known (is_free c)) (holds (giving (items ts))) (holds (valued (items ts)))
    (λ k h. agree-con (is_free c) (valued (items ts)) (giving (items ts)) same k h) c.given known
    (sym (all-hold (giving (items ts)) c.given true s.tested))
  where
    same : (x : ℕ) → is_free c x ≡ true → valued (items ts) x ≡ giving (items ts) x
    same x h =
        let less : x < free_of c = ltb-true x (free_of c) h in
        let long : length (items ts) ≡ free_of c = (Decides-eqb (length (items ts)) (free_of c)).0 s.as_many in
        valued-free (items ts) x (omega (arith, less, long))

-- ---- lines

none-closed : (d : List Tm) (at : ℕ) (ss : List Said) → unless_closed d at ss ≡ None → are_terms_in d ss ≡ true
none-closed d at ss h = by (are_terms_in d ss) refl
  where
    by : (b : Bool) → are_terms_in d ss ≡ b → are_terms_in d ss ≡ true
    by true e = e
    by false e = let open_at : Some (NotClosed at) ≡ None = sym (ap (λ b. cond b None (Some (NotClosed at))) e) ∙ h in cc

none-line : (v : Sub) (d : List Tm) (l : Line) → line_obstacle v d l ≡ None → are_terms_in d (said_by_line v d l) ≡ true
none-line v d l h =
    let rest = option_or (overflow_if (overflows d l.here.opened v)) (unless_closed d l.at (said_by_line v d l)) in
    let p = both-none (too_large_if (nat_lt 1000000 (length d ^ ranging l.here.opened))) rest h in
    let q = both-none (overflow_if (overflows d l.here.opened v)) (unless_closed d l.at (said_by_line v d l)) p.1 in
    none-closed d l.at (said_by_line v d l) q.1

lines-closed : (v : Sub) (d : List Tm) (ls : List Line) → lines_obstacle v d ls ≡ None → are_terms_in d (said_by_lines ls v d) ≡ true
lines-closed v d [] h = refl
lines-closed v d (l ∷ ls) h =
    let p = both-none (line_obstacle v d l) (lines_obstacle v d ls) h in
    list_all-append (λ (s : Said). are_in d s.terms) (said_by_line v d l) (said_by_lines ls v d)
    ∙ and_from (are_terms_in d (said_by_line v d l)) (are_terms_in d (said_by_lines ls v d)) (none-line v d l p.0) (lines-closed v d ls p.1)

-- ---- the whole

-- what can stand in the way of a certificate that is right
abbrev later : Program → Certificate → Tms → List Tm → Option ExtendErr
later p c ts d = option_or (given_unmet c ts) (option_or (lines_obstacle (valued (items ts)) d (lines p c)) (grounding_obstacle p d))

-- The certificate is right, and nothing later stands in the way.
above-extended : (p : Program) (c : Certificate) (ts : Tms) (d : List Tm) (atoms : List Atom) → has_normal_rows c ≡ true → is_domain d ≡ true
    → not_right p c ≡ None → later p c ts d ≡ None → SameAtoms atoms (model_above p c (valued (items ts)) d) → IsModelAbove p c (valued (items ts)) d atoms
above-extended p c ts d atoms normal domain right none same =
    let v : Sub = valued (items ts) in
    let rest : Option ExtendErr = option_or (lines_obstacle v d (lines p c)) (grounding_obstacle p d) in
    let values = both-none (given_unmet c ts) rest none in
    let walked = both-none (lines_obstacle v d (lines p c)) (grounding_obstacle p d) values.1 in
    let parts = right-parts p c right in
    let serve : Serve c ts = none-given c ts values.0 in
    let accepted : Accepts p c = (accepted-no_fault true p c).1 parts.0 in
    same-above p c v d atoms (model_above p c v d) same
    (levelled-above true p c normal accepted parts.1 (record { of = v; ground = valued-ground ts serve.ground })
    (valued-meets c ts serve accepted.given_known) d domain (lines-closed v d (lines p c) walked.0))

pub above-told : (p : Program) (c : Certificate) (ts : Tms) (d : List Tm) (r : Result (List Atom) ExtendErr) → has_normal_rows c ≡ true → is_domain d ≡ true
    → not_right p c ≡ None → Explains r (later p c ts d) → IfOk r (λ atoms. SameAtoms atoms (model_above p c (valued (items ts)) d))
    → IfOk r (λ atoms. IsModelAbove p c (valued (items ts)) d atoms)
above-told p c ts d (Ok atoms) normal domain right none same = above-extended p c ts d atoms normal domain right none same
above-told p c ts d (Err e) normal domain right none same = same
