-- What follows from what comes of a certificate.
use Rattle.std.proofs.Common.{◌≡◌, ◌∙◌, ◌∷◌, ◌&&◌, ◌^◌, ℕ, Bool, true, false, nat_eq, nat_lt, cond, List, [], Option, None, Some, length, refl, ap, sym, subst}
use Rattle.std.specs.List.{list_all}
use Rattle.std.specs.Option.{option_map, option_or}
use Rattle.std.specs.Prelude.{⊤, Ok}
use Rattle.std.proofs.lemmas.Bool.{and_from, and_parts}
use Rattle.std.proofs.lemmas.Bool.Decides.{Decides-eqb}
use Rattle.scasp_cert.specs.Certificate.{Certificate}
use Rattle.scasp_checker_rules.specs.Accepted.{Accepts}
use Rattle.scasp_checker_rules.specs.BoundedTruth.{bounded_sum, compares_so, holds_bounded}
use Rattle.scasp_checker_rules.specs.Faults.{faults}
use Rattle.scasp_checker_rules.specs.Refusals.{first}
use Rattle.scasp_checker_rules.specs.declared.refusal.Refusal.{Refusal}
use Rattle.scasp_checker_rules.proofs.AcceptedLemmas.{accepted-no_fault}
use Rattle.scasp_extend.specs.Extension.{joins_by, not_right, refused_by}
use Rattle.scasp_extend.proofs.AboveLemmas.{above-told}
use Rattle.scasp_extend_instances.specs.Values.{valued}
use Rattle.scasp_extend_instances.specs.Within.{overflows, ranging}
use Rattle.scasp_extend_parts.specs.Obstacles.{given_unmet, grounding_obstacle, line_obstacle, lines_obstacle, overflow_if, too_large_if, unless_closed, unless_met}
use Rattle.scasp_extend_parts.specs.declared.errors.ExtendErr.{ExtendErr}
use Rattle.scasp_extend_parts.specs.declared.errors.ExtendErr.TheVariants.{Refused, Joins, Given, TooLarge, Overflow, NotClosed, Memory}
use Rattle.scasp_graph.specs.Map.{map_faults}
use Rattle.scasp_ground.specs.Bounded.{all_tested, is_too_large, overflows as grounding_overflows, tested}
use Rattle.scasp_law_extension.specs.Above.{model_above}
use Rattle.scasp_law_promise.specs.OwnRows.{has_normal_rows}
use Rattle.scasp_lines.specs.Lines.{free_of, lines}
use Rattle.scasp_lines.specs.Said.{Said, are_terms_in, said_by_line}
use Rattle.scasp_lines.specs.Walk.{Line}
use Rattle.scasp_model.specs.Grounding.{is_domain}
use Rattle.scasp_num.specs.Arithmetic.{◌>>=◌}
use Rattle.scasp_num.specs.Linear.{compares}
use Rattle.scasp_num.specs.Number.{Number}
use Rattle.scasp_sound.specs.MapLevels.{covered}
use Rattle.scasp_syntax.specs.Constraints.{holds}
use Rattle.scasp_syntax.specs.Tm.{Tm, items}
use Rattle.scasp_syntax.specs.Values.{Sub, are_ground, giving}
use Rattle.scasp_syntax.specs.declared.con.Con.{Con}
use Rattle.scasp_syntax.specs.declared.con.Con.TheVariants as con
use Rattle.scasp_syntax.specs.declared.program.Program.{Program}
use Rattle.scasp_command_extend.specs.Outcomes.{IsKept, Says, outcome_by, outcome_of}

-- ---- the sample of an accepted certificate serves

bounded-tested : (v : Sub) (k : Con) → holds_bounded v k ≡ true → tested v k ≡ Some true
bounded-tested v (con.Row r) h = by (bounded_sum v r) h
  where
    by : (o : Option Number) → compares_so r.op o ≡ true → option_map (λ (sum : Number). compares r.op sum.num) o ≡ Some true
    by None e = cc
    by (Some sum) e = ap Some e
bounded-tested v (con.Eq t u) h = ap Some h
bounded-tested v (con.Neq t u) h = ap Some h
bounded-tested v (con.NotShape x f n) h = ap Some h
bounded-tested v (con.Num t) h = ap Some h
bounded-tested v (con.NotNum t) h = ap Some h

all-bounded : (v : Sub) (ks : List Con) → list_all (holds_bounded v) ks ≡ true → all_tested v ks ≡ Some true
all-bounded v [] h = refl
all-bounded v (k ∷ ks) h =
    let q = and_parts (holds_bounded v k) (list_all (holds_bounded v) ks) h in
    ap (λ o. o >>= (λ b. cond b (all_tested v ks) (Some false))) (bounded-tested v k q.0) ∙ all-bounded v ks q.1

sample-serves : (p : Program) (c : Certificate) → Accepts p c → given_unmet c c.sample ≡ None
sample-serves p c a =
    let long : nat_eq (length (items c.sample)) (free_of c) ≡ true = (Decides-eqb (length (items c.sample)) (free_of c)).1 refl in
    let all : nat_eq (length (items c.sample)) (free_of c) && are_ground c.sample ≡ true =
    and_from (nat_eq (length (items c.sample)) (free_of c)) (are_ground c.sample) long a.sample_ground in
    ap (λ b. cond b (unless_met (all_tested (giving (items c.sample)) c.given)) (Some Given)) all
    ∙ ap unless_met (all-bounded (giving (items c.sample)) c.given a.sample_meets)

-- ---- what may stand in the way of a right certificate

IsLate : Option ExtendErr → Type 0
IsLate None = ⊤
IsLate (Some (Refused fault)) = ⊥
IsLate (Some (Joins fault)) = ⊥
IsLate (Some Given) = ⊥
IsLate (Some TooLarge) = ⊤
IsLate (Some Overflow) = ⊤
IsLate (Some (NotClosed at)) = ⊤
IsLate (Some Memory) = ⊥

late-or : (o rest : Option ExtendErr) → IsLate o → IsLate rest → IsLate (option_or o rest)
late-or None rest h k = k
late-or (Some why) rest h k = h

late-large : (b : Bool) → IsLate (too_large_if b)
unfolding IsLate
late-large true = tt
late-large false = tt

late-overflow : (b : Bool) → IsLate (overflow_if b)
unfolding IsLate
late-overflow true = tt
late-overflow false = tt

late-closed : (d : List Tm) (at : ℕ) (ss : List Said) → IsLate (unless_closed d at ss)
unfolding IsLate
late-closed d at ss = by (are_terms_in d ss)
  where
    by : (b : Bool) → IsLate (cond b None (Some (NotClosed at)))
    by true = tt
    by false = tt

late-line : (v : Sub) (d : List Tm) (l : Line) → IsLate (line_obstacle v d l)
late-line v d l =
    let large : Bool = nat_lt 1000000 (length d ^ ranging l.here.opened) in
    let flows : Bool = overflows d l.here.opened v in
    let closed : Option ExtendErr = unless_closed d l.at (said_by_line v d l) in
    late-or (too_large_if large) (option_or (overflow_if flows) closed) (late-large large)
    (late-or (overflow_if flows) closed (late-overflow flows) (late-closed d l.at (said_by_line v d l)))

late-lines : (v : Sub) (d : List Tm) (ls : List Line) → IsLate (lines_obstacle v d ls)
unfolding IsLate
late-lines v d [] = tt
late-lines v d (l ∷ ls) = late-or (line_obstacle v d l) (lines_obstacle v d ls) (late-line v d l) (late-lines v d ls)

late-ground : (p : Program) (d : List Tm) → IsLate (grounding_obstacle p d)
late-ground p d = late-or (too_large_if (is_too_large d p)) (overflow_if (grounding_overflows d p)) (late-large (is_too_large d p)) (late-overflow (grounding_overflows d p))

-- ---- what comes of a certificate

module _ (p : Program) (d : List Tm) (c : Certificate) (normal : has_normal_rows c ≡ true) (domain : is_domain d ≡ true) where
  -- behind the test of the values
  behind : Option ExtendErr
  behind = option_or (lines_obstacle (valued (items c.sample)) d (lines p c)) (grounding_obstacle p d)

  later : Option ExtendErr
  later = option_or (given_unmet c c.sample) behind

  says-late : (o : Option ExtendErr) → IsLate o → IsKept p c → not_right p c ≡ None → later ≡ o
      → Says (outcome_by o (model_above p c (valued (items c.sample)) d)) p d c
  unfolding IsLate later behind
  says-late None h kept right e = record {
    kept = kept;
    above = above-told p c c.sample d (Ok (model_above p c (valued (items c.sample)) d)) normal domain right e (λ a. refl);
  }
  says-late (Some (Refused fault)) h kept right e = absurd h
  says-late (Some (Joins fault)) h kept right e = absurd h
  says-late (Some Given) h kept right e = absurd h
  says-late (Some TooLarge) h kept right e = kept
  says-late (Some Overflow) h kept right e = kept
  says-late (Some (NotClosed at)) h kept right e = kept
  says-late (Some Memory) h kept right e = absurd h

  late-later : Accepts p c → IsLate later
  unfolding IsLate later behind
  late-later a =
      late-or (given_unmet c c.sample) behind (subst IsLate (sym (sample-serves p c a)) tt)
      (late-or (lines_obstacle (valued (items c.sample)) d (lines p c)) (grounding_obstacle p d) (late-lines (valued (items c.sample)) d (lines p c)) (late-ground p d))

  right-none : faults p c ≡ [] → map_faults p (covered c) c.map ≡ [] → not_right p c ≡ None
  right-none e m = ap (λ fs. option_or (refused_by (first fs)) (joins_by (map_faults p (covered c) c.map))) e ∙ ap joins_by m

  by-faults : (fs : List Refusal) (rs : List ℕ) → faults p c ≡ fs → map_faults p (covered c) c.map ≡ rs
      → Says (outcome_by (option_or (option_or (refused_by (first fs)) (joins_by rs)) later) (model_above p c (valued (items c.sample)) d)) p d c
  by-faults (f ∷ fs) rs e m = λ a. let k : [] ≡ f ∷ fs = sym ((accepted-no_fault true p c).0 a) ∙ e in cc
  by-faults [] (r ∷ rs) e m = record {
    accepted = (accepted-no_fault true p c).1 e;
    map = λ h. let k : [] ≡ r ∷ rs = sym h ∙ m in cc;
  }
  by-faults [] [] e m =
      let accepted : Accepts p c = (accepted-no_fault true p c).1 e in
      says-late later (late-later accepted) (record { accepted = accepted; map = m }) (right-none e m) refl

  pub says : Says (outcome_of p d c) p d c
  unfolding outcome_of later behind
  says = by-faults (faults p c) (map_faults p (covered c) c.map) refl refl
