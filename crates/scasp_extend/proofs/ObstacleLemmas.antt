-- What follows where nothing stands in the way.
use Rattle.std.proofs.Common.{◌≡◌, ℕ, Bool, true, false, ◌&&◌, nat_eq, cond, List, [], ◌∷◌, Option, None, Some, length, refl}
use Rattle.std.specs.Option.{option_or}
use Rattle.std.proofs.lemmas.Bool.{and_parts}
use Rattle.scasp_cert.specs.Certificate.{Certificate}
use Rattle.scasp_checker_rules.specs.Faults.{faults}
use Rattle.scasp_checker_rules.specs.Refusals.{first}
use Rattle.scasp_checker_rules.specs.declared.refusal.Refusal.{Refusal}
use Rattle.scasp_extend_parts.specs.Obstacles.{given_unmet, unless_met}
use Rattle.scasp_extend_parts.specs.declared.errors.ExtendErr.{ExtendErr}
use Rattle.scasp_extend_parts.specs.declared.errors.ExtendErr.TheVariants.{Given}
use Rattle.scasp_graph.specs.Map.{map_faults}
use Rattle.scasp_ground.specs.Bounded.{all_tested}
use Rattle.scasp_lines.specs.Lines.{free_of}
use Rattle.scasp_sound.specs.MapLevels.{covered}
use Rattle.scasp_syntax.specs.Tm.{Tms, items}
use Rattle.scasp_syntax.specs.Values.{are_ground, giving}
use Rattle.scasp_syntax.specs.declared.program.Program.{Program}
use Rattle.scasp_extend.specs.Extension.{joins_by, not_right, refused_by}

pub both-none : (o rest : Option ExtendErr) → option_or o rest ≡ None → (o ≡ None) × (rest ≡ None)
both-none None rest h = (refl, h)
both-none (Some e) rest h = cc

none-refused : (rs : List Refusal) → refused_by (first rs) ≡ None → rs ≡ []
none-refused [] h = refl
none-refused (r ∷ rs) h = cc

none-joins : (ns : List ℕ) → joins_by ns ≡ None → ns ≡ []
none-joins [] h = refl
none-joins (n ∷ ns) h = cc

-- a certificate that is right has no fault, and its map is kept
pub right-parts : (p : Program) (c : Certificate) → not_right p c ≡ None → (faults p c ≡ []) × (map_faults p (covered c) c.map ≡ [])
right-parts p c h =
    let q = both-none (refused_by (first (faults p c))) (joins_by (map_faults p (covered c) c.map)) h in
    (none-refused (faults p c) q.0, none-joins (map_faults p (covered c) c.map) q.1)

none-unless : (b : Bool) (o : Option ExtendErr) → cond b o (Some Given) ≡ None → (b ≡ true) × (o ≡ None)
none-unless true o h = (refl, h)
none-unless false o h = cc

none-met : (o : Option Bool) → unless_met o ≡ None → o ≡ Some true
none-met None h = cc
none-met (Some true) h = refl
none-met (Some false) h = cc

-- The values are as many as the free variables, ground, and meet what is given in the range of the numbers.
pub record Serve (c : Certificate) (ts : Tms) : Type 0 where
  pub as_many : nat_eq (length (items ts)) (free_of c) ≡ true
  pub ground : are_ground ts ≡ true
  pub tested : all_tested (giving (items ts)) c.given ≡ Some true

pub none-given : (c : Certificate) (ts : Tms) → given_unmet c ts ≡ None → Serve c ts
none-given c ts h =
    let q = none-unless (nat_eq (length (items ts)) (free_of c) && are_ground ts) (unless_met (all_tested (giving (items ts)) c.given)) h in
    let r = and_parts (nat_eq (length (items ts)) (free_of c)) (are_ground ts) q.0 in
    record { as_many = r.0; ground = r.1; tested = none-met (all_tested (giving (items ts)) c.given) q.1 }
