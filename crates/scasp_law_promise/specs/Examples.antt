-- Small certificates, with what they say and leave. What they promise stands at the law `small_certificates`.
use Rattle.std.specs.Prelude.{◌≡◌, Bool, true, false, List, [], ◌∷◌, Some}
use Rattle.std.proofs.Common.{refl}
use Rattle.scasp_syntax.specs.Programs.{pred_of}
use Rattle.scasp_syntax.specs.Tm.{Tm, nil}
use Rattle.scasp_syntax.specs.Values.{Sub}
use Rattle.scasp_syntax.specs.declared.atom.Atom.{Atom}
use Rattle.scasp_syntax.specs.declared.clause.Item.TheVariants.{Call}
use Rattle.scasp_syntax.specs.declared.predicate_map.PredMap.{PredMap}
use Rattle.scasp_syntax.specs.declared.program.Program.{Program}
use Rattle.scasp_graph.specs.Map.{map_faults}
use Rattle.scasp_model.specs.Examples.{lit, rule as ground_rule}
use Rattle.scasp_model.specs.Levelled.{levelled_model}
use Rattle.scasp_model.specs.declared.program.GroundClause.{GroundClause}
use Rattle.scasp_cert.specs.Certificate.{Certificate}
use Rattle.scasp_cert.specs.Flat.{is_flat}
use Rattle.scasp_cert.specs.Trees.{pos_tree, neg_tree, loop_tree, no_branch, listed}
use Rattle.scasp_sound.specs.MapLevels.{level_of, plus_of, covered}
use Rattle.scasp_lines.specs.ClosedDomainOnly.{certificate as never_closed}
use Rattle.scasp_lines.specs.Said.{true_atoms, false_atoms}
use Rattle.scasp_lines.specs.Samples.{atom, is_true, is_not, rule, ask, answer, by_fact}
use Rattle.scasp_checker_rules.specs.ExampleWords.{program}
use Rattle.scasp_checker_rules.specs.Faults.{faults}
use Rattle.scasp_law_promise.specs.Good.{residual_over}

abbrev pub p : Atom
p = atom 2 nil

abbrev pub q : Atom
q = atom 3 nil

abbrev pub r : Atom
r = atom 4 nil

-- ---- p :- p. ?- p.

abbrev pub circle : Program
circle = program (rule 0 p (Call (is_true p) ∷ []) ∷ []) (ask (Call (is_true p)) ∷ []) refl

-- the one line `pos p rule 1 []`
abbrev pub alone : Certificate
alone = answer (by_fact p 1 ∷ []) []

-- the same, with `loop p at 1` below
abbrev pub looped : Certificate
looped = answer (pos_tree p 1 nil (listed (loop_tree (is_true p) 1 ∷ [])) ∷ []) []

-- both say that p is true, which leaves nothing of the program, over each domain
alone_says : (v : Sub) (d : List Tm) → true_atoms circle alone v d ≡ p ∷ []
alone_says v d = refl

alone_leaves : (v : Sub) (d : List Tm) → residual_over circle alone v d ≡ []
alone_leaves v d = refl

looped_says : (v : Sub) (d : List Tm) → true_atoms circle looped v d ≡ p ∷ []
looped_says v d = refl

looped_leaves : (v : Sub) (d : List Tm) → residual_over circle looped v d ≡ []
looped_leaves v d = refl

-- ---- p. ?- p.

abbrev pub fact : Program
fact = program (rule 0 p [] ∷ []) (ask (Call (is_true p)) ∷ []) refl

-- ---- p :- not q. q :- not p. r. ?- r. The certificate speaks of neither p nor q.

abbrev pub even : Program
even = program (rule 0 p (Call (is_not q) ∷ []) ∷ rule 0 q (Call (is_not p) ∷ []) ∷ rule 0 r [] ∷ []) (ask (Call (is_true r)) ∷ []) refl

abbrev signed : Atom → Bool → PredMap
signed a plus = record { pred = pred_of a; level = 0; plus = plus }

-- p has the sign `+` and q `-`
abbrev pub aside : Certificate
aside =
    record {
      query = 1;
      terms = nil;
      given = [];
      sample = nil;
      trees = by_fact r 3 ∷ [];
      checks = [];
      clashes = [];
      map = signed p true ∷ signed q false ∷ [];
    }

accepted : faults even aside ≡ []
accepted = refl

aside_true : (v : Sub) (d : List Tm) → true_atoms even aside v d ≡ r ∷ []
aside_true v d = refl

aside_false : (v : Sub) (d : List Tm) → false_atoms even aside v d ≡ []
aside_false v d = refl

-- the loop is left
abbrev pub loop : List GroundClause
loop = ground_rule (Some p) (lit false q ∷ []) ∷ ground_rule (Some q) (lit false p ∷ []) ∷ []

loop_left : (v : Sub) (d : List Tm) → residual_over even aside v d ≡ loop
loop_left v d = refl

-- of which q is the levelled model
loop_model : levelled_model (level_of aside.map) (plus_of aside.map) loop ≡ q ∷ []
loop_model = refl

-- the map holds; without it both rules of the loop break the empty one
map_kept : map_faults even (covered aside) aside.map ≡ []
map_kept = refl

map_broken : map_faults even (covered aside) [] ≡ 1 ∷ 2 ∷ []
map_broken = refl

-- ---- p. ?- not p. The one line `neg p`

abbrev pub doubted : Program
doubted = program (rule 0 p [] ∷ []) (ask (Call (is_not p)) ∷ []) refl

abbrev pub denied : Certificate
denied = answer (neg_tree p no_branch ∷ []) []

denied_false : (v : Sub) (d : List Tm) → false_atoms doubted denied v d ≡ p ∷ []
denied_false v d = refl

denied_leaves : (v : Sub) (d : List Tm) → residual_over doubted denied v d ≡ []
denied_leaves v d = refl

-- ---- p :- not p. q. ?- q. The certificate speaks of q alone

abbrev pub odd : Program
odd = program (rule 0 p (Call (is_not p) ∷ []) ∷ rule 0 q [] ∷ []) (ask (Call (is_true q)) ∷ []) refl

abbrev pub unchecked : Certificate
unchecked = answer (by_fact q 2 ∷ []) []

unchecked_accepted : faults odd unchecked ≡ []
unchecked_accepted = refl

abbrev pub odd_loop : List GroundClause
odd_loop = ground_rule (Some p) (lit false p ∷ []) ∷ []

odd_left : (v : Sub) (d : List Tm) → residual_over odd unchecked v d ≡ odd_loop
odd_left v d = refl

odd_broken : map_faults odd (covered unchecked) unchecked.map ≡ 1 ∷ []
odd_broken = refl

-- ---- flat or not

aside_flat : is_flat aside ≡ true
aside_flat = refl

not_flat : is_flat never_closed ≡ false
not_flat = refl
