-- What is left of a program that keeps a map keeps the map's levels and signs.
use Rattle.std.proofs.Common.{◌≡◌, ◌∷◌, ◌∙◌, ℕ, zero, suc, ◌+◌, Bool, true, ◌||◌, nat_eq, List, [], Option, None, Some, length, refl, ap, sym, subst, inl, inr, arith}
use Rattle.std.specs.List.{Contains, list_all, list_any, filter, flat_map, slice_get}
use Rattle.std.proofs.lemmas.Bool.{and_parts, and_from, or_cases, or_parts, cond-true, cases_Bool}
use Rattle.std.proofs.lemmas.Option.{slice_get-get_or}
use Rattle.scasp_syntax.specs.Instances.{atom_under, head_under}
use Rattle.scasp_syntax.specs.Programs.{pred_of}
use Rattle.scasp_syntax.specs.Tm.{Tm, Tms, items, nil, cons}
use Rattle.scasp_syntax.specs.Values.{Sub, all_under, giving}
use Rattle.scasp_syntax.specs.declared.atom.Atom.{Atom}
use Rattle.scasp_syntax.specs.declared.atom.Lit.{Lit}
use Rattle.scasp_syntax.specs.declared.atom.Pred.{Pred}
use Rattle.scasp_syntax.specs.declared.clause.Clause.{Clause}
use Rattle.scasp_syntax.specs.declared.clause.Item.{Item}
use Rattle.scasp_syntax.specs.declared.clause.Item.TheVariants.{Call, Equal, Differ, Linear}
use Rattle.scasp_syntax.specs.declared.predicate_map.PredMap.{PredMap}
use Rattle.scasp_syntax.specs.declared.program.Program.{Program}
use Rattle.scasp_graph.specs.Map.{entry_of, keeps_entry, keeps_item, keeps_below, keeps, faults_from, MapHolds}
use Rattle.scasp_graph.proofs.MapLemmas.{faults-cons}
use Rattle.scasp_model.specs.Grounding.{choices, ground_program, instances, instance_of, is_test_true, literal_under}
use Rattle.scasp_model.specs.Levels.{keeps_literal, keeps_rule, keeps_levels}
use Rattle.scasp_model.specs.Programs.{head_is}
use Rattle.scasp_model.specs.Residual.{is_known, is_known_false, residual_of, residual}
use Rattle.scasp_model.specs.declared.program.GroundClause.{GroundClause}
use Rattle.scasp_sound.proofs.KeepingLemmas.{residual-keeps}
use Rattle.scasp_list.proofs.MemberLemmas.{Contains-none, Contains-from_map, Contains-from_flat_map}
use Rattle.scasp_sound.proofs.ResidualLemmas.{left, residual-has}
use Rattle.scasp_sound.specs.MapLevels.{level_of, plus_of, NoneLeft}

all_under-length : (s : Sub) (ts : Tms) → length (items (all_under s ts)) ≡ length (items ts)
all_under-length s nil = refl
all_under-length s (cons t ts) = ap suc (all_under-length s ts)

-- an instance of an atom has its predicate
pred-under : (s : Sub) (a : Atom) → pred_of (atom_under s a) ≡ pred_of a
pred-under s a = ap (λ (n : ℕ). record { minus = a.minus; name = a.name; arity = n }) (all_under-length s a.args)

module _ (map : List PredMap) (s : Sub) where
  abbrev keeps_under : Atom → Lit → Bool
  keeps_under a l = keeps_literal (level_of map) (plus_of map) (atom_under s a) l

  literal-keeps : (a : Atom) (l : Lit) → keeps_item map (pred_of a) (Call l) ≡ true → keeps_under a (record { positive = l.positive; atom = atom_under s l.atom }) ≡ true
  literal-keeps a l h =
      ap (λ (p : Pred). keeps_entry (entry_of map p) l.positive (entry_of map (pred_of (atom_under s l.atom)))) (pred-under s a)
      ∙ ap (λ (p : Pred). keeps_entry (entry_of map (pred_of a)) l.positive (entry_of map p)) (pred-under s l.atom) ∙ h

  items-keep : (a : Atom) (body : List Item) → list_all (keeps_item map (pred_of a)) body ≡ true → list_all (keeps_under a) (flat_map (literal_under s) body) ≡ true
  items-keep a [] h = refl
  items-keep a (Call l ∷ body) h =
      let p = and_parts (keeps_item map (pred_of a) (Call l)) (list_all (keeps_item map (pred_of a)) body) h in
      and_from (keeps_under a (record { positive = l.positive; atom = atom_under s l.atom })) (list_all (keeps_under a) (flat_map (literal_under s) body))
      (literal-keeps a l p.0) (items-keep a body p.1)
  items-keep a (Equal t u ∷ body) h = items-keep a body h
  items-keep a (Differ t u ∷ body) h = items-keep a body h
  items-keep a (Linear r ∷ body) h = items-keep a body h

  body-keeps : (o : Option Atom) (body : List Item) → keeps_below map o body ≡ true
      → head_is (λ a. list_all (keeps_literal (level_of map) (plus_of map) a) (flat_map (literal_under s) body)) (head_under s o) ≡ true
  body-keeps None body h = h
  body-keeps (Some a) body h = items-keep a body h

  -- an instance of a clause that keeps the map keeps its levels and signs
  instance-keeps : (c : Clause) → keeps_below map c.head c.body ≡ true → keeps_rule (level_of map) (plus_of map) (instance_of c s) ≡ true
  instance-keeps c h = body-keeps c.head c.body h

-- where no clause breaks the map, each is covered or keeps it
kept-at : (covered : List ℕ) (map : List PredMap) (n : ℕ) (cs : List Clause) → faults_from covered map n cs ≡ [] → (k : ℕ) (c : Clause) → slice_get cs k ≡ Some c → keeps covered map (n + k) c ≡ true
kept-at covered map n [] h k c e = cc
kept-at covered map n (d ∷ cs) h zero c e =
    let p = (faults-cons covered map n d cs).0 h in
    let same : d ≡ c = cc in
    let at : n + 0 ≡ n = omega arith in
    ap (λ z. keeps covered map z c) at ∙ ap (keeps covered map n) (sym same) ∙ p.0
kept-at covered map n (d ∷ cs) h (suc k) c e =
    let p = (faults-cons covered map n d cs).0 h in
    let at : n + suc k ≡ n + 1 + k = omega arith in
    ap (λ z. keeps covered map z c) at ∙ kept-at covered map (n + 1) cs p.1 k c e

-- where nothing is left of a list, nothing is left of its members
none-left : (t f : List Atom) (gs : List GroundClause) (g : GroundClause) → residual t f gs ≡ [] → Contains gs g → residual_of t f g ≡ []
none-left t f gs g none i =
    let falls : Bool = is_known t f g.head || list_any (is_known_false t f) g.body in
    elim (cases_Bool falls) [
      | inl e ↦ cond-true falls [] (left t f g ∷ []) e
      | inr e ↦
          (let p = or_parts (is_known t f g.head) (list_any (is_known_false t f) g.body) e in
          absurd (Contains-none (left t f g) (subst (λ (cs : List GroundClause). Contains cs (left t f g)) none (residual-has gs t f g i p.0 p.1))))
    ]

pub left-keeps : (p : Program) (covered : List ℕ) (map : List PredMap) (d : List Tm) (t f : List Atom) → MapHolds p covered map → NoneLeft p covered d t f
    → keeps_levels (level_of map) (plus_of map) (residual t f (ground_program d p)) ≡ true
left-keeps p covered map d t f holds none =
    residual-keeps (level_of map) (plus_of map) (ground_program d p) t f
    (λ g i.
    (let at = Contains-from_flat_map (instances d) p.clauses g i in
    let c : Clause = at.0 in
    let named : slice_get p.clauses (at.1).0 ≡ Some c =
    slice_get-get_or p.clauses (at.1).0 c (at.1).1 ∙ ap (λ (z : Clause). Some z) (at.1).2 in
    let number : ℕ = suc (at.1).0 in
    let one : 1 + (at.1).0 ≡ number = omega arith in
    let kept : keeps covered map number c ≡ true = ap (λ z. keeps covered map z c) (sym one) ∙ kept-at covered map 1 p.clauses holds (at.1).0 c named in
    elim (or_cases (list_any (nat_eq number) covered) (keeps_below map c.head c.body) kept) [
      | inl is ↦ inr (none-left t f (instances d c) g (none number c is named) at.2)
      | inr below ↦
          (let k = Contains-from_map (λ ts. instance_of c (giving ts)) (filter (λ ts. list_all (is_test_true (giving ts)) c.body) (choices d c.vars)) g at.2 in
          inl (ap (keeps_rule (level_of map) (plus_of map)) (sym k.2) ∙ instance-keeps map (giving k.0) c below))
    ]))
