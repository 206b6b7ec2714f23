-- What nodes and lines say, put into sets.
use Rattle.std.proofs.Common.{◌≡◌, ◌∙◌, ◌∷◌, ◌++◌, ℕ, zero, suc, Bool, true, false, ◌&&◌, not, cond, List, [], Option, None, Some, map, slice_get, refl, ap, subst, sym}
use Rattle.std.specs.List.{filter, flat_map, list_all}
use Rattle.std.specs.Option.{option_or}
use Rattle.std.specs.Prelude.{IfNone, IfSome}
use Rattle.std.proofs.lemmas.Bool.{or_left, or_right}
use Rattle.std.proofs.lemmas.List.{map-append}
use Rattle.std.proofs.lemmas.List.Elements.{filter-append}
use Rattle.scasp_cert.specs.Trees.{Tree, Trees, Branches, pos_tree, neg_tree}
use Rattle.scasp_extend_levels.specs.Sets.{with_atoms}
use Rattle.scasp_lines.specs.Said.{Said, are_in, are_terms_in, atoms_of, said_by_line, said_by_lines}
use Rattle.scasp_lines.specs.Walk.{Line}
use Rattle.scasp_syntax.specs.Instances.{atom_under}
use Rattle.scasp_syntax.specs.Same.{same_tm}
use Rattle.scasp_syntax.specs.Tm.{Tm, Tms, items}
use Rattle.scasp_syntax.specs.Values.{Sub, under}
use Rattle.scasp_syntax.specs.declared.atom.Atom.{Atom}
use Rattle.scasp_syntax.proofs.SameLemmas.{tm_decided}
use Rattle.scasp_tables.specs.Tables.{is_member, with_atom}
use Rattle.scasp_extend_parts.specs.Causes.{IsCause}
use Rattle.scasp_extend_parts.specs.Inside.{node_says}
use Rattle.scasp_extend_parts.specs.Obstacles.{line_obstacle, lines_obstacle, unless_closed}
use Rattle.scasp_extend_parts.specs.declared.errors.ExtendErr.{ExtendErr}
use Rattle.scasp_extend_parts.specs.declared.errors.ExtendErr.TheVariants.{NotClosed}
use Rattle.scasp_extend_parts.proofs.CauseLemmas.{cause-first}

pub with_atoms-append : (set xs ys : List Atom) → with_atoms set (xs ++ ys) ≡ with_atoms (with_atoms set xs) ys
with_atoms-append set [] ys = refl
with_atoms-append set (x ∷ xs) ys = with_atoms-append (with_atom set x) xs ys

pub atoms_of-append : (b : Bool) (ss us : List Said) → atoms_of b (ss ++ us) ≡ atoms_of b ss ++ atoms_of b us
atoms_of-append true ss us =
    ap (map (λ (s : Said). s.atom)) (filter-append (λ (s : Said). s.positive) ss us)
    ∙ map-append (λ (s : Said). s.atom) (filter (λ (s : Said). s.positive) ss) (filter (λ (s : Said). s.positive) us)
atoms_of-append false ss us =
    ap (map (λ (s : Said). s.atom)) (filter-append (λ (s : Said). not s.positive) ss us)
    ∙ map-append (λ (s : Said). s.atom) (filter (λ (s : Said). not s.positive) ss) (filter (λ (s : Said). not s.positive) us)

-- one line more is in the set
pub line-put : (b : Bool) (old : List Atom) (new : List Atom) (here rest : List Said) → new ≡ with_atoms old (atoms_of b here)
    → with_atoms new (atoms_of b rest) ≡ with_atoms old (atoms_of b (here ++ rest))
line-put b old new here rest e =
    ap (λ s. with_atoms s (atoms_of b rest)) e ∙ sym (with_atoms-append old (atoms_of b here) (atoms_of b rest))
    ∙ ap (with_atoms old) (sym (atoms_of-append b here rest))

-- ---- nodes

pub none-said : {A B : Type 0} (vs : List A) → flat_map {A = B} (λ v. []) vs ≡ []
none-said [] = refl
none-said (v ∷ vs) = none-said vs

module _ (a : Atom) (k : ℕ) (ts : Tms) (children : Trees) where
  pub positive-trues : (vs : List Sub) → atoms_of true (node_says (pos_tree a k ts children) vs) ≡ map (λ v. atom_under v a) vs
  positive-trues [] = refl
  positive-trues (v ∷ vs) = ap (λ z. atom_under v a ∷ z) (positive-trues vs)

  pub positive-falses : (vs : List Sub) → atoms_of false (node_says (pos_tree a k ts children) vs) ≡ []
  positive-falses [] = refl
  positive-falses (v ∷ vs) = positive-falses vs

  pub positive-closed : (d : List Tm) (vs : List Sub)
      → are_terms_in d (node_says (pos_tree a k ts children) vs) ≡ list_all (λ v. are_in d (map (under v) (items ts))) vs
  positive-closed d [] = refl
  positive-closed d (v ∷ vs) = ap (λ b. are_in d (map (under v) (items ts)) && b) (positive-closed d vs)

  pub positive-open : (d : List Tm) (at : ℕ) (vs : List Sub) → list_all (λ v. are_in d (map (under v) (items ts))) vs ≡ false
      → unless_closed d at (node_says (pos_tree a k ts children) vs) ≡ Some (NotClosed at)
  positive-open d at vs h = ap (λ b. cond b None (Some (NotClosed at))) (positive-closed d vs ∙ h)

  pub positive-none : (d : List Tm) (at : ℕ) (vs : List Sub) → list_all (λ v. are_in d (map (under v) (items ts))) vs ≡ true
      → unless_closed d at (node_says (pos_tree a k ts children) vs) ≡ None
  positive-none d at vs h = ap (λ b. cond b None (Some (NotClosed at))) (positive-closed d vs ∙ h)

module _ (a : Atom) (covers : Branches) where
  pub negated-trues : (vs : List Sub) → atoms_of true (node_says (neg_tree a covers) vs) ≡ []
  negated-trues [] = refl
  negated-trues (v ∷ vs) = negated-trues vs

  pub negated-falses : (vs : List Sub) → atoms_of false (node_says (neg_tree a covers) vs) ≡ map (λ v. atom_under v a) vs
  negated-falses [] = refl
  negated-falses (v ∷ vs) = ap (λ z. atom_under v a ∷ z) (negated-falses vs)

  pub negated-closed : (d : List Tm) (vs : List Sub) → are_terms_in d (node_says (neg_tree a covers) vs) ≡ true
  negated-closed d [] = refl
  negated-closed d (v ∷ vs) = negated-closed d vs

  pub negated-none : (d : List Tm) (at : ℕ) (vs : List Sub) → unless_closed d at (node_says (neg_tree a covers) vs) ≡ None
  negated-none d at vs = ap (λ b. cond b None (Some (NotClosed at))) (negated-closed d vs)

-- ---- members

member-at : (d : List Tm) (n : ℕ) (t : Tm) → slice_get d n ≡ Some t → is_member d t ≡ true
member-at [] n t h = cc
member-at (u ∷ d) zero t h =
    let same : u ≡ t = cc in
    or_left (same_tm t u) (is_member d t) ((tm_decided t u).1 (sym same))
member-at (u ∷ d) (suc n) t h = or_right (same_tm t u) (is_member d t) (member-at d n t h)

pub member-found : (d : List Tm) (t : Tm) (o : Option ℕ) (n : ℕ) → o ≡ Some n → IfSome o (λ k. slice_get d k ≡ Some t) → is_member d t ≡ true
member-found d t None n e h = cc
member-found d t (Some k) n e h = member-at d k t h

pub member-none : (d : List Tm) (t : Tm) (o : Option ℕ) → o ≡ None → IfNone o (is_member d t ≡ false) → is_member d t ≡ false
member-none d t None e h = h
member-none d t (Some k) e h = cc

-- ---- one line after the other

module _ (v : Sub) (d : List Tm) (l : Line) (ls left : List Line) (next : left ≡ l ∷ ls) where
  -- the line had no obstacle
  pub lines-on : (all : Option ExtendErr) → line_obstacle v d l ≡ None → lines_obstacle v d left ≡ all → lines_obstacle v d ls ≡ all
  lines-on all n h = sym (ap (λ o. option_or o (lines_obstacle v d ls)) n) ∙ sym (ap (lines_obstacle v d) next) ∙ h

  -- it had one
  pub lines-stop : (e : ExtendErr) (all : Option ExtendErr) → lines_obstacle v d left ≡ all → IsCause e (line_obstacle v d l) → IsCause e all
  lines-stop e all h cause =
      subst (IsCause e) (sym (ap (lines_obstacle v d) next) ∙ h) (cause-first e (line_obstacle v d l) (lines_obstacle v d ls) cause)

  -- what it says is told
  pub told-on : (b : Bool) (old new all : List Atom) → new ≡ with_atoms old (atoms_of b (said_by_line v d l))
      → with_atoms old (atoms_of b (said_by_lines left v d)) ≡ all → with_atoms new (atoms_of b (said_by_lines ls v d)) ≡ all
  told-on b old new all e h =
      line-put b old new (said_by_line v d l) (said_by_lines ls v d) e
      ∙ sym (ap (λ (k : List Line). with_atoms old (atoms_of b (said_by_lines k v d))) next) ∙ h
