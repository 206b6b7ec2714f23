-- What the end of a branch makes of a state within the table: constraints that are written as they are, and trees of them.
use Rattle.std.specs.Prelude.{◌≡◌, ℕ, zero, suc, ◌+◌, ◌<◌, nat_lt, Bool, true, false, not, ◌&&◌, if◌then◌else◌, Option, Some, None, List, [], ◌∷◌, map, take, drop, ⊤}
use Rattle.std.proofs.Common.{◌∙◌, ap, refl, sym, subst, arith}
use Rattle.std.proofs.lemmas.Bool.{and_from}
use Rattle.scasp_cert.specs.Trees.{Tree, Trees, Branch, Branches, pos_tree, neg_tree, loop_tree, seen_tree, test_tree, no_tree, tree, split, void, leaf, head, no_branch, branch, listed, covering}
use Rattle.scasp_checker_rules.proofs.RenamedRows.{renamed, renamed-normal}
use Rattle.scasp_law_answer_text.specs.LineReadback.Writable.{are_named, is_named, is_shape, is_spelled}
use Rattle.scasp_lines.specs.Determined.{above_values, determined_row, not_shape, put_value, put_values, row_con}
use Rattle.scasp_list.specs.Each.{Each}
use Rattle.scasp_num.specs.Linear.{Linear, IsNormal}
use Rattle.scasp_num.specs.declared.linear.Coeff.{Coeff}
use Rattle.scasp_num.proofs.Exact.{bind-some}
use Rattle.scasp_num.proofs.Kept.{put_of-IsNormal, join_of-IsNormal}
use Rattle.scasp_num.proofs.Numbers.{lt_ltb}
use Rattle.scasp_num.proofs.NormalTests.{normal-decided}
use Rattle.scasp_search_rules.specs.declared.states.lines.Line.{Line}
use Rattle.scasp_search_rules.specs.declared.states.lines.Line.TheVariants as line
use Rattle.scasp_search_rules.specs.Successors.Numbering.{con_or, con_renamed, line_renamed}
use Rattle.scasp_search_rules.specs.Successors.Trees.{Built, built, first_case, put}
use Rattle.scasp_syntax.specs.Tm.{Tm, Tms, var, num, app, nil, cons}
use Rattle.scasp_syntax.specs.Values.{Sub, under}
use Rattle.scasp_syntax.specs.View.{tm_of}
use Rattle.scasp_syntax.specs.declared.con.Con.{Con}
use Rattle.scasp_syntax.specs.declared.con.Con.TheVariants as con
use Rattle.scasp_syntax.specs.declared.term.Term.{Term}
use Rattle.scasp_unify.specs.Parts.{Part, left_side, parts, right_side}
use Rattle.scasp_unify.specs.SimpleForm.{by_parts, differ, list_term, one_part, simple, term_with}
use Rattle.scasp_unify.proofs.SimpleLemmas.{viewed}
use Rattle.scasp_law_printable.specs.Within.{Within, AllWithin, AtomWithin, ConWithin}
use Rattle.scasp_law_printable.proofs.Bodies.{atom-under-within}
use Rattle.scasp_law_printable.proofs.Standing.{LineWithin}
use Rattle.scasp_law_printable.proofs.Terms.{all-under-within, differ-within, seen, simple-within, under-within}

-- ---- names

mutual
  pub named : (count : ℕ) (t : Tm) → Within count t → is_named count t ≡ true
  named count (var x) h = refl
  named count (num q) h = refl
  named count (app f ts) h = and_from (nat_lt f count) (are_named count ts) (lt_ltb h.0) (all-named count ts h.2)

  pub all-named : (count : ℕ) (ts : Tms) → AllWithin count ts → are_named count ts ≡ true
  all-named count nil h = refl
  all-named count (cons t ts) h = and_from (is_named count t) (are_named count ts) (named count t h.0) (all-named count ts h.1)

-- ---- constraints

-- the disequation of a variable and a name without arguments comes to one part
shape-parted : (t u : Tm) → is_shape t u ≡ true → (p : Part) × (parts t u ≡ Some (p ∷ []))
shape-parted (var x) (app f nil) e = (record { at = x; term = app f nil; turned = false }, refl)
shape-parted (var x) (app f (cons t ts)) e = absurd (cc e)
shape-parted (var x) (var y) e = absurd (cc e)
shape-parted (var x) (num q) e = absurd (cc e)
shape-parted (num q) s e = absurd (cc e)
shape-parted (app f ts) s e = absurd (cc e)

unshaped : (t u : Tm) (o : Option (List Part)) → parts t u ≡ o → ((p : Part) → o ≡ Some (p ∷ []) → ⊥) → is_shape t u ≡ false
unshaped t u o e never = by (is_shape t u) refl
  where
    by : (b : Bool) → is_shape t u ≡ b → is_shape t u ≡ false
    by true f = let k = shape-parted t u f in absurd (never k.0 (sym e ∙ k.1))
    by false f = f

-- one of two sides is a variable, and the other is no name without arguments
abbrev IsFull : Tm → Type 0
IsFull (var x) = ⊤
IsFull (num q) = ⊤
IsFull (app f nil) = ⊥
IsFull (app f (cons t ts)) = ⊤

sides-unshaped : (turned : Bool) (x : ℕ) (t : Tm) → IsFull t → is_shape (if turned then t else var x) (if turned then var x else t) ≡ false
sides-unshaped true x (var y) h = refl
sides-unshaped true x (num q) h = refl
sides-unshaped true x (app f nil) h = absurd h
sides-unshaped true x (app f (cons t ts)) h = refl
sides-unshaped false x (var y) h = refl
sides-unshaped false x (num q) h = refl
sides-unshaped false x (app f nil) h = absurd h
sides-unshaped false x (app f (cons t ts)) h = refl

part-unshaped : (p : Part) → IsFull p.term → is_shape (tm_of (term_with (left_side p))) (tm_of (term_with (right_side p))) ≡ false
part-unshaped p h = ap (λ (a : Tm). is_shape a (tm_of (term_with (right_side p)))) (viewed (left_side p)) ∙ ap (is_shape (left_side p)) (viewed (right_side p)) ∙ sides-unshaped p.turned p.at p.term h

module _ (count : ℕ) where
  -- within the table, and with a text of its own
  abbrev pub ConTold : Con → Type 0
  ConTold c = ConWithin count c × (is_spelled count c ≡ true)

  both-told : (t u : Term) → ConWithin count (con.Neq t u) → is_shape (tm_of t) (tm_of u) ≡ false → ConTold (con.Neq t u)
  both-told t u h e = (
    h,
    and_from (is_named count (tm_of t) && is_named count (tm_of u)) (not (is_shape (tm_of t) (tm_of u)))
        (and_from (is_named count (tm_of t)) (is_named count (tm_of u)) (named count (tm_of t) h.0) (named count (tm_of u) h.1)) (ap not e),
  )

  one-told : (p : Part) (t : Tm) → p.term ≡ t → ConWithin count (one_part p t) → ConTold (one_part p t)
  one-told p (app f nil) e h = (h, lt_ltb h.0)
  one-told p (app f (cons t ts)) e h = both-told (term_with (left_side p)) (term_with (right_side p)) h (part-unshaped p (subst IsFull (sym e) tt))
  one-told p (num q) e h = both-told (term_with (left_side p)) (term_with (right_side p)) h (part-unshaped p (subst IsFull (sym e) tt))
  one-told p (var y) e h = both-told (term_with (left_side p)) (term_with (right_side p)) h (part-unshaped p (subst IsFull (sym e) tt))

  -- a disequation in simple form is written as it is
  parted-told : (t u : Term) (o : Option (List Part)) → parts (tm_of t) (tm_of u) ≡ o → ConWithin count (by_parts (con.Neq t u) o) → ConTold (by_parts (con.Neq t u) o)
  parted-told t u None e h = both-told t u h (unshaped (tm_of t) (tm_of u) None e (λ p f. absurd (cc f)))
  parted-told t u (Some []) e h = both-told t u h (unshaped (tm_of t) (tm_of u) (Some []) e (λ p f. absurd (cc f)))
  parted-told t u (Some (p ∷ [])) e h = one-told p p.term refl h
  parted-told t u (Some (p ∷ q ∷ ps)) e h = both-told (term_with (list_term (map left_side (p ∷ q ∷ ps)))) (term_with (list_term (map right_side (p ∷ q ∷ ps)))) h refl

  put-normal : (m : Sub) (by : ℕ) (ks : List Coeff) (r row : Linear) → IsNormal r → Some row ≡ put_values m by ks r → IsNormal row
  put-normal m by [] r row n e = let same : r ≡ row = cc in subst IsNormal same n
  put-normal m by (k ∷ ks) r row n e =
      let a = bind-some (put_value (k.x + by) (m k.x) r) (put_values m by ks) row e in
      put-normal m by ks a.0 row (one (k.x + by) (m k.x) a.0 a.1) a.2
    where
      one : (x : ℕ) (t : Tm) (q : Linear) → Some q ≡ put_value x t r → IsNormal q
      one x (var y) q f = join_of-IsNormal r q x y n f
      one x (num z) q f = put_of-IsNormal r q x z n f
      one x (app f ts) q g = absurd (cc g)

  row-told : (v : Sub) (r : Linear) → IsNormal r → (o : Option Linear) → o ≡ determined_row v r → ConTold (con_or (con.Row r) (row_con o))
  row-told v r n None e = (n, (normal-decided r).1 n)
  row-told v r n (Some row) e =
      let by : ℕ = above_values v r.coeffs in
      let k : IsNormal row = put-normal v by r.coeffs (renamed (λ x. x + by) r) row (renamed-normal (λ x. x + by) (λ x y l. omega (arith, l)) r n) e in
      (k, (normal-decided row).1 k)

  shape-told : (t : Tm) (x f n : ℕ) → ConWithin count (con.NotShape x f n) → ConTold (con_or (con.NotShape x f n) (not_shape t f n))
  shape-told (var y) x f n h = (h, lt_ltb h.0)
  shape-told (num q) x f n h = (h, lt_ltb h.0)
  shape-told (app g us) x f n h = (h, lt_ltb h.0)

module _ (count : ℕ) (two : 1 < count) (v : Sub) (k : (x : ℕ) → Within count (v x)) where
  read : (t : Term) → Within count (tm_of t) → Within count (tm_of (term_with (under v (tm_of t))))
  read t h = seen count (under v (tm_of t)) (under-within count v k (tm_of t) h)

  differ-told : (t u : Tm) → Within count t → Within count u → ConTold count (simple (differ t u))
  differ-told t u h l =
      parted-told count (term_with t) (term_with u) (parts (tm_of (term_with t)) (tm_of (term_with u))) refl (simple-within count two (differ t u) (differ-within count t u h l))

  pub renamed-told : (c : Con) → ConWithin count c → ConTold count (con_renamed v c)
  renamed-told (con.Eq t u) h =
      let a = read t h.0 in
      let b = read u h.1 in
      ((a, b), and_from (is_named count (tm_of (term_with (under v (tm_of t))))) (is_named count (tm_of (term_with (under v (tm_of u))))) (named count _ a) (named count _ b))
  renamed-told (con.Neq t u) h = differ-told (under v (tm_of t)) (under v (tm_of u)) (under-within count v k (tm_of t) h.0) (under-within count v k (tm_of u) h.1)
  renamed-told (con.NotShape x f n) h = shape-told count (v x) x f n h
  renamed-told (con.Num t) h = let a = read t h in (a, named count _ a)
  renamed-told (con.NotNum t) h = let a = read t h in (a, named count _ a)
  renamed-told (con.Row r) h = row-told count v r h (determined_row v r) refl

-- ---- lines

abbrev pub LineTold : ℕ → Line → Type 0
LineTold count (line.Pos a k ts n) = AtomWithin count a × AllWithin count ts
LineTold count (line.Neg a n) = AtomWithin count a
LineTold count (line.Loop l at) = AtomWithin count l.atom
LineTold count (line.Seen l at) = AtomWithin count l.atom
LineTold count (line.Test c) = ConTold count c
LineTold count (line.Split c parts) = ConTold count c
LineTold count (line.Rule a k first) = ⊤
LineTold count (line.Check k first) = ⊤
LineTold count line.Void = ⊤
LineTold count (line.Leaf k) = ⊤
LineTold count (line.Head n) = ⊤

module _ (count : ℕ) (two : 1 < count) (v : Sub) (k : (x : ℕ) → Within count (v x)) where
  line-told : (l : Line) → LineWithin count l → LineTold count (line_renamed v l)
  line-told (line.Pos a r ts n) h = (atom-under-within count v k a h.0, all-under-within count v k ts h.1)
  line-told (line.Neg a n) h = atom-under-within count v k a h
  line-told (line.Loop l at) h = atom-under-within count v k l.atom h
  line-told (line.Seen l at) h = atom-under-within count v k l.atom h
  line-told (line.Test c) h = renamed-told count two v k c h
  line-told (line.Split c parts) h = renamed-told count two v k c h
  line-told (line.Rule a r first) h = tt
  line-told (line.Check r first) h = tt
  line-told line.Void h = tt
  line-told (line.Leaf r) h = tt
  line-told (line.Head n) h = tt

  pub lines-told : (ls : List Line) → Each (LineWithin count) ls → Each (LineTold count) (map (line_renamed v) ls)
  lines-told [] h = tt
  lines-told (l ∷ ls) h = (line-told l h.0, lines-told ls h.1)

-- ---- trees

abbrev mutual
  pub TreeTold : ℕ → Tree → Type 0
  TreeTold count (pos_tree a k ts children) = AtomWithin count a × AllWithin count ts × TreesTold count children
  TreeTold count (neg_tree a covers) = AtomWithin count a × BranchesTold count covers
  TreeTold count (loop_tree l to) = AtomWithin count l.atom
  TreeTold count (seen_tree l to) = AtomWithin count l.atom
  TreeTold count (test_tree c hint) = ConTold count c

  pub TreesTold : ℕ → Trees → Type 0
  TreesTold count no_tree = ⊤
  TreesTold count (tree t ts) = TreeTold count t × TreesTold count ts

  pub BranchTold : ℕ → Branch → Type 0
  BranchTold count (split c a b) = ConTold count c × BranchTold count a × BranchTold count b
  BranchTold count (void hint) = ⊤
  BranchTold count (leaf k ts) = TreesTold count ts
  BranchTold count (head ts) = TreesTold count ts

  pub BranchesTold : ℕ → Branches → Type 0
  BranchesTold count no_branch = ⊤
  BranchesTold count (branch k b bs) = BranchTold count b × BranchesTold count bs

abbrev pub EntryTold : ℕ → (ℕ × Branch) → Type 0
EntryTold count c = BranchTold count c.1

pub record BuiltTold (count : ℕ) (b : Built) : Type 0 where
  pub nodes : Each (TreeTold count) b.nodes
  pub cases : Each (BranchTold count) b.cases
  pub covers : Each (EntryTold count) b.covers
  pub checks : Each (EntryTold count) b.checks

first-some : {A : Type 0} (P : A → Type 0) (n : ℕ) (xs : List A) → Each P xs → Each P (take n xs)
first-some P zero xs h = tt
first-some P (suc n) [] h = tt
first-some P (suc n) (x ∷ xs) h = (h.0, first-some P n xs h.1)

last-some : {A : Type 0} (P : A → Type 0) (n : ℕ) (xs : List A) → Each P xs → Each P (drop n xs)
last-some P zero xs h = h
last-some P (suc n) [] h = tt
last-some P (suc n) (x ∷ xs) h = last-some P n xs h.1

module _ (count : ℕ) where
  pub listed-told : (ts : List Tree) → Each (TreeTold count) ts → TreesTold count (listed ts)
  listed-told [] h = tt
  listed-told (t ∷ ts) h = (h.0, listed-told ts h.1)

  covering-told : (cs : List (ℕ × Branch)) → Each (EntryTold count) cs → BranchesTold count (covering cs)
  covering-told [] h = tt
  covering-told (c ∷ cs) h = (h.0, covering-told cs h.1)

  first-told : (bs : List Branch) → Each (BranchTold count) bs → BranchTold count (first_case bs)
  first-told [] h = tt
  first-told (b ∷ bs) h = h.0

  children-told : (n : ℕ) (b : Built) → BuiltTold count b → TreesTold count (listed (take n b.nodes))
  children-told n b h = listed-told (take n b.nodes) (first-some (TreeTold count) n b.nodes h.nodes)

  node-put : (t : Tree) (n : ℕ) (b : Built) → TreeTold count t → BuiltTold count b → BuiltTold count (record b { nodes = t ∷ drop n b.nodes })
  node-put t n b k h = record { nodes = (k, last-some (TreeTold count) n b.nodes h.nodes); cases = h.cases; covers = h.covers; checks = h.checks }

  case-put : (c : Branch) (n : ℕ) (b : Built) → BranchTold count c → BuiltTold count b → BuiltTold count (record b { cases = c ∷ drop n b.cases })
  case-put c n b k h = record { nodes = h.nodes; cases = (k, last-some (BranchTold count) n b.cases h.cases); covers = h.covers; checks = h.checks }

  without-nodes : (n : ℕ) (b : Built) → BuiltTold count b → BuiltTold count (record b { nodes = drop n b.nodes })
  without-nodes n b h = record { nodes = last-some (TreeTold count) n b.nodes h.nodes; cases = h.cases; covers = h.covers; checks = h.checks }

  put-told : (ats : List ℕ) (l : Line) (b : Built) → LineTold count l → BuiltTold count b → BuiltTold count (put ats l b)
  put-told ats (line.Pos a k ts n) b r h = node-put (pos_tree a k ts (listed (take n b.nodes))) n b (r.0, r.1, children-told n b h) h
  put-told ats (line.Neg a n) b r h =
      node-put (neg_tree a (covering (take n b.covers))) 0 (record b { covers = drop n b.covers }) (r, covering-told (take n b.covers) (first-some (EntryTold count) n b.covers h.covers))
      (record { nodes = h.nodes; cases = h.cases; covers = last-some (EntryTold count) n b.covers h.covers; checks = h.checks })
  put-told ats (line.Loop l n) b r h = node-put _ 0 b r h
  put-told ats (line.Seen l n) b r h = node-put _ 0 b r h
  put-told ats (line.Test c) b r h = node-put _ 0 b r h
  put-told ats (line.Rule a k first) b r h = record { nodes = h.nodes; cases = last-some (BranchTold count) 1 b.cases h.cases; covers = (first-told b.cases h.cases, h.covers); checks = h.checks }
  put-told ats (line.Check k first) b r h = record { nodes = h.nodes; cases = last-some (BranchTold count) 1 b.cases h.cases; covers = h.covers; checks = (first-told b.cases h.cases, h.checks) }
  put-told ats (line.Split c parts) b r h =
      case-put (split c (first_case b.cases) (first_case (drop 1 b.cases))) 2 b
      (r, first-told b.cases h.cases, first-told (drop 1 b.cases) (last-some (BranchTold count) 1 b.cases h.cases)) h
  put-told ats line.Void b r h = case-put _ 0 b tt h
  put-told ats (line.Leaf k) b r h = case-put (leaf k (listed (take k b.nodes))) 0 (record b { nodes = drop k b.nodes }) (children-told k b h) (without-nodes k b h)
  put-told ats (line.Head n) b r h = case-put (head (listed (take n b.nodes))) 0 (record b { nodes = drop n b.nodes }) (children-told n b h) (without-nodes n b h)

  pub built-told : (ats : List ℕ) (ls : List Line) → Each (LineTold count) ls → BuiltTold count (built ats ls)
  built-told ats [] h = record { nodes = tt; cases = tt; covers = tt; checks = tt }
  built-told ats (l ∷ ls) h = put-told ats l (built ats ls) h.0 (built-told ats ls h.1)
