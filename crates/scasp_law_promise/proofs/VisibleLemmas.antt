-- Of what opens at the lines of an accepted certificate, what gives a value to a variable that may stand on a line speaks of one that may.
use Rattle.std.proofs.Common.{◌≡◌, ℕ, zero, suc, ◌≤◌, Bool, true, ◌&&◌, ◌||◌, nat_eq, nat_lt, nat_le, List, ◌∷◌, Option, None, Some, length, refl, arith}
use Rattle.std.specs.Prelude.{⊤}
use Rattle.std.specs.List.{Contains, list_all}
use Rattle.std.proofs.lemmas.Bool.{and_parts, and_from, or_left, or_right, cond_both}
use Rattle.std.proofs.lemmas.Bool.Decides.{nat_tests}
use Rattle.scasp_unify.proofs.Members.{Each-member}
use Rattle.scasp_syntax.specs.Programs.{numbered}
use Rattle.scasp_syntax.specs.Same.{same_number}
use Rattle.scasp_syntax.specs.Tm.{Tm, Tms, var, num, app, nil, cons, items}
use Rattle.scasp_syntax.specs.declared.atom.Atom.{Atom}
use Rattle.scasp_syntax.specs.declared.clause.Clause.{Clause}
use Rattle.scasp_syntax.specs.declared.con.Con.{Con}
use Rattle.scasp_syntax.specs.declared.con.Con.TheVariants as con
use Rattle.scasp_syntax.specs.declared.program.Program.{Program}
use Rattle.scasp_cert.specs.Certificate.{Certificate}
use Rattle.scasp_unify.specs.Negations.{new_parts}
use Rattle.scasp_lines.specs.Bodies.{inside_rule, inside_check, open_head}
use Rattle.scasp_lines.specs.Covers.{Cover, with_universal, with_universals, cover_from, covering}
use Rattle.scasp_lines.specs.Lines.{lines, setting}
use Rattle.scasp_lines.specs.Opened.{Opened, ranges, shaped, assumed, knows}
use Rattle.scasp_lines.specs.Openings.{Opening, bound_to, open_variable, open_term, open_terms, unopened, with_assumed, with_clash, with_shape}
use Rattle.scasp_lines.specs.Places.{Place, is_universal}
use Rattle.scasp_lines.specs.Sides.{Shape, shape_of, sides_by}
use Rattle.scasp_lines.specs.Walk.{Part, of_node, of_rule, of_check, of_case, Line}
use Rattle.scasp_lines.proofs.EverywhereLemmas.{everywhere}
use Rattle.scasp_lines.proofs.Passages.{Claim, HoldsFor, Passes}
use Rattle.scasp_checker_rules.specs.Accepted.{AcceptsWhere, LineHolds, Splits}
use Rattle.scasp_checker_rules.specs.Wholes.{whole_of}

-- the entry gives values to variables from the top on, or speaks of a variable below it
abbrev pub is_visible : ℕ → Opened → Bool
is_visible top (ranges x) = true
is_visible top (shaped x f k n) = nat_le top k || nat_lt x top
is_visible top (assumed c) = true

abbrev pub are_visible : ℕ → List Opened → Bool
are_visible top os = list_all (is_visible top) os

below-or_equal : (x y : ℕ) → x ≤ y → nat_le x y ≡ true
below-or_equal x y l = grind (arith, nat_tests)

module _ (top : ℕ) where
  pub record Visible (os : List Opened) (hidden : ℕ) : Type 0 where
    pub entries : are_visible top os ≡ true
    pub hidden_above : top ≤ hidden

  abbrev Opens : Opening → Type 0
  Opens o = Visible o.opened o.hidden

  opens-assumed : (o : Opening) (c : Con) → Opens o → Opens (with_assumed o c)
  opens-assumed o c f = record { entries = f.entries; hidden_above = f.hidden_above }

  opens-clash : (o : Opening) → Opens o → Opens (with_clash o)
  opens-clash o f = record { entries = f.entries; hidden_above = f.hidden_above }

  opens-shape : (o : Opening) (y f n : ℕ) → Opens o → Opens (with_shape o y f n)
  opens-shape o y f n g =
      let above = g.hidden_above in
      record {
        entries = and_from (is_visible top (shaped y f o.hidden n)) (are_visible top o.opened)
            (or_left (nat_le top o.hidden) (nat_lt y top) (below-or_equal top o.hidden above)) g.entries;
        hidden_above = omega (arith, above);
      }

  opens-variable : (b : Option Tm) (x : ℕ) (l : Tm) (o : Opening) → Opens o → Opens (open_variable b x l o)
  opens-variable None x l o f = record { entries = f.entries; hidden_above = f.hidden_above }
  opens-variable (Some t) x l o f = record { entries = f.entries; hidden_above = f.hidden_above }

  mutual
    opens-term : (h l : Tm) (o : Opening) → Opens o → Opens (open_term h l o)
    opens-term (var x) l o f = opens-variable (bound_to o.bound x) x l o f
    opens-term (num q) (var y) o f = record { entries = f.entries; hidden_above = f.hidden_above }
    opens-term (num q) (num r) o f = cond_both (same_number r q) o (with_clash o) Opens (λ _. f) (λ _. opens-clash o f)
    opens-term (num q) (app g ls) o f = opens-clash o f
    opens-term (app g hs) (var y) o f =
        opens-terms hs (new_parts o.hidden (length (items hs))) (with_shape o y g (length (items hs))) (opens-shape o y g (length (items hs)) f)
    opens-term (app g hs) (num q) o f = opens-clash o f
    opens-term (app g hs) (app j ls) o f =
        cond_both (nat_eq j g && nat_eq (length (items ls)) (length (items hs))) (open_terms hs ls o) (with_clash o) Opens (λ _. opens-terms hs ls o f) (λ _. opens-clash o f)

    opens-terms : (hs ls : Tms) (o : Opening) → Opens o → Opens (open_terms hs ls o)
    opens-terms nil ls o f = f
    opens-terms (cons h hs) nil o f = f
    opens-terms (cons h hs) (cons l ls) o f = opens-terms hs ls (open_term h l o) (opens-term h l o f)

  opens-head : (h : Option Atom) (a : Atom) (o : Opening) → Opens o → Opens (open_head h a o)
  opens-head None a o f = f
  opens-head (Some h) a o f = opens-terms h.args a.args o f

  universal-visible : (b : Option Tm) (x : ℕ) (c : Cover) → are_visible top c.opened ≡ true → are_visible top (with_universal b x c).opened ≡ true
  universal-visible None x c f = f
  universal-visible (Some t) x c f = f

  universals-visible : (n x : ℕ) (c : Cover) → are_visible top c.opened ≡ true → are_visible top (with_universals n x c).opened ≡ true
  universals-visible zero x c f = f
  universals-visible (suc n) x c f =
      universals-visible n (suc x) (with_universal (bound_to c.bound x) x c) (universal-visible (bound_to c.bound x) x c f)

  abbrev Here : Place → Type 0
  Here here = Visible here.opened here.hidden

  inside-visible : (c : Clause) (next : ℕ) (o : Opening) → Opens o → Visible (covering c.vars next o).opened o.hidden
  inside-visible c next o f = record { entries = universals-visible c.vars 0 (cover_from next o) f.entries; hidden_above = f.hidden_above }

  into-rule : (o : Option Clause) (a : Atom) (next : ℕ) (here : Place) → Here here → Here (inside_rule o a next here).here
  into-rule None a next here f = f
  into-rule (Some c) a next here f =
      let g = inside-visible c next (open_head c.head a (unopened here.opened here.hidden))
      (opens-head c.head a (unopened here.opened here.hidden) (record { entries = f.entries; hidden_above = f.hidden_above })) in
      record { entries = g.entries; hidden_above = g.hidden_above }

  into-check : (o : Option Clause) (next : ℕ) (here : Place) → Here here → Here (inside_check o next here).here
  into-check None next here f = f
  into-check (Some c) next here f =
      let g = inside-visible c next (unopened here.opened here.hidden) (record { entries = f.entries; hidden_above = f.hidden_above }) in
      record { entries = g.entries; hidden_above = g.hidden_above }

  -- the variable of the shape, where there is one, is below the top
  abbrev IsShapeBelow : Option Shape → Type 0
  IsShapeBelow None = ⊤
  IsShapeBelow (Some s) = nat_lt s.of top ≡ true

  module _ (uni : ℕ → Bool) (next : ℕ) (here : Place) (f : Here here) where
    shape-entry : (h : Shape) → nat_lt h.of top ≡ true → are_visible top (shaped h.of h.name next h.size ∷ here.opened) ≡ true
    shape-entry h k =
        and_from (is_visible top (shaped h.of h.name next h.size)) (are_visible top here.opened) (or_right (nat_le top next) (nat_lt h.of top) k) f.entries

    into-first : (o : Option Shape) (c : Con) → IsShapeBelow o → Here (sides_by uni next o c here).first
    into-first None c k = record { entries = f.entries; hidden_above = f.hidden_above }
    into-first (Some h) (con.Eq t u) k = record { entries = shape-entry h k; hidden_above = f.hidden_above }
    into-first (Some h) (con.Neq t u) k = record { entries = f.entries; hidden_above = f.hidden_above }
    into-first (Some h) (con.NotShape x g n) k = f
    into-first (Some h) (con.Num t) k = f
    into-first (Some h) (con.NotNum t) k = f
    into-first (Some h) (con.Row r) k = f

    into-second : (o : Option Shape) (c : Con) → IsShapeBelow o → Here (sides_by uni next o c here).second
    into-second None c k = record { entries = f.entries; hidden_above = f.hidden_above }
    into-second (Some h) (con.Eq t u) k = record { entries = f.entries; hidden_above = f.hidden_above }
    into-second (Some h) (con.Neq t u) k = record { entries = shape-entry h k; hidden_above = f.hidden_above }
    into-second (Some h) (con.NotShape x g n) k = f
    into-second (Some h) (con.Num t) k = f
    into-second (Some h) (con.NotNum t) k = f
    into-second (Some h) (con.Row r) k = f

module _ (b : Bool) (p : Program) (c : Certificate) where
  abbrev top_of : ℕ
  top_of = (setting p.clauses c).top

  abbrev free : ℕ
  free = (setting p.clauses c).free

  abbrev claim : Claim
  claim =
      record {
        nodes = λ here next. Visible top_of here.opened here.hidden;
        rules = λ a here next. Visible top_of here.opened here.hidden;
        cases = λ body here next. Visible top_of here.opened here.hidden;
      }

  shape-below : (here : Place) (k : Con) (o : Option Shape) → Splits (whole_of b p c) here k o → IsShapeBelow top_of o
  shape-below here k None h = tt
  shape-below here k (Some s) h = (and_parts (nat_lt s.of top_of) (knows free here.opened s.of) h.0).0

  passes : Passes (setting p.clauses c) (LineHolds (whole_of b p c)) claim
  passes =
      record {
        later_nodes = λ here n m l u f. f;
        later_rules = λ a here n m l u f. f;
        later_cases = λ body here n m l u f. f;
        into_positive = λ at next here due a r ts children k f. record { entries = f.entries; hidden_above = f.hidden_above };
        into_negative = λ at next here due a covers k f. record { entries = f.entries; hidden_above = f.hidden_above };
        into_rule = λ at next here r a x k room f. into-rule top_of (numbered p.clauses r) a next here f;
        into_check = λ at next here r x k room f. into-check top_of (numbered p.clauses r) next here f;
        into_first = λ at next here body k one two h room f.
            into-first top_of (is_universal free top_of here) next here f (shape_of next k) k (shape-below here k (shape_of next k) h);
        into_second = λ at next here body k one two h room f.
            into-second top_of (is_universal free top_of here) next here f (shape_of next k) k (shape-below here k (shape_of next k) h);
        into_leaf = λ at next here body r children k f. record { entries = f.entries; hidden_above = f.hidden_above };
        into_head = λ at next here body children k f. record { entries = f.entries; hidden_above = f.hidden_above };
      }

  visible-by : (here : Place) (next : ℕ) (part : Part) → HoldsFor claim here next part → Visible top_of here.opened here.hidden
  visible-by here next (of_node due t) f = f
  visible-by here next (of_rule k a x) f = f
  visible-by here next (of_check k x) f = f
  visible-by here next (of_case body x) f = f

  pub lines-visible : AcceptsWhere b p c → (l : Line) → Contains (lines p c) l → Visible top_of l.here.opened l.here.hidden
  lines-visible h l i =
      visible-by l.here l.next l.part
      (everywhere p.clauses p.queries c (LineHolds (whole_of b p c)) claim passes
      (λ x j. Each-member (LineHolds (whole_of b p c)) (lines p c) x h.lines_hold j)
      (record { entries = refl; hidden_above = omega arith }) l i)
