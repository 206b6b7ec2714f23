-- Down from a case to one that is not split.
use Rattle.std.proofs.Common.{◌≡◌, ◌∙◌, ℕ, Bool, true, false, ◌&&◌, not, nat_eq, List, ◌∷◌, length, Option, None, Some, refl, ap, sym, subst, inl, inr}
use Rattle.std.specs.List.{Contains, list_all}
use Rattle.std.proofs.lemmas.Bool.{true≢false, and_parts, and_from, cases_Bool}
use Rattle.scasp_syntax.specs.Constraints.{holds, has_shape}
use Rattle.scasp_syntax.specs.Same.{same_tm}
use Rattle.scasp_syntax.specs.Tm.{Tm, Tms, var, num, app, items}
use Rattle.scasp_syntax.specs.Values.{Sub, is_ground, all_under}
use Rattle.scasp_syntax.specs.declared.con.Con.{Con}
use Rattle.scasp_syntax.specs.declared.con.Con.TheVariants as con
use Rattle.scasp_syntax.specs.declared.program.Program.{Program}
use Rattle.scasp_syntax.proofs.SameLemmas.{tm_decided}
use Rattle.scasp_cert.specs.Certificate.{Certificate}
use Rattle.scasp_cert.specs.Trees.{Branch, split, void, leaf, head}
use Rattle.scasp_lines.specs.Descent.{is_end, Ends}
use Rattle.scasp_lines.specs.Below.{HasCase}
use Rattle.scasp_lines.specs.Known.{is_con_known}
use Rattle.scasp_unify.specs.Negations.{negated, new_parts}
use Rattle.scasp_lines.specs.Opened.{Opened, shaped, assumed, is_part, is_met, knows, none_known, well}
use Rattle.scasp_lines.specs.Places.{Place, is_universal}
use Rattle.scasp_lines.specs.Bodies.{Body, split_body}
use Rattle.scasp_lines.specs.Walk.{Part, of_case, Line, Setting, part_walk}
use Rattle.scasp_lines.specs.Scopes.{excludes_no_parts, is_split_known, is_line_scoped, is_part_scoped, are_lines_scoped, PlaceFits, PartFits}
use Rattle.scasp_lines.specs.Sides.{Shape, shape_of, sides_by, sides}
use Rattle.scasp_lines.specs.Lines.{setting, free_of, lines, walk_of}
use Rattle.scasp_lines.specs.Ways.{set_all}
use Rattle.scasp_lines.proofs.BelowLemmas.{has-below, branch-root}
use Rattle.scasp_lines.proofs.FitLemmas.{lines-fit}
use Rattle.scasp_list.proofs.MemberLemmas.{list_all-member}
use Rattle.scasp_lines.proofs.NegationLemmas.{negated-holds}
use Rattle.scasp_lines.proofs.PartLemmas.{nat-eq, part-unknown, set-off, set-on, set_all-ground}
use Rattle.scasp_lines.proofs.SubWalkLemmas.{certificate-whole, line-whole}
use Rattle.scasp_lines.proofs.SuffixLemmas.{first-extends, second-extends}
use Rattle.scasp_lines.proofs.WaysLemmas.{met-agree, knows-before}

-- ---- one split

-- values that meet a side and agree with v on what was known
pub record Taken (n : ℕ) (d : List Tm) (before after : List Opened) (v : Sub) : Type 0 where
  pub by : Sub
  pub met : list_all (is_met d by) after ≡ true
  pub same : (x : ℕ) → knows n before x ≡ true → by x ≡ v x
  pub ground : ((x : ℕ) → is_ground (v x) ≡ true) → (x : ℕ) → is_ground (by x) ≡ true

taken-assumed : (n : ℕ) (d : List Tm) (os : List Opened) (c : Con) (v : Sub) → list_all (is_met d v) os ≡ true → holds v c ≡ true → Taken n d os (assumed c ∷ os) v
taken-assumed n d os c v m h = record { by = v; met = and_from (holds v c) (list_all (is_met d v) os) h m; same = λ x k. refl; ground = λ g. g }

-- the value has the shape
pub record Shaped (f n : ℕ) (t : Tm) : Type 0 where
  pub arguments : Tms
  pub is : t ≡ app f arguments
  pub long : length (items arguments) ≡ n

shaped-from : (f n : ℕ) (t : Tm) → has_shape f n t ≡ true → Shaped f n t
shaped-from f n (var x) h = cc
shaped-from f n (num q) h = cc
shaped-from f n (app g ts) h =
    let p = and_parts (nat_eq g f) (nat_eq (length (items ts)) n) h in
    record { arguments = ts; is = ap (λ z. app z ts) (nat-eq g f p.0); long = nat-eq (length (items ts)) n p.1 }

taken-shape : (n : ℕ) (d : List Tm) (os : List Opened) (x f k m : ℕ) (v : Sub) → well n (shaped x f k m ∷ os) ≡ true → list_all (is_met d v) os ≡ true → has_shape f m (v x) ≡ true
    → Taken n d os (shaped x f k m ∷ os) v
taken-shape n d os x f k m v w met h =
    let p = and_parts (well n os) (knows n os x && none_known (knows n os) k m) w in
    let q = and_parts (knows n os x) (none_known (knows n os) k m) p.1 in
    let t = shaped-from f m (v x) h in
    let u : Sub = set_all v k t.arguments in
    let same : (y : ℕ) → knows n os y ≡ true → u y ≡ v y =
    λ y i. set-off v k t.arguments y (ap (λ z. is_part k z y) t.long ∙ apart y i q.1) in
    let values : all_under u (new_parts k m) ≡ t.arguments = ap (λ z. all_under u (new_parts k z)) (sym t.long) ∙ set-on v k t.arguments in
    record {
      by = u;
      met = and_from (same_tm (u x) (app f (all_under u (new_parts k m)))) (list_all (is_met d u) os)
          ((tm_decided (u x) (app f (all_under u (new_parts k m)))).1 (same x q.0 ∙ t.is ∙ ap (app f) (sym values)))
          (met-agree d n os v u p.0 (λ y i. sym (same y i)) met);
      same = same;
      ground = λ g. set_all-ground v k t.arguments (sym (ap is_ground t.is) ∙ g x) g;
    }
  where
    apart : (y : ℕ) → knows n os y ≡ true → none_known (knows n os) k m ≡ true → is_part k m y ≡ false
    apart y i none = elim (cases_Bool (is_part k m y)) [
      | inl e ↦ absurd (true≢false (sym i ∙ part-unknown (knows n os) k m y none e))
      | inr e ↦ e
    ]

-- one of the sides can be taken
pub data Side (n : ℕ) (d : List Tm) (before : List Opened) (v : Sub) (first second : List Opened) : Type 0 where
  left : Taken n d before first v → Side n d before v first second
  right : Taken n d before second v → Side n d before v first second

side : (n : ℕ) (d : List Tm) (universal : ℕ → Bool) (next : ℕ) (here : Place) (v : Sub) (o : Option Shape) (c : Con) → is_split_known (knows n here.opened) o c ≡ true → shape_of next c ≡ o
    → well n (sides_by universal next o c here).first.opened ≡ true → well n (sides_by universal next o c here).second.opened ≡ true → list_all (is_met d v) here.opened ≡ true
    → Side n d here.opened v (sides_by universal next o c here).first.opened (sides_by universal next o c here).second.opened
side n d universal next here v None c k e w1 w2 m =
    let p = and_parts (is_con_known (knows n here.opened) c) (excludes_no_parts c) k in
    elim (cases_Bool (holds v c)) [
      | inl h ↦ left (taken-assumed n d here.opened c v m h)
      | inr h ↦ right (taken-assumed n d here.opened (negated here.hidden c) v m (negated-holds v here.hidden c p.1 ∙ ap not h))
    ]
side n d universal next here v (Some s) (con.Eq t u) k e w1 w2 m =
    elim (cases_Bool (has_shape s.name s.size (v s.of))) [
      | inl h ↦ left (taken-shape n d here.opened s.of s.name next s.size v w1 m h)
      | inr h ↦ right (taken-assumed n d here.opened (con.NotShape s.of s.name s.size) v m (ap not h))
    ]
side n d universal next here v (Some s) (con.Neq t u) k e w1 w2 m =
    elim (cases_Bool (has_shape s.name s.size (v s.of))) [
      | inl h ↦ right (taken-shape n d here.opened s.of s.name next s.size v w2 m h)
      | inr h ↦ left (taken-assumed n d here.opened (con.NotShape s.of s.name s.size) v m (ap not h))
    ]
side n d universal next here v (Some s) (con.NotShape x f i) k e w1 w2 m = cc
side n d universal next here v (Some s) (con.Num t) k e w1 w2 m = cc
side n d universal next here v (Some s) (con.NotNum t) k e w1 w2 m = cc
side n d universal next here v (Some s) (con.Row r) k e w1 w2 m = cc

-- ---- down the splits

module _ (p : Program) (c : Certificate) (scoped : are_lines_scoped p c ≡ true) (d : List Tm) where
  case-fits : (l : Line) (body : Body) (b : Branch) → Contains (lines p c) l → l.part ≡ of_case body b → PlaceFits (setting p.clauses c) l.here l.next
  case-fits l body b h e =
      (subst (λ (z : Part). PartFits (setting p.clauses c) l.here l.next z) e (lines-fit p c scoped l h)).place_fits

  -- the line is the first of its own lines
  own-line : (l : Line) (body : Body) (b : Branch) → l.part ≡ of_case body b → Contains (walk_of (setting p.clauses c) l) l
  own-line l body b e =
      subst (λ (z : Part). Contains (part_walk (setting p.clauses c) l.here l.at l.next z).lines (record { at = l.at; next = l.next; here = l.here; part = z })) (sym e)
      (branch-root (setting p.clauses c) l.here l.at l.next body b)

  ends-here : (l : Line) (body : Body) (b : Branch) (v : Sub) → l.part ≡ of_case body b → is_end b ≡ true → list_all (is_met d v) l.here.opened ≡ true → Ends (setting p.clauses c) d l body v
  ends-here l body b v e end m =
      record {
        line = l;
        listed = own-line l body b e;
        own = body;
        last = b;
        is = e;
        ends = end;
        alike = record { items = refl; head = refl; is_check = refl; vars = refl; values = refl };
        by = v;
        met = m;
        same = λ x k. refl;
        ground = λ g. g;
      }

  -- what ends below a side ends below the split
  ends-below : (l : Line) (body : Body) (v : Sub) (here : Place) (b : Branch) (x : HasCase (walk_of (setting p.clauses c) l) here (split_body body) b) (t : Taken (setting p.clauses c).free d l.here.opened here.opened v)
      → ((y : ℕ) → knows (setting p.clauses c).free l.here.opened y ≡ true → knows (setting p.clauses c).free here.opened y ≡ true)
      → Ends (setting p.clauses c) d x.line (split_body body) t.by → Ends (setting p.clauses c) d l body v
  ends-below l body v here b x t more e =
      let same = e.alike in
      record {
        line = e.line;
        listed = (line-whole (setting p.clauses c) l).has x.line e.line x.listed e.listed;
        own = e.own;
        last = e.last;
        is = e.is;
        ends = e.ends;
        alike = record { items = same.items; head = same.head; is_check = same.is_check; vars = same.vars; values = same.values };
        by = e.by;
        met = e.met;
        same = λ y k. e.same y (ap (λ (h : Place). knows (setting p.clauses c).free h.opened y) x.there ∙ more y k) ∙ t.same y k;
        ground = λ g. e.ground (t.ground g);
      }

  pub descends : (b : Branch) (l : Line) (body : Body) (v : Sub) → Contains (lines p c) l → l.part ≡ of_case body b → list_all (is_met d v) l.here.opened ≡ true → Ends (setting p.clauses c) d l body v
  descends (void hint) l body v h e m = ends-here l body (void hint) v e refl m
  descends (leaf k children) l body v h e m = ends-here l body (leaf k children) v e refl m
  descends (head children) l body v h e m = ends-here l body (head children) v e refl m
  descends (split con first second) l body v h e m =
      let s : Setting = setting p.clauses c in
      let below = (has-below s l).sides_of body con first second e in
      let one = below.0 in
      let two = below.1 in
      let one_listed : Contains (lines p c) one.line = (certificate-whole p.clauses p.queries c).has l one.line h one.listed in
      let two_listed : Contains (lines p c) two.line = (certificate-whole p.clauses p.queries c).has l two.line h two.listed in
      let w1 : well s.free (sides s.free s.top con l.here l.next).first.opened ≡ true =
      subst (λ (z : Place). well s.free z.opened ≡ true) one.there (case-fits one.line (split_body body) first one_listed one.is).well in
      let w2 : well s.free (sides s.free s.top con l.here l.next).second.opened ≡ true =
      subst (λ (z : Place). well s.free z.opened ≡ true) two.there (case-fits two.line (split_body body) second two_listed two.is).well in
      let known : is_split_known (knows s.free l.here.opened) (shape_of l.next con) con ≡ true =
      subst (λ (z : Part). is_part_scoped (knows s.free l.here.opened) l.next z ≡ true) e (list_all-member (is_line_scoped (free_of c)) (lines p c) l scoped h) in
      elim (side s.free d (is_universal s.free s.top l.here) l.next l.here v (shape_of l.next con) con known refl w1 w2 m) [
        | left t ↦
            ends-below l body v (sides s.free s.top con l.here l.next).first first one t (first-wider l con)
            (descends first one.line (split_body body) t.by one_listed one.is (subst (λ (z : Place). list_all (is_met d t.by) z.opened ≡ true) (sym one.there) t.met))
        | right t ↦
            ends-below l body v (sides s.free s.top con l.here l.next).second second two t (second-wider l con)
            (descends second two.line (split_body body) t.by two_listed two.is (subst (λ (z : Place). list_all (is_met d t.by) z.opened ≡ true) (sym two.there) t.met))
      ]
    where
      first-wider : (l : Line) (con : Con) (y : ℕ) → knows (setting p.clauses c).free l.here.opened y ≡ true → knows (setting p.clauses c).free (sides (setting p.clauses c).free (setting p.clauses c).top con l.here l.next).first.opened y ≡ true
      first-wider l con y k =
          let s : Setting = setting p.clauses c in
          let x = first-extends (is_universal s.free s.top l.here) l.next l.here (shape_of l.next con) con in
          ap (λ (os : List Opened). knows s.free os y) x.is ∙ knows-before s.free x.more l.here.opened y k

      second-wider : (l : Line) (con : Con) (y : ℕ) → knows (setting p.clauses c).free l.here.opened y ≡ true → knows (setting p.clauses c).free (sides (setting p.clauses c).free (setting p.clauses c).top con l.here l.next).second.opened y ≡ true
      second-wider l con y k =
          let s : Setting = setting p.clauses c in
          let x = second-extends (is_universal s.free s.top l.here) l.next l.here (shape_of l.next con) con in
          ap (λ (os : List Opened). knows s.free os y) x.is ∙ knows-before s.free x.more l.here.opened y k
