-- What opened at each line is well, where the variables that stand on each line are known.
use Rattle.std.proofs.Common.{◌≡◌, ◌∙◌, ℕ, zero, suc, ◌+◌, ◌<◌, ◌≤◌, Bool, true, false, ◌&&◌, not, nat_lt, List, [], ◌∷◌, Option, None, Some, refl, ap, inl, inr, arith}
use Rattle.std.specs.List.{Contains, list_all}
use Rattle.std.proofs.lemmas.Bool.{and_parts, and_from, or_right, or_from, not_from_false, cases_Bool, ltb-true}
use Rattle.scasp_num.specs.declared.linear.Coeff.{Coeff}
use Rattle.scasp_num.specs.Linear.{negated as negated_coeffs}
use Rattle.scasp_syntax.specs.Programs.{numbered}
use Rattle.scasp_syntax.specs.declared.atom.Atom.{Atom}
use Rattle.scasp_syntax.specs.declared.clause.Clause.{Clause}
use Rattle.scasp_syntax.specs.declared.con.Con.{Con}
use Rattle.scasp_syntax.specs.declared.con.Con.TheVariants as con
use Rattle.scasp_syntax.specs.declared.program.Program.{Program}
use Rattle.scasp_cert.specs.Certificate.{Certificate}
use Rattle.scasp_lines.specs.Known.{are_known, is_con_known}
use Rattle.scasp_lines.specs.Said.{is_part_known, is_line_known, are_lines_known}
use Rattle.scasp_unify.specs.Negations.{negated}
use Rattle.scasp_lines.specs.Opened.{Opened, sets, shaped, assumed, is_part, knows, none_known, well}
use Rattle.scasp_lines.specs.OpeningLaws.{OpeningFits, OpeningGrows}
use Rattle.scasp_lines.specs.Openings.{Opening, unopened}
use Rattle.scasp_lines.specs.Covers.{covering}
use Rattle.scasp_lines.specs.Places.{Place, start, is_universal}
use Rattle.scasp_lines.specs.Bodies.{Body, split_body, inside, inside_rule, inside_check, open_head}
use Rattle.scasp_lines.specs.Walk.{Part, of_node, of_rule, of_check, of_case, Line, Setting}
use Rattle.scasp_lines.specs.Scopes.{excludes_no_parts, is_split_known, is_part_scoped, is_line_scoped, are_lines_scoped, PlaceFits, BodyFits, PartFits}
use Rattle.scasp_lines.specs.Sides.{Shape, shape_of, sides_by}
use Rattle.scasp_lines.specs.Lines.{setting, free_of, lines}
use Rattle.scasp_lines.specs.Rooms.{room_of_clause}
use Rattle.scasp_lines.proofs.CounterLemmas.{rule-rises, check-rises}
use Rattle.scasp_lines.proofs.EverywhereLemmas.{everywhere}
use Rattle.scasp_lines.proofs.KnownLemmas.{wider-tm}
use Rattle.scasp_list.proofs.MemberLemmas.{list_all-from, list_all-member}
use Rattle.scasp_lines.proofs.OpeningFits.{grows-terms, no-part_above}
use Rattle.scasp_lines.proofs.Passages.{Claim, HoldsFor, Passes}
use Rattle.scasp_lines.proofs.UniversalLemmas.{covering-grows, covering-known}

-- ---- entries

-- so many parts that are not known
new-between : (j : ℕ → Bool) (k m : ℕ) → ((y : ℕ) → k ≤ y → y < k + m → j y ≡ false) → none_known j k m ≡ true
new-between j k zero h = refl
new-between j k (suc m) h =
    and_from (not (j k)) (none_known j (suc k) m) (not_from_false (j k) (h k (omega arith) (omega arith)))
    (new-between j (suc k) m (λ y l u. h y (omega (arith, l)) (omega (arith, u))))

negated-known : (known : ℕ → Bool) (k : ℕ) (c : Con) → excludes_no_parts c ≡ true → is_con_known known c ≡ true → is_con_known known (negated k c) ≡ true
negated-known known k (con.Eq t u) e h = h
negated-known known k (con.Neq t u) e h = h
negated-known known k (con.NotShape x f zero) e h = and_from (known x) true h refl
negated-known known k (con.NotShape x f (suc n)) e h = absurd (cc)
negated-known known k (con.Num t) e h = h
negated-known known k (con.NotNum t) e h = h
negated-known known k (con.Row r) e h = coefficients _ r.coeffs h
  where
    coefficients : (negate : Bool) (ks : List Coeff) → list_all (λ (j : Coeff). known j.x) ks ≡ true → list_all (λ (j : Coeff). known j.x) (negated_coeffs negate ks) ≡ true
    coefficients negate [] i = refl
    coefficients negate (j ∷ ks) i =
        let p = and_parts (known j.x) (list_all (λ (j : Coeff). known j.x) ks) i in
        and_from (known j.x) (list_all (λ (j : Coeff). known j.x) (negated_coeffs negate ks)) p.0 (coefficients negate ks p.1)

module _ (s : Setting) where
  fits-later : (here : Place) (n m : ℕ) → n ≤ m → PlaceFits s here n → PlaceFits s here m
  fits-later here n m l f = record { well = f.well; unseen = f.unseen; to_come = λ y i u. f.to_come y (omega (arith, l, i)) u; above = f.above }

  -- a cover behind what its head opened
  fits-inside : (is_check : Bool) (c : Clause) (o : Opening) (next : ℕ) (here : Place) → PlaceFits s here next → OpeningGrows s.free (unopened here.opened here.hidden) o
      → (covering c.vars next o).next ≤ s.top → (next + c.vars) ≤ s.top → BodyFits s (inside is_check c o next here).body (inside is_check c o next here).here (inside is_check c o next here).next
  fits-inside is_check c o next here f g room most =
      let above = f.above in let rises = g.rises in
      let to_come : (y : ℕ) → next ≤ y → y < s.top → knows s.free o.opened y ≡ false = λ y l u. g.only y (omega (arith, above, u)) (f.to_come y l u) in
      let e = covering-grows s.free s.top c.vars next o g.fits to_come most in
      record {
        place_fits = record {
          well = (e.fits).well;
          unseen = λ y l. e.only y (omega (arith, room, above, rises, l)) ((g.fits).unseen y l);
          to_come = (e.fits).unseen;
          above = omega (arith, above, rises);
        };
        values = covering-known s.free s.top c.vars next o g.fits to_come most;
      }

  -- one more entry that fits, and gives no value
  fits-assumed : (here there : Place) (next m : ℕ) (c : Con) → there.opened ≡ assumed c ∷ here.opened → there.hidden ≡ here.hidden → next ≤ m → is_con_known (knows s.free here.opened) c ≡ true
      → PlaceFits s here next → PlaceFits s there m
  fits-assumed here there next m c e h l k f =
      record {
        well = ap (well s.free) e ∙ and_from (well s.free here.opened) (is_con_known (knows s.free here.opened) c) f.well k;
        unseen = λ y i. ap (λ (os : List Opened). knows s.free os y) e ∙ f.unseen y (omega (arith, i, h));
        to_come = λ y i u. ap (λ (os : List Opened). knows s.free os y) e ∙ f.to_come y (omega (arith, i, l)) u;
        above = (let a = f.above in omega (arith, a, h));
      }

  fits-shape : (here there : Place) (next : ℕ) (x g m : ℕ) → there.opened ≡ shaped x g next m ∷ here.opened → there.hidden ≡ here.hidden → (next + m) ≤ s.top → knows s.free here.opened x ≡ true
      → PlaceFits s here next → PlaceFits s there (next + m)
  fits-shape here there next x g m e h room k f =
      let above = f.above in
      record {
        well = ap (well s.free) e
            ∙ and_from (well s.free here.opened) (knows s.free here.opened x && none_known (knows s.free here.opened) next m) f.well
            (and_from (knows s.free here.opened x) (none_known (knows s.free here.opened) next m) k
            (new-between (knows s.free here.opened) next m (λ y l u. f.to_come y l (omega (arith, u, room)))));
        unseen = λ y i. ap (λ (os : List Opened). knows s.free os y) e
            ∙ or_from (is_part next m y) (knows s.free here.opened y) (no-part_above next m y (omega (arith, i, h, above, room))) (f.unseen y (omega (arith, i, h)));
        to_come = λ y i u. ap (λ (os : List Opened). knows s.free os y) e
            ∙ or_from (is_part next m y) (knows s.free here.opened y) (no-part_above next m y i) (f.to_come y (omega (arith, i)) u);
        above = omega (arith, above, h);
      }

  -- what was known is with one more entry
  wider-by : (o : Opened) (os : List Opened) (x : ℕ) → knows s.free os x ≡ true → knows s.free (o ∷ os) x ≡ true
  wider-by o os x k = or_right (sets o x) (knows s.free os x) k

  -- a side fits, and knows what was known
  pub record SideFits (here there : Place) (next m : ℕ) : Type 0 where
    pub place_fits : PlaceFits s there m
    pub wider : (x : ℕ) → knows s.free here.opened x ≡ true → knows s.free there.opened x ≡ true

  body-side : (body : Body) (here there : Place) (next m : ℕ) → BodyFits s body here next → SideFits here there next m → BodyFits s (split_body body) there m
  body-side body here there next m f g =
      record {
        place_fits = g.place_fits;
        values = λ x l. wider-tm (knows s.free here.opened) (knows s.free there.opened) g.wider (body.values x) (f.values x l);
      }

  module _ (universal : ℕ → Bool) (here : Place) (next : ℕ) (f : PlaceFits s here next) where
    first-fits : (o : Option Shape) (c : Con) → shape_of next c ≡ o → is_split_known (knows s.free here.opened) o c ≡ true → (sides_by universal next o c here).next ≤ s.top
        → SideFits here (sides_by universal next o c here).first next (sides_by universal next o c here).next
    first-fits None c e k room =
        let p = and_parts (is_con_known (knows s.free here.opened) c) (excludes_no_parts c) k in
        record { place_fits = fits-assumed here _ next next c refl refl (omega arith) p.0 f; wider = wider-by (assumed c) here.opened }
    first-fits (Some h) (con.Eq t u) e k room = record { place_fits = fits-shape here _ next h.of h.name h.size refl refl room k f; wider = wider-by (shaped h.of h.name next h.size) here.opened }
    first-fits (Some h) (con.Neq t u) e k room =
        record { place_fits = fits-assumed here _ next (next + h.size) (con.NotShape h.of h.name h.size) refl refl (omega arith) k f; wider = wider-by (assumed (con.NotShape h.of h.name h.size)) here.opened }
    first-fits (Some h) (con.NotShape x g n) e k room = cc
    first-fits (Some h) (con.Num t) e k room = cc
    first-fits (Some h) (con.NotNum t) e k room = cc
    first-fits (Some h) (con.Row r) e k room = cc

    second-fits : (o : Option Shape) (c : Con) → shape_of next c ≡ o → is_split_known (knows s.free here.opened) o c ≡ true → (sides_by universal next o c here).next ≤ s.top
        → SideFits here (sides_by universal next o c here).second next (sides_by universal next o c here).next
    second-fits None c e k room =
        let p = and_parts (is_con_known (knows s.free here.opened) c) (excludes_no_parts c) k in
        record {
          place_fits = fits-assumed here _ next next (negated here.hidden c) refl refl (omega arith) (negated-known (knows s.free here.opened) here.hidden c p.1 p.0) f;
          wider = wider-by (assumed (negated here.hidden c)) here.opened;
        }
    second-fits (Some h) (con.Eq t u) e k room =
        record { place_fits = fits-assumed here _ next (next + h.size) (con.NotShape h.of h.name h.size) refl refl (omega arith) k f; wider = wider-by (assumed (con.NotShape h.of h.name h.size)) here.opened }
    second-fits (Some h) (con.Neq t u) e k room = record { place_fits = fits-shape here _ next h.of h.name h.size refl refl room k f; wider = wider-by (shaped h.of h.name next h.size) here.opened }
    second-fits (Some h) (con.NotShape x g n) e k room = cc
    second-fits (Some h) (con.Num t) e k room = cc
    second-fits (Some h) (con.NotNum t) e k room = cc
    second-fits (Some h) (con.Row r) e k room = cc

-- ---- everywhere

abbrev fits-claim : Setting → Claim
fits-claim s =
    record {
      nodes = λ here next. PlaceFits s here next;
      rules = λ a here next. PlaceFits s here next × (are_known (knows s.free here.opened) a.args ≡ true);
      cases = λ body here next. BodyFits s body here next;
    }

grows-head : (n : ℕ) (h : Option Atom) (a : Atom) (o : Opening) → OpeningFits n o → are_known (knows n o.opened) a.args ≡ true → OpeningGrows n o (open_head h a o)
grows-head n None a o f k = record { fits = f; rises = omega arith; more = λ x h. h; only = λ y l h. h }
grows-head n (Some h) a o f k = grows-terms n h.args a.args o f k

unopened-fits : (s : Setting) (here : Place) (next : ℕ) → PlaceFits s here next → OpeningFits s.free (unopened here.opened here.hidden)
unopened-fits s here next f = record { well = f.well; unseen = f.unseen; known = λ x t h. cc }

no-values : (s : Setting) (here : Place) (next : ℕ) (m : ℕ) → next ≤ m → PlaceFits s here next → (body : Body) → body.vars ≡ 0 → BodyFits s body here m
no-values s here next m l f body e = record { place_fits = fits-later s here next m l f; values = λ x i. absurd (omega (arith, i, e)) }

fits-passes : (s : Setting) → Passes s (λ l. is_line_scoped s.free l ≡ true) (fits-claim s)
fits-passes s =
    record {
      later_nodes = λ here n m l u f. fits-later s here n m l f;
      later_rules = λ a here n m l u f. (fits-later s here n m l f.0, f.1);
      later_cases = λ body here n m l u f. record { place_fits = fits-later s here n m l f.place_fits; values = f.values };
      into_positive = λ at next here due a r ts children k f. record { well = f.well; unseen = f.unseen; to_come = f.to_come; above = f.above };
      into_negative = λ at next here due a covers k f. (record { well = f.well; unseen = f.unseen; to_come = f.to_come; above = f.above }, k);
      into_rule = λ at next here r a b k room f. into-rule (numbered s.clauses r) a next here room f.0 f.1;
      into_check = λ at next here r b k room f. into-check (numbered s.clauses r) next here room f;
      into_first = λ at next here body c one two k room f.
          body-side s body here _ next _ f (first-fits s (is_universal s.free s.top here) here next f.place_fits (shape_of next c) c refl k room);
      into_second = λ at next here body c one two k room f.
          body-side s body here _ next _ f (second-fits s (is_universal s.free s.top here) here next f.place_fits (shape_of next c) c refl k room);
      into_leaf = λ at next here body r children k f. (let g = f.place_fits in record { well = g.well; unseen = g.unseen; to_come = g.to_come; above = g.above });
      into_head = λ at next here body children k f. (let g = f.place_fits in record { well = g.well; unseen = g.unseen; to_come = g.to_come; above = g.above });
    }
  where
    into-rule : (c : Option Clause) (a : Atom) (next : ℕ) (here : Place) → (next + room_of_clause c) ≤ s.top → PlaceFits s here next → are_known (knows s.free here.opened) a.args ≡ true
        → BodyFits s (inside_rule c a next here).body (inside_rule c a next here).here (inside_rule c a next here).next
    into-rule None a next here room f k = no-values s here next next (omega arith) f _ refl
    into-rule (Some c) a next here room f k =
        let end = (rule-rises (Some c) a next here).most in
        fits-inside s false c (open_head c.head a (unopened here.opened here.hidden)) next here f
        (grows-head s.free c.head a (unopened here.opened here.hidden) (unopened-fits s here next f) k) (omega (arith, end, room)) room

    into-check : (c : Option Clause) (next : ℕ) (here : Place) → (next + room_of_clause c) ≤ s.top → PlaceFits s here next
        → BodyFits s (inside_check c next here).body (inside_check c next here).here (inside_check c next here).next
    into-check None next here room f = no-values s here next next (omega arith) f _ refl
    into-check (Some c) next here room f =
        let end = (check-rises (Some c) next here).most in
        fits-inside s true c (unopened here.opened here.hidden) next here f
        (record { fits = unopened-fits s here next f; rises = omega arith; more = λ x h. h; only = λ y l h. h }) (omega (arith, end, room)) room

start-fits : (s : Setting) → s.free ≤ s.top → PlaceFits s (start s.top) s.free
start-fits s l =
    record {
      well = refl;
      unseen = λ y i. not_below y s.free (omega (arith, i, l));
      to_come = λ y i u. not_below y s.free i;
      above = omega arith;
    }
  where
    not_below : (y n : ℕ) → n ≤ y → nat_lt y n ≡ false
    not_below y n i = elim (cases_Bool (nat_lt y n)) [ inl e ↦ (let q = ltb-true y n e in absurd (omega (arith, q, i))) | inr e ↦ e ]

part-fits : (s : Setting) (here : Place) (next : ℕ) (part : Part) → HoldsFor (fits-claim s) here next part → PartFits s here next part
part-fits s here next (of_node due t) f = f
part-fits s here next (of_rule k a b) f = f.0
part-fits s here next (of_check k b) f = f
part-fits s here next (of_case body b) f = f

pub lines-fit : (p : Program) (c : Certificate) → are_lines_scoped p c ≡ true → (l : Line) → Contains (lines p c) l → PartFits (setting p.clauses c) l.here l.next l.part
lines-fit p c scoped l h =
    let s : Setting = setting p.clauses c in
    part-fits s l.here l.next l.part
    (everywhere p.clauses p.queries c (λ (x : Line). is_line_scoped s.free x ≡ true) (fits-claim s) (fits-passes s)
    (λ x i. list_all-member (is_line_scoped s.free) (lines p c) x scoped i) (start-fits s (omega arith)) l h)

part-well : (s : Setting) (l : Line) (part : Part) → PartFits s l.here l.next part → well s.free l.here.opened ≡ true
part-well s l (of_node due t) f = f.well
part-well s l (of_rule k a b) f = f.well
part-well s l (of_check k b) f = f.well
part-well s l (of_case body b) f = (f.place_fits).well

scoped-known : (known : ℕ → Bool) (next : ℕ) (part : Part) → is_part_scoped known next part ≡ true → is_part_known known part ≡ true
scoped-known known next (of_node due t) h = h
scoped-known known next (of_rule k a b) h = refl
scoped-known known next (of_check k b) h = refl
scoped-known known next (of_case body b) h = refl

-- what the lines say may be asked of their instances
pub lines-known : (p : Program) (c : Certificate) → are_lines_scoped p c ≡ true → are_lines_known p c ≡ true
lines-known p c scoped =
    list_all-from (is_line_known (free_of c)) (lines p c)
    (λ l h. and_from (well (free_of c) l.here.opened) (is_part_known (knows (free_of c) l.here.opened) l.part)
    (part-well (setting p.clauses c) l l.part (lines-fit p c scoped l h))
    (scoped-known (knows (free_of c) l.here.opened) l.next l.part (list_all-member (is_line_scoped (free_of c)) (lines p c) l scoped h)))
