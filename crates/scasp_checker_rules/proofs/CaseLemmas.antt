-- A case and a check have no fault exactly where they are accepted.
use Rattle.std.proofs.Common.{◌≡◌, ℕ, ◌+◌, true, nat_lt, nat_le, [], Option, Some, None, length, refl}
use Rattle.std.specs.List.{list_all}
use Rattle.std.proofs.lemmas.Bool.{and_parts, and_from}
use Rattle.std.proofs.lemmas.Bool.Decides.{Decides-eqb}
use Rattle.scasp_syntax.specs.Programs.{numbered}
use Rattle.scasp_syntax.specs.declared.atom.Atom.{Atom}
use Rattle.scasp_syntax.specs.declared.con.Con.{Con}
use Rattle.scasp_cert.specs.Trees.{Branch, split, void, leaf, head}
use Rattle.scasp_lines.specs.Below.{count}
use Rattle.scasp_lines.specs.Bodies.{Body}
use Rattle.scasp_lines.specs.Places.{Place}
use Rattle.scasp_lines.specs.Sides.{Shape, shape_of}
use Rattle.scasp_lines.specs.Walk.{Part, of_node, of_rule, of_check, of_case, Line}
use Rattle.scasp_checker_rules.specs.Accepted.{Splits, CaseHolds, CheckHolds, PartHolds, LineHolds}
use Rattle.scasp_checker_rules.specs.LineFaults.{split_faults, case_faults, check_faults, part_faults, line_faults}
use Rattle.scasp_checker_rules.specs.Refusals.{of_some}
use Rattle.scasp_checker_rules.specs.Wholes.{Whole, checked_before}
use Rattle.scasp_checker_rules.proofs.NodeLemmas.{node-holds, node-none}
use Rattle.scasp_checker_rules.proofs.TestLemmas.{le-from, le-is, lt-from, lt-is, wants-holds, wants-none, both_none, none_both, fault-none, none-fault, of_some-parts, of_some-from}

split-holds : (w : Whole) (at : ℕ) (here : Place) (c : Con) (o : Option Shape) → split_faults w at here c o ≡ [] → Splits w here c o
split-holds w at here c None e = let p = both_none _ _ e in (wants-holds at _ _ p.0, wants-holds at _ _ p.1)
split-holds w at here c (Some s) e = let p = both_none _ _ e in (wants-holds at _ _ p.0, wants-holds at _ _ p.1)

split-none : (w : Whole) (at : ℕ) (here : Place) (c : Con) (o : Option Shape) → Splits w here c o → split_faults w at here c o ≡ []
split-none w at here c None h = none_both _ _ (wants-none at _ _ h.0) (wants-none at _ _ h.1)
split-none w at here c (Some s) h = none_both _ _ (wants-none at _ _ h.0) (wants-none at _ _ h.1)

headed : (o : Option Atom) → of_some o (λ h. true) ≡ true → (h : Atom) × (o ≡ Some h)
headed None e = cc
headed (Some h) e = (h, refl)

case-holds : (w : Whole) (at next : ℕ) (here : Place) (body : Body) (b : Branch) → case_faults w at next here body b ≡ [] → CaseHolds w next here body b
case-holds w at next here body (split c first second) e = split-holds w at here c (shape_of next c) e
case-holds w at next here body (void hint) e = fault-none at _ e
case-holds w at next here body (leaf k children) e =
    let p = both_none _ _ e in
    let i = and_parts (nat_lt 0 k) (nat_le k (length body.items)) (wants-holds at _ _ p.1) in
    ((Decides-eqb (count children) k).0 (wants-holds at _ _ p.0), lt-from 0 k i.0, le-from k (length body.items) i.1)
case-holds w at next here body (head children) e =
    let p = both_none _ _ e in
    let i = and_parts body.is_check (of_some body.head (λ h. true)) (wants-holds at _ _ p.1) in
    let h = headed body.head i.1 in
    ((Decides-eqb (count children) (length body.items + 1)).0 (wants-holds at _ _ p.0), i.0, h.0, h.1)

case-none : (w : Whole) (at next : ℕ) (here : Place) (body : Body) (b : Branch) → CaseHolds w next here body b → case_faults w at next here body b ≡ []
case-none w at next here body (split c first second) h = split-none w at here c (shape_of next c) h
case-none w at next here body (void hint) h = none-fault at _ h
case-none w at next here body (leaf k children) h =
    none_both _ _ (wants-none at _ _ ((Decides-eqb (count children) k).1 h.0))
    (wants-none at _ _ (and_from _ _ (lt-is 0 k h.1) (le-is k (length body.items) h.2)))
case-none w at next here body (head children) h =
    none_both _ _ (wants-none at _ _ ((Decides-eqb (count children) (length body.items + 1)).1 h.0))
    (wants-none at _ _ (and_from _ _ h.1 (of_some-from body.head (λ h. true) h.2 h.3 refl)))

check-holds : (w : Whole) (at k : ℕ) → check_faults w at k ≡ [] → CheckHolds w at k
check-holds w at k e =
    let p = and_parts (of_some (numbered w.setting.clauses k) (λ c. true)) (list_all (λ j. nat_lt j k) (checked_before w at)) (wants-holds at _ _ e) in
    let c = of_some-parts (numbered w.setting.clauses k) (λ c. true) p.0 in (c.0, c.1, p.1)

check-none : (w : Whole) (at k : ℕ) → CheckHolds w at k → check_faults w at k ≡ []
check-none w at k h = wants-none at _ _ (and_from _ _ (of_some-from (numbered w.setting.clauses k) (λ c. true) h.0 h.1 refl) h.2)

-- ---- lines

part-holds : (w : Whole) (l : Line) (part : Part) → part_faults w l part ≡ [] → PartHolds w l part
part-holds w l (of_node due t) e = node-holds w l.at l.here due t e
part-holds w l (of_rule k a b) e = tt
part-holds w l (of_check k b) e = check-holds w l.at k e
part-holds w l (of_case body b) e = case-holds w l.at l.next l.here body b e

part-none : (w : Whole) (l : Line) (part : Part) → PartHolds w l part → part_faults w l part ≡ []
part-none w l (of_node due t) h = node-none w l.at l.here due t h
part-none w l (of_rule k a b) h = refl
part-none w l (of_check k b) h = check-none w l.at k h
part-none w l (of_case body b) h = case-none w l.at l.next l.here body b h

pub line-holds : (w : Whole) (l : Line) → line_faults w l ≡ [] → LineHolds w l
line-holds w l e = part-holds w l l.part e

pub line-none : (w : Whole) (l : Line) → LineHolds w l → line_faults w l ≡ []
line-none w l h = part-none w l l.part h
