-- What is accepted where no positive literal may be seen is accepted where it may.
use Rattle.std.proofs.Common.{ℕ, Bool, true, false, Option, None, Some, refl}
use Rattle.scasp_list.proofs.EachLemmas.{Each-map}
use Rattle.scasp_syntax.specs.Tm.{Tms}
use Rattle.scasp_syntax.specs.declared.atom.Atom.{Atom}
use Rattle.scasp_syntax.specs.declared.con.Con.{Con}
use Rattle.scasp_syntax.specs.declared.program.Program.{Program}
use Rattle.scasp_cert.specs.Certificate.{Certificate}
use Rattle.scasp_cert.specs.Trees.{Tree, Branch, pos_tree, neg_tree, loop_tree, seen_tree, test_tree, split, void, leaf, head}
use Rattle.scasp_lines.specs.Dues.{Due}
use Rattle.scasp_lines.specs.Bodies.{Body}
use Rattle.scasp_lines.specs.Lines.{lines}
use Rattle.scasp_lines.specs.Places.{Place}
use Rattle.scasp_lines.specs.Sides.{Shape, shape_of}
use Rattle.scasp_lines.specs.Walk.{Part, of_node, of_rule, of_check, of_case, Line}
use Rattle.scasp_checker_rules.specs.Accepted.{Shows, NodeHolds, Splits, CaseHolds, PartHolds, LineHolds, AcceptsWhere, Accepts}
use Rattle.scasp_checker_rules.specs.Wholes.{whole_of}

module _ (p : Program) (c : Certificate) where
  shows : (here : Place) (due : Due) (positive : Bool) (a : Atom) (ts : Tms) → Shows (whole_of false p c) here due positive a ts → Shows (whole_of true p c) here due positive a ts
  shows here due positive a ts h = record { known = h.known; terms_known = h.terms_known; asked = h.asked }

  node : (at : ℕ) (here : Place) (due : Due) (t : Tree) → NodeHolds (whole_of false p c) at here due t → NodeHolds (whole_of true p c) at here due t
  node at here due (pos_tree a k ts children) h = (
    shows here due true a ts h.0,
    record {
      clause = h.1.clause;
      named = h.1.named;
      atom = h.1.atom;
      has_head = h.1.has_head;
      each_variable = h.1.each_variable;
      instance = h.1.instance;
      each_item = h.1.each_item;
    },
  )
  node at here due (neg_tree a covers) h = (shows here due false a _ h.0, h.1)
  node at here due (loop_tree lit to) h = (shows here due lit.positive lit.atom _ h.0, h.1)
  node at here due (seen_tree lit to) h = (
    shows here due lit.positive lit.atom _ h.0,
    record {
      allowed = λ e. refl;
      line = h.1.line;
      found = h.1.found;
      due = h.1.due;
      tree = h.1.tree;
      node = h.1.node;
      literal = h.1.literal;
      ended = h.1.ended;
      around = h.1.around;
    },
  )
  node at here due (test_tree con hint) h = record { known = h.known; asked = h.asked; shown = h.shown }

  splits : (here : Place) (con : Con) (o : Option Shape) → Splits (whole_of false p c) here con o → Splits (whole_of true p c) here con o
  splits here con None h = h
  splits here con (Some s) h = h

  case : (next : ℕ) (here : Place) (body : Body) (b : Branch) → CaseHolds (whole_of false p c) next here body b → CaseHolds (whole_of true p c) next here body b
  case next here body (split con first second) h = splits here con (shape_of next con) h
  case next here body (void hint) h = h
  case next here body (leaf k children) h = h
  case next here body (head children) h = h

  part : (l : Line) (x : Part) → PartHolds (whole_of false p c) l x → PartHolds (whole_of true p c) l x
  part l (of_node due t) h = node l.at l.here due t h
  part l (of_rule k a b) h = tt
  part l (of_check k b) h = h
  part l (of_case body b) h = case l.next l.here body b h

  pub older : AcceptsWhere false p c → Accepts p c
  older h =
      record {
        query = h.query;
        named = h.named;
        each_variable = h.each_variable;
        terms_known = h.terms_known;
        given_known = h.given_known;
        each_item = h.each_item;
        lines_hold = Each-map (LineHolds (whole_of false p c)) (LineHolds (whole_of true p c)) (λ l. part l l.part) (lines p c) h.lines_hold;
        apart = h.apart;
        clashes = h.clashes;
        sample_ground = h.sample_ground;
        sample_meets = h.sample_meets;
        map = h.map;
      }
