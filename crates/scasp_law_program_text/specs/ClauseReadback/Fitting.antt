-- Which atoms and items have a text within the limits of a reader.
use Rattle.std.specs.Prelude.{◌-◌, Bool, true, false, not, ◌&&◌, nat_lt, nat_le, List, [], ◌∷◌, length}
use Rattle.std.specs.List.{list_all}
use Rattle.scasp_syntax.specs.Flat.{flat_body}
use Rattle.scasp_syntax.specs.Tm.{Tms, nil, cons, items}
use Rattle.scasp_syntax.specs.View.{tm_of}
use Rattle.scasp_syntax.specs.WellFormed.{is_item_below}
use Rattle.scasp_syntax.specs.declared.atom.Atom.{Atom}
use Rattle.scasp_syntax.specs.declared.clause.Item.{Item}
use Rattle.scasp_syntax.specs.declared.clause.Item.TheVariants as form
use Rattle.scasp_cert.specs.Text.Names.{text_at}
use Rattle.scasp_reader.specs.declared.bodies.atoms.TheConstants.{DEPTH_LIMIT}
use Rattle.scasp_reader.specs.declared.bodies.bodies.TheConstants.{ITEM_LIMIT}
use Rattle.scasp_reader.specs.Bodies.Atoms.{reserved, is_reserved}
use Rattle.scasp_print_program.specs.Terms.{Style}
use Rattle.scasp_law_program_text.specs.CompoundReadback.Fitting.{fits, all_fit, call_fits}

abbrev pub arguments_fit : Style → Tms → Bool
arguments_fit w nil = true
arguments_fit w (cons t ts) = call_fits DEPTH_LIMIT (cons t ts) (all_fit w (DEPTH_LIMIT - 1) (cons t ts))

-- its arguments are within the limits, and its predicate is none of Prolog that the language lacks
abbrev pub atom_fits : Style → Atom → Bool
atom_fits w a =
    nat_lt a.name (length w.names) && not (is_reserved reserved (text_at w.names a.name) (length (items a.args))) && arguments_fit w a.args

-- a literal or an equation within the limits, or any linear item that a program may have
abbrev pub item_fits : Style → Item → Bool
item_fits w (form.Call l) = atom_fits w l.atom
item_fits w (form.Equal t s) = fits w DEPTH_LIMIT (tm_of t) && fits w DEPTH_LIMIT (tm_of s)
item_fits w (form.Differ t s) = fits w DEPTH_LIMIT (tm_of t) && fits w DEPTH_LIMIT (tm_of s)
item_fits w (form.Linear l) = is_item_below (length w.variables) (form.Linear l)

-- at least one item, each within the limits, and all together of so many flat items
abbrev pub body_fits : Style → List Item → Bool
body_fits w [] = false
body_fits w (i ∷ items) = list_all (item_fits w) (i ∷ items) && nat_le (length (flat_body (i ∷ items))) ITEM_LIMIT
