-- The values that the product's places, openings and bodies are.
use Rattle.std.specs.Prelude.{ℕ, Bool, List, [], ◌∷◌, map}
use Rattle.scasp_syntax.specs.Tm.{Tm, var}
use Rattle.scasp_syntax.specs.Values.{Sub, under}
use Rattle.scasp_syntax.specs.View.{tm_of}
use Rattle.scasp_unify.specs.declared.bindings.Binding.{Binding}
use Rattle.scasp_lines.specs.Bodies.{Body as BodyValue, Inside as InsideValue}
use Rattle.scasp_lines.specs.Covers.{Cover as CoverValue, value_of}
use Rattle.scasp_lines.specs.Opened.{Opened, ranges, shaped, assumed}
use Rattle.scasp_lines.specs.Openings.{Opening as OpeningValue}
use Rattle.scasp_lines.specs.Places.{Above, Around, Place as PlaceValue}
use Rattle.scasp_lines.specs.Sides.{replacing, Shape as ShapeValue, Sides as SidesValue}
use Rattle.scasp_lines_places.specs.Places.Chains.{chained}
use Rattle.scasp_lines_places.specs.declared.places.chain.Chain.{Chain}
use Rattle.scasp_lines_places.specs.declared.places.cover.Cover.{Cover}
use Rattle.scasp_lines_places.specs.declared.places.inside.Body.{Body}
use Rattle.scasp_lines_places.specs.declared.places.inside.Inside.{Inside}
use Rattle.scasp_lines_places.specs.declared.places.opening.Opening.{Opening}
use Rattle.scasp_lines_places.specs.declared.places.place.Ancestor.{Ancestor}
use Rattle.scasp_lines_places.specs.declared.places.place.Enclosing.{Enclosing}
use Rattle.scasp_lines_places.specs.declared.places.place.Entry.{Entry}
use Rattle.scasp_lines_places.specs.declared.places.place.Entry.TheVariants as entry
use Rattle.scasp_lines_places.specs.declared.places.place.Place.{Place}
use Rattle.scasp_lines_places.specs.declared.places.sides.Shape.{Shape}
use Rattle.scasp_lines_places.specs.declared.places.sides.Sides.{Sides}

abbrev pub opened_of : Entry → Opened
opened_of (entry.Ranges x) = ranges x
opened_of (entry.Shaped x f k n) = shaped x f k n
opened_of (entry.Assumed c) = assumed c

-- what opened, the innermost first
abbrev pub all_opened : Chain Entry → List Opened
all_opened c = map opened_of (chained c)

abbrev pub bound_of : Binding → ℕ × Tm
bound_of b = (b.x, tm_of b.term)

abbrev pub all_bound : Chain Binding → List (ℕ × Tm)
all_bound c = map bound_of (chained c)

-- t for u in what r gives
abbrev pub behind_by : ℕ → Tm → Sub → Sub
behind_by u t r x = under (replacing u t) (r x)

-- each variable replaced, the outermost first
abbrev pub replaced_in : List (ℕ × Tm) → Sub
replaced_in [] = var
replaced_in (b ∷ bs) = behind_by b.0 b.1 (replaced_in bs)

abbrev pub all_replaced : Chain Binding → Sub
all_replaced c = replaced_in (all_bound c)

abbrev pub above_of : Ancestor → Above
above_of a = record { at = a.at; positive = a.positive; atom = a.atom }

abbrev pub around_of : Enclosing → Around
around_of a = record { at = a.at; plain = a.plain }

abbrev pub place_of : Place → PlaceValue
place_of p =
    record {
      opened = all_opened p.opened;
      hidden = p.hidden;
      replaced = all_replaced p.replaced;
      above = map above_of (chained p.above);
      around = map around_of (chained p.around);
    }

abbrev pub opening_of : Opening → OpeningValue
opening_of o = record { bound = all_bound o.bound; opened = all_opened o.opened; hidden = o.hidden }

abbrev pub cover_of : Cover → CoverValue
cover_of c = record { bound = all_bound c.bound; opened = all_opened c.opened; next = c.next }

-- a body whose cases are plain where told
abbrev pub body_of : Body → Bool → BodyValue
body_of b bare =
    record {
      items = b.items;
      head = b.head;
      is_check = b.is_check;
      bare = bare;
      vars = b.vars;
      values = value_of (all_bound b.values);
    }

abbrev pub inside_of : Inside → InsideValue
inside_of i = record { here = place_of i.here; next = i.next; body = body_of i.body i.bare }

abbrev pub shape_value : Shape → ShapeValue
shape_value s = record { of = s.of; name = s.name; size = s.size }

abbrev pub sides_of : Sides → SidesValue
sides_of s = record { first = place_of s.first; second = place_of s.second; next = s.next }
