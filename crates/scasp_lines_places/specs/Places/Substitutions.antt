-- What the values of a clause's variables are.
use Rattle.scasp_syntax.specs.Tm.{items}
use Rattle.scasp_syntax.specs.Values.{Sub, giving, under}
use Rattle.scasp_lines.specs.Covers.{value_of}
use Rattle.scasp_lines_places.specs.Places.View.{all_bound, all_replaced}
use Rattle.scasp_lines_places.specs.declared.places.substitution.ClauseValues.{ClauseValues}
use Rattle.scasp_lines_places.specs.declared.places.substitution.ClauseValues.TheVariants.{Listed, Bound}
use Rattle.scasp_lines_places.specs.declared.places.substitution.ValuesHere.{ValuesHere}

abbrev pub values_of : ClauseValues → Sub
values_of (Listed terms) = giving (items terms.now)
values_of (Bound values) = value_of (all_bound values.now)

-- the same under what is replaced
abbrev pub here_of : ValuesHere → Sub
here_of v x = under (all_replaced v.replaced.now) (values_of v.values x)
