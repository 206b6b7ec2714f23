-- What the remarks tell of the values that an answer has.
use Rattle.std.specs.Prelude.{◌≡◌, List, map, Some}
use Rattle.scasp_hint.specs.AskedRows.{RowsNormal}
use Rattle.scasp_fixed.specs.Fixed.{Telling, telling}
use Rattle.scasp_list.specs.Each.{Each}
use Rattle.scasp_project.specs.Meaning.{IsNoEquation, MeetsOne}
use Rattle.scasp_project.specs.Projection.{projection}
use Rattle.scasp_project.specs.declared.projecting.Projected.TheVariants as projected
use Rattle.scasp_syntax.specs.Constraints.{Meets}
use Rattle.scasp_syntax.specs.Tm.{Tm}
use Rattle.scasp_syntax.specs.Values.{Sub, Valuation, under}
use Rattle.scasp_syntax.specs.declared.con.Con.{Con}
use Rattle.scasp_unify.specs.Solving.{sub_of}
use Rattle.scasp_unify.specs.Sorted.{Sorted}
use Rattle.scasp_print_remarks.specs.Remarks.{Value, shown_variables}

-- the terms of the values, with what their variables stand for put in
abbrev pub terms_under : Sub → List Value → List Tm
terms_under s vs = map (λ x. under s x.term) vs

-- A valuation that meets what is given meets one of the lists told, and makes of the terms told what it makes of the
-- answer's. What a valuation that meets one of the lists told makes of the terms told, one that meets what is given makes of
-- the answer's.
pub record TellsAnswer (given : List Con) (vs : List Value) (t : Telling) : Type 0 where
  pub forth : (v : Valuation) → Meets v.of given → MeetsOne v.of t.lists × (map (under v.of) (terms_under (sub_of t.values) vs) ≡ terms_under v.of vs)
  pub back : (v : Valuation) → MeetsOne v.of t.lists → (w : Valuation) × Meets w.of given × (terms_under w.of vs ≡ map (under v.of) (terms_under (sub_of t.values) vs))

-- so it is of what is told of sorted constraints without equations, where there are alternatives
abbrev pub AnswersAreTold : Type 0
AnswersAreTold = (given : List Con) (sample : List Tm) (vs : List Value) (lists : List (List Con)) → RowsNormal given → Each IsNoEquation given → Sorted given → Each RowsNormal lists
    → projection given (shown_variables vs) ≡ Some (projected.Alternatives lists) → TellsAnswer given vs (telling lists sample)
