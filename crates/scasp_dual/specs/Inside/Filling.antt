-- Plans that are filled rule by rule.
use Rattle.std.specs.Prelude.{ℕ, ◌<◌, List, [], ◌∷◌, ◌++◌, Option, None, Some, slice_index_or, slice_set, false}
use Rattle.scasp_syntax.specs.Flat.{flat_body}
use Rattle.scasp_syntax.specs.Programs.{pred_of}
use Rattle.scasp_syntax.specs.declared.atom.Atom.{Atom}
use Rattle.scasp_syntax.specs.declared.atom.Pred.{Pred}
use Rattle.scasp_syntax.specs.declared.clause.Item.{Item}
use Rattle.scasp_graph.specs.Numbering.{place_in}
use Rattle.scasp_dual.specs.declared.plans.Plan.{Plan}
use Rattle.scasp_dual.specs.declared.plans.RulePlan.{RulePlan}

-- the plan of a predicate that has no rules
abbrev pub empty_plan : Pred → Plan
empty_plan p = record { pred = p; rules = [] }

abbrev pub plan_at : List Plan → ℕ → Plan
plan_at plans i = slice_index_or plans i (empty_plan (record { minus = false; name = 0; arity = 0 }))

-- the place of the head's predicate is below the number; a denial has none
abbrev pub HasPlace : List Pred → ℕ → Option Atom → Type 0
HasPlace preds n None = Unit {0}
HasPlace preds n (Some a) = place_in preds (pred_of a) < n

-- the plan with one rule more
abbrev pub longer : Plan → RulePlan → Plan
longer p r = record { pred = p.pred; rules = p.rules ++ r ∷ [] }

-- the plans, and the rule of this number, body and head in that of its predicate
abbrev pub with_rule : List Pred → List Plan → ℕ → List Item → Option Atom → List Plan
with_rule preds plans n body None = plans
with_rule preds plans n body (Some a) =
    slice_set plans (place_in preds (pred_of a)) (longer (plan_at plans (place_in preds (pred_of a))) (record { rule = n; body = flat_body body }))
