-- Names that keep their texts as they are moved.
use Rattle.std.specs.Prelude.{◌≡◌, ℕ, ◌<◌, ◌≤◌, nat_le, nat_lt, true, List, length}
use Rattle.std.proofs.Common.{◌∙◌, ap, arith, sym}
use Rattle.std.proofs.lemmas.Bool.{and_parts, ltb-true}
use Rattle.scasp_cert.specs.Text.Names.{text_at}
use Rattle.scasp_law_answer_text.specs.LineReadback.Writable.{IsTable}
use Rattle.scasp_law_answer_text.proofs.LineReadbackLemmas.Table.{text-place}
use Rattle.scasp_num.proofs.Numbers.{lt_ltb}
use Rattle.scasp_reader_terms.specs.Names.{place_in}
use Rattle.scasp_syntax.specs.Tm.{Tm, Tms, var, num, app, nil, cons}
use Rattle.scasp_law_tables.specs.Moved.{are_values, is_value, moving}
use Rattle.scasp_law_tables.specs.Tables.{Agree}
use Rattle.scasp_law_tables.proofs.Places.{placed-text}
use Rattle.scasp_law_tables.proofs.Renaming.{EachName, EachNames}
use Rattle.scasp_law_tables.proofs.Samples.{ValueIn, ValuesIn}

-- the name stands in the first table, and has the same text where it is moved to
abbrev pub Kept : List (List ℕ) → List (List ℕ) → ℕ → Type 0
Kept written other f = (f < length written) × (text_at other (moving written other f) ≡ text_at written f)

module _ (written : List (List ℕ)) (table : IsTable written) (other : List (List ℕ)) where
  pub kept-apart : (f g : ℕ) → Kept written other f → Kept written other g → moving written other f ≡ moving written other g → f ≡ g
  kept-apart f g h k e =
      let text : text_at written f ≡ text_at written g = sym h.1 ∙ ap (text_at other) e ∙ k.1 in
      sym (text-place written table f (lt_ltb h.0)) ∙ ap (place_in written) text ∙ text-place written table g (lt_ltb k.0)

  module _ (is : IsTable other) (count : ℕ) (longer : count ≤ length written) (wide : count ≤ length other) (same : Agree count written other) where
    pub moving-stays : (f : ℕ) → f < count → moving written other f ≡ f
    moving-stays f l = ap (place_in other) (same f l) ∙ text-place other is f (lt_ltb (omega (arith, wide, l)))

    pub kept-first : (f : ℕ) → f < count → Kept written other f
    kept-first f l = (omega (arith, longer, l), ap (text_at other) (moving-stays f l) ∙ sym (same f l))

  module _ (count : ℕ) where
    value-kept : (t : Tm) → is_value count (length written) t ≡ true → ValueIn written other t → EachName (Kept written other) t
    value-kept (var x) v h = tt
    value-kept (num q) v h = tt
    value-kept (app f nil) v h = ((ltb-true f (length written) (and_parts (nat_le count f) (nat_lt f (length written)) v).1, placed-text other (text_at written f) h), tt)
    value-kept (app f (cons t ts)) v h = absurd (cc v)

    pub values-kept : (ts : Tms) → are_values count (length written) ts ≡ true → ValuesIn written other ts → EachNames (Kept written other) ts
    values-kept nil v h = tt
    values-kept (cons t ts) v h =
        let vs = and_parts (is_value count (length written) t) (are_values count (length written) ts) v in
        (value-kept t vs.0 h.0, values-kept ts vs.1 h.1)
