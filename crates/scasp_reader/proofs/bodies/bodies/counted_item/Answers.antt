use Rattle.std.proofs.Common.{◌++◌, [], ◌∷◌, sym, ap, ◌∙◌}
use Rattle.scasp_reader_terms.specs.declared.fault.Count.TheVariants as count
use Rattle.scasp_reader_terms.specs.declared.fault.Kind.TheVariants as kind
use Rattle.scasp_reader_terms.specs.Steps.{note_if, place_of}
use Rattle.scasp_reader.proofs.BodiesLemmas.CountLemmas.{Counts_test, counted_on}
use Rattle.scasp_reader.proofs.bodies.bodies.counted_item.Goals as goal

pub returns : goal.returns
returns c =
    record {
      item = λ before h.
          let i = c.in_ok-item.item in
          let s = c.args.reader.now in
          let s1 = c.item.new.reader in
          let k = kind.Limit count.Items in
          let test = Counts_test c.add.new.self (before ++ i ∷ []) (c.in_ok-add.ensures before h) in
          counted_on before i s s1 c.note_if.new.self c.in_ok-item.ensures
          (ap (λ b. note_if b (place_of s.tokens) k s1) (sym (c.is_over.ensures ∙ test))
          ∙ ap (λ at. note_if c.is_over.result at k s1) (sym c.at-at.ensures)
          ∙ c.note_if.ensures);
      count = λ before h. c.in_ok-add.ensures before h;
    }
