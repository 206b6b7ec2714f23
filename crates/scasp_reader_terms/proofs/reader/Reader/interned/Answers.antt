use Rattle.std.proofs.Common.{◌≡◌, sym, ap, ◌∙◌}
use Rattle.scasp_reader_terms.specs.Names.{place_in, interned}
use Rattle.scasp_reader_terms.proofs.Places.{place_in-at, place_in-with_text}
use Rattle.scasp_reader_terms.proofs.reader.Reader.interned.Goals as goal

pub returns : goal.returns
returns c =
    let text = c.args.text.now in
    let names = c.self.inside.names in
    let place : c.in_ok-name.name ≡ place_in names text =
    place_in-at c.intern.new.self text c.in_ok-name.name c.len.ensures.distinct c.in_ok-name.ensures.place ∙ ap (λ n. place_in n text) c.in_ok-name.ensures.texts ∙ place_in-with_text names text in
    rw (place, c.in_ok-name.ensures.texts) (ap (interned text) (sym c.self.view_is))
