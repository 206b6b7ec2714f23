use Rattle.std.proofs.Common.{◌∙◌}
use Rattle.scasp_syntax.specs.Flat.{flat_body}
use Rattle.scasp_lines.specs.Covers.{value_of}
use Rattle.scasp_lines.specs.Places.{with_opened}
use Rattle.scasp_lines_places.specs.Places.View.{all_bound, all_opened, cover_of, opening_of, place_of}
use Rattle.scasp_lines_places.proofs.PlacesLemmas.CoverLemmas.{inside-is}
use Rattle.scasp_lines_places.proofs.places.inside.behind_head.Goals as goal

pub returns : goal.returns
returns c =
    (λ i. record { here = c.in_ok-place.ensures i; next = c.in_ok-cover.cover.next; body = c.in_ok-body.ensures c.is_bare.result i })
    ∙ (λ i. record {
      here = with_opened (all_opened c.in_ok-cover.cover.opened) c.args.opening.hidden (place_of c.args.here.now);
      next = c.in_ok-cover.cover.next;
      body = record {
        items = flat_body c.args.clause.now.body;
        head = c.args.clause.now.head;
        is_check = c.args.is_check;
        bare = c.is_bare.ensures i;
        vars = c.args.clause.now.vars;
        values = value_of (all_bound c.in_ok-cover.cover.bound);
      };
    })
    ∙ inside-is c.args.is_check c.args.clause.now (opening_of c.args.opening) c.args.next (place_of c.args.here.now) (cover_of c.in_ok-cover.cover) c.in_ok-cover.ensures
