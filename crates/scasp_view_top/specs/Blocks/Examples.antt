-- Of three answers the second is one that was shown, the third has other terms.
use Rattle.std.specs.Prelude.{◌≡◌, true, [], ◌∷◌, codes, refl}
use Rattle.scasp_syntax.specs.Tm.{Tms, nil, cons, app}
use Rattle.scasp_view_top.specs.Blocks.Blocks.{repeated}
use Rattle.scasp_view_top.specs.Blocks.Judgements.{Judgement, key_of}
use Rattle.scasp_view_top.specs.Blocks.Meaning.{fresh}

abbrev answer : Tms → Judgement
answer terms = record {
  verdict = [];
  worth = codes "1.0 right any\n";
  accepted = true;
  query = [];
  certificate = record { query = 1; terms = terms; given = []; sample = nil; trees = []; checks = []; clashes = []; map = [] };
}

abbrev p : Tms
p = cons (app 2 nil) nil

abbrev q : Tms
q = cons (app 3 nil) nil

two_left : fresh (codes "[]" ∷ codes "[|]" ∷ codes "p" ∷ codes "q" ∷ []) [] (answer p ∷ answer p ∷ answer q ∷ []) ≡ answer p ∷ answer q ∷ []
unfolding key_of
two_left = refl

one_left_out : repeated (codes "[]" ∷ codes "[|]" ∷ codes "p" ∷ codes "q" ∷ []) [] (answer p ∷ answer p ∷ answer q ∷ []) ≡ 1
unfolding key_of
one_left_out = refl
