-- Faults of pairs by their first literal.
use Rattle.std.proofs.Common.{◌≡◌, ◌∙◌, ℕ, List, [], ◌∷◌, ◌++◌, refl, ap, sym}
use Rattle.std.specs.List.{filter, flat_map}
use Rattle.std.proofs.lemmas.Grind.{flat_map-append}
use Rattle.scasp_checker_rules.specs.Pairs.{all_pairs, is_pair, pair_faults}
use Rattle.scasp_checker_rules.specs.Told.{Told}
use Rattle.scasp_checker_rules.specs.declared.refusal.Refusal.{Refusal}
use Rattle.scasp_cert.specs.declared.certificate.Clash.{Clash}
use Rattle.scasp_checker.specs.Pairs.Inside.Groups.{group_faults}
use Rattle.scasp_checker.specs.Partners.Partners.{grouped, pairs_of}
use Rattle.scasp_syntax.specs.declared.con.Con.{Con}

pub grouped-faults : (free : ℕ) (given : List Con) (clashes : List Clash) (ts : List Told)
    → flat_map (group_faults free given clashes) (grouped ts) ≡ flat_map (pair_faults free given clashes) (all_pairs ts)
grouped-faults free given clashes [] = refl
grouped-faults free given clashes (a ∷ behind) =
    let here = pairs_of (a, filter (is_pair a) behind) in
    ap (λ (rs : List Refusal). flat_map (pair_faults free given clashes) here ++ rs) (grouped-faults free given clashes behind)
    ∙ sym (flat_map-append (pair_faults free given clashes) here (all_pairs behind))
