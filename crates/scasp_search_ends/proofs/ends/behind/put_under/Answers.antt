use Rattle.std.proofs.Common.{◌≡◌, ◌∙◌, ◌∷◌, Bool, Some, cond, map, ap, subst}
use Rattle.std.specs.HashMap.{get}
use Rattle.scasp_lines_walk.specs.Shown.TableView.{told_from}
use Rattle.scasp_search_ends.proofs.EndsLemmas.BehindLemmas.{put-first, same-keys}
use Rattle.scasp_search_ends.specs.Ends.Inside.Behind.{same_key}
use Rattle.scasp_search_ends.specs.declared.ends.behind.Key.{Key}
use Rattle.scasp_search_ends.proofs.ends.behind.put_under.Goals as goal

pub returns : goal.returns
returns c =
    put-first (get same_key c.args.behind.now) (get same_key c.insert.new.self) (told_from c.args.saying) c.args.key.now c.in_ok-longer.longer
    (λ k. subst (λ (e : Key → Key → Bool). get e c.insert.new.self k ≡ cond (e c.args.key.now k) (Some c.in_ok-longer.longer) (get e c.args.behind.now k)) same-keys (c.in_ok-insert.ensures.updates.0 k))
    (ap (map told_from) c.in_ok-longer.ensures ∙ (λ i. told_from c.args.saying ∷ c.in_ok-chain.ensures i))
