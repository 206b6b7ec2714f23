use Rattle.std.proofs.Common.{◌≡◌, ◌∷◌, if◌then◌else◌, subst}
use Rattle.scasp_lines_walk.specs.Shown.TableView.{told_from}
use Rattle.scasp_search_ends.proofs.EndsLemmas.BehindLemmas.{found-more}
use Rattle.scasp_search_ends.specs.Ends.Inside.Behind.{same_key, told_under}
use Rattle.scasp_search_ends.specs.declared.ends.behind.Key.{Key}
use Rattle.scasp_search_ends.proofs.ends.behind.put_before.Goals as goal

pub returns : goal.returns
returns c = λ ts h.
    let t = told_from c.args.saying in
    found-more t ts (told_under c.args.behind.now) (told_under c.put_under.new.behind) (told_under c.put_under-2.new.behind)
    (subst (λ (j : Key). (k : Key) → told_under c.put_under.new.behind k ≡ (if same_key j k then t ∷ told_under c.args.behind.now k else told_under c.args.behind.now k)) c.key_of-all.ensures c.in_ok-put_under.ensures)
    (subst (λ (j : Key). (k : Key) → told_under c.put_under-2.new.behind k ≡ (if same_key j k then t ∷ told_under c.put_under.new.behind k else told_under c.put_under.new.behind k)) c.own_key-own.ensures c.in_ok-put_under-2.ensures)
    h
