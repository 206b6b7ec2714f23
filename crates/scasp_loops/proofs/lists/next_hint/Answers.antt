use Rattle.std.proofs.Common.{◌≡◌, ℕ, List, length, subst, sym, ◌∙◌}
use Rattle.scasp_loops.specs.Inside.Hinted.{Within, is_done, is_other}
use Rattle.scasp_loops.specs.Inside.Zipped.{literals_from}
use Rattle.scasp_search_rules.specs.declared.states.state.Literal.{Literal}
use Rattle.scasp_loops.proofs.HintLemmas.{none_within}
use Rattle.scasp_loops.proofs.ZipLemmas.{literals_length}
use Rattle.scasp_loops.proofs.lists.next_hint.Goals as goal

pub returns-clause-known : goal.returns-clause-known
returns-clause-known c =
    let ls : List Literal = literals_from 0 c.args.lists.now.entries.now c.args.lists.now.marks.now in
    let n = length c.args.lists.now.marks.now in
    let count : c.len-count.result ≡ n = c.len-count.ensures.len in
    let all : length ls ≡ c.len-count.result = literals_length c.args.lists.now.entries.now c.args.lists.now.marks.now c.requires.fit ∙ sym count in (
      c.key_of-key.ensures,
      record {
        same = subst (λ (k : ℕ). Within (is_other c.key_of-key.result) c.same_among-same.result k ls) count (c.same_among-same.ensures.others ls c.requires.hinted.latest all);
        around = c.open_same-around.ensures.others;
        undone = subst (λ (k : ℕ). Within is_done k n ls) (sym count) (none_within is_done n ls);
        varied = c.in_ok-varied.ensures;
      },
    )
