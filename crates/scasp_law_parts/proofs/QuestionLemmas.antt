-- The question about a part stands for the question about the whole list.
use Rattle.std.proofs.Common.{◌≡◌, ℕ, Bool, List, ◌++◌}
use Rattle.scasp_hint.specs.Satisfying.{sat}
use Rattle.scasp_hint.proofs.SatisfyingLemmas.{sat-sorted}
use Rattle.scasp_syntax.specs.Values.{Sub}
use Rattle.scasp_syntax.specs.declared.con.Con.{Con}
use Rattle.scasp_unify.specs.Solving.{sub_of}
use Rattle.scasp_unify.specs.declared.bindings.Binding.{Binding}
use Rattle.scasp_law_parts.specs.Bound.{equations}
use Rattle.scasp_law_parts.specs.Questions.{StandsForAll, part_with, part_read}
use Rattle.scasp_law_parts.proofs.BoundLemmas.{absorbed, bound-read}
use Rattle.scasp_law_parts.proofs.PartLemmas.{part-decides}
use Rattle.scasp_law_parts.proofs.ReadLemmas.{list-met, same-truth}

pub part-answers : (bs : List Binding) (f : Con → Bool) (p : ℕ → Bool) (cs asked : List Con) → StandsForAll bs f p cs asked → sat (equations bs ++ (cs ++ asked)) ≡ sat (part_read bs f p cs asked)
part-answers bs f p cs asked h =
    let s : Sub = sub_of bs in
    let all = sat-sorted (equations bs ++ (cs ++ asked)) h.sorted in
    let part = sat-sorted (part_read bs f p cs asked) h.part_sorted in
    let bound = bound-read bs (cs ++ asked) h.solved in
    let one = part-decides s f p cs asked h.enough in
    let read = list-met s (part_with s f p cs asked) (absorbed s bs h.solved) h.readable in
    same-truth (sat (equations bs ++ (cs ++ asked))) (sat (part_read bs f p cs asked))
    (λ e. part.1 (read.0 (one.0 (bound.0 (all.0 e)))))
    (λ e. all.1 (bound.1 (one.1 (read.1 (part.0 e)))))
