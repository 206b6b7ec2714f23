use Rattle.std.proofs.Common.{◌≡◌, ℕ, suc, ◌+◌, ◌-◌, ◌<◌, List, ◌++◌, codes, ◌∙◌, append_assoc, arith}
use Rattle.scasp_gen.specs.Trial.{ended, nodes_from}
use Rattle.scasp_gen.proofs.trial.put_nodes.Goals as goal

-- a node more is put, and a node less is to come
shift : (k n : ℕ) (xs : List ℕ) → k < n → (xs ++ ended (codes "node(") (k + 1)) ++ nodes_from (k + 1 + 1) (n - (k + 1)) ≡ xs ++ nodes_from (k + 1) (n - k)
shift k n xs h =
    let e : n - k ≡ suc (n - (k + 1)) = omega (arith, h) in
    rw e (append_assoc xs (ended (codes "node(") (k + 1)) (nodes_from (k + 1 + 1) (n - (k + 1))))

pub loop-k-preserved : goal.loop-k-preserved
loop-k-preserved c =
    rw c.in_ok-put_with_number.ensures (shift _ _ _ c.loop-k-test.true ∙ c.loop-k.invariant)
