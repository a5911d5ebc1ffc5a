-- Ranges of a list.
use Rattle.std.proofs.Common.{◌≡◌, ℕ, ◌+◌, ◌≤◌, List, ◌++◌, length, take, drop, subst, sym, ap, ◌∙◌}
use Rattle.std.proofs.lemmas.List.{drop-append-le, length-take-le}
use Rattle.std.proofs.Math.Seq.{take-add}
use Rattle.ecr_http.specs.Intakes.{range}

-- what stands behind a range makes it longer
pub range-more : (start end n : ℕ) (bytes : List ℕ) → start ≤ end → end ≤ length bytes
    → range start (end + n) bytes ≡ range start end bytes ++ take n (drop end bytes)
range-more start end n bytes p q =
    let within : start ≤ length (take end bytes) = subst (λ (k : ℕ). start ≤ k) (sym (length-take-le end bytes q)) p in
    ap (drop start) (take-add end n bytes) ∙ drop-append-le start (take end bytes) (take n (drop end bytes)) within
