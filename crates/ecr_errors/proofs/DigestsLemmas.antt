-- The text of a list of digests, a digest at a time.
use Rattle.std.proofs.Common.{◌≡◌, ◌∙◌, ℕ, List, [], ◌∷◌, ◌++◌, codes, sym, ap, append-nil, append_assoc}
use Rattle.ecr_model.specs.declared.names.Digest.{Digest}
use Rattle.ecr_model.specs.names.Digests.{digest_text}
use Rattle.ecr_model.specs.requests.Refusals.{digests_text}

-- each digest's text with a `,` before it
abbrev pub more_digests : List Digest → List ℕ
more_digests [] = []
more_digests (d ∷ ds) = codes "," ++ digest_text d ++ more_digests ds

-- the text of digests is that of the first, and then those of the others
pub digests_text-more : (d : Digest) (ds : List Digest) → digests_text (d ∷ ds) ≡ digest_text d ++ more_digests ds
digests_text-more d [] = sym (append-nil (digest_text d))
digests_text-more d (e ∷ ds) =
    ap (λ t. digest_text d ++ codes "," ++ t) (digests_text-more e ds)
    ∙ append_assoc (digest_text d) (codes ",") (digest_text e ++ more_digests ds)
