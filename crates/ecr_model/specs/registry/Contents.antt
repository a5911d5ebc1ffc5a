-- The content that replies carry (Amazon ECR API Reference, "Actions"): bytes that are named by their digests, since a
-- journal has digests alone.
use Rattle.std.specs.Prelude.{◌≡◌, ℕ, List, [], map}
use Rattle.ecr_model.specs.declared.names.Digest.{Digest}
use Rattle.ecr_model.specs.declared.requests.reply.Reply.{Reply}
use Rattle.ecr_model.specs.registry.Content.{content_digest}

-- the digests that a reply names, in its order; these replies name none
abbrev pub named_by : Reply → List Digest
named_by reply = []

-- the bytes are the content that a reply names
abbrev pub AreContents : Reply → List (List ℕ) → Type 0
AreContents reply contents = map content_digest contents ≡ named_by reply
