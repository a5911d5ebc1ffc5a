-- The bytes of a reply.
use Rattle.std.specs.Prelude.{ℕ, List, ◌++◌}
use Rattle.std.specs.List.{concat}
use Rattle.ecr_http.specs.declared.reply.HttpReply.{HttpReply}

-- its head, the blobs of its body one after another, and its tail
abbrev pub message_bytes : HttpReply → List ℕ
message_bytes reply = reply.head.items ++ concat reply.body.items ++ reply.tail.items
