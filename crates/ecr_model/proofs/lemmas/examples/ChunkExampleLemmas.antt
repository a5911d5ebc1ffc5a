-- The body of the example in chunks, read.
use Rattle.std.proofs.Common.{◌≡◌, ℕ, zero, suc, ◌+◌, ◌<◌, ◌++◌, false, List, [], ◌∷◌, drop, Some, None, codes, refl, arith}
use Rattle.std.specs.Char.{is_ascii_hexdigit}
use Rattle.std.proofs.lemmas.List.Sums.{AllPass-from_list_all}
use Rattle.httparse.specs.Grammar.{ChunkLine, IsChunkLine, print_chunk_line, is_ows}
use Rattle.ecr_model.specs.declared.http.Framing.TheVariants.{Chunked}
use Rattle.ecr_model.specs.http.Framing.{ends_empty, IsEnd, framing_of, max_body}
use Rattle.ecr_model.specs.http.Stream.{complete, IsBody}
use Rattle.ecr_model.specs.http.Chunks.{max_chunk_line, max_trailers, Says, chunk, last_chunk, IsPart}
use Rattle.ecr_model.specs.examples.Example.{first_request, chunked_head, chunked_bytes, AChunkedBodyIsRead}

head_states : framing_of chunked_head ≡ Some Chunked
unfolding framing_of
head_states = refl

-- a line of nothing but that size
plain : List ℕ → ChunkLine
plain digits = record { digits = digits; pad = []; extension = None }

first_line : Says (codes "1d" ++ 13 ∷ 10 ∷ []) (Some 29)
unfolding plain print_chunk_line
first_line = (plain (codes "1d"), (is_line, refl), refl)
  where
    is_line : IsChunkLine (plain (codes "1d"))
    is_line = record {
      digits = (omega arith, omega arith, AllPass-from_list_all is_ascii_hexdigit (codes "1d") refl);
      pad = AllPass-from_list_all is_ows [] refl;
      extension = tt;
    }

last_line : Says (codes "0" ++ 13 ∷ 10 ∷ []) (Some 0)
unfolding plain print_chunk_line
last_line = (plain (codes "0"), (is_line, refl), refl)
  where
    is_line : IsChunkLine (plain (codes "0"))
    is_line = record {
      digits = (omega arith, omega arith, AllPass-from_list_all is_ascii_hexdigit (codes "0") refl);
      pad = AllPass-from_list_all is_ows [] refl;
      extension = tt;
    }

first_part : IsPart 33554432 0 chunked_bytes (chunk first_request.body 35)
unfolding max_chunk_line
first_part = record { size = Some 29; says = first_line; is = refl }

no_trailers : IsEnd (1 + max_trailers) (10 ∷ 13 ∷ 10 ∷ []) 3
unfolding max_trailers ends_empty
no_trailers = record { within = omega arith; not_long = omega arith; ends = refl; first = earlier }
  where
    earlier : (k : ℕ) → k < 3 → ends_empty (10 ∷ 13 ∷ 10 ∷ []) k ≡ false
    earlier zero below = refl
    earlier (suc zero) below = refl
    earlier (suc (suc zero)) below = refl
    earlier (suc (suc (suc k))) below = absurd (omega arith)

last_part : IsPart 33554432 29 (drop 35 chunked_bytes) (last_chunk 5)
unfolding max_chunk_line
last_part = record { size = Some 0; says = last_line; is = (Some 3, no_trailers, refl) }

body_stands : IsBody (max_body chunked_head.target) chunked_bytes Chunked (complete first_request.body 40)
unfolding max_body
body_stands = record {
  chunks = first_request.body ∷ [];
  progress = record { at = 35; body = first_request.body; ahead = drop 35 chunked_bytes };
  part = last_chunk 5;
  begins = (35, first_part, refl);
  comes = last_part;
  is = refl;
}

-- the example body in one chunk is read whole
pub a_chunked_body_is_read : AChunkedBodyIsRead
a_chunked_body_is_read = (head_states, body_stands)
