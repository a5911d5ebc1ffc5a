mod BlobLemmas
mod ReadingLemmas
mod PassingLemmas
mod ThinningLemmas
mod MemberLemmas
