use Rattle.std.proofs.Common.{refl}
use Rattle.ecr_model.specs.names.Sites.{is_site_word, site_of, utf8_or_empty, arn_of, uri_of}
use Rattle.std.specs.Str.Lossy.{utf8_valid_len}
use Rattle.std.specs.Str.{is_utf8, chars}
use Rattle.ecr_examples.proofs.names.sites_are_read.Goals as goal

pub returns : goal.returns
unfolding is_site_word site_of utf8_or_empty arn_of uri_of utf8_valid_len is_utf8 chars lib.Utf8.encode
returns c = record {
  read = record {
    digits = refl;
    region_bytes = refl;
    no_region = refl;
    longest_region = refl;
    long_region = refl;
    account = refl;
    short_account = refl;
    long_account = refl;
    no_account = refl;
    region = refl;
    number = refl;
    word = refl;
    no_slash = refl;
    bare = refl;
    read = refl;
    unread = refl;
    written = refl;
    by_region = refl;
    by_account = refl;
    same = refl;
    arn = refl;
    uri = refl;
    text = refl;
    no_text = refl;
  };
}
