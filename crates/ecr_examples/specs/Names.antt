-- What names something, at examples: OCI Distribution 1.1, "Pulling manifests"; OCI Image 1.1, descriptor, "Digests";
-- Amazon ECR API Reference, `CreateRepository` and `Repository`. Limits are of this registry.
use Rattle.std.specs.Prelude.{◌≡◌, ℕ, true, false, List, [], ◌∷◌, ◌++◌, map, replicate, None, Some, Ok, codes}
use Rattle.std.specs.declared.cmp.Ordering.TheVariants.{Less, Equal, Greater}
use Rattle.ecr_model.specs.declared.names.Digest.{Digest}
use Rattle.ecr_model.specs.declared.names.RepoKey.{RepoKey}
use Rattle.ecr_model.specs.declared.names.SiteId.{SiteId}
use Rattle.ecr_model.specs.declared.names.TheConstants.{MAX_MOMENT}
use Rattle.ecr_model.specs.http.Chunks.{max_chunk_line, max_trailers}
use Rattle.ecr_model.specs.http.Framing.{max_head, max_body}
use Rattle.ecr_model.specs.names.Digests.{digest_text, is_hex_digit, decoded, of_digits, digest_of}
use Rattle.ecr_model.specs.names.Names.{is_alphanumeric, at_word, after_word, after_underscore, after_dash, is_name, name_of}
use Rattle.ecr_model.specs.names.Sites.{is_digit, is_region_byte, site_order, site_word, is_region, is_account, region_of, account_digits, is_site_word, site_of, utf8_or_empty, arn_of, uri_of}
use Rattle.ecr_model.specs.names.Tags.{begins_tag, is_tag_byte, is_tag, tag_of}
use Rattle.ecr_model.specs.names.Texts.{crlf}
use Rattle.ecr_model.specs.names.Uploads.{hex_digits, upload_id}
use Rattle.ecr_model.specs.registry.Limits.{standard}
use Rattle.ecr_model.specs.sessions.Sessions.{max_read}

abbrev letters : ℕ → List ℕ
letters n = replicate n 97

-- a name has words of small letters and digits, with `.`, `_`, `__`, dashes or `/` between each two
-- pins: IsWord, IsJoint, IsJoined, IsName
pub record NamesHaveTheirForm : Type 0 where
  -- the bytes before and behind digits and small letters are none of them
  pub bytes : map is_alphanumeric (codes "/09:`az{A_")
      ≡ false ∷ true ∷ true ∷ false ∷ false ∷ true ∷ true ∷ false ∷ false ∷ false ∷ []
  pub dot : is_name (codes "a.b") ≡ true
  pub dots : is_name (codes "a..b") ≡ false
  pub underscore : is_name (codes "a_b") ≡ true
  pub underscores : is_name (codes "a__b") ≡ true
  pub three : is_name (codes "a___b") ≡ false
  pub dash : is_name (codes "a-b") ≡ true
  pub dashes : is_name (codes "a-----b") ≡ true
  pub slash : is_name (codes "a/b/c") ≡ true
  pub slashes : is_name (codes "a//b") ≡ false
  pub mixed : is_name (codes "a-_b") ≡ false
  pub dotted : is_name (codes "a.-b") ≡ false
  pub capital : is_name (codes "aB") ≡ false
  pub starts : map at_word (codes "-a" ∷ codes ".a" ∷ codes "_a" ∷ codes "/a" ∷ codes "a" ∷ [] ∷ [])
      ≡ false ∷ false ∷ false ∷ false ∷ true ∷ false ∷ []
  pub stops : map after_word (codes "-" ∷ codes "." ∷ codes "_" ∷ codes "/" ∷ codes "9" ∷ [] ∷ [])
      ≡ false ∷ false ∷ false ∷ false ∷ true ∷ true ∷ []
  pub behind_underscore : map after_underscore (codes "a" ∷ codes "_a" ∷ codes "__a" ∷ codes ".a" ∷ codes "-a" ∷ [])
      ≡ true ∷ true ∷ false ∷ false ∷ false ∷ []
  pub behind_dash : map after_dash (codes "a" ∷ codes "-a" ∷ codes "_a" ∷ codes ".a" ∷ codes "/a" ∷ [])
      ≡ true ∷ true ∷ false ∷ false ∷ false ∷ []
  pub short : is_name (codes "a") ≡ false
  pub least : is_name (codes "a1") ≡ true
  pub most : is_name (letters 256) ≡ true
  pub long : is_name (letters 257) ≡ false
  pub read : name_of (codes "team/app") ≡ Some (record { text = codes "team/app" })
  pub unread : name_of (codes "team/") ≡ None

-- the digest of the text `abc` (FIPS 180-4, SHA-256, its first example)
abbrev pub of_abc : Digest
of_abc = record {
  bytes = 186 ∷ 120 ∷ 22 ∷ 191 ∷ 143 ∷ 1 ∷ 207 ∷ 234 ∷ 65 ∷ 65 ∷ 64 ∷ 222 ∷ 93 ∷ 174 ∷ 34 ∷ 35
      ∷ 176 ∷ 3 ∷ 97 ∷ 163 ∷ 150 ∷ 23 ∷ 122 ∷ 156 ∷ 180 ∷ 16 ∷ 255 ∷ 97 ∷ 242 ∷ 0 ∷ 21 ∷ 173 ∷ [];
}

-- its digits
abbrev pub abc_digits : List ℕ
abc_digits = codes "ba7816bf8f01cfea414140de5dae2223b00361a396177a9cb410ff61f20015ad"

-- a digest is `sha256:` and 64 lower-case digits; an upload's id is its number in 32, grouped
pub record DigestsAreRead : Type 0 where
  pub digits : map is_hex_digit (codes "/09:`afgAF")
      ≡ false ∷ true ∷ true ∷ false ∷ false ∷ true ∷ true ∷ false ∷ false ∷ false ∷ []
  pub written : digest_text of_abc ≡ codes "sha256:" ++ abc_digits
  pub read : digest_of (codes "sha256:" ++ abc_digits) ≡ Some of_abc
  pub bare : of_digits abc_digits ≡ Some of_abc
  pub taken : decoded (Ok of_abc.bytes) ≡ Some of_abc
  pub other : digest_of (codes "sha512:" ++ abc_digits) ≡ None
  pub long : digest_of (codes "sha256:" ++ abc_digits ++ codes "0") ≡ None
  pub short : digest_of (codes "sha256:" ++ replicate 63 48) ≡ None
  pub capital : digest_of (codes "sha256:" ++ replicate 63 48 ++ codes "A") ≡ None
  pub no_digit : digest_of (codes "sha256:" ++ replicate 63 48 ++ codes "g") ≡ None
  pub number : hex_digits 4294967297 ≡ codes "0000000100000001"
  pub upload : upload_id 4294967297 ≡ codes "00000000-0000-0000-0000-000100000001"
  pub first_upload : upload_id 1 ≡ codes "00000000-0000-0000-0000-000000000001"
  pub last_upload : upload_id 18446744073709551615 ≡ codes "00000000-0000-0000-ffff-ffffffffffff"

-- a tag has 1 to 128 bytes, and begins with no `.` and no `-`
pub record TagsAreRead : Type 0 where
  pub first : map begins_tag (codes "/09:@AZ[_`az{.-")
      ≡ false ∷ true ∷ true ∷ false ∷ false ∷ true ∷ true ∷ false ∷ true ∷ false ∷ true ∷ true ∷ false ∷ false ∷ false
      ∷ []
  pub others : map is_tag_byte (codes ".-_aZ0+/ ")
      ≡ true ∷ true ∷ true ∷ true ∷ true ∷ true ∷ false ∷ false ∷ false ∷ []
  pub one : is_tag (codes "v") ≡ true
  pub mixed : is_tag (codes "_V1.0-rc_2") ≡ true
  pub none : is_tag [] ≡ false
  pub dot : is_tag (codes ".v") ≡ false
  pub dash : is_tag (codes "-v") ≡ false
  pub most : is_tag (letters 128) ≡ true
  pub long : is_tag (letters 129) ≡ false
  pub read : tag_of (codes "v1") ≡ Some (record { text = codes "v1" })
  pub unread : tag_of (codes "v 1") ≡ None

abbrev site : List ℕ → List ℕ → SiteId
site region account = record { region = region; account = account }

-- `team/app` at `us-east-1/111122223333`
abbrev app : RepoKey
app = record { site = site (codes "us-east-1") (codes "111122223333"); name = record { text = codes "team/app" } }

-- a site is a region of 1 to 32 bytes, `/`, and 12 digits; sites stand in the order of their regions and then accounts
-- pins: IsRegion, IsAccount, IsSite, ReadsSite
pub record SitesAreRead : Type 0 where
  pub digits : map is_digit (codes "/09:a") ≡ false ∷ true ∷ true ∷ false ∷ false ∷ []
  pub region_bytes : map is_region_byte (codes "az09-_.A/")
      ≡ true ∷ true ∷ true ∷ true ∷ true ∷ false ∷ false ∷ false ∷ false ∷ []
  pub no_region : is_region [] ≡ false
  pub longest_region : is_region (letters 32) ≡ true
  pub long_region : is_region (letters 33) ≡ false
  pub account : is_account (codes "000000000000") ≡ true
  pub short_account : is_account (codes "00000000000") ≡ false
  pub long_account : is_account (codes "0000000000000") ≡ false
  pub no_account : is_account (codes "00000000000a") ≡ false
  pub region : region_of (codes "eu-west-2/444455556666") ≡ codes "eu-west-2"
  pub number : account_digits (codes "eu-west-2/444455556666") ≡ codes "444455556666"
  pub word : is_site_word (codes "eu-west-2/444455556666") ≡ true
  pub no_slash : is_site_word (codes "eu-west-2.444455556666") ≡ false
  pub bare : is_site_word (codes "/444455556666") ≡ false
  pub read : site_of (codes "eu-west-2/444455556666") ≡ Some (site (codes "eu-west-2") (codes "444455556666"))
  pub unread : site_of (codes "eu-west-2/44445555666") ≡ None
  pub written : site_word app.site ≡ codes "us-east-1/111122223333"
  pub by_region : site_order (site (codes "eu") (codes "2")) (site (codes "us") (codes "1")) ≡ Less
  pub by_account : site_order (site (codes "us") (codes "2")) (site (codes "us") (codes "1")) ≡ Greater
  pub same : site_order app.site app.site ≡ Equal
  pub arn : arn_of app ≡ codes "arn:aws:ecr:us-east-1:111122223333:repository/team/app"
  pub uri : uri_of app ≡ codes "111122223333.dkr.ecr.us-east-1.amazonaws.com/team/app"
  pub text : utf8_or_empty (195 ∷ 164 ∷ []) ≡ 195 ∷ 164 ∷ []
  pub no_text : utf8_or_empty (97 ∷ 195 ∷ []) ≡ []

-- of this registry: docs/PROTOCOL.md, "Limits"
pub record LimitsAreThese : Type 0 where
  pub names : standard.names ≡ 100000
  pub images : standard.images ≡ 100000
  pub tags : standard.tags ≡ 1000
  pub parts : standard.parts ≡ 4200
  pub bytes : standard.bytes ≡ 1073741824
  pub head : max_head ≡ 65536
  pub line : max_chunk_line ≡ 1024
  pub trailers : max_trailers ≡ 65536
  pub body : max_body (codes "/") ≡ 33554432
  pub below : max_body (codes "/v2/ab/blobs/uploads/?digest=a") ≡ 536870912
  pub no_segment : max_body (codes "/v2") ≡ 33554432
  pub other : max_body (codes "/v2?/v2/") ≡ 33554432
  pub read : max_read ≡ 1099511627776
  -- the last second of the year 9999
  pub moment : MAX_MOMENT ≡ 253402300799
  pub line_end : crlf ≡ 13 ∷ 10 ∷ []
