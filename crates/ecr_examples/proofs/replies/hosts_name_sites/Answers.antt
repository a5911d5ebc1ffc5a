use Rattle.std.proofs.Common.{refl}
use Rattle.ecr_model.specs.http.Hosts.{without_port, named_site, site_for}
use Rattle.ecr_examples.proofs.replies.hosts_name_sites.Goals as goal

pub returns : goal.returns
unfolding without_port named_site site_for
returns c = record {
  named = record {
    colon = refl;
    port = refl;
    bare = refl;
    no_port = refl;
    last = refl;
    registry = refl;
    api = refl;
    first = refl;
    named = refl;
    unnamed = refl;
    to_registry = refl;
    to_api = refl;
    to_other = refl;
    to_none = refl;
    front = refl;
  };
}
