use Rattle.std.proofs.Common.{◌∙◌, ap, bytes_eq}
use Rattle.std.specs.List.{list_any}
use Rattle.ecr_model.specs.registry.Directories.{is_registered}
use Rattle.ecr_site.specs.States.{directory_of}
use Rattle.ecr_site.proofs.StateLemmas.{list_any-name_order}
use Rattle.ecr_site.proofs.state.SiteState.knows.Goals as goal

pub returns : goal.returns
returns c = record {
  known =
      let name = c.args.name.now in
      let s = c.self.inside in
      c.contains.ensures ∙ list_any-name_order name s.names.keys
      ∙ ap (λ ns. list_any (λ n. bytes_eq n.text name.text) ns) c.self.invariant.same
      ∙ (λ i. is_registered name (directory_of (c.self.view_is i)));
}
