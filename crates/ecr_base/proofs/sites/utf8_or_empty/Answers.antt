use Rattle.std.proofs.Common.{◌<◌, ◌∙◌, length, sym, arith}
use Rattle.std.specs.Str.Lossy.{utf8_valid_len}
use Rattle.ecr_model.proofs.lemmas.names.SitesLemmas.{utf8_or_empty-IsUtf8, utf8_or_empty-short}
use Rattle.ecr_base.proofs.sites.utf8_or_empty.Goals as goal

pub returns-in-Ok : goal.returns-in-Ok
returns-in-Ok c = record {
  text =
      let utf8 = c.in-Ok.ensures.cases in
      utf8.0 ∙ sym (utf8_or_empty-IsUtf8 c.args.bytes.now utf8.1);
}

pub returns-in-Err : goal.returns-in-Err
returns-in-Err c = record {
  text =
      let e = c.in-Err.ensures in
      let short : utf8_valid_len c.args.bytes.now < length c.args.bytes.now =
      omega (arith, e.valid_len, e.cases.1.short) in
      sym (utf8_or_empty-short c.args.bytes.now short);
}
