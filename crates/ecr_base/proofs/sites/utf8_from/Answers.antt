use Rattle.std.proofs.Common.{◌<◌, ◌∙◌, ℕ, List, IsUtf8, length, sym, subst, arith}
use Rattle.std.specs.Str.Lossy.{utf8_valid_len}
use Rattle.ecr_model.proofs.lemmas.names.SitesLemmas.{utf8_or_empty-IsUtf8, utf8_or_empty-short}
use Rattle.ecr_base.proofs.sites.utf8_from.Goals as goal

pub utf8_in-requires : goal.utf8_in-requires
utf8_in-requires c = subst IsUtf8 c.as_slice.ensures.value c.in-Ok.ensures.cases.1

pub returns-in-Ok : goal.returns-in-Ok
returns-in-Ok c =
    let utf8 = subst IsUtf8 c.as_slice.ensures.value c.in-Ok.ensures.cases.1 in
    c.utf8_in.ensures ∙ sym (utf8_or_empty-IsUtf8 c.args.bytes.items utf8)

pub returns-in-Err : goal.returns-in-Err
returns-in-Err c =
    let e = c.in-Err.ensures in
    let cut : utf8_valid_len c.as_slice.result.now < length c.as_slice.result.now =
    omega (arith, e.valid_len, e.cases.1.short) in
    let short = subst (λ (bytes : List ℕ). utf8_valid_len bytes < length bytes) c.as_slice.ensures.value cut in
    c.new.ensures.bytes ∙ sym (utf8_or_empty-short c.args.bytes.items short)
