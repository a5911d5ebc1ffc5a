use Rattle.std.proofs.Common.{Some, ap, sym, ◌∙◌, option_map}
use Rattle.httparse.specs.declared.spans.HeaderSpan.{HeaderSpan}
use Rattle.httparse.specs.Spans.{span_bytes}
use Rattle.ecr_model.proofs.lemmas.http.FieldLemmas.{first_value-places}
use Rattle.ecr_model.proofs.http.fields.value_in.Goals as goal

pub returns-in-Some : goal.returns-in-Some
returns-in-Some c =
    ap Some c.text_at.ensures
    ∙ ap (option_map (λ (p : HeaderSpan). span_bytes c.args.head.now p.value)) c.in-Some.ensures
    ∙ sym (first_value-places c.args.name.now c.args.head.now c.args.places.now)
