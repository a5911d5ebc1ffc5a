use Rattle.std.proofs.Common.{◌≤◌, ◌<◌, ◌∷◌, ◌++◌, [], length, sym, subst, arith}
use Rattle.ecr_json.specs.Thin.{max_texts}
use Rattle.ecr_json.specs.Thinning.{AreFirst}
use Rattle.ecr_json.proofs.ThinningLemmas.{AreFirst-more, AreFirst-full}
use Rattle.ecr_json.proofs.thin.keep.Goals as goal

pub returns-in_ok-push : goal.returns-in_ok-push
unfolding max_texts
returns-in_ok-push c = λ seen h.
    let few : length c.args.texts.now.items < max_texts = omega arith in
    subst (λ vs. AreFirst vs (seen ++ c.args.text.now ∷ [])) (sym c.in_ok-push.ensures.items)
    (AreFirst-more c.args.texts.now.items c.in_ok-value.value seen c.args.text.now h few c.in_ok-value.ensures)

pub returns-else-len-lt-MAX_TEXTS : goal.returns-else-len-lt-MAX_TEXTS
unfolding max_texts
returns-else-len-lt-MAX_TEXTS c = λ seen h.
    let full : max_texts ≤ length c.args.texts.now.items = omega arith in
    AreFirst-full c.args.texts.now.items seen c.args.text.now h full
