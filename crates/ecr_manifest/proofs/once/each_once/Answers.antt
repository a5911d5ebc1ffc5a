use Rattle.std.proofs.Common.{◌≡◌, ◌++◌, ◌∷◌, [], Bool, true, List, ℕ, cond, get_or, sym, ap, ◌∙◌}
use Rattle.std.specs.BTreeSet.{contains}
use Rattle.std.specs.Cmp.Lexicographic.{slice_cmp}
use Rattle.std.specs.Ordering.{nat_cmp}
use Rattle.std.proofs.lemmas.Map.Text.{is_eq-slice_cmp}
use Rattle.std.specs.Prelude.{bytes_eq}
use Rattle.ecr_model.specs.declared.names.Digest.{Digest}
use Rattle.ecr_manifest.proofs.OnceLemmas.{absent_where_new, is_kept, is_kept-added, kept-added, kept-present, there_where_old, where_false}
use Rattle.ecr_manifest.proofs.once.each_once.Goals as goal
use Rattle.ecr_manifest.proofs.once.each_once.Goals.{then-branch+in_ok-push, else-branch}

pub loop-digest-preserved : goal.loop-digest-preserved
loop-digest-preserved c =
    let xs = c.args.digests.now in
    let i = c.loop-digest.digest-index in
    let kept = c.loop-digest.kept.items in
    let inv = c.loop-digest.invariant in
    let e : Digest = get_or xs i (record { bytes = [] }) in
    let was : Bool = contains (slice_cmp nat_cmp) c.loop-digest.seen e.bytes in
    elim c.if-branch.branch [
      | then-branch+in_ok-push w ↦
          let items : c.if-branch.kept.items ≡ kept ++ e ∷ [] = cc (w.kept-is, w.in_ok-push.ensures.items) in
          let absent : was ≡ Bool.false =
          absent_where_new c.in_ok-note.field-0 was w.if-branch.true c.in_ok-note.ensures.new in
          record {
            once = items ∙ kept-added xs kept i (record { bytes = [] }) c.loop-digest-test.true inv.once
                (sym (inv.same e.bytes) ∙ absent);
            same =
                λ q. c.in_ok-note.ensures.added q
                ∙ ap (λ (b : Bool). cond b true (contains (slice_cmp nat_cmp) c.loop-digest.seen q))
                (is_eq-slice_cmp e.bytes q)
                ∙ ap (λ (b : Bool). cond (bytes_eq e.bytes q) true b) (inv.same q)
                ∙ sym (is_kept-added q kept e) ∙ ap (λ (l : List Digest). is_kept q l) (sym items);
          }
      | else-branch w ↦
          let items : c.if-branch.kept.items ≡ kept = cc (w.kept-is) in
          let there : was ≡ true = there_where_old c.in_ok-note.field-0 was w.if-branch.false
          c.in_ok-note.ensures.new in
          let same = where_false c.in_ok-note.field-0
          ((q : List ℕ) → contains (slice_cmp nat_cmp) c.note.new.seen q ≡ contains
          (slice_cmp nat_cmp) c.loop-digest.seen q) w.if-branch.false c.in_ok-note.ensures.same in
          record {
            once = items ∙ kept-present xs kept i (record { bytes = [] }) c.loop-digest-test.true inv.once
                (sym (inv.same e.bytes) ∙ there);
            same = λ q. same q ∙ inv.same q ∙ ap (λ (l : List Digest). is_kept q l) (sym items);
          }
    ]
