use Rattle.std.proofs.Common.{sym, ap, subst, ◌∙◌}
use Rattle.std.proofs.lemmas.Result.{IfOk-weaker}
use Rattle.ecr_pages.specs.Rows.{births_of}
use Rattle.ecr_pages.specs.Places.{shelved, rows_in, AreInPages}
use Rattle.ecr_pages.proofs.snapshot.Snapshot.births.Goals as goal

pub births-requires : goal.births-requires
births-requires g c = subst (λ s. AreInPages shelved s.entries) (sym c.deref.ensures) c.self.invariant

pub returns : goal.returns
returns g c = record {
  births = IfOk-weaker c.births.result _ _
      (λ b e. e ∙ ap (λ s. births_of (rows_in shelved s.entries)) c.deref.ensures
      ∙ ap (λ m. births_of m) c.self.view_is) c.births.ensures;
}
