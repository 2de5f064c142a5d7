-- `held::has_kept` meets its contract. Assumes nothing.
use mathlib.Core.Path.{sym, ap, ◌∙◌}
use Rattle.kit.specs.Lists.{all}
use Rattle.law.specs.Lines.{allowed}
use Rattle.law.proofs.RecordsRead.{is_kept, kept-columns}
use Rattle.texts.proofs.Told.{told_as, told_test}
use Rattle.held.proofs.has_kept.Goals as goal

pub returns-then-all_allowed : goal.returns-then-all_allowed
returns-then-all_allowed c =
    let e = c.kept_at-columns.ensures in
    told_as (λ s. record { clean = ap (all allowed) (sym e) ∙ sym c.all_allowed.ensures ∙ c.if-all_allowed.true; spelled = s }) (λ h. h.spelled)
    (told_test kept-columns _ (c.is_kept.ensures ∙ ap is_kept e))
