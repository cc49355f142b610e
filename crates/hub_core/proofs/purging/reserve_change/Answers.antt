-- an entry is made for an active key alone
use Rattle.std.proofs.Common.{sym, ap, ◌∙◌, inl, inr}
use Rattle.std.proofs.lemmas.Bool.{cases_Bool, or_left, or_right}
use Rattle.query_normal.specs.Keys.{same_key}
use Rattle.query_normal.specs.SameKey.{same_key-Decides}
use Rattle.issued_expiries.specs.Copies.{is_active}
use Rattle.purge_list.specs.LastChanges.{is_known}
use Rattle.hub_core.proofs.purging.reserve_change.Goals as goal

pub returns-in_ok-reserve-clause-active : goal.returns-in_ok-reserve-clause-active
returns-in_ok-reserve-clause-active c = λ other there. elim (cases_Bool (same_key c.args.key.now other)) [
  | inl own ↦ (
      let e = (same_key-Decides c.args.key.now other).0 own in
      or_right (is_known c.args.changes.now other) (is_active c.args.copies.now.copies other) (ap (is_active c.args.copies.now.copies) (sym e) ∙ sym c.is_active.ensures ∙ c.if-is_active.true))
  | inr apart ↦ or_left (is_known c.args.changes.now other) (is_active c.args.copies.now.copies other) (sym (c.reserve.ensures.others other apart) ∙ there)
]
