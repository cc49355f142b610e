use Rattle.std.proofs.Common.{length, refl}
use Rattle.client_core.proofs.TableLemmas.{blank_past}
use Rattle.client_core.proofs.floors.Floors.new.Goals as goal

-- all rows are blank
pub returns : goal.returns
returns c = blank_past _ (length c.args.rows.now) c.fill.new.self (c.fill.ensures.after (λ y h. h)) refl refl refl refl refl
