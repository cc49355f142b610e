-- each invalidated key is listed once
use Rattle.std.proofs.Common.{subst}
use Rattle.hub_core.specs.CopiesView.{AreInvalidated}
use Rattle.hub_core.proofs.SoundLemmas.{are-invalidated}
use Rattle.hub_core.proofs.copies.Copies.invalidated_count.Goals as goal

pub returns-clause-keys : goal.returns-clause-keys
returns-clause-keys c = subst AreInvalidated c.self.view_is (are-invalidated _ c.self.inside.issued c.self.inside.outdated c.self.invariant)
