-- Internal. What a read of a hub answers, and what it leaves of the hub.
use Rattle.std.specs.Prelude.{◌≡◌, ℕ}
use Rattle.query_normal.specs.declared.key.KeyShape.{KeyShape}
use Rattle.hub_model.specs.declared.entry.Answer.{Answer}
use Rattle.hub_model.specs.declared.entry.Tags.{Tags}
use Rattle.hub_model.specs.declared.entry.Entry.TheVariants.{Read}
use Rattle.hub_model.specs.Reply.{read, reply_in}
use Rattle.hub_model.specs.State.{State}
use Rattle.hub_model.specs.Step.{after}
use Rattle.hub_core.specs.HubState.{HubView, IsAt}

-- The answer is the reply to a read of the key at the last commit, and the hub then represents the history with that read.
pub record AnswersRead (old new : HubView) (moment : ℕ) (key : KeyShape) (tags : Tags) (a : Answer) : Type 0 where
  pub last : a.commit ≡ old.commits
  pub told : (s : State) → IsAt old s → read a ≡ reply_in old.setting s (Read moment key tags a.commit)
  pub stands : (s : State) → IsAt old s → IsAt new (after old.setting s (Read moment key tags a.commit))
