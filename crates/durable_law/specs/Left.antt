-- Internal. What crashes leave of the disk of a store, also while it is opened again.
use Rattle.std.specs.Prelude.{ℕ, ◌≤◌, List, ◌++◌}
use Rattle.commit_book.specs.declared.change.Change.{Change}
use Rattle.record_log.specs.declared.log_record.LogRecord.{LogRecord}
use Rattle.durable_book.specs.Images.{IsImageOf, MayWait}

-- The image stands for the journal, or for one that goes on from it, and for no earlier kept moment; one record waits at most.
pub record GoesOn (journal : List Change) (kept : ℕ) (image : List ℕ) : Type 0 where
  pub more : List Change
  pub later : ℕ
  pub waiting : List LogRecord
  pub stands : IsImageOf image (journal ++ more) later waiting
  pub rises : kept ≤ later
  pub may_wait : MayWait later waiting
