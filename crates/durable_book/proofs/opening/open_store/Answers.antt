-- the store is what its records come to
use Rattle.std.proofs.Common.{◌≤◌, List, ap, subst, ◌∙◌}
use Rattle.hub_core.specs.HubState.{IsAt}
use Rattle.record_log.specs.declared.log_record.LogRecord.{LogRecord}
use Rattle.durable_book.specs.Journals.{journal_of, costs_of, last_moment}
use Rattle.durable_book.specs.Moments.{guard_of}
use Rattle.durable_book.specs.Replay.{opened_state}
use Rattle.durable_book.proofs.OpeningLemmas.{kept_or_none}
use Rattle.durable_book.proofs.opening.open_store.Goals as goal

pub returns-in-Ok-replay-clause-opened : goal.returns-in-Ok-replay-clause-opened
returns-in-Ok-replay-clause-opened g c =
    let found : List LogRecord = c.in-Ok.opened.records.items in
    let last = c.last_moment-last.ensures ∙ ap last_moment c.deref.ensures.value in
    record {
      records = found;
      found = c.in-Ok.ensures.opened;
      ready = c.in-Ok.ensures.ready;
      fits = subst (λ (rs : List LogRecord). costs_of (journal_of rs) ≤ c.args.config.capacity) c.deref-2.ensures.value c.in-Ok-replay.ensures.fits;
      setting = c.in-Ok-replay.ensures.setting;
      state = subst (λ (rs : List LogRecord). IsAt c.in-Ok-replay.hub (opened_state c.args.config rs c.args.moment)) c.deref-2.ensures.value c.in-Ok-replay.ensures.state;
      kept_is = c.unwrap_or.ensures ∙ kept_or_none found c.last_moment-last.result last;
      guard_is = c.guard_of-guard.ensures ∙ ap (guard_of c.args.config) last;
    }
