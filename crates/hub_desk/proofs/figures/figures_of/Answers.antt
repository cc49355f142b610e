-- each figure is that of the state to which the hub has come
use Rattle.std.proofs.Common.{◌∙◌, ap, length, List}
use Rattle.commit_book.specs.declared.change.Change.{Change}
use Rattle.commit_book.specs.Journal.{kept}
use Rattle.hub_model.specs.Setting.{Setting}
use Rattle.hub_desk.proofs.FiguresLemmas.{kept_at}
use Rattle.hub_desk.proofs.figures.figures_of.Goals as goal

pub returns : goal.returns
returns c = λ s at.
    let config = c.config-config.ensures in
    record {
      commits = c.commits-commits.ensures ∙ at.book.commits;
      front = c.front-front.ensures.same ∙ at.time.front;
      horizon = c.horizon-horizon.ensures.same ∙ at.book.horizon;
      kept = c.bytes-kept.ensures ∙ kept_at _ s at;
      live = c.live-live.ensures ∙ ap (λ (rows : List Change). kept rows (length rows)) at.book.rows;
      capacity = c.capacity-capacity.ensures.same ∙ ap (λ (g : Setting). g.capacity) config;
      active = c.active_count-active.ensures s at;
      most_active = c.active-most_active.ensures.same ∙ ap (λ (g : Setting). g.active) config;
      invalidated = c.record_count-invalidated.ensures s at;
      purges = c.purge_count-purges.ensures ∙ ap length at.purges;
      log2_bits = c.log2_bits-log2_bits.ensures.same ∙ ap (λ (g : Setting). g.log2_bits) config;
      hashes = c.hashes-hashes.ensures ∙ ap (λ (g : Setting). g.hashes) config;
    }
