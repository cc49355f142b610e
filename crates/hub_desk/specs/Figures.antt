-- Believed. What the figures of a store are in a state.
use Rattle.std.specs.Prelude.{◌≡◌, length}
use Rattle.commit_book.specs.Journal.{kept as kept_bytes}
use Rattle.hub_desk.specs.declared.figures.Figures.{Figures}
use Rattle.hub_model.specs.Copies.{active_keys}
use Rattle.hub_model.specs.Record.{record_of}
use Rattle.hub_model.specs.Setting.{Setting}
use Rattle.hub_model.specs.State.{State}

-- The figures are those of the state, but for the turns, of which nothing is said; the live bytes are what would be kept
-- were the horizon at the last commit.
pub record AreFiguresOf (g : Setting) (s : State) (figures : Figures) : Type 0 where
  pub commits : figures.commits ≡ length s.journal
  pub front : figures.front ≡ s.front
  pub horizon : figures.horizon ≡ s.horizon
  pub kept : figures.kept ≡ kept_bytes s.journal s.horizon
  pub live : figures.live ≡ kept_bytes s.journal (length s.journal)
  pub capacity : figures.capacity ≡ g.capacity
  pub active : figures.active ≡ length (active_keys s)
  pub most_active : figures.most_active ≡ g.active
  pub invalidated : figures.invalidated ≡ length (record_of s)
  pub purges : figures.purges ≡ length s.purges
  pub log2_bits : figures.log2_bits ≡ g.log2_bits
  pub hashes : figures.hashes ≡ g.hashes
