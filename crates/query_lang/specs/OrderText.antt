-- Internal. Which texts are orders.
use Rattle.std.specs.Prelude.{◌≡◌, ℕ, ◌≤◌, List, [], length}
use Rattle.query_core.specs.Limits.{most_paths}
use Rattle.query_core.specs.Window.{Order}
use Rattle.query_lang.specs.Grammar.{Item, order_tokens, order_meaning, ItemsFit}
use Rattle.query_lang.specs.Spelling.{Tokenizes}

-- the text is written with the tokens of few items that mean this order
pub record IsOrderText (bytes : List ℕ) (order : Order) : Type 0 where
  pub items : List Item
  pub tokenizes : Tokenizes bytes (order_tokens items [])
  pub few : length items ≤ most_paths
  pub fits : ItemsFit items
  pub means : order_meaning items ≡ order
