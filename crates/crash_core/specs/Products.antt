-- Believed. The products of a run, and their documents.
use Rattle.std.specs.Prelude.{◌≡◌, ℕ, List, ◌++◌, codes, decimal, Ok, Some}
use Rattle.commit_book.specs.declared.change.Change.{Change}
use Rattle.q_doc.specs.Tree.{Tree}
use Rattle.q_doc.specs.Judged.{judged}
use Rattle.world_core.specs.Products.{collection, product_id}

-- the text of the document with a price
abbrev pub price_text : ℕ → List ℕ
price_text price = codes "{\"price\":" ++ (decimal price ++ codes "}")

-- a document is that with a price
abbrev pub IsPriced : ℕ → Tree → Type 0
IsPriced price doc = judged (price_text price) ≡ Ok doc

-- a change puts the document of a product, with this price
abbrev pub IsPut : ℕ → ℕ → Change → Type 0
IsPut product price change = (doc : Tree) × IsPriced price doc × (change ≡ record { collection = collection; id = product_id product; document = Some doc })
