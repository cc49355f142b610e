-- Internal. The products of a run, and their documents.
use Rattle.std.specs.Prelude.{◌≡◌, ℕ, ◌%◌, List, ◌++◌, codes, decimal, Ok}
use Rattle.q_doc.specs.Tree.{Tree}
use Rattle.q_doc.specs.Judged.{judged}

-- the number of products
abbrev pub products : ℕ
products = 2000

-- the collection of the products
abbrev pub collection : List ℕ
collection = codes "products"

-- the id of a product
abbrev pub product_id : ℕ → List ℕ
product_id product = codes "p" ++ decimal product

-- the text of a product with a price and a stock
abbrev pub product_text : ℕ → ℕ → ℕ → List ℕ
product_text product price stock =
    codes "{\"cat\":" ++ (decimal (product % 10) ++ (codes ",\"name\":\"n" ++ (decimal product
    ++ (codes "\",\"price\":" ++ (decimal price ++ (codes ",\"stock\":" ++ (decimal stock ++ codes "}")))))))

-- a document is that of a product with a price and a stock
abbrev pub IsProduct : ℕ → ℕ → ℕ → Tree → Type 0
IsProduct product price stock doc = judged (product_text product price stock) ≡ Ok doc
