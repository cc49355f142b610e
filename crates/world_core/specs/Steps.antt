-- Internal. The steps of a run.
use Rattle.std.specs.Prelude.{ℕ, zero, suc, ◌+◌, ◌<◌, ◌≤◌, nat_lt, if◌then◌else◌, List, [], ◌∷◌}
use Rattle.query_normal.specs.declared.key.KeyShape.{KeyShape}
use Rattle.world_core.specs.declared.step.Step.{Step}
use Rattle.world_core.specs.declared.step.Step.TheVariants as step
use Rattle.world_core.specs.Draws.{after, draw}
use Rattle.world_core.specs.Products.{products}
use Rattle.world_core.specs.Queries.{query_key, record_key}

-- the key of the record of a product
abbrev pub record_from : ℕ → KeyShape × ℕ
record_from number = (record_key (draw 1 products number), after 1 number)

-- the key of a query: which, and whether of ids
abbrev pub query_from : ℕ → KeyShape × ℕ
query_from number = (query_key (draw 1 40 number) (nat_lt 0 (draw 2 2 number)), after 2 number)

-- a key: in four of ten cases of a record
abbrev pub key_from : ℕ → KeyShape × ℕ
key_from number = if nat_lt (draw 1 10 number) 4 then record_from (after 1 number) else query_from (after 1 number)

-- a read: its client and its key
abbrev pub read_from : ℕ → Step × ℕ
read_from number = (step.Read (draw 1 3 number) (key_from (after 1 number)).0, (key_from (after 1 number)).1)

-- a put: its client, product, price and stock
abbrev pub put_from : ℕ → Step × ℕ
put_from number = (step.Put (draw 1 3 number) (draw 2 products number) (draw 3 1000 number) (draw 4 50 number), after 4 number)

-- a delete: its client and product
abbrev pub delete_from : ℕ → Step × ℕ
delete_from number = (step.Delete (draw 1 3 number) (draw 2 products number), after 2 number)

-- a step by its draw below 100, with the number after it
abbrev pub step_from : ℕ → ℕ → Step × ℕ
step_from kind number =
    if nat_lt kind 60 then read_from number
    else (if nat_lt kind 70 then put_from number
    else (if nat_lt kind 72 then delete_from number
    else (if nat_lt kind 80 then (step.Refresh (draw 1 3 number), after 1 number)
    else (if nat_lt kind 90 then (step.Match, number)
    else (if nat_lt kind 98 then (step.Advance (1 + draw 1 30 number), after 1 number)
    else (if nat_lt kind 99 then (step.Pull, number)
    else (step.Evict (draw 1 2 number), after 1 number)))))))

-- the step that is drawn from a number on, with the number after it
unfoldable pub next_step : ℕ → Step × ℕ
next_step number = step_from (draw 1 100 number) (after 1 number)

-- this many steps from a number on
abbrev pub steps_of : ℕ → ℕ → List Step
steps_of zero number = []
steps_of (suc count) number = (next_step number).0 ∷ steps_of count (next_step number).1

-- the numbers of a step are those of clients, products, caches and seconds
abbrev pub IsInRange : Step → Type 0
IsInRange (step.Read client key) = client < 3
IsInRange (step.Put client product price stock) = (client < 3) × (product < products) × (price < 1000) × (stock < 50)
IsInRange (step.Delete client product) = (client < 3) × (product < products)
IsInRange (step.Refresh client) = client < 3
IsInRange step.Match = Unit {0}
IsInRange (step.Advance seconds) = (1 ≤ seconds) × (seconds ≤ 30)
IsInRange step.Pull = Unit {0}
IsInRange (step.Evict cache) = cache < 2
