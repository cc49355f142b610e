-- Worked histories with lifetimes of absent records and for shared caches, computed from the definitions alone.
use Rattle.std.proofs.Common.{◌≡◌, ℕ, ◌++◌, List, [], ◌∷◌, Some, codes, map, refl}
use Rattle.std.specs.Fmt.{digits}
use Rattle.json.specs.Print.{escape_byte}
use Rattle.q_doc.specs.Printed.{printed}
use Rattle.query_core.specs.declared.query.Kind.TheVariants.{Ids}
use Rattle.commit_book.specs.Journal.{cost_of}
use Rattle.hub_model.specs.declared.entry.Condition.TheVariants.{Always}
use Rattle.hub_model.specs.declared.entry.Entry.{Entry}
use Rattle.hub_model.specs.declared.entry.Entry.TheVariants.{Write, Read, Match}
use Rattle.hub_model.specs.declared.entry.Outcome.TheVariants.{Whole, Same, Absent as Nothing}
use Rattle.hub_model.specs.declared.entry.Tags.TheVariants.{Listed}
use Rattle.hub_model.specs.Copies.{active_keys}
use Rattle.hub_model.specs.Lifetime.{of_absents, ttl_of}
use Rattle.hub_model.specs.Record.{record_of}
use Rattle.hub_model.specs.Reply.{reply, read}
use Rattle.hub_model.specs.Setting.{Setting}
use Rattle.hub_model.specs.State.{State, at_moment}
use Rattle.hub_model.specs.Step.{state_of}
use Rattle.query_normal.specs.declared.key.KeyShape.{KeyShape}
use Rattle.hub_model.proofs.Rows.{sixty, p1, p2, p3, a_is, put_p1, delete_p1, where_a_is_1}

-- ---- absent records

-- every estimated lifetime is 60 seconds, and that of an absent record at most this; so many keys may be active
abbrev absent_at_most : ℕ → ℕ → Setting
absent_at_most ttl n = record sixty { ttl_absent = ttl; active = n }

-- the lifetime of a read at 100 after a history
abbrev ttl_at_100 : Setting → List Entry → KeyShape → ℕ → ℕ
ttl_at_100 g history key at = ttl_of g (at_moment (state_of g history) 100) key at

abbrev put : List Entry
put = Write 100 (put_p1 1) Always ∷ []

-- that of an absent record is bounded, below the least lifetime too, and no other one is: not that of a document, not that of a result without rows, and none where the configuration says nothing; a bound above it changes nothing
bounds : (ttl_at_100 (absent_at_most 30 8) put p2 1 ≡ 30)
    × (ttl_at_100 (absent_at_most 30 8) put p1 1 ≡ 60)
    × (ttl_at_100 (absent_at_most 30 8) (put ++ Write 100 delete_p1 Always ∷ []) p1 2 ≡ 30)
    × (ttl_at_100 (absent_at_most 30 8) [] (where_a_is_1 Ids) 0 ≡ 60)
    × (ttl_at_100 (absent_at_most 90 8) put p2 1 ≡ 60)
    × (ttl_at_100 (absent_at_most 0 8) put p2 1 ≡ 60)
unfolding state_of cost_of digits escape_byte
bounds = (refl, refl, refl, refl, refl, refl)

-- of eight places two go to absent keys, and of seven one
abbrev read_p2 : List Entry
read_p2 = put ++ Read 100 p2 (Listed []) 1 ∷ []

abbrev read_both : List Entry
read_both = read_p2 ++ Read 100 p3 (Listed []) 1 ∷ []

-- a further absent key gets none, a key that has one keeps it, and a document's key gets one of the others; where nothing is said all get one
quarters : (ttl_at_100 (absent_at_most 30 7) read_p2 p3 1 ≡ 0)
    × (ttl_at_100 (absent_at_most 30 7) read_p2 p2 1 ≡ 30)
    × (ttl_at_100 (absent_at_most 30 7) read_p2 p1 1 ≡ 60)
    × (ttl_at_100 (absent_at_most 30 8) read_p2 p3 1 ≡ 30)
    × (ttl_at_100 (absent_at_most 30 3) [] p3 0 ≡ 0)
    × (ttl_at_100 (absent_at_most 0 7) read_p2 p3 1 ≡ 60)
unfolding state_of cost_of digits escape_byte
quarters = (refl, refl, refl, refl, refl, refl)

-- at 129 the copy of p2 is unexpired, and at 130 its place is free
places : (ttl_of (absent_at_most 30 7) (at_moment (state_of (absent_at_most 30 7) read_p2) 129) p3 1 ≡ 0)
    × (ttl_of (absent_at_most 30 7) (at_moment (state_of (absent_at_most 30 7) read_p2) 130) p3 1 ≡ 30)
    × (active_keys (of_absents (state_of (absent_at_most 30 8) (read_both ++ Read 100 p1 (Listed []) 1 ∷ []))) ≡ p2 ∷ p3 ∷ [])
unfolding state_of cost_of digits escape_byte
places = (refl, refl, refl)

-- ---- shared caches

-- every lifetime is 60 seconds, and shared caches may keep replies for so many
abbrev shared_for : ℕ → Setting
shared_for n = record sixty { ttl_shared = n }

abbrev put_again : List Entry
put_again = Write 100 (put_p1 1) Always ∷ Read 100 p1 (Listed []) 1 ∷ Write 110 (put_p1 2) Always ∷ Match 110 2 ∷ []

-- the reply has both, also one that the caller knows, and one that may not be kept has none
shares : (reply (shared_for 90) put (Read 100 p1 (Listed []) 1) ≡ read (record { commit = 1; clock = 100; ttl = 60; shared = 90; result = Whole (printed (a_is 1)) (Some 1) }))
    × (reply (shared_for 90) put (Read 100 p1 (Listed (1 ∷ [])) 1) ≡ read (record { commit = 1; clock = 100; ttl = 60; shared = 90; result = Same 1 (Some 1) }))
    × (reply (shared_for 90) [] (Read 100 p1 (Listed []) 0) ≡ read (record { commit = 0; clock = 100; ttl = 60; shared = 90; result = Nothing }))
    × (reply (record (shared_for 90) { active = 0 }) [] (Read 100 p1 (Listed []) 0) ≡ read (record { commit = 0; clock = 100; ttl = 0; shared = 0; result = Nothing }))
unfolding state_of reply cost_of digits escape_byte
shares = (refl, refl, refl, refl)

-- the key is in the record as long as the longer of both
records : (record_of (at_moment (state_of (shared_for 90) put_again) 189) ≡ p1 ∷ [])
    × (record_of (at_moment (state_of (shared_for 90) put_again) 190) ≡ [])
    × (record_of (at_moment (state_of (shared_for 20) put_again) 159) ≡ p1 ∷ [])
    × (record_of (at_moment (state_of (shared_for 20) put_again) 160) ≡ [])
unfolding state_of cost_of digits escape_byte
records = (refl, refl, refl, refl)
