-- Worked histories, computed from the definitions alone.
use Rattle.std.proofs.Common.{◌≡◌, Bool, ◌<◌, ◌≤◌, ℕ, ◌++◌, List, [], ◌∷◌, Some, None, true, false, pos, codes, map, refl, ap, arith}
use Rattle.std.specs.Prelude.{replicate}
use Rattle.std.specs.Fmt.{digits}
use Rattle.json.specs.Print.{escape_byte}
use Rattle.q_doc.specs.Printed.{printed}
use Rattle.q_doc.specs.Tree.{Tree, number, object, no_members, member}
use Rattle.query_normal.specs.declared.key.KeyShape.{KeyShape}
use Rattle.query_core.specs.declared.operator.Op.TheVariants.{Equal}
use Rattle.query_core.specs.declared.query.Kind.{Kind}
use Rattle.query_core.specs.declared.query.Kind.TheVariants.{Objects, Ids}
use Rattle.query_core.specs.Filters.{constant, compared}
use Rattle.query_normal.specs.declared.key.KeyShape.TheVariants.{Record, Query}
use Rattle.query_normal.specs.Keys.{key_text}
use Rattle.query_normal.specs.Pages.{Page}
use Rattle.result_kinds.specs.Results.{ids}
use Rattle.commit_book.specs.declared.change.Change.{Change}
use Rattle.commit_book.specs.Journal.{cost_of}
use Rattle.hub_model.specs.declared.entry.Condition.{Condition}
use Rattle.hub_model.specs.declared.entry.Condition.TheVariants.{Always, Present, Absent, Unchanged}
use Rattle.hub_model.specs.declared.entry.Entry.{Entry}
use Rattle.hub_model.specs.declared.entry.Entry.TheVariants.{Write, Read, Match, Fetch, Purges, Tick}
use Rattle.hub_model.specs.declared.entry.Found.TheVariants.{Missing, At}
use Rattle.hub_model.specs.declared.entry.Outcome.TheVariants.{Whole, Same, Absent as Nothing}
use Rattle.hub_model.specs.declared.entry.Outcome.{Outcome}
use Rattle.hub_model.specs.declared.entry.Tags.{Tags}
use Rattle.hub_model.specs.declared.entry.Tags.TheVariants.{Any, Listed}
use Rattle.hub_model.specs.declared.entry.Written.TheVariants.{Done, Precondition, Full}
use Rattle.hub_model.specs.Setting.{Setting, default_setting}
use Rattle.hub_model.specs.Record.{record_of, outdated_copies, bits_of}
use Rattle.hub_model.specs.Helps.{helps_of}
use Rattle.hub_model.specs.Step.{after_all, state_of}
use Rattle.hub_model.specs.State.{IssuedCopy, State, start, at_moment}
use Rattle.hub_model.specs.Copies.{active_keys}
use Rattle.hub_model.specs.Legal.{IsLegal}
use Rattle.hub_model.specs.Reply.{Replied, reply, reply_in, wrote, read, matched, fetched, purged, counted}
use Rattle.hub_model.specs.Journal.{absent, present, queried, result_at, same_finding}
use Rattle.hub_model.specs.Lifetime.{ttl_of}
use Rattle.hub_model.specs.Outdated.{is_outdated, is_changed}

-- every lifetime is 60 seconds
abbrev pub sixty : Setting
sixty = record default_setting { ttl_low = 60; ttl_high = 60 }

abbrev pub p1 : KeyShape
p1 = Record (codes "shop") (codes "p1")

-- `{"a":n}`
abbrev pub a_is : ℕ → Tree
a_is n = object (member (codes "a") (number (pos n)) no_members)

-- puts `{"a":n}` as p1 of the collection shop
abbrev pub put_p1 : ℕ → Change
put_p1 n = record { collection = codes "shop"; id = codes "p1"; document = Some (a_is n) }

-- ---- a copy of commit 1 until 160, and then commit 2, which is matched

abbrev copied : List Entry
copied = Write 100 (put_p1 1) Always ∷ Read 100 p1 (Listed []) 1 ∷ Write 110 (put_p1 2) Always ∷ []

abbrev covered : List Entry
covered = copied ++ Match 110 2 ∷ []

covered_replies : (reply sixty [] (Write 100 (put_p1 1) Always) ≡ wrote (Done 1 Missing 100))
    × (reply sixty (Write 100 (put_p1 1) Always ∷ []) (Read 100 p1 (Listed []) 1) ≡ read (record { commit = 1; clock = 100; ttl = 60; shared = 0; result = Whole (printed (a_is 1)) (Some 1) }))
    × (reply sixty (Write 100 (put_p1 1) Always ∷ Read 100 p1 (Listed []) 1 ∷ []) (Write 110 (put_p1 2) Always) ≡ wrote (Done 2 (At 1) 110))
    × (reply sixty copied (Match 110 2) ≡ matched (record { front = 2; clock = 110 }))
unfolding state_of reply cost_of digits escape_byte
covered_replies = (refl, refl, refl, refl)

-- the history is legal
covered_legal : IsLegal sixty covered
unfolding IsLegal cost_of digits escape_byte
covered_legal =
    let one : 1 ≤ 1024 = omega arith in
    let two : 2 ≤ 1024 = omega arith in
    let reads : (0 ≤ 1) × (1 ≤ 1) = ((let h : 0 ≤ 1 = omega arith in h), (let h : 1 ≤ 1 = omega arith in h)) in
    let matches : (0 < 2) × (2 ≤ 2) = ((let h : 0 < 2 = omega arith in h), (let h : 2 ≤ 2 = omega arith in h)) in
    ((tt, one), ((reads, one), ((tt, two), ((matches, (let h : 2 ≤ 1026 = omega arith in h)), tt))))

-- a page at 159 with the bits of these keys
abbrev page : ℕ → ℕ → List KeyShape → Page
page front commits keys = record {
  log2_bits = 17;
  hashes = 6;
  front = front;
  commits = commits;
  moment = 159;
  bits = bits_of keys 17 6;
}

-- at 159 the key is in the record, and the page has its bits alone, the front, the number of commits and the clock
covered_at_159 : reply sixty covered (Fetch 159) ≡ fetched (page 2 2 (p1 ∷ []))
unfolding state_of reply cost_of digits escape_byte
covered_at_159 = ap (λ (keys : List KeyShape). fetched (page 2 2 keys)) (let recorded : record_of (at_moment (state_of sixty covered) 159) ≡ p1 ∷ [] = refl in recorded)

-- at 160 it is not, since 160 is not above 160
covered_at_160 : record_of (state_of sixty (covered ++ Fetch 160 ∷ [])) ≡ []
unfolding state_of cost_of digits escape_byte
covered_at_160 = refl

-- ---- without the match, or with a match up to commit 1, the page has no bit

uncovered_at_159 : reply sixty copied (Fetch 159) ≡ fetched (page 0 2 [])
unfolding state_of reply cost_of digits escape_byte
uncovered_at_159 = ap (λ (keys : List KeyShape). fetched (page 0 2 keys)) (let recorded : record_of (at_moment (state_of sixty copied) 159) ≡ [] = refl in recorded)

half_covered_at_159 : reply sixty (copied ++ Match 110 1 ∷ []) (Fetch 159) ≡ fetched (page 1 2 [])
unfolding state_of reply cost_of digits escape_byte
half_covered_at_159 = ap (λ (keys : List KeyShape). fetched (page 1 2 keys)) (let recorded : record_of (at_moment (state_of sixty (copied ++ Match 110 1 ∷ [])) 159) ≡ [] = refl in recorded)

-- ---- a further copy, of commit 2 until 180, is not outdated: it neither takes the key out early nor keeps it in

abbrev read_again : List Entry
read_again = covered ++ Read 120 p1 (Listed []) 2 ∷ []

read_again_at_159 : record_of (state_of sixty (read_again ++ Fetch 159 ∷ [])) ≡ p1 ∷ []
unfolding state_of cost_of digits escape_byte
read_again_at_159 = refl

read_again_at_160 : (record_of (state_of sixty (read_again ++ Fetch 160 ∷ [])) ≡ [])
    × (active_keys (state_of sixty (read_again ++ Fetch 160 ∷ [])) ≡ p1 ∷ [])
unfolding state_of cost_of digits escape_byte
read_again_at_160 = (refl, refl)

-- ---- a record has its own last change, and an undone change counts

abbrev put_elsewhere : ℕ → Change
put_elsewhere n = record { collection = codes "other"; id = codes "p1"; document = Some (a_is n) }

abbrev pub put_p2 : ℕ → Change
put_p2 n = record { collection = codes "shop"; id = codes "p2"; document = Some (a_is n) }

abbrev pub delete_p1 : Change
delete_p1 = record { collection = codes "shop"; id = codes "p1"; document = None }

abbrev undone : List Change
undone = put_p1 1 ∷ put_elsewhere 5 ∷ put_p2 6 ∷ delete_p1 ∷ []

found_at : (result_at p1 undone 0 ≡ absent) × (result_at p1 undone 1 ≡ present 1 (a_is 1)) × (result_at p1 undone 2 ≡ present 1 (a_is 1)) × (result_at p1 undone 3 ≡ present 1 (a_is 1)) × (result_at p1 undone 4 ≡ absent)
found_at = (refl, refl, refl, refl, refl)

-- a copy of nothing is outdated though again there is nothing
outdated_at : (is_outdated p1 0 undone 4 ≡ true) × (is_outdated p1 0 undone 0 ≡ false) × (is_outdated p1 1 undone 3 ≡ false) × (is_outdated p1 1 undone 4 ≡ true) × (is_outdated p1 4 undone 4 ≡ false)
outdated_at = (refl, refl, refl, refl, refl)

-- p1 is read before it is put and again before it is deleted: both copies are outdated, though there is again nothing
abbrev back_again : List Entry
back_again =
    Write 100 (put_p2 0) Always
    ∷ Read 100 p1 (Listed []) 1
    ∷ Write 100 (put_p1 1) Always
    ∷ Read 100 p1 (Listed []) 2
    ∷ Write 100 delete_p1 Always
    ∷ Match 100 3
    ∷ []

abbrev copy_of_p1 : ℕ → Bool → IssuedCopy
copy_of_p1 at none = record { key = p1; at = at; clock = 100; ttl = 60; absent = none }

undone_between : (record_of (state_of sixty back_again) ≡ p1 ∷ [])
    × (outdated_copies (state_of sixty back_again) ≡ copy_of_p1 1 true ∷ copy_of_p1 2 false ∷ [])
    × (result_at p1 (state_of sixty back_again).journal 1 ≡ result_at p1 (state_of sixty back_again).journal 3)
unfolding state_of cost_of digits escape_byte
undone_between = (refl, refl, refl)

-- ---- a record that was never written has the greatest lifetime, and one that was just written the least

abbrev ten_to_ninety : Setting
ten_to_ninety = record default_setting { ttl_low = 10; ttl_high = 90 }

lifetimes : (reply ten_to_ninety [] (Read 100 p1 (Listed []) 0) ≡ read (record { commit = 0; clock = 100; ttl = 90; shared = 0; result = Nothing }))
    × (record_of (state_of ten_to_ninety (covered ++ Fetch 109 ∷ [])) ≡ [])
    × (record_of (state_of ten_to_ninety (Write 100 (put_p1 1) Always ∷ Read 100 p1 (Listed []) 1 ∷ Write 105 (put_p1 2) Always ∷ Match 105 2 ∷ Fetch 109 ∷ [])) ≡ p1 ∷ [])
    × (record_of (state_of ten_to_ninety (Write 100 (put_p1 1) Always ∷ Read 100 p1 (Listed []) 1 ∷ Write 105 (put_p1 2) Always ∷ Match 105 2 ∷ Fetch 110 ∷ [])) ≡ [])
unfolding state_of reply cost_of digits escape_byte
lifetimes = (refl, refl, refl, refl)

-- ---- with one key at most, another key's reply may not be kept; with none, no reply may

abbrev few_active : ℕ → Setting
few_active n = record sixty { active = n }

abbrev pub p2 : KeyShape
p2 = Record (codes "shop") (codes "p2")

one_active : (ttl_of (few_active 1) (at_moment (state_of (few_active 1) (Read 100 p1 (Listed []) 0 ∷ [])) 159) p2 0 ≡ 0)
    × (ttl_of (few_active 1) (at_moment (state_of (few_active 1) (Read 100 p1 (Listed []) 0 ∷ [])) 159) p1 0 ≡ 60)
    × (ttl_of (few_active 1) (at_moment (state_of (few_active 1) (Read 100 p1 (Listed []) 0 ∷ [])) 160) p2 0 ≡ 60)
    × (ttl_of (few_active 0) start p1 0 ≡ 0)
unfolding state_of cost_of digits escape_byte
one_active = (refl, refl, refl, refl)

-- ---- what a write asks of its record

-- commits 1 and 4 put p1, and the others p2
abbrev pub seven : List Entry
seven =
    Write 100 (put_p1 1) Always
    ∷ Write 100 (put_p2 2) Always
    ∷ Write 100 (put_p2 3) Always
    ∷ Write 100 (put_p1 4) Always
    ∷ Write 100 (put_p2 5) Always
    ∷ Write 100 (put_p2 6) Always
    ∷ Write 100 (put_p2 7) Always
    ∷ []

abbrev unchanged : ℕ → Condition
unchanged tag = Unchanged (Listed (tag ∷ []))

-- since commit 4 p1 is as commit 5 had it, but not as commit 3 did, and there is no commit 8 to know of
conditions : (reply sixty seven (Write 100 (put_p1 8) (unchanged 3)) ≡ wrote (Precondition (At 4) 100))
    × (reply sixty seven (Write 100 (put_p1 8) (unchanged 4)) ≡ wrote (Done 8 (At 4) 100))
    × (reply sixty seven (Write 100 (put_p1 8) (unchanged 5)) ≡ wrote (Done 8 (At 4) 100))
    × (reply sixty seven (Write 100 (put_p1 8) (unchanged 8)) ≡ wrote (Precondition (At 4) 100))
    × (reply sixty seven (Write 100 (put_p1 8) (Unchanged Any)) ≡ wrote (Done 8 (At 4) 100))
    × (reply sixty seven (Write 100 (put_p1 8) Present) ≡ wrote (Done 8 (At 4) 100))
    × (reply sixty seven (Write 100 (put_p1 8) Absent) ≡ wrote (Precondition (At 4) 100))
    × (reply sixty seven (Write 100 (put_elsewhere 8) (Unchanged Any)) ≡ wrote (Precondition Missing 100))
    × (reply sixty seven (Write 100 (put_elsewhere 8) Absent) ≡ wrote (Done 8 Missing 100))
unfolding state_of reply cost_of digits escape_byte
conditions = (refl, refl, refl, refl, refl, refl, refl, refl, refl)

-- an equal document that is put again is another version: what knows the first is not met, its copy is outdated, and its reader gets the second whole
abbrev put_twice : List Entry
put_twice = Write 100 (put_p1 1) Always ∷ Write 100 (put_p1 1) Always ∷ []

equal_documents : (reply sixty put_twice (Write 100 (put_p1 2) (unchanged 1)) ≡ wrote (Precondition (At 2) 100))
    × (reply sixty put_twice (Write 100 (put_p1 2) (unchanged 2)) ≡ wrote (Done 3 (At 2) 100))
    × (is_outdated p1 1 (state_of sixty put_twice).journal 2 ≡ true)
    × (reply sixty put_twice (Read 100 p1 (Listed (1 ∷ [])) 2) ≡ read (record { commit = 2; clock = 100; ttl = 60; shared = 0; result = Whole (printed (a_is 1)) (Some 2) }))
unfolding state_of reply cost_of digits escape_byte
equal_documents = (refl, refl, refl, refl)

-- ---- what a reader knows

-- the reply to a read of p1 at commit 7, of a caller with these tags
abbrev told_at_7 : Tags → Replied
told_at_7 tags = reply sixty seven (Read 100 p1 tags 7)

abbrev pub answer_at_7 : Outcome → Replied
answer_at_7 result = read (record { commit = 7; clock = 100; ttl = 60; shared = 0; result = result })

-- commit 4 put what is there: the greatest listed commit from there to 7 is told, and else the whole
known_results : (told_at_7 (Listed (3 ∷ 5 ∷ [])) ≡ answer_at_7 (Same 5 (Some 4)))
    × (told_at_7 (Listed (4 ∷ 6 ∷ 5 ∷ 8 ∷ [])) ≡ answer_at_7 (Same 6 (Some 4)))
    × (told_at_7 (Listed (3 ∷ 8 ∷ [])) ≡ answer_at_7 (Whole (printed (a_is 4)) (Some 4)))
    × (told_at_7 (Listed []) ≡ answer_at_7 (Whole (printed (a_is 4)) (Some 4)))
    × (told_at_7 Any ≡ answer_at_7 (Same 7 (Some 4)))
unfolding state_of reply cost_of digits escape_byte
known_results = (refl, refl, refl, refl, refl)

-- what is not there is absent, whatever is known
unknown_record : (reply sixty [] (Read 100 p1 Any 0) ≡ read (record { commit = 0; clock = 100; ttl = 60; shared = 0; result = Nothing }))
    × (reply sixty [] (Read 100 p1 (Listed (0 ∷ [])) 0) ≡ read (record { commit = 0; clock = 100; ttl = 60; shared = 0; result = Nothing }))
unfolding state_of reply cost_of digits escape_byte
unknown_record = (refl, refl)

-- a refused write moves the clock and adds nothing; the deletion of nothing is a commit
refused : (state_of sixty (Write 100 (put_p1 1) Present ∷ []) ≡ at_moment start 100)
    × (reply sixty [] (Write 100 delete_p1 Always) ≡ wrote (Done 1 Missing 100))
    × (reply sixty (Write 100 delete_p1 Always ∷ []) (Write 100 (put_p1 1) Present) ≡ wrote (Precondition Missing 100))
unfolding state_of reply cost_of digits escape_byte
refused = (refl, refl, refl)

-- ---- what a write takes: each put of p1 or p2 is 77 bytes, and its deletion 70

abbrev pub few_bytes : ℕ → Setting
few_bytes n = record sixty { capacity = n }

capacities : (reply (few_bytes 154) (Write 100 (put_p1 1) Always ∷ []) (Write 100 (put_p2 2) Always) ≡ wrote (Done 2 Missing 100))
    × (reply (few_bytes 153) (Write 100 (put_p1 1) Always ∷ []) (Write 100 (put_p2 2) Always) ≡ wrote (Full 154 100))
    × (reply (few_bytes 153) (Write 100 (put_p1 1) Always ∷ []) (Write 100 delete_p1 Always) ≡ wrote (Done 2 (At 1) 100))
    × (reply (few_bytes 153) (Write 100 (put_p1 1) Always ∷ []) (Write 100 (put_p2 2) Present) ≡ wrote (Precondition Missing 100))
unfolding state_of reply cost_of digits escape_byte
capacities = (refl, refl, refl, refl)

-- ---- what a query finds, and its reader knows

-- `a = 1` in the collection shop
abbrev pub where_a_is_1 : Kind → KeyShape
where_a_is_1 kind = Query kind (record { collection = codes "shop"; filter = compared (codes "a" ∷ []) Equal (number (pos 1)); order = []; skip = 0; take = 100 })

-- p1 is put, p2 beside it, the same record elsewhere, and p1 again
abbrev four : List Change
four = put_p1 1 ∷ put_p2 2 ∷ put_elsewhere 1 ∷ put_p1 1 ∷ []

query_results : (result_at (where_a_is_1 Ids) four 0 ≡ queried (ids []))
    × (result_at (where_a_is_1 Ids) four 1 ≡ queried (ids (codes "p1" ∷ [])))
    × (result_at (where_a_is_1 Ids) four 4 ≡ queried (ids (codes "p1" ∷ [])))
    × (result_at (where_a_is_1 Ids) (four ++ delete_p1 ∷ []) 5 ≡ queried (ids []))
query_results = (refl, refl, refl, refl)

-- commit 4 put an equal document again: another result of the documents, and the same of their ids
query_changes : (same_finding (result_at (where_a_is_1 Objects) four 1) (result_at (where_a_is_1 Objects) four 3) ≡ true)
    × (same_finding (result_at (where_a_is_1 Objects) four 1) (result_at (where_a_is_1 Objects) four 4) ≡ false)
    × (same_finding (result_at (where_a_is_1 Ids) four 1) (result_at (where_a_is_1 Ids) four 4) ≡ true)
    × (is_outdated (where_a_is_1 Objects) 1 four 4 ≡ true)
    × (is_outdated (where_a_is_1 Ids) 1 four 4 ≡ false)
query_changes = (refl, refl, refl, refl, refl)

-- these commits, of a caller that then reads the query with these tags
abbrev told_at_4 : Kind → Tags → Replied
told_at_4 kind tags = reply sixty (map (λ change. Write 100 change Always) four) (Read 100 (where_a_is_1 kind) tags 4)

abbrev answer_at_4 : Outcome → Replied
answer_at_4 result = read (record { commit = 4; clock = 100; ttl = 60; shared = 0; result = result })

query_replies : (told_at_4 Ids (Listed []) ≡ answer_at_4 (Whole (codes "[\"p1\"]") None))
    × (told_at_4 Objects (Listed []) ≡ answer_at_4 (Whole (codes "[{\"doc\":{\"a\":1},\"id\":\"p1\",\"version\":4}]") None))
    × (told_at_4 Ids (Listed (0 ∷ 2 ∷ 3 ∷ [])) ≡ answer_at_4 (Same 3 None))
    × (told_at_4 Objects (Listed (0 ∷ 2 ∷ 3 ∷ [])) ≡ answer_at_4 (Whole (codes "[{\"doc\":{\"a\":1},\"id\":\"p1\",\"version\":4}]") None))
    × (told_at_4 Objects Any ≡ answer_at_4 (Same 4 None))
unfolding state_of reply cost_of digits escape_byte
query_replies = (refl, refl, refl, refl, refl)

-- at commit 1, as a caller that has put p1 alone reads it
first_query : (reply sixty (Write 100 (put_p1 1) Always ∷ []) (Read 100 (where_a_is_1 Objects) (Listed []) 1) ≡ read (record { commit = 1; clock = 100; ttl = 60; shared = 0; result = Whole (codes "[{\"doc\":{\"a\":1},\"id\":\"p1\",\"version\":1}]") None }))
    × (reply sixty [] (Read 100 (where_a_is_1 Ids) (Listed []) 0) ≡ read (record { commit = 0; clock = 100; ttl = 60; shared = 0; result = Whole (codes "[]") None }))
unfolding state_of reply cost_of digits escape_byte
first_query = (refl, refl)

-- a copy of a reply to a query makes its key active, and takes the place of another
query_lifetimes : (active_keys (state_of (few_active 1) (Read 100 (where_a_is_1 Ids) (Listed []) 0 ∷ [])) ≡ where_a_is_1 Ids ∷ [])
    × (ttl_of (few_active 1) (at_moment (state_of (few_active 1) (Read 100 (where_a_is_1 Ids) (Listed []) 0 ∷ [])) 159) p1 0 ≡ 0)
    × (ttl_of (few_active 1) (at_moment (state_of (few_active 1) (Read 100 (where_a_is_1 Ids) (Listed []) 0 ∷ [])) 159) (where_a_is_1 Ids) 0 ≡ 60)
    × (ttl_of (few_active 1) (at_moment (state_of (few_active 1) (Read 100 (where_a_is_1 Ids) (Listed []) 0 ∷ [])) 160) p1 0 ≡ 60)
unfolding state_of cost_of digits escape_byte
query_lifetimes = (refl, refl, refl, refl)

-- ---- a commit that changes a document of a result, but not its ids, outdates the one result alone

-- puts `{"a":1,"b":n}`
abbrev put_both : List ℕ → ℕ → Change
put_both id n = record { collection = codes "shop"; id = id; document = Some (object (member (codes "a") (number (pos 1)) (member (codes "b") (number (pos n)) no_members))) }

abbrev read_both_ways : List Entry
read_both_ways =
    Write 100 (put_both (codes "p1") 0) Always
    ∷ Write 100 (put_both (codes "p2") 0) Always
    ∷ Read 100 (where_a_is_1 Ids) (Listed []) 2
    ∷ Read 100 (where_a_is_1 Objects) (Listed []) 2
    ∷ Write 100 (put_both (codes "p1") 5) Always
    ∷ Match 100 3
    ∷ []

-- both keys are active, and the query's of objects is in the record
objects_alone : (record_of (state_of sixty read_both_ways) ≡ where_a_is_1 Objects ∷ [])
    × (active_keys (state_of sixty read_both_ways) ≡ where_a_is_1 Ids ∷ where_a_is_1 Objects ∷ [])
    × (is_changed (where_a_is_1 Ids) (state_of sixty read_both_ways).journal 3 ≡ false)
    × (is_changed (where_a_is_1 Objects) (state_of sixty read_both_ways).journal 3 ≡ true)
unfolding state_of cost_of digits escape_byte
objects_alone = (refl, refl, refl, refl)

-- ---- a commit that changes the order of the ids changes a result of ids

-- the ids of the collection shop, in the order of `a`
abbrev by_a : KeyShape
by_a = Query Ids (record { collection = codes "shop"; filter = constant true; order = (codes "a" ∷ [], false) ∷ []; skip = 0; take = 100 })

abbrev moved : List Change
moved = put_p1 1 ∷ put_p2 1 ∷ put_p1 2 ∷ []

order_changes : (result_at by_a moved 2 ≡ queried (ids (codes "p1" ∷ codes "p2" ∷ [])))
    × (result_at by_a moved 3 ≡ queried (ids (codes "p2" ∷ codes "p1" ∷ [])))
    × (is_changed by_a moved 3 ≡ true)
order_changes = (refl, refl, refl)

-- ---- a change of a result that is undone outdates the copies from before it and between, and the one from before is still what a reader knows

-- puts `{"a":0}`
abbrev put_zero : List ℕ → Entry
put_zero id = Write 100 (record { collection = codes "shop"; id = id; document = Some (a_is 0) }) Always

abbrev five_zeros : List Entry
five_zeros = put_zero (codes "p1") ∷ put_zero (codes "p2") ∷ put_zero (codes "p3") ∷ put_zero (codes "p4") ∷ put_zero (codes "p5") ∷ []

abbrev there_and_back : List Entry
there_and_back =
    five_zeros
    ++ Read 100 (where_a_is_1 Ids) (Listed []) 5
    ∷ Write 100 (put_p1 1) Always
    ∷ Read 100 (where_a_is_1 Ids) (Listed []) 6
    ∷ Write 100 (put_p1 0) Always
    ∷ Match 100 7
    ∷ []

abbrev copy_of_query : ℕ → IssuedCopy
copy_of_query at = record { key = where_a_is_1 Ids; at = at; clock = 100; ttl = 60; absent = false }

query_undone : (result_at (where_a_is_1 Ids) (state_of sixty there_and_back).journal 5 ≡ queried (ids []))
    × (result_at (where_a_is_1 Ids) (state_of sixty there_and_back).journal 6 ≡ queried (ids (codes "p1" ∷ [])))
    × (record_of (state_of sixty there_and_back) ≡ where_a_is_1 Ids ∷ [])
    × (outdated_copies (state_of sixty there_and_back) ≡ copy_of_query 5 ∷ copy_of_query 6 ∷ [])
    × (reply sixty there_and_back (Read 100 (where_a_is_1 Ids) (Listed (5 ∷ [])) 7) ≡ read (record { commit = 7; clock = 100; ttl = 60; shared = 0; result = Same 5 None }))
unfolding state_of reply cost_of digits escape_byte
query_undone = (refl, refl, refl, refl, refl)

-- ---- a write that would be the 1,025th commit after the front is helped

-- a state after n puts of p1, of which none is matched
abbrev after_puts : ℕ → State
after_puts n = record { clock = 100; journal = replicate n (put_p1 1); writes = []; front = 0; horizon = 0; copies = []; estimates = []; purges = [] }

abbrev put_more : Entry
put_more = Write 100 (put_p1 2) Always

-- 1,024 commits are matched first, and then there is one after the front
helped : (helps_of sixty (after_puts 1024) put_more ≡ Match 100 1024 ∷ [])
    × (reply_in sixty (after_all sixty (after_puts 1024) (Match 100 1024 ∷ put_more ∷ [])) (Tick 100) ≡ counted (record { front = 1024; commits = 1025; clock = 100 }))
unfolding cost_of digits escape_byte
helped = (refl, refl)

-- the 1,024th is not helped, nor is a write that is refused
not_helped : (helps_of sixty (after_puts 1023) put_more ≡ [])
    × (helps_of sixty (after_puts 1024) (Write 100 (put_p1 2) Absent) ≡ [])
    × (helps_of (few_bytes 78848) (after_puts 1024) put_more ≡ [])
unfolding cost_of digits escape_byte
not_helped = (refl, refl, refl)

-- ---- lifetimes by the rates of writes, from one second to an hour

abbrev hour : Setting
hour = record default_setting { ttl_low = 1; ttl_high = 3600 }

abbrev pub p3 : KeyShape
p3 = Record (codes "shop") (codes "p3")

-- p1 is written at 100, 200 and 300, and p2 at 100
abbrev written_thrice : List Entry
written_thrice =
    Write 100 (put_p1 1) Always
    ∷ Write 100 (put_p2 1) Always
    ∷ Write 200 (put_p1 2) Always
    ∷ Write 300 delete_p1 Always
    ∷ []

-- at a second before any other entry
abbrev at_second : ℕ → List Entry → State
at_second moment history = at_moment (state_of hour history) moment

-- a record that was just written, one that was written three times, one that was written once, and one that never was
record_lifetimes : (ttl_of hour (at_second 100 (Write 100 (put_p1 1) Always ∷ [])) p1 1 ≡ 1)
    × (ttl_of hour (at_second 400 written_thrice) p1 4 ≡ 69)
    × (ttl_of hour (at_second 400 written_thrice) p2 4 ≡ 207)
    × (ttl_of hour (at_second 400 written_thrice) p3 4 ≡ 3600)
unfolding state_of cost_of digits escape_byte
record_lifetimes = (refl, refl, refl, refl)

-- ---- the lifetime of a query, and its estimate

-- all documents of the collection shop, in the order of `a`, at most two
abbrev first_two : KeyShape
first_two = Query Objects (record { collection = codes "shop"; filter = constant true; order = (codes "a" ∷ [], false) ∷ []; skip = 0; take = 2 })

abbrev put_again : List Entry
put_again =
    Write 100 (put_p1 1) Always
    ∷ Write 100 (put_p2 2) Always
    ∷ Write 200 (put_p1 1) Always
    ∷ Write 300 (put_p1 1) Always
    ∷ []

-- the query is read at 400, and outdated 20 seconds later
abbrev read_at_400 : List Entry
read_at_400 = put_again ++ Read 400 first_two (Listed []) 4 ∷ []

abbrev outdated_at_420 : List Entry
outdated_at_420 = read_at_400 ++ Write 420 (put_p2 3) Always ∷ Match 420 5 ∷ []

-- the sum of the rates gives 51; the estimate learns from the purge, and is gone when the copy expires
query_estimates : (ttl_of hour (at_second 400 put_again) first_two 4 ≡ 51)
    × (ttl_of hour (at_second 401 read_at_400) first_two 4 ≡ 51)
    × (ttl_of hour (at_second 420 outdated_at_420) first_two 5 ≡ 41)
    × (ttl_of hour (at_second 450 outdated_at_420) first_two 5 ≡ 41)
    × (active_keys (at_second 451 outdated_at_420) ≡ [])
unfolding state_of cost_of digits escape_byte
query_estimates = (refl, refl, refl, refl, refl)

-- ---- purges

-- p1, p2 and p3 have 1, 2 and 3; the query finds the first two; then p1 is deleted
abbrev put_p3 : ℕ → Change
put_p3 n = record { collection = codes "shop"; id = codes "p3"; document = Some (a_is n) }

abbrev slid : List Entry
slid =
    Write 100 (put_p1 1) Always
    ∷ Write 100 (put_p2 2) Always
    ∷ Write 100 (put_p3 3) Always
    ∷ Read 100 first_two (Listed []) 3
    ∷ Write 100 delete_p1 Always
    ∷ Match 100 4
    ∷ []

abbrev first_two_text : List ℕ
first_two_text = key_text first_two

-- the key is in the record, and it is the first purge
slid_purge : (record_of (state_of sixty slid) ≡ first_two ∷ [])
    × (reply sixty slid (Purges 100 1) ≡ purged (record { from = 1; last = 1; front = 4; clock = 100; texts = first_two_text ∷ [] }))
    × (reply sixty slid (Purges 100 2) ≡ purged (record { from = 2; last = 1; front = 4; clock = 100; texts = [] }))
unfolding state_of reply cost_of digits escape_byte
slid_purge = (refl, refl, refl)

-- a further change of the same copies is no purge; a copy that was issued since is
purged_once : (reply sixty (slid ++ Write 100 (put_p2 5) Always ∷ Match 100 5 ∷ []) (Purges 100 0) ≡ purged (record { from = 0; last = 1; front = 5; clock = 100; texts = first_two_text ∷ [] }))
    × (reply sixty (slid ++ Read 100 first_two (Listed []) 4 ∷ Write 100 (put_p2 5) Always ∷ Match 100 5 ∷ []) (Purges 100 1) ≡ purged (record { from = 1; last = 2; front = 5; clock = 100; texts = first_two_text ∷ first_two_text ∷ [] }))
unfolding state_of reply cost_of digits escape_byte
purged_once = (refl, refl)

-- the keys of one match are numbered in the byte order of their texts, whichever was read first
purges_in_order : reply sixty (Read 100 p2 (Listed []) 0 ∷ Read 100 p1 (Listed []) 0 ∷ Write 100 (put_p2 1) Always ∷ Write 100 (put_p1 1) Always ∷ Match 100 2 ∷ []) (Purges 100 1) ≡ purged (record { from = 1; last = 2; front = 2; clock = 100; texts = codes "r/shop/p1" ∷ codes "r/shop/p2" ∷ [] })
unfolding state_of reply cost_of digits escape_byte key_text
purges_in_order = refl
