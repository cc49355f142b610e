-- Worked histories with drops of old changes, computed from the definitions alone.
use Rattle.std.proofs.Common.{◌≡◌, ◌<◌, ◌≤◌, ◌++◌, List, [], ◌∷◌, Some, None, codes, refl, arith}
use Rattle.std.specs.Prelude.{replicate}
use Rattle.std.specs.Fmt.{digits}
use Rattle.json.specs.Print.{escape_byte}
use Rattle.q_doc.specs.Printed.{printed}
use Rattle.q_doc.specs.Tree.{object, no_members, member, text}
use Rattle.query_core.specs.declared.query.Kind.TheVariants.{Ids}
use Rattle.commit_book.specs.declared.change.Change.{Change}
use Rattle.commit_book.specs.Journal.{cost_of, kept}
use Rattle.hub_model.specs.declared.entry.Condition.TheVariants.{Always}
use Rattle.hub_model.specs.declared.entry.Entry.{Entry}
use Rattle.hub_model.specs.declared.entry.Entry.TheVariants.{Write, Read, Match, Horizon}
use Rattle.hub_model.specs.declared.entry.Found.TheVariants.{Missing, At}
use Rattle.hub_model.specs.declared.entry.Outcome.TheVariants.{Whole, Same}
use Rattle.hub_model.specs.declared.entry.Tags.{Tags}
use Rattle.hub_model.specs.declared.entry.Tags.TheVariants.{Any, Listed}
use Rattle.hub_model.specs.declared.entry.Written.TheVariants.{Done, Full}
use Rattle.hub_model.specs.Legal.{IsLegal}
use Rattle.hub_model.specs.Reply.{Replied, reply, wrote, dropped}
use Rattle.hub_model.specs.Setting.{Setting, default_setting}
use Rattle.hub_model.specs.Step.{state_of}
use Rattle.hub_model.proofs.Rows.{sixty, p1, a_is, put_p1, put_p2, delete_p1, seven, few_bytes, answer_at_7, where_a_is_1}

-- ---- what a reader knows: commits 1 and 4 put p1, the others p2, and all are matched and dropped

abbrev dropped_to_7 : List Entry
dropped_to_7 = seven ++ Match 100 7 ∷ Horizon 100 7 ∷ []

told_at_7 : Tags → Replied
told_at_7 tags = reply sixty dropped_to_7 (Read 100 p1 tags 7)

-- commit 5 found the same, but is below the horizon; commit 7 is not, and so is whichever there is
known_results : (reply sixty (seven ++ Match 100 7 ∷ []) (Horizon 100 7) ≡ dropped (record { horizon = 7; clock = 100 }))
    × (told_at_7 (Listed (5 ∷ [])) ≡ answer_at_7 (Whole (printed (a_is 4)) (Some 4)))
    × (told_at_7 (Listed (5 ∷ 7 ∷ [])) ≡ answer_at_7 (Same 7 (Some 4)))
    × (told_at_7 Any ≡ answer_at_7 (Same 7 (Some 4)))
unfolding state_of reply cost_of digits escape_byte told_at_7
known_results = (refl, refl, refl, refl)

-- behind a drop up to commit 5 alone it is known by that one
dropped_to_5 : (reply sixty (seven ++ Match 100 7 ∷ Horizon 100 5 ∷ []) (Read 100 p1 (Listed (4 ∷ 5 ∷ [])) 7) ≡ answer_at_7 (Same 5 (Some 4)))
    × (reply sixty (seven ++ Match 100 7 ∷ Horizon 100 6 ∷ []) (Read 100 p1 (Listed (4 ∷ 5 ∷ [])) 7) ≡ answer_at_7 (Whole (printed (a_is 4)) (Some 4)))
unfolding state_of reply cost_of digits escape_byte
dropped_to_5 = (refl, refl)

-- the result of a query is the same, and it is known from the horizon on
known_query : (reply sixty dropped_to_7 (Read 100 (where_a_is_1 Ids) (Listed (4 ∷ 6 ∷ [])) 7) ≡ answer_at_7 (Whole (codes "[]") None))
    × (reply sixty (seven ++ Match 100 7 ∷ []) (Read 100 (where_a_is_1 Ids) (Listed (4 ∷ 6 ∷ [])) 7) ≡ answer_at_7 (Same 6 None))
unfolding state_of reply cost_of digits escape_byte
known_query = (refl, refl)

-- ---- what a write takes: each put of p1 or p2 is 77 bytes, and a deletion 70

abbrev three_puts : List Entry
three_puts = Write 100 (put_p1 1) Always ∷ Write 100 (put_p2 1) Always ∷ Write 100 (put_p2 2) Always ∷ []

-- three puts fill the store; behind a drop of them the two documents that live are kept alone, and behind one of the first two all three are
capacities : (reply (few_bytes 231) three_puts (Write 100 (put_p2 3) Always) ≡ wrote (Full 308 100))
    × (reply (few_bytes 231) (three_puts ++ Match 100 3 ∷ Horizon 100 3 ∷ []) (Write 100 (put_p2 3) Always) ≡ wrote (Done 4 (At 3) 100))
    × (reply (few_bytes 231) (three_puts ++ Match 100 3 ∷ Horizon 100 2 ∷ []) (Write 100 (put_p2 3) Always) ≡ wrote (Full 308 100))
    × (reply (few_bytes 230) (three_puts ++ Match 100 3 ∷ Horizon 100 2 ∷ Horizon 100 3 ∷ []) (Write 100 (put_p2 3) Always) ≡ wrote (Full 231 100))
unfolding state_of reply cost_of digits escape_byte
capacities = (refl, refl, refl, refl)

-- of a deleted record nothing is kept up to the horizon, its deletion neither
deletions : (reply (few_bytes 147) (Write 100 (put_p1 1) Always ∷ Write 100 delete_p1 Always ∷ []) (Write 100 (put_p1 1) Always) ≡ wrote (Full 224 100))
    × (reply (few_bytes 147) (Write 100 (put_p1 1) Always ∷ Write 100 delete_p1 Always ∷ Match 100 2 ∷ Horizon 100 1 ∷ []) (Write 100 (put_p1 1) Always) ≡ wrote (Full 224 100))
    × (reply (few_bytes 147) (Write 100 (put_p1 1) Always ∷ Write 100 delete_p1 Always ∷ Match 100 2 ∷ Horizon 100 2 ∷ []) (Write 100 (put_p1 1) Always) ≡ wrote (Done 3 Missing 100))
unfolding state_of reply cost_of digits escape_byte
deletions = (refl, refl, refl)

-- a record of 65,606 bytes and two puts of another take 65,760 of 65,792; one put more fits behind a drop alone
abbrev put_large : Change
put_large = record { collection = codes "shop"; id = codes "p1"; document = Some (object (member (codes "a") (text (replicate 65528 120)) no_members)) }

abbrev least_capacity : Setting
least_capacity = record default_setting { capacity = 65792 }

abbrev nearly_full : List Entry
nearly_full = Write 100 put_large Always ∷ Write 100 (put_p2 1) Always ∷ Write 100 (put_p2 1) Always ∷ []

large_record : (reply least_capacity nearly_full (Write 100 (put_p2 1) Always) ≡ wrote (Full 65837 100))
    × (kept (state_of least_capacity (nearly_full ++ Match 100 3 ∷ Horizon 100 3 ∷ [])).journal 3 ≡ 65683)
    × (reply least_capacity (nearly_full ++ Match 100 3 ∷ Horizon 100 3 ∷ []) (Write 100 (put_p2 1) Always) ≡ wrote (Done 4 (At 3) 100))
unfolding state_of reply cost_of digits escape_byte
large_record = (refl, refl, refl)

-- ---- which drops are legal

-- none goes beyond the front
beyond_the_front : IsLegal sixty (seven ++ Match 100 6 ∷ Horizon 100 7 ∷ []) → ⊥
unfolding IsLegal cost_of digits escape_byte
beyond_the_front legal = let within : 7 ≤ 6 = legal.1.1.1.1.1.1.1.1.0.0.1 in omega (arith, within)

-- and none goes back
behind_the_horizon : IsLegal sixty (seven ++ Match 100 7 ∷ Horizon 100 7 ∷ Horizon 100 6 ∷ []) → ⊥
unfolding IsLegal cost_of digits escape_byte
behind_the_horizon legal = let forward : 7 < 6 = legal.1.1.1.1.1.1.1.1.1.0.0.0 in omega (arith, forward)
