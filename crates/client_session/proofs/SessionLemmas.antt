-- What a session has seen, after its calls.
use Rattle.std.proofs.Common.{◌≡◌, ℕ, max, Bool, true, false, cond, ◌&&◌, ◌||◌, Some, List, [], ◌∷◌, refl, sym, ap, ◌∙◌, subst, inl, inr, arith}
use Rattle.std.specs.Prelude.{Result, Ok, Err}
use Rattle.std.specs.List.{list_any}
use Rattle.std.proofs.lemmas.Bool.{cases_Bool, both_ways}
use Rattle.query_normal.specs.Keys.{same_key}
use Rattle.query_normal.specs.SameKey.{same_key-Decides}
use Rattle.query_normal.specs.Pages.{Page}
use Rattle.query_normal.specs.declared.key.KeyShape.{KeyShape}
use Rattle.client_core.specs.declared.level.Level.{Level}
use Rattle.client_core.specs.declared.level.Level.TheVariants as level
use Rattle.client_core.specs.Floor.{Event, read, paged, reads_of, greatest, all_commits, commits_of, is_listed, floor_of}
use Rattle.client_session.specs.declared.noted.KeyFloor.{KeyFloor}
use Rattle.client_session.specs.Noted.{noted}
use Rattle.client_session.specs.declared.read_out.ReadOut.{ReadOut}
use Rattle.client_session.specs.declared.read_out.Refreshed.{Refreshed}
use Rattle.client_session.specs.declared.refusal.SessionRefusal.{SessionRefusal}
use Rattle.client_session.specs.Session.{SessionView, HasPast, IsKept, floor_with, is_flagged, past_after, past_refreshed, past_written, with_listed, written_by}

-- the floor is that of the past
pub floor_is : (l : Level) (s : SessionView) (past : List (Event KeyShape)) (key : KeyShape) → HasPast s past → floor_with l s key ≡ floor_of same_key l past key
floor_is level.Session s past key h = rw (h.writes, h.floors key) refl
floor_is level.Causal s past key h = rw (h.writes, h.reads) refl
floor_is level.Strong s past key h = rw (h.writes, h.reads) refl

same_swapped : (a b : KeyShape) → same_key a b ≡ same_key b a
same_swapped a b = elim (cases_Bool (same_key a b)) [
  | inl h ↦ h ∙ sym ((same_key-Decides b a).1 (sym ((same_key-Decides a b).0 h)))
  | inr h ↦ elim (cases_Bool (same_key b a)) [
    | inl k ↦ absurd (both_ways (same_key a b) h ((same_key-Decides a b).1 (sym ((same_key-Decides b a).0 k))))
    | inr k ↦ h ∙ sym k
  ]
]

by_or : (a b : Bool) → cond a true b ≡ (a || b)
by_or true b = refl
by_or false b = refl

-- a read with a commit raises the commit of its key
commits_read : (key other : KeyShape) (commit : ℕ) (reads : List (KeyShape × ℕ)) → (b : Bool) → same_key other key ≡ b
    → greatest (commits_of same_key other ((key, commit) ∷ reads)) ≡ cond b (max commit (greatest (commits_of same_key other reads))) (greatest (commits_of same_key other reads))
commits_read key other commit reads true e = rw e refl
commits_read key other commit reads false e = rw e refl

module _ (s : SessionView) (past : List (Event KeyShape)) (h : HasPast s past) where
  -- after a read
  module _ (key : KeyShape) (commit : ℕ) (floors : List (KeyShape × KeyFloor))
      (notes : (other : KeyShape) → noted floors other ≡ cond (same_key key other) (max (noted s.floors key) commit) (noted s.floors other)) where
    read_floors : (other : KeyShape) → noted floors other ≡ greatest (commits_of same_key other ((key, commit) ∷ reads_of past))
    read_floors other = elim (cases_Bool (same_key key other)) [
      | inl hit ↦ (
          let e : key ≡ other = (same_key-Decides key other).0 hit in
          let f = h.floors key in
          let n : noted floors other ≡ max (noted s.floors key) commit = notes other ∙ ap (λ b. cond b (max (noted s.floors key) commit) (noted s.floors other)) hit in
          let m : max (noted s.floors key) commit ≡ max commit (greatest (commits_of same_key key (reads_of past))) = omega (arith, f) in
          n ∙ m ∙ ap (λ (k : KeyShape). max commit (greatest (commits_of same_key k (reads_of past)))) e ∙ sym (commits_read key other commit (reads_of past) true (sym (same_swapped key other) ∙ hit)))
      | inr miss ↦
          notes other ∙ ap (λ b. cond b (max (noted s.floors key) commit) (noted s.floors other)) miss ∙ h.floors other
          ∙ sym (commits_read key other commit (reads_of past) false (sym (same_swapped key other) ∙ miss))
    ]

    read_reads : max s.reads commit ≡ greatest (all_commits ((key, commit) ∷ reads_of past))
    read_reads = let r = h.reads in omega (arith, r)

    pub after_read : (flagged : Bool) (keys : List KeyShape) → ((other : KeyShape) → list_any (same_key other) keys ≡ cond (flagged && same_key key other) true (list_any (same_key other) s.listed))
        → HasPast (record s { floors = floors; listed = keys; reads = max s.reads commit }) (with_listed flagged key (read key commit ∷ past))
    after_read true keys lists = record {
      writes = h.writes;
      reads = read_reads;
      floors = read_floors;
      listed = λ other. lists other ∙ (λ i. cond (same_swapped key other i) true (list_any (same_key other) s.listed)) ∙ ap (λ b. cond (same_key other key) true b) (h.listed other) ∙ by_or (same_key other key) (is_listed same_key past other);
    }
    after_read false keys lists = record { writes = h.writes; reads = read_reads; floors = read_floors; listed = λ other. lists other ∙ h.listed other }

  -- the same of what a read does: the key was cloned twice, and room was made in both maps
  pub after_reading : (key : KeyShape) (out : ReadOut) (flagged : Bool) → flagged ≡ is_flagged out.way → (seen asked : KeyShape) → key ≡ seen → key ≡ asked
      → (floors_then floors : List (KeyShape × KeyFloor)) → floors_then ≡ s.floors
      → ((other : KeyShape) → noted floors other ≡ cond (same_key seen other) (max (noted floors_then seen) out.commit) (noted floors_then other))
      → (keys_then keys : List KeyShape) → keys_then ≡ s.listed
      → ((other : KeyShape) → list_any (same_key other) keys ≡ cond (flagged && same_key asked other) true (list_any (same_key other) keys_then))
      → (reads : ℕ) → reads ≡ max s.reads out.commit
      → HasPast (record s { floors = floors; listed = keys; reads = reads }) (past_after key (Ok out) past)
  after_reading key out flagged is_flag seen asked is_seen is_asked floors_then floors same_floors notes keys_then keys same_keys lists reads is_reads =
      let at_key = λ (other : KeyShape). notes other
      ∙ ap (λ (k : KeyShape). cond (same_key k other) (max (noted floors_then k) out.commit) (noted floors_then other)) (sym is_seen)
      ∙ ap (λ (fs : List (KeyShape × KeyFloor)). cond (same_key key other) (max (noted fs key) out.commit) (noted fs other)) same_floors in
      let in_list = λ (other : KeyShape). lists other
      ∙ ap (λ (k : KeyShape). cond (flagged && same_key k other) true (list_any (same_key other) keys_then)) (sym is_asked)
      ∙ ap (λ (ks : List KeyShape). cond (flagged && same_key key other) true (list_any (same_key other) ks)) same_keys in
      let h : HasPast (record s { floors = floors; listed = keys; reads = max s.reads out.commit }) (with_listed flagged key (read key out.commit ∷ past)) =
      after_read key out.commit floors at_key flagged keys in_list in
      subst (λ (n : ℕ). HasPast (record s { floors = floors; listed = keys; reads = n }) (with_listed (is_flagged out.way) key (read key out.commit ∷ past))) (sym is_reads)
      (subst (λ (b : Bool). HasPast (record s { floors = floors; listed = keys; reads = max s.reads out.commit }) (with_listed b key (read key out.commit ∷ past))) is_flag h)

  -- after a write
  pub after_write : (result : Result ℕ SessionRefusal) → HasPast (written_by s result) (past_written result past)
  after_write (Ok commit) = record { writes = (let w = h.writes in omega (arith, w)); reads = h.reads; floors = h.floors; listed = h.listed }
  after_write (Err refused) = record { writes = h.writes; reads = h.reads; floors = h.floors; listed = h.listed }

  -- after a new page
  pub after_page : (p : Page) → HasPast (record s { page = Some p; listed = [] }) (paged ∷ past)
  after_page p = record { writes = h.writes; reads = h.reads; floors = h.floors; listed = λ other. refl }

-- after a page was held or dropped
pub past_kept : (b : Bool) (old new : SessionView) (p : Page) (result : Result Refreshed SessionRefusal) → IsKept b old new p result → (past : List (Event KeyShape)) → HasPast old past
    → HasPast new (past_refreshed result past)
past_kept true old new p result kept past h =
    subst (λ (r : Result Refreshed SessionRefusal). HasPast new (past_refreshed r past)) (sym kept.1) (subst (λ (s : SessionView). HasPast s (paged ∷ past)) (sym kept.0) (after_page old past h p))
past_kept false old new p result kept past h =
    subst (λ (r : Result Refreshed SessionRefusal). HasPast new (past_refreshed r past)) (sym kept.1) (subst (λ (s : SessionView). HasPast s past) (sym kept.0) h)
