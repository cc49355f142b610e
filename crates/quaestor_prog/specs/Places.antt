-- Believed. What contracts see of places before a call and after it.
use Rattle.std.specs.Prelude.{◌≡◌, ℕ, ◌<◌, [], Option, None, Result, Ok, Err, IfSome}
use Rattle.q_outside.specs.Doors.{DoorsView}
use Rattle.client_session.specs.Link.{LinkView}

-- What contracts see of places.
pub record PlacesView (D L : Type 0) : Type 0 where
  -- the number of their faults so far
  pub faults : ℕ
  -- the doors last handed back, none at first
  pub kept : Option D
  -- the link last handed back, none at first
  pub link : Option L

-- No connection came through the doors yet, they were not closed, and they have not failed.
pub record AreNew {S K : Type 0} (doors : DoorsView S K) : Type 0 where
  pub handed : IfSome doors.handed (λ backs. backs ≡ [])
  pub away : IfSome doors.away (λ n. n ≡ 0)
  pub closings : doors.closings ≡ 0
  pub faults : doors.faults ≡ 0

-- A link has not failed, and had no reply yet.
pub record IsUnasked (link : LinkView) : Type 0 where
  pub faults : link.faults ≡ 0
  pub bad_replies : link.bad_replies ≡ 0
  pub last : link.last ≡ record { through = None; direct = None; page = None }

-- places gave doors or a link; or none, and the count of faults rose
abbrev pub HasGiven : {D L F E : Type 0} → (before after : PlacesView D L) → Result F E → Type 0
HasGiven before after (Ok given) = after ≡ before
HasGiven before after (Err failed) = (after.kept ≡ before.kept) × (after.link ≡ before.link) × (before.faults < after.faults)
