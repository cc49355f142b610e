-- Internal. Whether a session accepts a cached copy, and why it asks the server instead. A copy has the commit at which
-- it was read and the second up to which it was issued; what the page says of its key is None where there is no page.
use Rattle.std.specs.Prelude.{ℕ, Bool, true, false, not, ◌&&◌, ◌||◌, if◌then◌else◌, nat_le, nat_lt, max, Option, Some, None}
use Rattle.flat_snapshot.specs.declared.sight.Sight.{Sight}
use Rattle.client_core.specs.declared.level.Level.{Level}
use Rattle.client_core.specs.declared.level.Level.TheVariants as level
use Rattle.client_core.specs.declared.choice.Why.{Why}
use Rattle.client_core.specs.declared.choice.Why.TheVariants as why

-- whether every read goes to the server
abbrev pub is_strong : Level → Bool
is_strong level.Strong = true
is_strong _ = false

-- the page's front, and 0 without a page
abbrev pub front_of : Option Sight → ℕ
front_of None = 0
front_of (Some sight) = sight.front

-- whether all bits of the key are set; without a page no key has them set
abbrev pub is_held : Option Sight → Bool
is_held None = false
is_held (Some sight) = sight.is_held

-- whether the page says that a copy from before its front is not outdated: the copy was issued for longer than the
-- page's moment, so the page would hold its key
abbrev pub is_vouched : Option Sight → ℕ → Bool
is_vouched None until = true
is_vouched (Some sight) until = nat_lt sight.moment until && not sight.is_held

-- whether a copy's time was over at the page's moment, so that the page may have forgotten its key
abbrev pub is_expired : Option Sight → ℕ → Bool
is_expired None until = false
is_expired (Some sight) until = nat_le until sight.moment

-- the commit of which a session may say that it read: an accepted copy is the result at the page's front too
abbrev pub commit_with : Option Sight → ℕ → ℕ
commit_with sight commit = max commit (front_of sight)

-- whether a copy is accepted
abbrev pub is_accepted : Option Sight → ℕ → ℕ → ℕ → Bool
is_accepted sight commit until floor =
    (nat_le (front_of sight) commit || is_vouched sight until) && nat_le floor (commit_with sight commit)

-- why the server is asked before any cache is, if it is; the third is whether the key is whitelisted
abbrev pub why_before : Level → Option Sight → Bool → Option Why
why_before l sight listed =
    if is_strong l then Some why.Strong else (if is_held sight && not listed then Some why.Flagged else None)

-- why the server is asked in place of a copy, if it is
abbrev pub why_with : Option Sight → Bool → ℕ → ℕ → ℕ → Option Why
why_with sight listed commit until floor =
    if listed && nat_lt commit (front_of sight) then Some why.Older
    else (if not listed && (nat_lt commit (front_of sight) && is_expired sight until) then Some why.Expired
    else (if nat_lt (commit_with sight commit) floor then Some why.BelowFloor else None))

-- the first of these
abbrev pub first_why : Option Why → Option Why → Option Why
first_why (Some why) other = Some why
first_why None other = other

-- why the server is asked, if it is
abbrev pub why_of : Level → Option Sight → Bool → ℕ → ℕ → ℕ → Option Why
why_of level sight listed commit until floor =
    first_why (why_before level sight listed) (why_with sight listed commit until floor)
