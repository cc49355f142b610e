-- Internal. The images that crashes may leave at any moment of some calls.
use Rattle.std.specs.Prelude.{◌≡◌, List, [], ◌∷◌, ◌++◌, ℕ, Option, Some, None}
use Rattle.disks.specs.Devices.{DiskCall, Device, device, MayLeave}
use Rattle.disks.specs.Histories.{History, Goes}

-- each image that a crash may leave of the disk has the property
abbrev pub EachImage : Device → (List ℕ → Type 0) → Type 0
EachImage d P = (image : List ℕ) → MayLeave d image → P image

-- before the calls, after each of them and after all, each image that a crash may leave has the property
abbrev pub EachSince : List ℕ → (earlier calls : List DiskCall) → (List ℕ → Type 0) → Type 0
EachSince start earlier [] P = EachImage (device start earlier) P
EachSince start earlier (call ∷ calls) P = EachImage (device start (call ∷ calls ++ earlier)) P × EachSince start earlier calls P

-- from the first history to the second, at any moment between, each image that a crash may leave has the property
abbrev pub Leaves : Option History → Option History → (List ℕ → Type 0) → Type 0
Leaves None after P = after ≡ None
Leaves (Some before) after P = (calls : List DiskCall) × Goes (Some before) after calls × EachSince before.start before.calls calls P
