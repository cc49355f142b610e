-- Internal. The floor of a session for a key: the least commit at which the session still takes an answer, so that it
-- reads its own writes and never reads backwards (Terry et al., Session Guarantees, PDIS 1994).
use Rattle.std.specs.Prelude.{ℕ, Bool, ◌&&◌, ◌==◌, ◌+◌, if◌then◌else◌, max, map, filter, List, [], ◌∷◌}
use Rattle.std.specs.List.{list_any}
use Rattle.flat_snapshot.specs.declared.sight.KeyMark.{KeyMark}
use Rattle.client_core.specs.declared.level.Level.{Level}
use Rattle.client_core.specs.declared.level.Level.TheVariants as level

-- what happened in a session: a write at a commit, a read of a key at a commit, a flagged key that was asked for again
-- and whitelisted, a new page
pub data Event (K : Type 0) : Type 0 where
  wrote : ℕ → Event K
  read : K → ℕ → Event K
  listed : K → Event K
  paged : Event K

-- the commits of the writes; a past has its last event first
abbrev pub writes_of : {K : Type 0} → List (Event K) → List ℕ
writes_of [] = []
writes_of (wrote commit ∷ past) = commit ∷ writes_of past
writes_of (read key commit ∷ past) = writes_of past
writes_of (listed key ∷ past) = writes_of past
writes_of (paged ∷ past) = writes_of past

-- the reads: the key and the commit of each
abbrev pub reads_of : {K : Type 0} → List (Event K) → List (K × ℕ)
reads_of [] = []
reads_of (wrote commit ∷ past) = reads_of past
reads_of (read key commit ∷ past) = (key, commit) ∷ reads_of past
reads_of (listed key ∷ past) = reads_of past
reads_of (paged ∷ past) = reads_of past

-- the keys that were whitelisted since the last page
abbrev pub listed_of : {K : Type 0} → List (Event K) → List K
listed_of [] = []
listed_of (wrote commit ∷ past) = listed_of past
listed_of (read key commit ∷ past) = listed_of past
listed_of (listed key ∷ past) = key ∷ listed_of past
listed_of (paged ∷ past) = []

-- the keys that were read or whitelisted
abbrev pub keys_of : {K : Type 0} → List (Event K) → List K
keys_of [] = []
keys_of (wrote commit ∷ past) = keys_of past
keys_of (read key commit ∷ past) = key ∷ keys_of past
keys_of (listed key ∷ past) = key ∷ keys_of past
keys_of (paged ∷ past) = keys_of past

-- the greatest of numbers, and 0 where there are none
abbrev pub greatest : List ℕ → ℕ
greatest [] = 0
greatest (n ∷ ns) = max n (greatest ns)

-- the commits of all reads
abbrev pub all_commits : {K : Type 0} → List (K × ℕ) → List ℕ
all_commits reads = map (λ r. r.1) reads

-- the commits of the reads of one key
abbrev pub commits_of : {K : Type 0} → (K → K → Bool) → K → List (K × ℕ) → List ℕ
commits_of same key reads = map (λ r. r.1) (filter (λ r. same key r.0) reads)

-- the commits of the reads that count for a key: its own for Session, those of all keys for Causal and Strong
abbrev pub commits_for : {K : Type 0} → (K → K → Bool) → Level → K → List (K × ℕ) → List ℕ
commits_for same level.Session key reads = commits_of same key reads
commits_for same level.Causal key reads = all_commits reads
commits_for same level.Strong key reads = all_commits reads

-- the floor: the greatest of the session's own writes' commits and of the commits of the reads that count
abbrev pub floor_of : {K : Type 0} → (K → K → Bool) → Level → List (Event K) → K → ℕ
floor_of same level past key = max (greatest (writes_of past)) (greatest (commits_for same level key (reads_of past)))

-- whether a key is whitelisted
abbrev pub is_listed : {K : Type 0} → (K → K → Bool) → List (Event K) → K → Bool
is_listed same past key = list_any (same key) (listed_of past)

-- the number of different keys
abbrev pub distinct : {K : Type 0} → (K → K → Bool) → List K → ℕ
distinct same [] = 0
distinct same (key ∷ keys) = if list_any (same key) keys then distinct same keys else 1 + distinct same keys

-- whether two marks are equal
abbrev pub same_mark : KeyMark → KeyMark → Bool
same_mark a b = a.first == b.first && a.second == b.second
