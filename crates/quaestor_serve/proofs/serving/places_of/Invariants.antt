-- as many places as rounds
use Rattle.std.proofs.Common.{◌≡◌, ◌≤◌, vec_len, vec_capacity}
use Rattle.quaestor_serve.proofs.serving.places_of.Given as goal

abbrev pub invariant-loop-place : goal.invariant-loop-place
invariant-loop-place l = (vec_len l.vacant ≡ l.place) × (l.places ≤ vec_capacity l.vacant)
