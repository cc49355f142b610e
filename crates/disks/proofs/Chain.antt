-- Calls after calls, and what crashes may leave meanwhile.
use Rattle.std.proofs.Common.{◌≡◌, ◌⊎◌, ℕ, List, [], ◌∷◌, ◌++◌, Option, Some, None, ap, sym, ◌∙◌, subst, inl, inr, append_assoc}
use Rattle.disks.specs.Devices.{DiskCall, Tore, device}
use Rattle.disks.specs.Histories.{History, Goes, Tears}
use Rattle.disks.specs.Moments.{EachImage, EachSince, Leaves}

-- calls after calls
pub goes_on : (before mid after : Option History) (first second : List DiskCall) → Goes before mid first → Goes mid after second → Goes before after (second ++ first)
goes_on None mid after first second g h =
    let P : Option History → Type 0 = λ m. Goes m after second → after ≡ None in subst P (sym g) (λ k. k) h
goes_on (Some before) mid after first second g h =
    let P : Option History → Type 0 = λ m. Goes m after second → after ≡ Some (record { start = before.start; calls = second ++ (first ++ before.calls) }) in
    subst P (sym g) (λ k. k) h ∙ ap (λ (c : List DiskCall). Some (record { start = before.start; calls = c })) (sym (append_assoc second first before.calls))

-- a write that failed after calls: they are all, or one that tore is one more
pub goes_torn : (before mid after : Option History) (first : List DiskCall) (place : ℕ) (bytes : List ℕ) → Goes before mid first → Tears mid after place bytes
    → Goes before after first ⊎ ((left : List ℕ) × Goes before after (Tore place bytes left ∷ first))
goes_torn None mid after first place bytes g t =
    let P : Option History → Type 0 = λ m. Tears m after place bytes → after ≡ None in inl (subst P (sym g) (λ k. k) t)
goes_torn (Some before) mid after first place bytes g t =
    let r : History = record { start = before.start; calls = first ++ before.calls } in
    let P : Option History → Type 0 = λ m. Tears m after place bytes
    → (after ≡ Some r) ⊎ ((left : List ℕ) × (after ≡ Some (record { start = before.start; calls = Tore place bytes left ∷ (first ++ before.calls) }))) in
    subst P (sym g) (λ k. elim k [ inl same ↦ inl same | inr torn ↦ inr (torn.0, torn.2) ]) t

-- what follows from a property holds where the property does
pub each_weaken : (start : List ℕ) (earlier calls : List DiskCall) (P Q : List ℕ → Type 0) → ((image : List ℕ) → P image → Q image) → EachSince start earlier calls P → EachSince start earlier calls Q
each_weaken start earlier [] P Q w e = λ image m. w image (e image m)
each_weaken start earlier (call ∷ calls) P Q w e = ((λ image m. w image (e.0 image m)), each_weaken start earlier calls P Q w e.1)

-- the moments of calls and then of others
pub each_both : (start : List ℕ) (earlier first second : List DiskCall) (P : List ℕ → Type 0) → EachSince start earlier first P → EachSince start (first ++ earlier) second P → EachSince start earlier (second ++ first) P
each_both start earlier first [] P e d = e
each_both start earlier first (call ∷ second) P e d =
    let Q : List DiskCall → Type 0 = λ c. EachImage (device start (call ∷ c)) P in
    (subst Q (sym (append_assoc second first earlier)) d.0, each_both start earlier first second P e d.1)

-- what crashes leave in two runs of calls, one after the other
pub leaves_both : (before mid after : Option History) (P Q R : List ℕ → Type 0) → ((image : List ℕ) → P image → R image) → ((image : List ℕ) → Q image → R image)
    → Leaves before mid P → Leaves mid after Q → Leaves before after R
leaves_both None mid after P Q R p q l k =
    let S : Option History → Type 0 = λ m. Leaves m after Q → after ≡ None in subst S (sym l) (λ e. e) k
leaves_both (Some h) mid after P Q R p q l k =
    let S : Option History → Type 0 = λ m. Leaves m after Q → Leaves (Some h) after R in
    subst S (sym l.1) (λ e. (
      e.0 ++ l.0,
      e.1 ∙ ap (λ (c : List DiskCall). Some (record { start = h.start; calls = c })) (sym (append_assoc e.0 l.0 h.calls)),
      each_both h.start h.calls l.0 e.0 R (each_weaken h.start h.calls l.0 P R p l.2) (each_weaken h.start (l.0 ++ h.calls) e.0 Q R q e.2),
    )) k
